-- `numbers::quotient_residual` meets its contract.
use mathlib.Core.Path.{◌≡◌, ◌∙◌, ap₂}
use Prim.Native.Nat.{ℕ, ◌+◌, ◌*◌, ◌^◌, ◌≤◌}
use native.Mathlib.Omega.{arith}
use Rattle.integer.specs.definitions.Rounding.{upℕ}
use Rattle.chebyshev.specs.definitions.Coefficients.{weight}
use Rattle.model.proofs.laws.ModelLaws.{good_is}
use Rattle.model.specs.definitions.Multiply.{product_list}
use Rattle.certificate.specs.definitions.InnerContracts.{standard_candidate, residual_list}
use Rattle.certificate.specs.definitions.Quotient.{quotient_residual}
use Rattle.certificate.proofs.Ranges.{factors, subtrahend, of_model, error_range}
use Rattle.certificate.proofs.numbers.quotient_residual.Goals as goal

pub terms-requires : goal.terms-requires
terms-requires c = (good_is c.args.g c.requires.0.first_good).degree_fits

pub terms-requires-2 : goal.terms-requires-2
terms-requires-2 c = (good_is (standard_candidate c.args.h.candidate.now) c.requires.0.second_good).degree_fits

pub terms-requires-3 : goal.terms-requires-3
terms-requires-3 c = (good_is c.args.f c.requires.1).degree_fits

pub residual-distance-requires : goal.residual-distance-requires
residual-distance-requires c =
    let r = c.requires.0 in (
      r.room,
      factors r c.terms.ensures.value c.terms-2.ensures.value c.terms.ensures.some c.terms-2.ensures.some,
      subtrahend c.args.f c.requires.1 c.terms-3.ensures.value,
    )

module _ (c : goal.After-part-1) where
  error : (c.args.h.weight ≤ 2 ^ 28) × (c.args.h.weight * c.args.g.radius ≤ 2 ^ 56)
  error =
      let r = c.requires.0 in
      error_range c.args.h.weight (standard_candidate c.args.h.candidate.now) c.args.g r.second_good r.first_good c.args.h.weighed

  distance : (c.residual-distance.result ≡ weight (residual_list (product_list c.args.g (standard_candidate c.args.h.candidate.now)) c.args.f.coefficients))
      × (c.residual-distance.result ≤ 2 ^ 58)
  distance =
      of_model c.requires.0 c.terms.ensures.value c.terms-2.ensures.value
      c.args.f c.requires.1 c.terms-3.ensures.value c.residual-distance.ensures

pub overflow_add-distance : goal.overflow_add-distance
overflow_add-distance c = omega (arith, distance c, good_is c.args.f c.requires.1)

pub overflow_mul-h : goal.overflow_mul-h
overflow_mul-h c = omega (arith, error c)

pub overflow_mul-h-2 : goal.overflow_mul-h-2
overflow_mul-h-2 c = omega (arith, error c)

pub overflow_add-distance-2 : goal.overflow_add-distance-2
overflow_add-distance-2 c = omega (arith, distance c, good_is c.args.f c.requires.1, error c)

pub returns : goal.returns
unfolding quotient_residual
returns c =
    c.up_unsigned.ensures
    ∙ ap₂ (λ (n k : ℕ). upℕ (n + 2 ^ 21 * c.args.f.radius + 2 * k * c.args.g.radius) (2 ^ 21)) (distance c.before).0 c.args.h.weighed
