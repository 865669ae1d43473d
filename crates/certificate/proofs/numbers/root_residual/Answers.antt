-- `numbers::root_residual` meets its contract.
use mathlib.Core.Path.{◌≡◌, ◌∙◌, ap}
use Prim.Native.Nat.{ℕ, ◌+◌, ◌*◌, ◌^◌, ◌≤◌}
use native.Mathlib.Omega.{arith}
use Rattle.integer.specs.definitions.Rounding.{upℕ}
use Rattle.chebyshev.specs.definitions.Coefficients.{weight}
use Rattle.model.proofs.laws.ModelLaws.{good_is}
use Rattle.model.specs.definitions.Multiply.{product_list}
use Rattle.certificate.specs.definitions.InnerContracts.{standard_candidate, residual_list}
use Rattle.certificate.specs.definitions.Root.{root_residual}
use Rattle.certificate.proofs.Ranges.{factors, subtrahend, of_model}
use Rattle.certificate.proofs.numbers.root_residual.Goals as goal

pub terms-requires : goal.terms-requires
terms-requires c = (good_is (standard_candidate c.args.h.now) c.requires.0.first_good).degree_fits

pub terms-requires-2 : goal.terms-requires-2
terms-requires-2 c = (good_is (standard_candidate c.args.h.now) c.requires.0.first_good).degree_fits

pub terms-requires-3 : goal.terms-requires-3
terms-requires-3 c = (good_is c.args.f c.requires.1).degree_fits

pub residual-distance-requires : goal.residual-distance-requires
residual-distance-requires c =
    let r = c.requires.0 in (
      r.room,
      factors r c.terms.ensures.value c.terms-2.ensures.value c.terms.ensures.some c.terms-2.ensures.some,
      subtrahend c.args.f c.requires.1 c.terms-3.ensures.value,
    )

module _ (c : goal.After-part-1) where
  distance : (c.residual-distance.result ≡ weight (residual_list (product_list (standard_candidate c.args.h.now) (standard_candidate c.args.h.now)) c.args.f.coefficients))
      × (c.residual-distance.result ≤ 2 ^ 58)
  distance =
      of_model c.requires.0 c.terms.ensures.value c.terms-2.ensures.value
      c.args.f c.requires.1 c.terms-3.ensures.value c.residual-distance.ensures

pub overflow_add-distance : goal.overflow_add-distance
overflow_add-distance c = omega (arith, distance c, good_is c.args.f c.requires.1)

pub returns : goal.returns
unfolding root_residual
returns c = c.up_unsigned.ensures ∙ ap (λ (n : ℕ). upℕ (n + 2 ^ 21 * c.args.f.radius) (2 ^ 21)) (distance c.before).0
