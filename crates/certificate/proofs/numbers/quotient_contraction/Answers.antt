-- `numbers::quotient_contraction` meets its contract.
use mathlib.Core.Path.{◌≡◌, ◌∙◌, ap₂}
use mathlib.Core.List.{[], ◌∷◌}
use Prim.Native.Nat.{ℕ, ◌+◌, ◌*◌, ◌^◌, ◌≤◌}
use native.Mathlib.Omega.{arith}
use lib.IntN.{pos}
use Rattle.ring.specs.definitions.Integer.{ℤ_ring}
use Rattle.integer.specs.definitions.Rounding.{upℕ}
use Rattle.chebyshev.specs.definitions.Coefficients.{weight, subtract_lists}
use Rattle.model.proofs.laws.ModelLaws.{good_is}
use Rattle.model.specs.definitions.Multiply.{product_list}
use Rattle.certificate.specs.definitions.InnerContracts.{standard_candidate}
use Rattle.certificate.specs.definitions.Quotient.{quotient_contraction}
use Rattle.certificate.proofs.Ranges.{factors, of_constant, constant, error_range}
use Rattle.certificate.proofs.numbers.quotient_contraction.Goals as goal

pub terms-requires : goal.terms-requires
terms-requires c = (good_is (standard_candidate c.args.w.candidate.now) c.requires.first_good).degree_fits

pub terms-requires-2 : goal.terms-requires-2
terms-requires-2 c = (good_is c.args.g c.requires.second_good).degree_fits

pub residual-distance-requires : goal.residual-distance-requires
residual-distance-requires c =
    let r = c.requires in
    (r.room, factors r c.terms.ensures.value c.terms-2.ensures.value c.terms.ensures.some c.terms-2.ensures.some, constant (2 ^ 20) (omega arith))

module _ (c : goal.After-part-1) where
  error : (c.args.w.weight ≤ 2 ^ 28) × (c.args.w.weight * c.args.g.radius ≤ 2 ^ 56)
  error =
      let r = c.requires in
      error_range c.args.w.weight (standard_candidate c.args.w.candidate.now) c.args.g r.first_good r.second_good c.args.w.weighed

  -- 2S² is 2S·S
  distance : (c.residual-distance.result ≡ weight (subtract_lists ℤ_ring (pos (2 ^ 41) ∷ []) (product_list (standard_candidate c.args.w.candidate.now) c.args.g)))
      × (c.residual-distance.result ≤ 2 ^ 58)
  distance =
      of_constant c.requires c.terms.ensures.value c.terms-2.ensures.value
      (2 ^ 20) (omega arith) c.residual-distance.ensures

pub overflow_mul-w : goal.overflow_mul-w
overflow_mul-w c = omega (arith, error c)

pub overflow_mul-w-2 : goal.overflow_mul-w-2
overflow_mul-w-2 c = omega (arith, error c)

pub overflow_add-distance : goal.overflow_add-distance
overflow_add-distance c = omega (arith, distance c, error c)

pub returns : goal.returns
unfolding quotient_contraction
returns c = c.up_unsigned.ensures ∙ ap₂ (λ (n k : ℕ). upℕ (n + 2 * k * c.args.g.radius) (2 ^ 21)) (distance c.before).0 c.args.w.weighed
