-- 01, of the root's radius: "which these limits keep at or below 2^27"; the least radius is at most S. So the place of the result
-- never refuses a root.
use Rattle.std.specs.Prelude.{◌≡◌, ◌≢◌, Bool, false, List, [], ◌∷◌, ◌++◌, ℕ, suc, ◌+◌, ◌*◌, ◌-◌, ◌^◌, ◌≤◌, ◌<◌, pos, nat_abs, ◌-ℤ◌, get_or}
use Rattle.std.proofs.Common.{◌∙◌, ap, mul-le-mul, mul-le-mul_left}
use native.Mathlib.Omega.{arith}
use Rattle.std.proofs.Math.Nat.{le_of_mul-le-mul_left}
use borrow.Author.Tests.{le-ltb}
use Rattle.ring.specs.laws.Parts.{abs, difference}
use Rattle.ring.specs.definitions.Integer.{ℤ_ring}
use Rattle.integer.proofs.laws.RoundingLaws.{le-upℕ, upℕ_least}
use Rattle.chebyshev.specs.definitions.Coefficients.{weight, subtract_lists}
use Rattle.chebyshev.proofs.laws.CoefficientLaws.{get_d_subtract}
use Rattle.chebyshev.proofs.laws.Weight.{weight_at, weight-take}
use Rattle.chebyshev.proofs.laws.ProductWeight.{weight-product}
use Rattle.model.specs.definitions.Models.{scale, max_radius, product_size, terms, too_large, fault}
use Rattle.model.proofs.laws.ModelLaws.{good_is}
use Rattle.model.specs.definitions.Multiply.{product_list}
use Rattle.model.specs.declared.types.Candidate.{Candidate}
use Rattle.model.specs.declared.types.Model.{Model}
use Rattle.certificate.specs.definitions.Tests.{placed}
use Rattle.certificate.specs.definitions.Root.{root_test, root_needing, root_places, rule_place, root_model, root_contraction}
use Rattle.certificate.specs.declared.types.RootRule.{RootRule}
use Rattle.certificate.specs.declared.types.RootRule.TheVariants.{ByDiscriminant, ByLeastRadius}
use Rattle.model.specs.definitions.Outcomes.{number}
use Rattle.model.proofs.laws.PlaceLaws.{passed_append, Without, last_unused}
use Rattle.certificate.proofs.laws.Stages.{large_radius, fault_not}
use Rattle.certificate.proofs.laws.RootConditions.{NumbersConditions, RootConditions, root_displacement, root_result, numbers_conditions, rule_holds}

-- S² ≤ m·S + 2·M·H: the place 0 of S² − C(w,h)
pub square_bound : (h w : Model) → scale * scale ≤ root_contraction h w * scale + 2 * weight w.coefficients * weight h.coefficients
unfolding root_contraction product_list
square_bound h w =
    let s = pos (scale * scale) in
    let c = product_list w h in
    let d = get_or c 0 (pos 0) in
    let l = subtract_lists ℤ_ring (s ∷ []) c in
    omega (
      arith,
      le-upℕ (weight l) scale (omega arith),
      weight_at l 0,
      ap nat_abs (get_d_subtract ℤ_ring (s ∷ []) c 0),
      abs (s -ℤ d),
      difference s d,
      abs d,
      weight_at c 0,
      weight-product product_size (terms w) (terms h),
      mul-le-mul (weight-take (suc w.degree) w.coefficients) (weight-take (suc h.degree) h.coefficients),
    )

-- 8·b·p·S ≤ 2^29·8·b·M ≤ 2^29·p²
pub numerator_bound : (p b M : ℕ) → 0 < p → p * scale ≤ 2 ^ 29 * M → 8 * b * M ≤ p * p → 2 * b * scale ≤ 2 ^ 27 * p
numerator_bound p b M h k d = le_of_mul-le-mul_left {m = 2 * b * scale} {n = 2 ^ 27 * p} {k = p} (omega (arith, mul-le-mul_left (8 * b) k)) h

module _ (len : ℕ) (f : Model) (h w : Candidate) where
  -- (S−m)·S ≤ 2^29·M
  pub gap_bound : NumbersConditions len f h w → (scale - root_contraction (placed f h) (placed f w)) * scale ≤ 2 ^ 29 * weight w.coefficients
  gap_bound c =
      omega (arith, square_bound (placed f h) (placed f w), mul-le-mul_left (2 * weight w.coefficients) (good_is (placed f h) c.good_h).weight-fits, c.contraction)

  -- "which these limits keep at or below 2^27"; the least radius is at most S
  pub root_radius_bound : (rule : RootRule) → RootConditions rule len f h w → (root_result rule f h w).radius ≤ 2 ^ 27
  unfolding root_model
  root_radius_bound ByDiscriminant c =
      let p = scale - root_contraction (placed f h) (placed f w) in
      let positive : 0 < p = omega (arith, c.numbers.contraction) in
      upℕ_least (2 * root_displacement f h w * scale) p (2 ^ 27) positive
      (numerator_bound p (root_displacement f h w) (weight w.coefficients) positive (gap_bound c.numbers) c.holds)
  root_radius_bound ByLeastRadius c = omega (arith, c.holds.within)

  module _ (rule : RootRule) where
    -- the result of a test whose other places pass is not too large
    pub root_fits : RootConditions rule len f h w → too_large (root_result rule f h w) ≡ false
    unfolding root_model
    root_fits c =
        let radius = (root_result rule f h w).radius in
        large_radius (placed f h) radius c.numbers.good_h ∙ le-ltb max_radius radius (omega (arith, root_radius_bound rule c))

    -- the place that is the rule's own
    abbrev own : List (Bool × ℕ)
    own = rule_place rule (weight w.coefficients) (root_contraction (placed f h) (placed f w)) (root_displacement f h w) ∷ []

    never_large : Without 3 (root_places len f h w ++ own) → number (root_test rule len f h w) ≢ 3
    unfolding root_needing root_places
    never_large others =
        last_unused (root_places len f h w ++ own) (too_large (root_result rule f h w)) 3 _ _ others (omega arith)
        (λ p.
        let q = (passed_append (root_places len f h w) own).0 p in
        root_fits (record { numbers = (numbers_conditions len f h w).0 q.0; holds = (rule_holds rule _ _ _).0 q.1.0 }))

  faults : (m : Model) → fault m ≢ 3
  faults m = fault_not m 3 (omega arith) (omega arith)

  -- refusal 3 is never answered
  pub root_never_large : (rule : RootRule) → number (root_test rule len f h w) ≢ 3
  unfolding root_places
  root_never_large ByDiscriminant = never_large ByDiscriminant (omega arith, (faults f, (faults (placed f h), (faults (placed f w), omega arith))))
  root_never_large ByLeastRadius = never_large ByLeastRadius (omega arith, (faults f, (faults (placed f h), (faults (placed f w), omega arith))))
