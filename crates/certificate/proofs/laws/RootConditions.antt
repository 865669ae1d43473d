-- The places of the root tests as facts, and the result of a test that passes.
use Rattle.std.specs.Prelude.{◌≡◌, refl, ◌↔◌, Bool, true, false, ℕ, ◌*◌, ◌-◌, ◌≤◌, ◌<◌, ℤ, pos, ◌<ℤ◌}
use Rattle.std.proofs.Common.{ap, arith}
use Rattle.std.specs.Int.Signed.{le_z}
use borrow.Author.Tests.{ltb-false, leb-false, not-false, le-ltb, lt-leb}
use Rattle.ring.specs.laws.Parts.{le_yes}
use Rattle.ring.specs.laws.Difference.{<_parts}
use Rattle.integer.proofs.laws.Machine.{le_false}
use Rattle.chebyshev.specs.definitions.Coefficients.{weight, coefficient_sum}
use Rattle.model.specs.definitions.Models.{scale, max_radius, good, too_large}
use Rattle.model.specs.definitions.Outcomes.{accepted, Passed}
use Rattle.model.proofs.laws.PlaceLaws.{outcome_passed, outcome_accepted, not_of_true, passed_append}
use Rattle.radius.specs.definitions.LeastRadius.{least_radius, is_missing, IsLeast}
use Rattle.radius.proofs.laws.LeastLaws.{found_is, least_found, least_is}
use Rattle.model.specs.declared.types.Candidate.{Candidate}
use Rattle.model.specs.declared.types.Model.{Model}
use Rattle.certificate.specs.definitions.Tests.{scratch_size, displacement, Certificate, zero_certificate, placed}
use Rattle.certificate.specs.definitions.Root.{root_places, rule_place, rule_radius, root_last_places, root_model, root_contraction, root_residual, root_test_places, root_certificate, root_test, root_needing}
use Rattle.certificate.specs.declared.types.RootRule.{RootRule}
use Rattle.certificate.specs.declared.types.RootRule.TheVariants.{ByDiscriminant, ByLeastRadius}

-- b and the result of the test
abbrev pub root_displacement : Model → Candidate → Candidate → ℕ
root_displacement f h w = displacement (placed f w) (root_residual f (placed f h))

abbrev pub root_result : RootRule → Model → Candidate → Candidate → Model
root_result rule f h w = root_model rule (placed f h) (weight w.coefficients) (root_contraction (placed f h) (placed f w)) (root_displacement f h w)

-- refusals 1, 2 three times, 7, 5 and 6 are not due
pub record NumbersConditions (len : ℕ) (f : Model) (h w : Candidate) : Type 0 where
  pub scratch : scratch_size ≤ len
  pub good_f : good f ≡ true
  pub good_h : good (placed f h) ≡ true
  pub good_w : good (placed f w) ≡ true
  pub helper : pos 0 <ℤ coefficient_sum w.coefficients
  pub contraction : root_contraction (placed f h) (placed f w) < scale
  pub residual : root_residual f (placed f h) ≤ max_radius

-- what a rule asks behind N and b: that 8, or 17, is not due
abbrev pub RuleHolds : RootRule → ℕ → ℕ → ℕ → Type 0
RuleHolds ByDiscriminant M m b = 8 * b * M ≤ (scale - m) * (scale - m)
RuleHolds ByLeastRadius M m b = IsLeast M m b (rule_radius ByLeastRadius M m b)

pub rule_holds : (rule : RootRule) (M m b : ℕ) → ((rule_place rule M m b).0 ≡ false) ↔ RuleHolds rule M m b
rule_holds ByDiscriminant M m b = (λ e. ltb-false _ _ e, λ d. le-ltb _ _ d)
rule_holds ByLeastRadius M m b =
    (λ e. least_found M m b _ (found_is (least_radius M m b) e), λ l. ap is_missing (least_is M m b _ l))

pub record RootConditions (rule : RootRule) (len : ℕ) (f : Model) (h w : Candidate) : Type 0 where
  pub numbers : NumbersConditions len f h w
  pub holds : RuleHolds rule (weight w.coefficients) (root_contraction (placed f h) (placed f w)) (root_displacement f h w)

positive_above : (z : ℤ) → pos 0 <ℤ z → le_z z (pos 0) ≡ false
positive_above z h = pick (le_z z (pos 0)) refl
  where
    pick : (t : Bool) → le_z z (pos 0) ≡ t → t ≡ false
    pick true e = absurd (omega (arith, le_yes z (pos 0) e, (<_parts (pos 0) z).0 h))
    pick false e = refl

module _ (len : ℕ) (f : Model) (h w : Candidate) where
  pub numbers_conditions : Passed (root_places len f h w) ↔ NumbersConditions len f h w
  unfolding root_places
  numbers_conditions = (
    λ p. record {
      scratch = ltb-false len scratch_size p.0;
      good_f = not-false (good f) p.1.0;
      good_h = not-false (good (placed f h)) p.1.1.0;
      good_w = not-false (good (placed f w)) p.1.1.1.0;
      helper = le_false (coefficient_sum w.coefficients) (pos 0) p.1.1.1.1.0;
      contraction = leb-false scale (root_contraction (placed f h) (placed f w)) p.1.1.1.1.1.0;
      residual = ltb-false max_radius (root_residual f (placed f h)) p.1.1.1.1.1.1.0;
    },
    λ c. search (le-ltb, lt-leb, not_of_true, positive_above) depth 20,
  )

module _ (rule : RootRule) (len : ℕ) (f : Model) (h w : Candidate) where
  -- the test passes exactly where these hold and the result is not too large
  pub root_conditions : Passed (root_test_places rule scratch_size len f h w) ↔ (RootConditions rule len f h w × (too_large (root_result rule f h w) ≡ false))
  unfolding root_places
  root_conditions =
      let M = weight w.coefficients in
      let m = root_contraction (placed f h) (placed f w) in
      let b = root_displacement f h w in
      let parts = passed_append (root_places len f h w) (root_last_places rule (placed f h) M m b) in
      let numbers = numbers_conditions len f h w in
      let place = rule_holds rule M m b in (
        λ p. let q = parts.0 p in (record { numbers = numbers.0 q.0; holds = place.0 q.1.0 }, q.1.1.0),
        λ c. parts.1 (numbers.1 c.0.numbers, (place.1 c.0.holds, (c.1, tt))),
      )

  -- accepted exactly where these hold, with model, m, N and b of the test
  pub root_passes : {c : Certificate} → root_test rule len f h w ≡ accepted c
      → RootConditions rule len f h w × (too_large (root_result rule f h w) ≡ false) × (c ≡ root_certificate rule f h w)
  unfolding root_needing root_places
  root_passes e =
      let (passed, same) = outcome_accepted (root_test_places rule scratch_size len f h w) (root_certificate rule f h w) zero_certificate e in
      let (conditions, small) = root_conditions.0 passed in
      (conditions, small, same)

  pub root_result_lem : RootConditions rule len f h w → too_large (root_result rule f h w) ≡ false
      → root_test rule len f h w ≡ accepted (root_certificate rule f h w)
  unfolding root_needing root_places
  root_result_lem c small =
      outcome_passed (root_test_places rule scratch_size len f h w) (root_certificate rule f h w) zero_certificate
      (root_conditions.1 (c, small))
