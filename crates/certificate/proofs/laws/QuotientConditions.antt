-- The places of the quotient test as facts, and the result of a test that passes.
use Rattle.std.specs.Prelude.{◌≡◌, ◌↔◌, true, false, ℕ, ◌≤◌, ◌<◌}
use Rattle.std.proofs.Common.{ltb-false, leb-false, le-ltb}
use Rattle.std.proofs.lemmas.Bool.{not-false, lt-leb}
use Rattle.model.specs.definitions.Intervals.{same_interval}
use Rattle.model.specs.definitions.Models.{scale, max_radius, good, too_large}
use Rattle.model.specs.definitions.Outcomes.{accepted, Passed}
use Rattle.model.proofs.laws.PlaceLaws.{outcome_passed, outcome_accepted, not_of_true}
use Rattle.model.specs.declared.types.Candidate.{Candidate}
use Rattle.model.specs.declared.types.Model.{Model}
use Rattle.certificate.specs.definitions.Tests.{scratch_size, displacement, Certificate, zero_certificate, placed}
use Rattle.certificate.specs.definitions.Quotient.{quotient_places, quotient_test, quotient_needing, quotient_model, quotient_contraction, quotient_residual, quotient_certificate}

-- b and the result of the test
abbrev pub quotient_displacement : Model → Model → Candidate → Candidate → ℕ
quotient_displacement f g h w = displacement (placed f w) (quotient_residual f g (placed f h))

abbrev pub quotient_result : Model → Model → Candidate → Candidate → Model
quotient_result f g h w = quotient_model (placed f h) (quotient_contraction g (placed f w)) (quotient_displacement f g h w)

pub record QuotientConditions (len : ℕ) (f g : Model) (h w : Candidate) : Type 0 where
  pub scratch : scratch_size ≤ len
  pub good_f : good f ≡ true
  pub good_g : good g ≡ true
  pub good_h : good (placed f h) ≡ true
  pub good_w : good (placed f w) ≡ true
  pub same_interval_lem : same_interval f.interval g.interval ≡ true
  pub contraction : quotient_contraction g (placed f w) < scale
  pub residual : quotient_residual f g (placed f h) ≤ max_radius
  pub result : too_large (quotient_result f g h w) ≡ false

module _ (len : ℕ) (f g : Model) (h w : Candidate) where
  pub quotient_conditions : Passed (quotient_places scratch_size len f g h w) ↔ QuotientConditions len f g h w
  quotient_conditions = (
    λ p. record {
      scratch = ltb-false len scratch_size p.0;
      good_f = not-false (good f) p.1.0;
      good_g = not-false (good g) p.1.1.0;
      good_h = not-false (good (placed f h)) p.1.1.1.0;
      good_w = not-false (good (placed f w)) p.1.1.1.1.0;
      same_interval_lem = not-false (same_interval f.interval g.interval) p.1.1.1.1.1.0;
      contraction = leb-false scale (quotient_contraction g (placed f w)) p.1.1.1.1.1.1.0;
      residual = ltb-false max_radius (quotient_residual f g (placed f h)) p.1.1.1.1.1.1.1.0;
      result = p.1.1.1.1.1.1.1.1.0;
    },
    λ c. search (le-ltb, lt-leb, not_of_true) depth 20,
  )

  -- accepted exactly where these hold, with model, m, N and b of the test
  pub quotient_passes : {c : Certificate} → quotient_test len f g h w ≡ accepted c
      → QuotientConditions len f g h w × (c ≡ quotient_certificate f g h w)
  unfolding quotient_needing
  quotient_passes e =
      let (passed, same) = outcome_accepted (quotient_places scratch_size len f g h w) (quotient_certificate f g h w) zero_certificate e in
      (quotient_conditions.0 passed, same)

  pub quotient_result_lem : QuotientConditions len f g h w → quotient_test len f g h w ≡ accepted (quotient_certificate f g h w)
  unfolding quotient_needing
  quotient_result_lem c =
      outcome_passed (quotient_places scratch_size len f g h w) (quotient_certificate f g h w) zero_certificate (quotient_conditions.1 c)
