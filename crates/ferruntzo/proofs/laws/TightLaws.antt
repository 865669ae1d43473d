-- Document 02, S-22, for the exported functions, by the outcomes of their calls (`root_call`), which decide number, result and numbers:
-- where `ferruntzo_tight_root` accepts, so does `ferruntzo_root` over the same areas; where both accept the same f, h and w,
-- whatever the other areas, the tighter radius is not the larger.
use Rattle.std.specs.Prelude.{◌≡◌, Bool, true, false, cond, List, ℕ, ◌≤◌, ℤ, length}
use Rattle.model.specs.definitions.Outcomes.{Outcome, accepted}
use Rattle.model.specs.definitions.Area.{model_size, area_model, area_candidate, fits}
use Rattle.model.proofs.laws.PlaceLaws.{refused_not_accepted}
use Rattle.certificate.specs.definitions.Tests.{scratch_size, Certificate}
use Rattle.certificate.specs.definitions.Root.{root_test}
use Rattle.certificate.specs.declared.types.RootRule.{RootRule}
use Rattle.certificate.specs.declared.types.RootRule.TheVariants.{ByDiscriminant, ByLeastRadius}
use Rattle.certificate.proofs.laws.TightTheorem.{tight_implies_root, tight_not_larger}
use Rattle.ferruntzo.specs.definitions.Certificates.{test_fits, short_test, root_call}

module _ (f h w : List ℤ) where
  -- the test of a call whose areas fit
  abbrev test : RootRule → List ℤ → Outcome Certificate
  test rule scratch = root_test rule (length scratch) (area_model f) (area_candidate h) (area_candidate w)

  module _ (scratch out : List ℤ) (numbers : List ℕ) where
    -- an accepted call is an accepted test
    call_accepted : (rule : RootRule) {c : Certificate} → root_call rule scratch_size f h w scratch out numbers ≡ accepted c → test rule scratch ≡ accepted c
    call_accepted rule e = pick (test_fits scratch_size (fits model_size f) h w scratch out numbers) e
      where
        pick : (t : Bool) {c : Certificate} → cond t (test rule scratch) short_test ≡ accepted c → test rule scratch ≡ accepted c
        pick true e = e
        pick false e = absurd (refused_not_accepted e)

    pub tight_call_implies : {c : Certificate} → root_call ByLeastRadius scratch_size f h w scratch out numbers ≡ accepted c
        → (d : Certificate) × (root_call ByDiscriminant scratch_size f h w scratch out numbers ≡ accepted d)
    tight_call_implies e = pick (test_fits scratch_size (fits model_size f) h w scratch out numbers) e
      where
        pick : (t : Bool) {c : Certificate} → cond t (test ByLeastRadius scratch) short_test ≡ accepted c
            → (d : Certificate) × (cond t (test ByDiscriminant scratch) short_test ≡ accepted d)
        pick true e = (_, tight_implies_root (length scratch) (area_model f) (area_candidate h) (area_candidate w) e)
        pick false e = absurd (refused_not_accepted e)

  module _ (scratch out scratch' out' : List ℤ) (numbers numbers' : List ℕ) where
    pub tight_call_not_larger : {c d : Certificate} → root_call ByLeastRadius scratch_size f h w scratch out numbers ≡ accepted c
        → root_call ByDiscriminant scratch_size f h w scratch' out' numbers' ≡ accepted d → c.model.radius ≤ d.model.radius
    tight_call_not_larger e k =
        tight_not_larger (length scratch) (area_model f) (area_candidate h) (area_candidate w) (call_accepted scratch out numbers ByLeastRadius e)
        (length scratch') (call_accepted scratch' out' numbers' ByDiscriminant k)
