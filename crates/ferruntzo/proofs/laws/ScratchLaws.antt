-- Document 02, S-17, for the exported functions: "With 16 or more, answers agree with those that 65 gave on the same other input".
-- A test's number, result and numbers go by the call's outcome.
use Rattle.std.specs.Prelude.{◌≡◌, Bool, ◌&&◌, List, [], ◌∷◌, ℕ, ◌≤◌, ℤ, length}
use Rattle.std.proofs.Math.Path.{ap}
use Rattle.std.proofs.Common.{ap₂, le-leb}
use Rattle.std.proofs.Math.Bool.{cond}
use Rattle.model.specs.definitions.Models.{product_size}
use Rattle.model.specs.definitions.Area.{model_size, candidate_size, area_model, area_candidate, fits, area_out}
use Rattle.certificate.specs.definitions.Tests.{scratch_size}
use Rattle.certificate.specs.declared.types.RootRule.{RootRule}
use Rattle.certificate.proofs.laws.GroupTheorem.{quotient_as_65, root_as_65}
use Rattle.job.specs.definitions.Outcomes.{JobOutcome, counted, refusal_number, refused_command, result_count}
use Rattle.job.specs.definitions.Work.{check_needing, work_needing}
use Rattle.job.proofs.laws.CheckLaws.{check_as_65, work_as_65}
use Rattle.selection.proofs.laws.SelectLaws.{selection_as_65}
use Rattle.ferruntzo.specs.definitions.Areas.{numbers_size, selection_size}
use Rattle.ferruntzo.specs.definitions.Certificates.{test_fits, short_test, quotient_call, root_call}
use Rattle.ferruntzo.specs.definitions.Jobs.{answer_size, check_answer}
use Rattle.ferruntzo.specs.definitions.Selections.{short_selection, selection_call}

module _ (scratch former : List ℤ) (room : scratch_size ≤ length scratch) (room' : product_size ≤ length former) where
  same_fit : fits scratch_size scratch ≡ fits product_size former
  same_fit = rw (le-leb scratch_size (length scratch) room, le-leb product_size (length former) room')

  module _ (h w out : List ℤ) (numbers : List ℕ) where
    -- the areas of the models fit, or not
    same_fits : (models : Bool) → test_fits scratch_size models h w scratch out numbers ≡ test_fits product_size models h w former out numbers
    same_fits models = ap (λ t. models && fits candidate_size h && fits candidate_size w && t && fits model_size out && fits numbers_size numbers) same_fit

    pub quotient_call_as_65 : (f g : List ℤ) → quotient_call scratch_size f g h w scratch out numbers ≡ quotient_call product_size f g h w former out numbers
    quotient_call_as_65 f g =
        ap₂ (λ t o. cond t o short_test) (same_fits (fits model_size f && fits model_size g))
        (quotient_as_65 (area_model f) (area_model g) (area_candidate h) (area_candidate w) room room')

    pub root_call_as_65 : (rule : RootRule) (f : List ℤ) → root_call rule scratch_size f h w scratch out numbers ≡ root_call rule product_size f h w former out numbers
    root_call_as_65 rule f =
        ap₂ (λ t o. cond t o short_test) (same_fits (fits model_size f))
        (root_as_65 rule (area_model f) (area_candidate h) (area_candidate w) room room')

  pub selection_call_as_65 : (f g first second : List ℤ) (answer : List ℕ)
      → selection_call scratch_size f g first second scratch answer ≡ selection_call product_size f g first second former answer
  selection_call_as_65 f g first second answer =
      ap₂ (λ t o. cond t o short_selection) (ap (λ t. fits model_size f && fits model_size g && t && fits selection_size answer) same_fit)
      (selection_as_65 (area_model f) (area_model g) first second room room')

  -- of the check the number, the work area and the answer
  module _ (job : List ℕ) (work : List ℤ) (answer : List ℕ) where
    abbrev by_65 : JobOutcome ℕ
    by_65 = counted (check_needing product_size job work former)

    pub check_call_as_65 : let a = check_answer job work scratch answer in
        (a.number ≡ cond (fits answer_size answer) (refusal_number by_65) 1)
        × (a.work ≡ cond (fits answer_size answer) (work_needing product_size job work former) work)
        × (a.answer ≡ area_out answer_size (result_count by_65 ∷ refused_command by_65 ∷ []) answer)
    unfolding check_answer
    check_call_as_65 =
        let same = check_as_65 job work scratch former room room' in (
          ap (λ o. cond (fits answer_size answer) (refusal_number (counted o)) 1) same,
          ap (λ l. cond (fits answer_size answer) l work) (work_as_65 job work scratch former room room'),
          ap (λ o. area_out answer_size (result_count (counted o) ∷ refused_command (counted o) ∷ []) answer) same,
        )
