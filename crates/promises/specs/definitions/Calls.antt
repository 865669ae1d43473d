-- 02, S-17 and S-22, of the functions for C: what a call is refused or accepted with decides its number and what it writes.
use Rattle.std.specs.Prelude.{◌≡◌, cond, List, [], ◌∷◌, ℕ, ◌≤◌, ℤ, length}
use Rattle.model.specs.definitions.Area.{fits, area_out}
use Rattle.model.specs.definitions.Outcomes.{accepted}
use Rattle.certificate.specs.definitions.Tests.{Certificate}
use Rattle.certificate.specs.declared.types.RootRule.{RootRule}
use Rattle.certificate.specs.declared.types.RootRule.TheVariants.{ByDiscriminant, ByLeastRadius}
use Rattle.job.specs.definitions.Outcomes.{counted, refusal_number, refused_command, result_count}
use Rattle.job.specs.definitions.Work.{check_needing, work_needing}
use Rattle.ferruntzo.specs.definitions.Certificates.{quotient_call, root_call}
use Rattle.ferruntzo.specs.definitions.Jobs.{answer_size, check_answer}
use Rattle.ferruntzo.specs.definitions.Selections.{selection_call}

pub record Calls : Type 0 where
  -- S-17: "With 16 or more, answers agree with those that 65 gave on the same other input"
  pub quotient_call_as_65 : (scratch former : List ℤ) → 16 ≤ length scratch → 65 ≤ length former
      → (f g h w out : List ℤ) (numbers : List ℕ)
      → quotient_call 16 f g h w scratch out numbers ≡ quotient_call 65 f g h w former out numbers
  pub root_call_as_65 : (scratch former : List ℤ) → 16 ≤ length scratch → 65 ≤ length former
      → (rule : RootRule) (f h w out : List ℤ) (numbers : List ℕ)
      → root_call rule 16 f h w scratch out numbers ≡ root_call rule 65 f h w former out numbers
  pub selection_call_as_65 : (scratch former : List ℤ) → 16 ≤ length scratch → 65 ≤ length former
      → (f g first second : List ℤ) (answer : List ℕ)
      → selection_call 16 f g first second scratch answer ≡ selection_call 65 f g first second former answer
  pub check_call_as_65 : (scratch former : List ℤ) → 16 ≤ length scratch → 65 ≤ length former
      → (job : List ℕ) (work : List ℤ) (answer : List ℕ)
      → let a = check_answer job work scratch answer in
      let by_65 = counted (check_needing 65 job work former) in
      (a.number ≡ cond (fits answer_size answer) (refusal_number by_65) 1)
      × (a.work ≡ cond (fits answer_size answer) (work_needing 65 job work former) work)
      × (a.answer ≡ area_out answer_size (result_count by_65 ∷ refused_command by_65 ∷ []) answer)
  -- S-22: where `ferruntzo_tight_root` accepts, so does `ferruntzo_root`; "its radius is never the larger"
  pub tight_call_implies : (f h w scratch out : List ℤ) (numbers : List ℕ) (c : Certificate)
      → root_call ByLeastRadius 16 f h w scratch out numbers ≡ accepted c
      → (d : Certificate) × (root_call ByDiscriminant 16 f h w scratch out numbers ≡ accepted d)
  pub tight_call_not_larger : (f h w scratch out scratch' out' : List ℤ) (numbers numbers' : List ℕ) (c d : Certificate)
      → root_call ByLeastRadius 16 f h w scratch out numbers ≡ accepted c
      → root_call ByDiscriminant 16 f h w scratch' out' numbers' ≡ accepted d
      → c.model.radius ≤ d.model.radius
