-- 02, S-24: on −S..S every number is what it was before; S-27: where 255 and edition 2 are not used. The former definitions
-- stand in laws, written out: to use the library nobody has to believe them.
use Rattle.std.specs.Prelude.{◌≡◌, cond, List, ◌++◌, ℕ, ◌*◌, ◌≤◌, ◌<◌, eqb, ℤ, length, take, drop}
use Rattle.model.specs.definitions.Intervals.{standard_interval}
use Rattle.model.specs.definitions.Load.{loading}
use Rattle.model.specs.definitions.Add.{addition, subtraction}
use Rattle.model.specs.definitions.Multiply.{multiplication}
use Rattle.model.specs.definitions.Integrate.{integration}
use Rattle.model.specs.definitions.Evaluate.{evaluation}
use Rattle.model.proofs.laws.FormerNumbers.{former_loading, former_addition, former_subtraction, former_multiplication}
use Rattle.model.proofs.laws.FormerNumbers.{former_integration, former_evaluation}
use Rattle.model.specs.declared.types.Candidate.{Candidate}
use Rattle.model.specs.declared.types.Model.{Model}
use Rattle.certificate.specs.definitions.Quotient.{quotient_needing}
use Rattle.certificate.specs.definitions.Root.{root_needing}
use Rattle.certificate.proofs.laws.FormerTests.{former_quotient, former_root}
use Rattle.certificate.specs.declared.types.RootRule.{RootRule}
use Rattle.series.specs.definitions.Convert.{conversion}
use Rattle.series.proofs.laws.FormerConversion.{former_conversion}
use Rattle.series.specs.declared.types.Series.{Series}
use Rattle.selection.specs.definitions.Select.{selection}
use Rattle.selection.proofs.laws.FormerSelection.{former_selection}
use Rattle.proposals.specs.definitions.Reciprocal.{reciprocal_proposal}
use Rattle.proposals.specs.definitions.Quotient.{quotient_proposal}
use Rattle.proposals.proofs.laws.FormerProposals.{former_reciprocal, former_quotient_proposal}
use Rattle.job.specs.definitions.Run.{job_outcome}
use Rattle.job.specs.definitions.Work.{check_outcome, work_after, scratch_after_job, results_in}
use Rattle.job.proofs.laws.FormerJob.{FormerFormat, former_job_outcome}
use Rattle.job.proofs.laws.FormerWork.{former_check, former_work, former_scratch, ends_at}

pub record FormerNumbers : Type 0 where
  pub loading_former : (m : Model) → m.interval ≡ standard_interval → loading m ≡ former_loading m
  pub addition_former : (a b : Model) → a.interval ≡ standard_interval → b.interval ≡ standard_interval
      → addition a b ≡ former_addition a b
  pub subtraction_former : (a b : Model) → a.interval ≡ standard_interval → b.interval ≡ standard_interval
      → subtraction a b ≡ former_subtraction a b
  -- 02, S-27: "callers who left the choice open must state 32 to get former results": with 32 for 255, every d gives what it gave
  pub multiplication_former : (a b : Model) → a.interval ≡ standard_interval → b.interval ≡ standard_interval
      → (d : ℕ) → multiplication (cond (eqb d 255) 32 d) a b ≡ former_multiplication d a b
  pub integration_former : (a : Model) → a.interval ≡ standard_interval → integration a ≡ former_integration a
  pub evaluation_former : (a : Model) (p : ℤ) → a.interval ≡ standard_interval → evaluation a p ≡ former_evaluation a p
  pub quotient_former : (need len : ℕ) (f g : Model) (h w : Candidate)
      → f.interval ≡ standard_interval → g.interval ≡ standard_interval
      → quotient_needing need len f g h w ≡ former_quotient need len f g h w
  pub root_former : (rule : RootRule) (need len : ℕ) (f : Model) (h w : Candidate) → f.interval ≡ standard_interval
      → root_needing rule need len f h w ≡ former_root rule need len f h w
  pub selection_former : (len : ℕ) (f g : Model) → f.interval ≡ standard_interval → g.interval ≡ standard_interval
      → (first second : List ℤ) → selection len f g first second ≡ former_selection len f g first second
  pub conversion_former : (s : Series) → conversion s ≡ former_conversion s
  pub reciprocal_former : (g : Model) → g.interval ≡ standard_interval → reciprocal_proposal g ≡ former_reciprocal g
  pub quotient_proposal_former : (f g : Model) → f.interval ≡ standard_interval → g.interval ≡ standard_interval
      → quotient_proposal f g ≡ former_quotient_proposal f g
  -- a whole job in which no command is 0x14, and which is not of edition 2, over areas long enough for both
  pub job_former : (job : List ℕ) → FormerFormat job → job_outcome job ≡ former_job_outcome job
  pub check_former : (job : List ℕ) → FormerFormat job → (w s : List ℤ) → 1184 ≤ length w → 16 ≤ length s
      → check_outcome job w s ≡ former_check job w s
  pub scratch_former : (job : List ℕ) → FormerFormat job → (w s : List ℤ) → 1184 ≤ length w → 16 ≤ length s
      → scratch_after_job w s ≡ former_scratch w s
  -- result i in its 37 numbers: the former 35, and its ends
  pub work_former : (job : List ℕ) → FormerFormat job → (w s : List ℤ) → 1184 ≤ length w → 16 ≤ length s
      → (i : ℕ) → i < 32
      → take 37 (drop (37 * i) (work_after job w s))
      ≡ take 35 (drop (35 * i) (former_work job w s)) ++ ends_at (results_in (former_job_outcome job)) i
