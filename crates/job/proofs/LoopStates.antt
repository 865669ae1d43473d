-- What holds where the loop over a job's commands begins a turn, and what it leaves.
use mathlib.Core.Path.{◌≡◌}
use mathlib.Core.List.{List, [], ◌++◌, map}
use Prim.Native.Nat.{ℕ, ◌≤◌}
use Rattle.std.specs.Prelude.{Result}
use lib.IntN.{ℤ}
use lib.ListN.{length, drop}
use Rattle.model.specs.declared.types.Model.{Model}
use Rattle.job.specs.definitions.Reading.{max_results}
use Rattle.job.specs.definitions.Outcomes.{job_outcome_of, counted}
use Rattle.job.specs.definitions.Run.{job_outcome}
use Rattle.job.specs.definitions.Work.{work_size, work_with, results_in}
use Rattle.job.specs.definitions.Order.{Reaches}
use Rattle.job.specs.definitions.InnerContracts.{Holds}
use Rattle.job.specs.definitions.Reports.{certificate_by, job_certificates, room_size, room_with}
use Rattle.job.proofs.laws.Accepted.{Reached}
use Rattle.job.specs.declared.types.Report.{Report}
use Rattle.job.specs.declared.types.RefusedCommand.{RefusedCommand}
use Rattle.job.specs.definitions.Requirement.{Requirement3}

-- the invariant: command k is reached at a position with the results that the work area holds, and their records stand in the
-- room; `begun` and `bare` are the area and the room where the loop begins
pub record Going (report : Report) (job : List ℕ) (begun work : List ℤ) (bare room : List ℕ) (at k count : ℕ) : Type 0 where
  pub rs : List Model
  pub reaches : Reaches job k rs at
  pub holds : Holds work count rs (drop work_size begun)
  pub long : work_size ≤ length begun
  pub same : length work ≡ length begun
  pub few : count ≤ max_results
  pub number : k ≤ at
  pub position : at ≤ length job
  pub there : Reached job k rs at
  pub room_is : room ≡ room_with report (map (certificate_by rs) there.cs) ++ drop (room_size report) bare
  pub roomy : room_size report ≤ length bare
  pub same_room : length room ≡ length bare

-- what the run answers and leaves
pub record Ran (report : Report) (job : List ℕ) (begun : List ℤ) (bare : List ℕ) (r : Result ℕ RefusedCommand) (work : List ℤ) (room : List ℕ) : Type 0 where
  pub answer : job_outcome_of r ≡ counted (job_outcome job)
  pub work_is : work ≡ work_with (results_in (job_outcome job)) ++ drop work_size begun
  pub claim : Requirement3 [] job (job_outcome_of r) work
  pub room_is : room ≡ room_with report (job_certificates job) ++ drop (room_size report) bare
