-- The meaning of a whole job, computed command by command.
use Rattle.std.specs.Prelude.{List, [], ℕ, zero, suc, ◌+◌, length}
use Rattle.model.specs.declared.types.Model.{Model}
use Rattle.job.specs.definitions.Outcomes.{JobOutcome, accepted}
use Rattle.job.specs.definitions.Step.{Step, more, over, refused, command}

abbrev pub onward : (ℕ → List Model → ℕ → JobOutcome (List Model)) → ℕ → List Model → Step (List Model) → JobOutcome (List Model)
onward next k rs (more rs' at) = next (k + 1) rs' at
onward next k rs over = accepted rs
onward next k rs (refused n) = JobOutcome.refused n k

-- the rest of a job from command k on; every command has a byte, so as many commands as bytes and one are enough
unfoldable pub run : ℕ → List ℕ → ℕ → List Model → ℕ → JobOutcome (List Model)
run zero job k rs at = JobOutcome.refused 10 k
run (suc f) job k rs at = onward (run f job) k rs (command job k rs at)

unfoldable pub job_outcome : List ℕ → JobOutcome (List Model)
job_outcome job = run (length job + 1) job 0 [] 0
