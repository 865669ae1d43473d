-- What the check of a job answers: "The answer is the count, or the refusal with its command, counted from 0".
use Rattle.std.specs.Prelude.{List, ℕ, length, Result, Ok, Err}
use Rattle.model.specs.definitions.Outcomes.{number_of}
use Rattle.model.specs.declared.types.Model.{Model}
use Rattle.job.specs.declared.types.RefusedCommand.{RefusedCommand}

-- accepted with results or their count, or refused with a number and a command
pub data JobOutcome (A : Type 0) : Type 0 where
  accepted : A → JobOutcome A
  refused : ℕ → ℕ → JobOutcome A

-- the code's answer
abbrev pub job_outcome_of : Result ℕ RefusedCommand → JobOutcome ℕ
job_outcome_of (Ok count) = accepted count
job_outcome_of (Err r) = refused (number_of r.refusal) r.command

-- with the count of the results in their place
abbrev pub counted : JobOutcome (List Model) → JobOutcome ℕ
counted (accepted rs) = accepted (length rs)
counted (refused n k) = refused n k

-- the numbers of an answer, those not in use zero
abbrev pub refusal_number : JobOutcome ℕ → ℕ
refusal_number (accepted count) = 0
refusal_number (refused n k) = n

abbrev pub refused_command : JobOutcome ℕ → ℕ
refused_command (accepted count) = 0
refused_command (refused n k) = k

abbrev pub result_count : JobOutcome ℕ → ℕ
result_count (accepted count) = count
result_count (refused n k) = 0
