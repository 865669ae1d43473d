-- Two answers of the check with one meaning are the same answer.
use Rattle.std.specs.Prelude.{◌≡◌, ℕ, Result, Ok, Err}
use Rattle.std.proofs.Common.{sym, ap, ap₂, arith}
use Rattle.model.specs.definitions.Outcomes.{number_of}
use Rattle.model.proofs.laws.OutcomeLaws.{number_of_injective}
use Rattle.model.specs.declared.types.Refusal.{Refusal}
use Rattle.job.specs.definitions.Outcomes.{JobOutcome, accepted, refused, job_outcome_of, refusal_number, refused_command, result_count}
use Rattle.job.specs.declared.types.RefusedCommand.{RefusedCommand}

accepted_not_refused : (count n k : ℕ) → ¬ (◌≡◌ {A = JobOutcome ℕ} (accepted count) (refused n k))
accepted_not_refused count n k e = let z : ◌≡◌ {A = ℕ} 0 1 = cc e in absurd (omega arith)

pub job_outcome_of_injective : (r s : Result ℕ RefusedCommand) → job_outcome_of r ≡ job_outcome_of s → r ≡ s
job_outcome_of_injective (Ok m) (Ok n) e = ap Ok (ap result_count e)
job_outcome_of_injective (Ok m) (Err v) e = absurd (accepted_not_refused m (number_of v.refusal) v.command e)
job_outcome_of_injective (Err v) (Ok n) e = absurd (accepted_not_refused n (number_of v.refusal) v.command (sym e))
job_outcome_of_injective (Err u) (Err v) e =
    ap₂ (λ (r : Refusal) (k : ℕ). Err (record { refusal = r; command = k })) (number_of_injective u.refusal v.refusal (ap refusal_number e))
    (ap refused_command e)
