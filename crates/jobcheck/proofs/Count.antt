-- An accepted job has at most 32 results. Of the laws of `job` the program needs only this one.
use Rattle.std.specs.Prelude.{◌≡◌, List, ℕ, ◌≤◌, ℤ, Result, Ok}
use Rattle.std.proofs.Math.Path.{sym, ap, ◌∙◌}
use native.Mathlib.Omega.{arith}
use Rattle.job.proofs.laws.AnswerBounds.{answer_small}
use Rattle.job.specs.definitions.Reading.{max_results}
use Rattle.job.specs.definitions.Outcomes.{job_outcome_of, counted, result_count}
use Rattle.job.specs.definitions.Work.{check_outcome}
use Rattle.job.specs.declared.types.RefusedCommand.{RefusedCommand}

pub count_small : (job : List ℕ) (w s : List ℤ) (r : Result ℕ RefusedCommand) (n : ℕ)
    → job_outcome_of r ≡ counted (check_outcome job w s) → r ≡ Ok n → n ≤ max_results
count_small job w s r n a e =
    let same : n ≡ result_count (counted (check_outcome job w s)) = ap result_count (ap job_outcome_of (sym e) ∙ a) in
    omega (arith, same, (answer_small job w s).results)
