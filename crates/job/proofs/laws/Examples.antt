-- Two lists computed from the definitions: P1 to P11 of document 01, that is the model crate's (P1 to P6), the certificate crate's
-- (P7 to P10) and the empty job (P11); and the format, shortest jobs with what they answer.
use Rattle.std.specs.Prelude.{◌≡◌, refl, List, [], map, ℕ}
use Rattle.model.specs.definitions.Outcomes.{passing}
use Rattle.model.proofs.laws.Examples as operations
use Rattle.certificate.proofs.laws.Examples as tests
use Rattle.job.specs.definitions.Reading.{reading_places}
use Rattle.job.specs.definitions.Outcomes.{JobOutcome, refused, counted}
use Rattle.job.specs.definitions.Step.{command}
use Rattle.job.specs.definitions.Run.{run, job_outcome}
use Rattle.job.proofs.laws.RefusalExamples as refusals
use Rattle.job.proofs.laws.ResultExamples as results

pub benchmarks : operations.Benchmarks × tests.Benchmarks × (job_outcome [] ≡ refused 10 0)
unfolding job_outcome run command reading_places passing
benchmarks = (operations.benchmarks, tests.benchmarks, refl)

-- each job of a list answers what stands beside it
abbrev Answer : List (List ℕ × JobOutcome ℕ) → Type 0
Answer l = map (λ c. counted (job_outcome c.0)) l ≡ map (λ c. c.1) l

-- each refusal by its number and command, beside jobs at the limits; operands by their bytes, with the models they give
pub format : Answer refusals.readings × Answer refusals.operations × (counted (job_outcome refusals.without_radius) ≡ refused 17 2)
    × (map (λ c. job_outcome c.0) results.operands ≡ map (λ c. c.1) results.operands)
format = (refusals.readings_are, refusals.operations_are, refusals.without_radius_lem, results.operands_are)
