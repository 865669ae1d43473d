-- A call that writes a report: with room enough it answers and leaves what `ferruntzo_check` does; its room, by the length of the
-- area of the answer.
use Rattle.std.specs.Prelude.{◌≡◌, List, ℕ, ◌≤◌, ◌<◌, ℤ, length}
use Rattle.std.proofs.Common.{ap, le-leb}
use Rattle.std.proofs.lemmas.Bool.{lt-leb}
use Rattle.job.specs.definitions.Outcomes.{counted}
use Rattle.model.specs.definitions.Area.{area_out}
use Rattle.job.specs.definitions.Reports.{room_size, room_after}
use Rattle.job.specs.declared.types.Report.{Report}
use Rattle.job.proofs.laws.ReportLaws.{report_outcome_lem, report_work_lem, report_scratch_lem}
use Rattle.ferruntzo.specs.definitions.Jobs.{answer_size, job_answer, answered_by, check_answer, report_answer, room_left}

pub report_call : (report : Report) (job : List ℕ) (w s : List ℤ) (room answer : List ℕ) → room_size report ≤ length room
    → report_answer report job w s room answer ≡ check_answer job w s answer
unfolding report_answer check_answer
report_call report job w s room answer long =
    let o = ap counted (report_outcome_lem report job w s room long) in
    let e = report_work_lem report job w s room long in
    let f = report_scratch_lem report job w s room long in
    λ k. answered_by (o k) (e k) w (f k) s answer

module _ (report : Report) (job : List ℕ) (w s : List ℤ) (room answer : List ℕ) where
  pub room_call : answer_size ≤ length answer → room_left report job w s room answer ≡ room_after report job w s room
  unfolding room_left
  room_call long = rw (le-leb answer_size (length answer) long)

  -- an area for the answer that is too short: 1, and nothing is touched
  pub short_call : length answer < answer_size → (report_answer report job w s room answer ≡ job_answer 1 w s answer) × (room_left report job w s room answer ≡ room)
  unfolding report_answer room_left area_out
  short_call short = (rw (lt-leb answer_size (length answer) short), rw (lt-leb answer_size (length answer) short))
