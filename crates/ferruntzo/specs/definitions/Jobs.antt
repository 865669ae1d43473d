-- What the exported checks of a job, with and without a report, and its exported conversion answer and leave in their areas.
use Rattle.std.specs.Prelude.{Bool, cond, List, [], ◌∷◌, ℕ, ◌^◌, ◌<◌, eqb, ℤ, length, get_or, replicate}
use Rattle.model.specs.definitions.Area.{fits, area_out}
use Rattle.job.specs.definitions.Outcomes.{JobOutcome, accepted, refused, counted, refusal_number, refused_command, result_count}
use Rattle.survey.specs.definitions.Editions.{edition_conversion, output_after}
use Rattle.job.specs.definitions.Work.{area_place, area_places, check_outcome, work_after, scratch_after_job}
use Rattle.job.specs.definitions.Reports.{report_places, report_outcome, report_work, report_scratch, room_after}
use Rattle.job.specs.declared.types.Report.{Report}

-- how many numbers an answer has: the count of results or the length, and the number of the refused command
abbrev pub answer_size : ℕ
answer_size = 2

abbrev pub answer_numbers : JobOutcome ℕ → List ℕ
answer_numbers o = result_count o ∷ refused_command o ∷ []

-- they are written where they fit
pub record Answerable (o : JobOutcome ℕ) : Type 0 where
  pub count_fits : result_count o < 2 ^ 32
  pub command-fits : refused_command o < 2 ^ 32

-- the number, and what the work area, the scratch and the area of the answer hold afterwards
pub record JobAnswer : Type 0 where
  pub number : ℕ
  pub work : List ℤ
  pub scratch : List ℤ
  pub answer : List ℕ

abbrev pub job_answer : ℕ → List ℤ → List ℤ → List ℕ → JobAnswer
job_answer n w s a = record { number = n; work = w; scratch = s; answer = a }

-- What a check answers and leaves by its definitions: its outcome, the work area after and before it, and the scratch. An area
-- for the answer that is too short is refusal 1 and touches none.
abbrev pub answered_by : JobOutcome ℕ → (after before : List ℤ) → (after' before' : List ℤ) → List ℕ → JobAnswer
answered_by o work' work scratch' scratch answer =
    job_answer
    (cond (fits answer_size answer) (refusal_number o) 1)
    (cond (fits answer_size answer) work' work)
    (cond (fits answer_size answer) scratch' scratch)
    (area_out answer_size (answer_numbers o) answer)

-- also of a work area or a scratch that is too short: refusal 1 at command 0, "too short; neither is touched", the answer 0 and 0
unfoldable pub check_answer : List ℕ → List ℤ → List ℤ → List ℕ → JobAnswer
check_answer job work scratch answer =
    answered_by (counted (check_outcome job work scratch)) (work_after job work scratch) work
    (scratch_after_job work scratch) scratch answer

-- what the number and the area of the answer mean: 0 with the count of results, or a refusal with its command
abbrev pub answer_in : ℕ → List ℕ → JobOutcome ℕ
answer_in n answer = cond (eqb n 0) (accepted (get_or answer 0 0)) (refused n (get_or answer 1 0))

-- the places of the lent areas, that of the answer first
abbrev pub exported_places : List ℤ → List ℤ → List ℕ → List (Bool × ℕ)
exported_places work scratch answer = area_place answer_size (length answer) ∷ area_places work scratch

-- ---- with a report

-- 02, S-30: "A refused job yields its number and command to both."; also of a room that is too short the answer is 0 and 0
unfoldable pub report_answer : Report → List ℕ → List ℤ → List ℤ → List ℕ → List ℕ → JobAnswer
report_answer report job work scratch room answer =
    answered_by (counted (report_outcome report job work scratch room)) (report_work report job work scratch room) work
    (report_scratch report work scratch room) scratch answer

-- what the room holds afterwards
unfoldable pub room_left : Report → List ℕ → List ℤ → List ℤ → List ℕ → List ℕ → List ℕ
room_left report job work scratch room answer = cond (fits answer_size answer) (room_after report job work scratch room) room

-- the places of the lent areas, that of the answer first, that of the room last
abbrev pub exported_report_places : Report → List ℤ → List ℤ → List ℕ → List ℕ → List (Bool × ℕ)
exported_report_places report work scratch room answer =
    area_place answer_size (length answer) ∷ report_places report work scratch room

-- ---- the conversion

-- the number, and what the output and the area of the answer hold afterwards
pub record EditionAnswer : Type 0 where
  pub number : ℕ
  pub output : List ℕ
  pub answer : List ℕ

abbrev pub edition_answer : ℕ → List ℕ → List ℕ → EditionAnswer
edition_answer n out a = record { number = n; output = out; answer = a }

-- 02, S-27: "the length is answered", and the number of the refused command. An area for the answer that is too short is
-- refusal 1 and stays; "After any refusal, 20 included, the whole output is zero."
unfoldable pub convert_answer : List ℕ → List ℕ → List ℕ → EditionAnswer
convert_answer job out answer =
    let o = edition_conversion job (length out) in
    edition_answer
    (cond (fits answer_size answer) (refusal_number o) 1)
    (cond (fits answer_size answer) (output_after job out) (replicate (length out) 0))
    (area_out answer_size (answer_numbers o) answer)
