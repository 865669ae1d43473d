-- 02, S-30: report records for the workshop and the service.
use Rattle.std.specs.Prelude.{◌≡◌, true, false, List, ◌∷◌, ◌++◌, ◌↔◌, ℕ, ◌+◌, ◌*◌, ◌-◌, ◌^◌, ◌≤◌, ◌<◌, ℤ, length, get_or, take, drop, replicate}
use Rattle.model.specs.definitions.Outcomes.{Outcome}
use Rattle.model.specs.declared.types.Candidate.{Candidate}
use Rattle.model.specs.declared.types.Model.{Model}
use Rattle.certificate.specs.definitions.Quotient.{quotient_test}
use Rattle.certificate.specs.definitions.Root.{root_test}
use Rattle.certificate.specs.declared.types.RootRule.{RootRule}
use Rattle.job.specs.definitions.Operations.{Maker, quotient, root, result_at}
use Rattle.job.specs.definitions.Decode.{Command, result}
use Rattle.job.specs.definitions.Reader.{job_reading, well, command_for}
use Rattle.job.specs.definitions.Outcomes.{accepted, refused, counted}
use Rattle.job.specs.definitions.Run.{job_outcome}
use Rattle.job.specs.definitions.Work.{check_outcome, work_after, scratch_after_job}
use Rattle.job.specs.definitions.Reports.{little_endian, record_size, certificate_of, Tested, room_size}
use Rattle.job.specs.definitions.Reports.{report_fits, report_outcome, report_work, report_scratch, room_after}
use Rattle.job.specs.declared.types.Report.{Report}
use Rattle.job.specs.declared.types.Report.TheVariants.{Workshop, Service}
use Rattle.ferruntzo.specs.definitions.Jobs.{job_answer, check_answer, report_answer, room_left}

-- ---- the records of an accepted job

pub record ReportRecords : Type 0 where
  -- "number and degree, a byte each, then m, N, b and radius, unsigned 32-bit, little-endian": of result i, from byte 18·i on
  pub service_record : (job : List ℕ) (w s : List ℤ) (room : List ℕ) (rs : List Model)
      → report_outcome Service job w s room ≡ accepted rs → (i : ℕ) → i < length rs
      → let c = certificate_of job i in
      take 18 (drop (18 * i) (room_after Service job w s room))
      ≡ (i ∷ (result_at rs i).degree
      ∷ (little_endian c.m ++ (little_endian c.N ++ (little_endian c.b ++ little_endian (result_at rs i).radius))))
  -- "the workshop the 6 of number, degree and radius"
  pub workshop_record : (job : List ℕ) (w s : List ℤ) (room : List ℕ) (rs : List Model)
      → report_outcome Workshop job w s room ≡ accepted rs → (i : ℕ) → i < length rs
      → take 6 (drop (6 * i) (room_after Workshop job w s room))
      ≡ (i ∷ (result_at rs i).degree ∷ little_endian (result_at rs i).radius)
  pub little_endian_lem : (n : ℕ) → n < 2 ^ 32 → let bytes = little_endian n in
      n ≡ get_or bytes 0 0 + 256 * get_or bytes 1 0 + 65536 * get_or bytes 2 0 + 16777216 * get_or bytes 3 0
  -- m, N and b are those of the command's test, on the results that it names
  pub of_its_quotient : (job : List ℕ) (rs : List Model) → job_outcome job ≡ accepted rs
      → (cs : List Command) → job_reading job ≡ well cs
      → (i j k : ℕ) (h w : Candidate) → command_for cs i ≡ result (quotient j k h w)
      → quotient_test 16 (result_at rs j) (result_at rs k) h w ≡ Outcome.accepted (certificate_of job i)
  pub of_its_root : (job : List ℕ) (rs : List Model) → job_outcome job ≡ accepted rs
      → (cs : List Command) → job_reading job ≡ well cs
      → (i j : ℕ) (rule : RootRule) (h w : Candidate) → command_for cs i ≡ result (root rule j h w)
      → root_test rule 16 (result_at rs j) h w ≡ Outcome.accepted (certificate_of job i)
  -- "with m, N and b zero where no test ran"
  pub untested-zero : (job : List ℕ) (rs : List Model) → job_outcome job ≡ accepted rs
      → (cs : List Command) → job_reading job ≡ well cs → (i : ℕ) (maker : Maker) → command_for cs i ≡ result maker → ¬ Tested maker
      → ((certificate_of job i).m ≡ 0) × ((certificate_of job i).N ≡ 0) × ((certificate_of job i).b ≡ 0)
  -- every number fits its field
  pub numbers_fit : (job : List ℕ) (rs : List Model) → job_outcome job ≡ accepted rs → (i : ℕ) → i < length rs
      → let c = certificate_of job i in
      (i < 32) × ((result_at rs i).degree ≤ 32) × (c.m < 2 ^ 20) × (c.N ≤ 2 ^ 28) × (c.b ≤ (result_at rs i).radius)
      × ((result_at rs i).radius ≤ 2 ^ 28)

-- ---- the room, and what else a call answers and leaves

pub record ReportRooms : Type 0 where
  -- "Each reading borrows room for 32 records"
  pub room_sizes : (room_size Workshop ≡ 192) × (room_size Service ≡ 576)
  -- "(number 1 if shorter, after the scratch, touching nothing)"; so too of the work area and the scratch
  pub short_room : (report : Report) (w s : List ℤ) (room : List ℕ) → length room < room_size report
      → report_fits report w s room ≡ false
  pub short_untouched : (report : Report) (job : List ℕ) (w s : List ℤ) (room : List ℕ) → report_fits report w s room ≡ false
      → (report_outcome report job w s room ≡ refused 1 0) × (report_work report job w s room ≡ w)
      × (report_scratch report w s room ≡ s) × (room_after report job w s room ≡ room)
  -- "records not made are zero"
  pub not_made_zero : (report : Report) (job : List ℕ) (w s : List ℤ) (room : List ℕ) (rs : List Model)
      → report_outcome report job w s room ≡ accepted rs
      → drop (record_size report * length rs) (take (room_size report) (room_after report job w s room))
      ≡ replicate (room_size report - record_size report * length rs) 0
  -- "as is all the room after any other refusal"
  pub refused_zero : (report : Report) (job : List ℕ) (w s : List ℤ) (room : List ℕ) → report_fits report w s room ≡ true
      → (n k : ℕ) → report_outcome report job w s room ≡ refused n k
      → take (room_size report) (room_after report job w s room) ≡ replicate (room_size report) 0
  -- bytes behind stay, whatever the outcome
  pub behind_stays : (report : Report) (job : List ℕ) (w s : List ℤ) (room : List ℕ)
      → drop (room_size report) (room_after report job w s room) ≡ drop (room_size report) room
  -- "A refused job yields its number and command to both.": with room enough every answer and area is that of the check
  pub as_check : (report : Report) (job : List ℕ) (w s : List ℤ) (room : List ℕ) → room_size report ≤ length room
      → (report_outcome report job w s room ≡ check_outcome job w s) × (report_work report job w s room ≡ work_after job w s)
      × (report_scratch report w s room ≡ scratch_after_job w s)
  pub call_as_check : (report : Report) (job : List ℕ) (w s : List ℤ) (room answer : List ℕ) → room_size report ≤ length room
      → report_answer report job w s room answer ≡ check_answer job w s answer
  -- of the functions for C: the room as above, and nothing touched where the area of the answer is too short
  pub call_room : (report : Report) (job : List ℕ) (w s : List ℤ) (room answer : List ℕ) → 2 ≤ length answer
      → room_left report job w s room answer ≡ room_after report job w s room
  pub call_short : (report : Report) (job : List ℕ) (w s : List ℤ) (room answer : List ℕ) → length answer < 2
      → (report_answer report job w s room answer ≡ job_answer 1 w s answer) × (room_left report job w s room answer ≡ room)

-- ---- two jobs

pub record ReportsExactly : Type 0 where
  -- "Two accepted jobs of equal count give the workshop equal bytes exactly when their results agree in those three, however
  -- their candidates differ.": over the rooms as left, whatever they and the areas held before; the number is the result's place
  pub workshop_exactly : (job job' : List ℕ) (w s w' s' : List ℤ) (room room' : List ℕ) (rs rs' : List Model)
      → report_outcome Workshop job w s room ≡ accepted rs
      → report_outcome Workshop job' w' s' room' ≡ accepted rs' → length rs ≡ length rs'
      → (take 192 (room_after Workshop job w s room) ≡ take 192 (room_after Workshop job' w' s' room'))
      ↔ ((i : ℕ) → i < length rs
      → ((result_at rs i).degree ≡ (result_at rs' i).degree) × ((result_at rs i).radius ≡ (result_at rs' i).radius))
  -- ours, of the service: with m, N and b
  pub service_exactly : (job job' : List ℕ) (w s w' s' : List ℤ) (room room' : List ℕ) (rs rs' : List Model)
      → report_outcome Service job w s room ≡ accepted rs
      → report_outcome Service job' w' s' room' ≡ accepted rs' → length rs ≡ length rs'
      → (take 576 (room_after Service job w s room) ≡ take 576 (room_after Service job' w' s' room'))
      ↔ ((i : ℕ) → i < length rs → let c = certificate_of job i in let d = certificate_of job' i in
      ((result_at rs i).degree ≡ (result_at rs' i).degree) × (c.m ≡ d.m) × (c.N ≡ d.N) × (c.b ≡ d.b)
      × ((result_at rs i).radius ≡ (result_at rs' i).radius))
  -- "of equal count" is needed: two jobs, of 0 results and of 1, that leave equal rooms
  pub count_needed : (report : Report) (w s : List ℤ) (room : List ℕ) → report_fits report w s room ≡ true
      → (job : List ℕ) × (job' : List ℕ) × (counted (report_outcome report job w s room) ≡ accepted 0)
      × (counted (report_outcome report job' w s room) ≡ accepted 1)
      × (room_after report job w s room ≡ room_after report job' w s room)
