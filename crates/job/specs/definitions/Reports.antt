-- Report records. 02, S-30: "Every result gets a report record: number and degree, a byte each, then m, N, b and radius, unsigned
-- 32-bit, little-endian, with m, N and b zero where no test ran. Service staff read its 18 bytes, the workshop the 6 of number,
-- degree and radius."
use Rattle.std.specs.Prelude.{Bool, cond, ◌&&◌, List, [], ◌∷◌, ◌++◌, map, ℕ, ◌+◌, ◌*◌, ◌-◌, ◌/◌, ◌%◌, leb, ℤ, length, get_or, drop, replicate}
use Rattle.model.specs.definitions.Outcomes.{payload}
use Rattle.model.specs.declared.types.Model.{Model}
use Rattle.certificate.specs.definitions.Tests.{Certificate, zero_certificate}
use Rattle.job.specs.definitions.Operations.{Maker, load, add, subtract, multiply, quotient, root, operation}
use Rattle.job.specs.definitions.Decode.{Command, edition, result, finish, unknown}
use Rattle.job.specs.definitions.Reading.{max_results}
use Rattle.job.specs.definitions.Reader.{JobReading, well, ill, job_reading}
use Rattle.job.specs.definitions.Outcomes.{JobOutcome, accepted, refused}
use Rattle.job.specs.definitions.Run.{job_outcome}
use Rattle.job.specs.definitions.Work.{area_place, area_places, areas_fit, outcome_if, work_if, scratch_if}
use Rattle.job.specs.declared.types.Report.{Report}
use Rattle.job.specs.declared.types.Report.TheVariants.{Empty, Workshop, Service}

-- the four bytes of an unsigned 32-bit number, the lowest first
abbrev pub little_endian : ℕ → List ℕ
little_endian n = n % 256 ∷ n / 256 % 256 ∷ n / 65536 % 256 ∷ n / 16777216 % 256 ∷ []

-- how many bytes one record has
abbrev pub record_size : Report → ℕ
record_size Empty = 0
record_size Workshop = 6
record_size Service = 18

abbrev pub record_with : Report → ℕ → ℕ → ℕ → ℕ → ℕ → ℕ → List ℕ
record_with Empty i degree m n b radius = []
record_with Workshop i degree m n b radius = i ∷ degree ∷ little_endian radius
record_with Service i degree m n b radius =
    i ∷ degree ∷ (little_endian m ++ (little_endian n ++ (little_endian b ++ little_endian radius)))

-- the record of result i
abbrev pub record_bytes : Report → ℕ → Certificate → List ℕ
record_bytes report i c = record_with report i c.model.degree c.m c.N c.b c.model.radius

-- the records of results, the first of which is result i
unfoldable pub records_from : Report → ℕ → List Certificate → List ℕ
records_from report i [] = []
records_from report i (c ∷ cs) = record_bytes report i c ++ records_from report (i + 1) cs

-- ---- the results of a job

-- what a command's operation or test answers for all results rs of its job: it names results before its own alone, so it answers
-- the same for those, and its model is its result (`certificate_made`)
abbrev pub certificate_by : List Model → Command → Certificate
certificate_by rs edition = zero_certificate
certificate_by rs (result maker) = payload (operation maker rs)
certificate_by rs finish = zero_certificate
certificate_by rs unknown = zero_certificate

-- of an accepted job, whose bytes hold the commands cs of its results; of a refused one none
abbrev pub certificates_in : JobReading → JobOutcome (List Model) → List Certificate
certificates_in (well cs) (accepted rs) = map (certificate_by rs) cs
certificates_in (well cs) (refused n k) = []
certificates_in (ill n k) o = []

unfoldable pub job_certificates : List ℕ → List Certificate
job_certificates job = certificates_in (job_reading job) (job_outcome job)

-- that of result i
abbrev pub certificate_of : List ℕ → ℕ → Certificate
certificate_of job i = get_or (job_certificates job) i zero_certificate

-- the commands that test candidates
abbrev pub Tested : Maker → Type 0
Tested (load f) = ⊥
Tested (add i j) = ⊥
Tested (subtract i j) = ⊥
Tested (multiply i j d) = ⊥
Tested (quotient i j h w) = Unit {0}
Tested (root rule i h w) = Unit {0}

-- ---- the room

unfoldable pub zero_bytes : ℕ → List ℕ
zero_bytes n = replicate n 0

-- "Each reading borrows room for 32 records"
abbrev pub room_size : Report → ℕ
room_size report = record_size report * max_results

-- "records not made are zero, as is all the room after any other refusal"
unfoldable pub room_with : Report → List Certificate → List ℕ
room_with report cs = records_from report 0 cs ++ zero_bytes (room_size report - record_size report * length cs)

-- ---- the entry

-- the lent areas are long enough
abbrev pub report_fits : Report → List ℤ → List ℤ → List ℕ → Bool
report_fits report w s room = areas_fit w s && leb (room_size report) (length room)

-- "number 1 if shorter, after the scratch"
abbrev pub report_places : Report → List ℤ → List ℤ → List ℕ → List (Bool × ℕ)
report_places report w s room = area_places w s ++ (area_place (room_size report) (length room) ∷ [])

-- "A refused job yields its number and command to both."
unfoldable pub report_outcome : Report → List ℕ → List ℤ → List ℤ → List ℕ → JobOutcome (List Model)
report_outcome report job w s room = outcome_if (report_fits report w s room) (job_outcome job)

-- "touching nothing"; else the work area and the scratch are as after any check
unfoldable pub report_work : Report → List ℕ → List ℤ → List ℤ → List ℕ → List ℤ
report_work report job w s room = work_if (report_fits report w s room) (job_outcome job) w

unfoldable pub report_scratch : Report → List ℤ → List ℤ → List ℕ → List ℤ
report_scratch report w s room = scratch_if (report_fits report w s room) s

-- bytes behind the 32 records stay
unfoldable pub room_after : Report → List ℕ → List ℤ → List ℤ → List ℕ → List ℕ
room_after report job w s room =
    cond (report_fits report w s room) (room_with report (job_certificates job) ++ drop (room_size report) room) room
