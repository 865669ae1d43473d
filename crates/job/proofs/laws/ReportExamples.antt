-- Closed reports: records of which every byte is another one, a job of 0 results, a refused one, and two jobs that show that equal
-- count is needed.
use Rattle.std.specs.Prelude.{◌≡◌, refl, true, ℕ, ℤ}
use Rattle.std.proofs.Common.{ap, ◌∙◌}
use mathlib.Core.List.{List, [], ◌∷◌, ◌++◌}
use Rattle.std.proofs.Math.ListN.{drop}
use Rattle.chebyshev.specs.definitions.Coefficients.{weight}
use Rattle.model.specs.definitions.Intervals.{good_ends}
use Rattle.model.specs.definitions.Models.{standard_model, parts_within_limits, good}
use Rattle.model.specs.definitions.Outcomes.{passing}
use Rattle.model.specs.declared.types.Model.{Model}
use Rattle.certificate.specs.definitions.Tests.{Certificate, make_certificate}
use Rattle.job.specs.definitions.Bytes.{signeds_at}
use Rattle.job.specs.definitions.Decode.{maker_at}
use Rattle.job.specs.definitions.Operations.{maker_places, operation, untested}
use Rattle.job.specs.definitions.Reading.{reading_places}
use Rattle.job.specs.definitions.Reader.{read_from, job_reading}
use Rattle.job.specs.definitions.Step.{command}
use Rattle.job.specs.definitions.Outcomes.{JobOutcome, accepted, refused}
use Rattle.job.specs.definitions.Run.{run, job_outcome}
use Rattle.job.specs.definitions.Reports.{record_bytes, records_from, zero_bytes, room_size, room_with, job_certificates, report_fits, report_outcome, room_after}
use Rattle.job.specs.declared.types.Report.{Report}
use Rattle.job.specs.declared.types.Report.TheVariants.{Empty, Workshop, Service}
use Rattle.job.proofs.laws.RecordLaws.{room_empty}
use Rattle.job.proofs.laws.ExampleBytes.{job, load_bytes, model_by, one}

-- m = 0x000A0B0C, N = 0x0E0F1011, b = 0x01121314, radius = 0x01151617
pub service_record :
    record_bytes Service 3 (make_certificate (standard_model 5 [] 18159127) 658188 235868177 17961748)
    ≡ (3 ∷ 5 ∷ 0x0C ∷ 0x0B ∷ 0x0A ∷ 0 ∷ 0x11 ∷ 0x10 ∷ 0x0F ∷ 0x0E ∷ 0x14 ∷ 0x13 ∷ 0x12 ∷ 0x01 ∷ 0x17 ∷ 0x16 ∷ 0x15 ∷ 0x01 ∷ [])
service_record = refl

pub workshop_record :
    record_bytes Workshop 3 (make_certificate (standard_model 5 [] 18159127) 658188 235868177 17961748) ≡ (3 ∷ 5 ∷ 0x17 ∷ 0x16 ∷ 0x15 ∷ 0x01 ∷ [])
workshop_record = refl

-- the number is that of the result
pub two_records :
    records_from Workshop 30 (make_certificate (standard_model 5 [] 9) 1 2 3 ∷ make_certificate (standard_model 32 [] 258) 0 0 0 ∷ [])
    ≡ (30 ∷ 5 ∷ 9 ∷ 0 ∷ 0 ∷ 0 ∷ 31 ∷ 32 ∷ 2 ∷ 1 ∷ 0 ∷ 0 ∷ [])
unfolding records_from
two_records = refl

-- ---- whole jobs, over any lent areas that are long enough

-- the shortest job; a load of the zero model; a load of 1, then an unknown byte
abbrev pub empty_job : List ℕ
empty_job = job []

abbrev pub zero_job : List ℕ
zero_job = job (load_bytes 0 [] 0)

abbrev pub bad_job : List ℕ
bad_job = job (one ++ (0x7F ∷ []))

outcomes : (job_outcome empty_job ≡ accepted []) × (job_outcome zero_job ≡ accepted (model_by 0 [] 0 ∷ [])) × (job_outcome bad_job ≡ refused 9 2)
unfolding job_outcome run command operation maker_places reading_places maker_at signeds_at good_ends parts_within_limits good weight passing
outcomes = (refl, refl, refl)

made : (job_certificates empty_job ≡ []) × (job_certificates zero_job ≡ (untested (model_by 0 [] 0) ∷ [])) × (job_certificates bad_job ≡ [])
unfolding job_certificates job_reading read_from job_outcome run command operation maker_places reading_places maker_at signeds_at good_ends parts_within_limits good weight passing
made = (refl, refl, refl)

-- the record of the zero model is zero, all 6 or 18 bytes of it
zero_record : (report : Report) → room_with report (untested (model_by 0 [] 0) ∷ []) ≡ zero_bytes (room_size report)
unfolding room_with records_from zero_bytes
zero_record Empty = refl
zero_record Workshop = refl
zero_record Service = refl

module _ (report : Report) (w s : List ℤ) (room : List ℕ) (fit : report_fits report w s room ≡ true) where
  abbrev Leaves : List ℕ → JobOutcome (List Model) → Type 0
  Leaves bytes o =
      (report_outcome report bytes w s room ≡ o) × (room_after report bytes w s room ≡ zero_bytes (room_size report) ++ drop (room_size report) room)

  zero_left : (bytes : List ℕ) (cs : List Certificate) → job_certificates bytes ≡ cs → room_with report cs ≡ zero_bytes (room_size report)
      → room_after report bytes w s room ≡ zero_bytes (room_size report) ++ drop (room_size report) room
  unfolding room_after
  zero_left bytes cs e z = rw fit (ap (λ (l : List ℕ). l ++ drop (room_size report) room) (ap (room_with report) e ∙ z))

  -- accepted, with 0 results
  pub empty_report : Leaves empty_job (accepted [])
  unfolding report_outcome
  empty_report = (rw fit outcomes.0, zero_left empty_job [] made.0 (room_empty report))

  -- the record that was made is gone
  pub refused_report : Leaves bad_job (refused 9 2)
  unfolding report_outcome
  refused_report = (rw fit outcomes.2, zero_left bad_job [] made.2 (room_empty report))

  -- accepted, with 1 result, and the bytes are those of the job without any: "of equal count" is needed
  pub zero_report : Leaves zero_job (accepted (model_by 0 [] 0 ∷ []))
  unfolding report_outcome
  zero_report = (rw fit outcomes.1, zero_left zero_job _ made.1 (zero_record report))
