-- The report records of 02, S-30, are kept.
use Rattle.std.specs.Prelude.{◌≡◌, refl, List, ◌∷◌, ◌++◌, ℕ, ◌*◌, ◌<◌, ◌≤◌, ◌^◌, ℤ, length, take, drop}
use Rattle.std.proofs.Common.{ap, sym, subst, ◌∙◌, arith, take_at}
use Rattle.model.specs.definitions.Outcomes.{Outcome, payload}
use Rattle.model.specs.declared.types.Model.{Model}
use Rattle.certificate.specs.definitions.Tests.{Certificate}
use Rattle.job.specs.definitions.Operations.{Maker, quotient, root, operation, result_at}
use Rattle.job.specs.definitions.Decode.{Command, result}
use Rattle.job.specs.definitions.Reader.{job_reading, well, command_for}
use Rattle.job.specs.definitions.Outcomes.{accepted, counted}
use Rattle.job.specs.definitions.Run.{job_outcome}
use Rattle.job.specs.definitions.Reports.{little_endian, record_with, certificate_of, Tested, zero_bytes, room_size, report_outcome, room_after}
use Rattle.job.specs.declared.types.Report.{Report}
use Rattle.job.specs.declared.types.Report.TheVariants.{Workshop, Service}
use Rattle.job.proofs.laws.MakerLaws as makers
use Rattle.job.proofs.laws.RecordLaws as records
use Rattle.job.proofs.laws.RecordNumbers as numbers
use Rattle.job.proofs.laws.ReportExamples as examples
use Rattle.job.proofs.laws.ReportLaws as reports
use Rattle.job.proofs.laws.ReportTheorems as theorems
use Rattle.job.proofs.laws.RoomLaws as rooms
use Rattle.ferruntzo.proofs.laws.ReportLaws as calls
use Rattle.promises.specs.definitions.Reports.{ReportRecords, ReportRooms, ReportsExactly}

-- ---- the records

-- the record of result i, by the result's own degree and radius
module _ (report : Report) (job : List ℕ) (w s : List ℤ) (room : List ℕ) (rs : List Model) (e : report_outcome report job w s room ≡ accepted rs)
    (i : ℕ) (h : i < length rs) where
  model_is : (certificate_of job i).model ≡ result_at rs i
  model_is = (numbers.certificate_made job rs (rooms.report_ran report job w s room rs e) i h).model

service : (job : List ℕ) (w s : List ℤ) (room : List ℕ) (rs : List Model) → report_outcome Service job w s room ≡ accepted rs
    → (i : ℕ) → i < length rs → let c = certificate_of job i in
    take 18 (drop (18 * i) (room_after Service job w s room))
    ≡ (i ∷ (result_at rs i).degree ∷ (little_endian c.m ++ (little_endian c.N ++ (little_endian c.b ++ little_endian (result_at rs i).radius))))
service job w s room rs e i h =
    let c = certificate_of job i in
    rooms.record_stands Service job w s room rs e i h
    ∙ ap (λ (m : Model). record_with Service i m.degree c.m c.N c.b m.radius) (model_is Service job w s room rs e i h)

workshop : (job : List ℕ) (w s : List ℤ) (room : List ℕ) (rs : List Model) → report_outcome Workshop job w s room ≡ accepted rs
    → (i : ℕ) → i < length rs
    → take 6 (drop (6 * i) (room_after Workshop job w s room)) ≡ (i ∷ (result_at rs i).degree ∷ little_endian (result_at rs i).radius)
workshop job w s room rs e i h =
    rooms.record_stands Workshop job w s room rs e i h
    ∙ ap (λ (m : Model). record_with Workshop i m.degree 0 0 0 m.radius) (model_is Workshop job w s room rs e i h)

-- of the command that makes result i
module _ (job : List ℕ) (rs : List Model) (e : job_outcome job ≡ accepted rs) (cs : List Command) (read : job_reading job ≡ well cs) (i : ℕ)
    (maker : Maker) (is : command_for cs i ≡ result maker) where
  answers : operation maker rs ≡ Outcome.accepted (certificate_of job i)
  answers = numbers.certificate_answered job rs e cs read i maker is

  untested : ¬ Tested maker → ((certificate_of job i).m ≡ 0) × ((certificate_of job i).N ≡ 0) × ((certificate_of job i).b ≡ 0)
  untested n =
      subst (λ (o : Outcome Certificate). ((payload o).m ≡ 0) × ((payload o).N ≡ 0) × ((payload o).b ≡ 0)) answers (numbers.untested_numbers rs maker n)

fits : (job : List ℕ) (rs : List Model) → job_outcome job ≡ accepted rs → (i : ℕ) → i < length rs → let c = certificate_of job i in
    (i < 32) × ((result_at rs i).degree ≤ 32) × (c.m < 2 ^ 20) × (c.N ≤ 2 ^ 28) × (c.b ≤ (result_at rs i).radius) × ((result_at rs i).radius ≤ 2 ^ 28)
fits job rs e i h =
    let f = numbers.job_numbers job rs e i h in
    let c = certificate_of job i in
    let few = rooms.certificates_few job in
    subst (λ (m : Model). (i < 32) × (m.degree ≤ 32) × (c.m < 2 ^ 20) × (c.N ≤ 2 ^ 28) × (c.b ≤ m.radius) × (m.radius ≤ 2 ^ 28))
    (numbers.certificate_made job rs e i h).model
    (omega (arith, few, rooms.certificates_many job rs e), f.degree, f.contraction, f.residual, f.displacement, f.radius)

pub records_kept : ReportRecords
records_kept = record {
  service_record = service;
  workshop_record = workshop;
  little_endian_lem = λ n h. sym (records.little_endian_read n h);
  of_its_quotient = λ job rs e cs read i j k h w is.
      sym (makers.quotient_operation j k h w rs) ∙ answers job rs e cs read i (quotient j k h w) is;
  of_its_root = λ job rs e cs read i j rule h w is. sym (makers.root_operation rule j h w rs) ∙ answers job rs e cs read i (root rule j h w) is;
  untested-zero = untested;
  numbers_fit = fits;
}

-- ---- the room

pub rooms_kept : ReportRooms
unfolding zero_bytes
rooms_kept = record {
  room_sizes = (refl, refl);
  short_room = reports.short_room;
  short_untouched = λ report job w s room e.
      let u = reports.short_untouched report job w s room e in (u.outcome, u.work, u.scratch, u.room_left);
  not_made_zero = rooms.not_made_zero;
  refused_zero = λ report job w s room fit n k e.
      ap (take (room_size report)) (reports.refused_room report job w s room fit e)
      ∙ take_at (zero_bytes (room_size report)) _ (room_size report) (records.length-zero_bytes (room_size report));
  behind_stays = rooms.room_behind_stays;
  as_check = λ report job w s room long.
      (reports.report_outcome_lem report job w s room long, reports.report_work_lem report job w s room long, reports.report_scratch_lem report job w s room long);
  call_as_check = calls.report_call;
  call_room = calls.room_call;
  call_short = calls.short_call;
}

-- ---- two jobs

pub exactly_kept : ReportsExactly
exactly_kept = record {
  workshop_exactly = theorems.workshop_exactly;
  service_exactly = theorems.service_exactly;
  count_needed = λ report w s room fit.
      let none = examples.empty_report report w s room fit in
      let zero = examples.zero_report report w s room fit in
      (examples.empty_job, examples.zero_job, ap counted none.0, ap counted zero.0, none.1 ∙ sym zero.1);
}
