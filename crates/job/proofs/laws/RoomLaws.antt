-- The room as left: where each record of an accepted job stands, that records not made are zero, that bytes behind stay.
use Rattle.std.proofs.Math.Path.{◌≡◌, refl, ap, subst⁻¹}
use Rattle.std.proofs.Common.{sym, ◌∙◌, drop-drop}
use Rattle.std.specs.Prelude.{Bool, ℤ, get_or}
use Rattle.std.proofs.Math.Bool.{true, false}
use mathlib.Core.List.{List, [], ◌∷◌, ◌++◌, append_assoc}
use Prim.Native.Nat.{ℕ, zero, suc, ◌+◌, ◌*◌, ◌-◌, ◌≤◌, ◌<◌}
use native.Mathlib.Omega.{arith}
use Rattle.std.proofs.Math.ListN.{length, take, drop}
use Rattle.std.proofs.lemmas.List.{length-map}
use Rattle.std.proofs.Math.Seq.{take_at, drop_at}
use Rattle.model.specs.declared.types.Model.{Model}
use Rattle.certificate.specs.definitions.Tests.{Certificate, zero_certificate}
use Rattle.job.specs.definitions.Reading.{max_results}
use Rattle.job.specs.definitions.Outcomes.{JobOutcome, accepted, refused}
use Rattle.job.specs.definitions.Run.{job_outcome}
use Rattle.job.specs.definitions.Reports.{record_size, record_bytes, records_from, zero_bytes, room_size, room_with, certificate_by, job_certificates, certificate_of, report_fits, report_outcome, room_after}
use Rattle.job.specs.declared.types.Report.{Report}
use Rattle.job.proofs.laws.OrderLaws.{reaches_bounds, accepted_exactly}
use Rattle.job.proofs.laws.Accepted.{accepted_read}
use Rattle.job.proofs.laws.MadeLaws.{made_length}
use Rattle.job.proofs.laws.RecordLaws.{length-record_bytes, length-records_from, length-room_with}
use Rattle.job.proofs.laws.CertificateLaws.{certificates_accepted, certificates_refused}

-- ---- as many certificates as results

module _ (job : List ℕ) where
  pub certificates_many : (rs : List Model) → job_outcome job ≡ accepted rs → length (job_certificates job) ≡ length rs
  certificates_many rs o =
      let a = accepted_read job rs o in
      ap length (certificates_accepted job a.0 rs a.1 o) ∙ length-map a.0 (certificate_by rs) ∙ made_length a.2

  pub certificates_few : length (job_certificates job) ≤ max_results
  certificates_few = by (job_outcome job) refl
    where
      by : (o : JobOutcome (List Model)) → job_outcome job ≡ o → length (job_certificates job) ≤ max_results
      by (accepted rs) e = omega (arith, certificates_many rs e, (reaches_bounds ((accepted_exactly job rs).0 e).2).results)
      by (refused n k) e = omega (arith, ap length (certificates_refused job e))

-- ---- records in their order

module _ (report : Report) where
  abbrev size : ℕ
  size = record_size report

  record_at : (k : ℕ) (cs : List Certificate) (t : List ℕ) (i : ℕ) → i < length cs
      → take size (drop (size * i) (records_from report k cs ++ t)) ≡ record_bytes report (k + i) (get_or cs i zero_certificate)
  unfolding records_from
  record_at k [] t i h = absurd (omega arith)
  record_at k (c ∷ cs) t zero h =
      let first : List ℕ = record_bytes report k c in
      let none : size * 0 ≡ 0 = omega arith in
      let plus : k + 0 ≡ k = omega arith in
      ap (λ (n : ℕ). take size (drop n ((first ++ records_from report (k + 1) cs) ++ t))) none
      ∙ ap (take size) (append_assoc first (records_from report (k + 1) cs) t)
      ∙ take_at first _ size (length-record_bytes report k c)
      ∙ ap (λ (j : ℕ). record_bytes report j c) (sym plus)
  record_at k (c ∷ cs) t (suc i) h =
      let first : List ℕ = record_bytes report k c in
      let rest : List ℕ = records_from report (k + 1) cs in
      let next : k + 1 + i ≡ k + suc i = omega arith in
      let far : size * suc i ≡ size + size * i = omega arith in
      ap (λ (n : ℕ). take size (drop n ((first ++ rest) ++ t))) far
      ∙ ap (take size) (sym (drop-drop (size * i) size ((first ++ rest) ++ t)))
      ∙ ap (λ (l : List ℕ). take size (drop (size * i) l)) (ap (drop size) (append_assoc first rest t) ∙ drop_at first (rest ++ t) size (length-record_bytes report k c))
      ∙ record_at (k + 1) cs t i (omega arith)
      ∙ ap (λ (j : ℕ). record_bytes report j (get_or cs i zero_certificate)) next

-- ---- over the room as left

module _ (report : Report) (job : List ℕ) (w s : List ℤ) (room : List ℕ) where
  abbrev cs : List Certificate
  cs = job_certificates job

  full : length (room_with report cs) ≡ room_size report
  full = length-room_with report cs (certificates_few job)

  -- bytes behind the 32 records
  pub room_behind_stays : drop (room_size report) (room_after report job w s room) ≡ drop (room_size report) room
  unfolding room_after
  room_behind_stays = by (report_fits report w s room) refl
    where
      by : (t : Bool) → report_fits report w s room ≡ t → drop (room_size report) (room_after report job w s room) ≡ drop (room_size report) room
      by true e = rw e (drop_at (room_with report cs) _ (room_size report) full)
      by false e = rw e

  -- of a job that is accepted
  module _ (rs : List Model) (e : report_outcome report job w s room ≡ accepted rs) where
    accepted_runs : (report_fits report w s room ≡ true) × (job_outcome job ≡ accepted rs)
    unfolding report_outcome
    accepted_runs = by (report_fits report w s room) refl
      where
        by : (t : Bool) → report_fits report w s room ≡ t → (report_fits report w s room ≡ true) × (job_outcome job ≡ accepted rs)
        by true f = (f, rw f at e)
        by false f = let x : refused 1 0 ≡ accepted rs = rw f at e in let z : ◌≡◌ {A = ℕ} 0 1 = cc x in absurd (omega arith)

    pub report_ran : job_outcome job ≡ accepted rs
    report_ran = accepted_runs.1

    pub room_front : take (room_size report) (room_after report job w s room) ≡ room_with report cs
    unfolding room_after
    room_front = rw accepted_runs.0 (take_at (room_with report cs) _ (room_size report) full)

    -- the record of result i
    pub record_stands : (i : ℕ) → i < length rs
        → take (record_size report) (drop (record_size report * i) (room_after report job w s room)) ≡ record_bytes report i (certificate_of job i)
    unfolding room_after room_with
    record_stands i h =
        let plus : 0 + i ≡ i = omega arith in
        rw accepted_runs.0
        (ap (λ (l : List ℕ). take (record_size report) (drop (record_size report * i) l)) (append_assoc (records_from report 0 cs) _ _)
        ∙ record_at report 0 cs _ i (omega (arith, certificates_many job rs accepted_runs.1))
        ∙ ap (λ (j : ℕ). record_bytes report j (certificate_of job i)) plus)

    -- "records not made are zero"
    pub not_made_zero : drop (record_size report * length rs) (take (room_size report) (room_after report job w s room))
        ≡ zero_bytes (room_size report - record_size report * length rs)
    unfolding room_with
    not_made_zero =
        let n : length cs ≡ length rs = certificates_many job rs accepted_runs.1 in
        ap (drop (record_size report * length rs)) room_front
        ∙ subst⁻¹ (λ (k : ℕ). drop (record_size report * k) (room_with report cs) ≡ zero_bytes (room_size report - record_size report * k)) (sym n)
        (drop_at (records_from report 0 cs) _ (record_size report * length cs) (length-records_from report 0 cs))
