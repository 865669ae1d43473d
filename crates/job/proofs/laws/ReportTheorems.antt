-- 02, S-30: "Two accepted jobs of equal count give the workshop equal bytes exactly when their results agree in those three, however
-- their candidates differ." Those three are number, degree and radius; the number of a result is its place. For the service the
-- same, with m, N and b: ours, not asked for by 02.
use Rattle.std.specs.Prelude.{◌≡◌, refl, ◌↔◌, ℤ, get_or, drop}
use Rattle.std.proofs.Math.Path.{ap, ap₂, sym}
use Rattle.std.proofs.Common.{subst₂, ◌∙◌, drop_at}
use mathlib.Core.List.{List, [], ◌∷◌, ◌++◌}
use Prim.Native.Nat.{ℕ, zero, suc, ◌+◌, ◌*◌, ◌-◌, ◌^◌, ◌<◌}
use native.Mathlib.Omega.{arith}
use Rattle.std.proofs.Math.ListN.{length, take}
use Rattle.std.proofs.Math.Seq.{take_at}
use Rattle.model.specs.declared.types.Model.{Model}
use Rattle.certificate.specs.definitions.Tests.{Certificate, zero_certificate}
use Rattle.certificate.specs.definitions.Promise.{NumbersFit}
use Rattle.job.specs.definitions.Bytes.{unsigned_at}
use Rattle.job.specs.definitions.Operations.{result_at}
use Rattle.job.specs.definitions.Outcomes.{accepted}
use Rattle.job.specs.definitions.Reports.{little_endian, record_size, record_bytes, records_from, zero_bytes, room_size, room_with, job_certificates, certificate_of, report_outcome, room_after}
use Rattle.job.specs.declared.types.Report.{Report}
use Rattle.job.specs.declared.types.Report.TheVariants.{Workshop, Service}
use Rattle.job.proofs.laws.RecordLaws.{little_endian_read, length-record_bytes, length-records_from}
use Rattle.job.proofs.laws.RoomLaws.{certificates_many, report_ran, room_front}
use Rattle.job.proofs.laws.RecordNumbers.{certificate_made, job_numbers}

-- ---- records of equal size, one by one

module _ (report : Report) where
  abbrev EachSame : ℕ → List Certificate → List Certificate → Type 0
  EachSame k cs ds =
      (i : ℕ) → i < length cs → record_bytes report (k + i) (get_or cs i zero_certificate) ≡ record_bytes report (k + i) (get_or ds i zero_certificate)

  abbrev Says : ℕ → List Certificate → List Certificate → Type 0
  Says k cs ds = (records_from report k cs ≡ records_from report k ds) ↔ EachSame k cs ds

  records_each : (k : ℕ) (cs ds : List Certificate) → length cs ≡ length ds → Says k cs ds
  unfolding records_from
  records_each k [] [] n = (λ e i h. absurd (omega arith), λ f. refl)
  records_each k [] (d ∷ ds) n = absurd (omega arith)
  records_each k (c ∷ cs) [] n = absurd (omega arith)
  records_each k (c ∷ cs) (d ∷ ds) n = let rest = records_each (k + 1) cs ds (omega arith) in (into rest, back rest)
    where
      zero_plus : (j : ℕ) → j + 0 ≡ j
      zero_plus j = omega arith

      next : (j i : ℕ) → j + 1 + i ≡ j + suc i
      next j i = omega arith

      into : Says (k + 1) cs ds → records_from report k (c ∷ cs) ≡ records_from report k (d ∷ ds) → EachSame k (c ∷ cs) (d ∷ ds)
      into rest e zero h =
          let first : record_bytes report k c ≡ record_bytes report k d =
          sym (take_at (record_bytes report k c) _ (record_size report) (length-record_bytes report k c))
          ∙ ap (take (record_size report)) e
          ∙ take_at (record_bytes report k d) _ (record_size report) (length-record_bytes report k d) in
          rw (zero_plus k) first
      into rest e (suc i) h =
          let behind : records_from report (k + 1) cs ≡ records_from report (k + 1) ds =
          sym (drop_at (record_bytes report k c) _ (record_size report) (length-record_bytes report k c))
          ∙ ap (drop (record_size report)) e
          ∙ drop_at (record_bytes report k d) _ (record_size report) (length-record_bytes report k d) in
          rw (sym (next k i)) (rest.0 behind i (omega arith))

      back : Says (k + 1) cs ds → EachSame k (c ∷ cs) (d ∷ ds) → records_from report k (c ∷ cs) ≡ records_from report k (d ∷ ds)
      back rest f =
          let first : record_bytes report k c ≡ record_bytes report k d = rw (zero_plus k) at (f 0 (omega arith)) in
          let later : EachSame (k + 1) cs ds = λ i h. rw (next k i) (f (suc i) (omega arith)) in
          ap₂ (λ (x y : List ℕ). x ++ y) first (rest.1 later)

-- ---- the rooms

module _ (report : Report) (cs ds : List Certificate) (n : length cs ≡ length ds) where
  room_same : records_from report 0 cs ≡ records_from report 0 ds → room_with report cs ≡ room_with report ds
  unfolding room_with
  room_same e = ap₂ (λ (l : List ℕ) (k : ℕ). l ++ zero_bytes (room_size report - record_size report * k)) e n

  records_same : room_with report cs ≡ room_with report ds → records_from report 0 cs ≡ records_from report 0 ds
  unfolding room_with
  records_same e =
      let a : ℕ = record_size report * length cs in
      let a' : length (records_from report 0 ds) ≡ a = length-records_from report 0 ds ∙ ap (λ (k : ℕ). record_size report * k) (sym n) in
      sym (take_at (records_from report 0 cs) _ a (length-records_from report 0 cs))
      ∙ ap (λ (l : List ℕ). take a l) e
      ∙ take_at (records_from report 0 ds) _ a a'

-- ---- two accepted jobs of equal count, over the rooms as left, whatever they and the areas held before

module _ (report : Report) (job job' : List ℕ) (w s w' s' : List ℤ) (room room' : List ℕ) (rs rs' : List Model)
    (e : report_outcome report job w s room ≡ accepted rs) (e' : report_outcome report job' w' s' room' ≡ accepted rs')
    (n : length rs ≡ length rs') where
  pub rooms_each :
      (take (room_size report) (room_after report job w s room) ≡ take (room_size report) (room_after report job' w' s' room'))
      ↔ ((i : ℕ) → i < length rs → record_bytes report i (certificate_of job i) ≡ record_bytes report i (certificate_of job' i))
  rooms_each =
      let front = room_front report job w s room rs e in
      let front' = room_front report job' w' s' room' rs' e' in
      let cs = job_certificates job in
      let ds = job_certificates job' in
      let count : length cs ≡ length rs = certificates_many job rs (report_ran report job w s room rs e) in
      let m : length cs ≡ length ds = count ∙ n ∙ sym (certificates_many job' rs' (report_ran report job' w' s' room' rs' e')) in
      let each = records_each report 0 cs ds m in
      let plus : (i : ℕ) → 0 + i ≡ i = λ i. omega arith in (
        λ same i h.
            rw (plus i) at (each.0 (records_same report cs ds m (sym front ∙ same ∙ front')) i (omega (arith, count))),
        λ f. front ∙ room_same report cs ds m (each.1 (λ i h. rw (plus i) (f i (omega (arith, count))))) ∙ sym front',
      )

-- ---- what the bytes of a record say

module _ (i : ℕ) (c d : Certificate) (f : NumbersFit c) (g : NumbersFit d) where
  -- a number that is read back from its field
  field : (at n k : ℕ) → n < 2 ^ 32 → k < 2 ^ 32 → (l l' : List ℕ) → l ≡ l' → unsigned_at l at ≡ unsigned_at (little_endian n) 0
      → unsigned_at l' at ≡ unsigned_at (little_endian k) 0 → n ≡ k
  field at n k h h' l l' e p q =
      sym (little_endian_read n h) ∙ sym p ∙ ap (λ (x : List ℕ). unsigned_at x at) e ∙ q ∙ little_endian_read k h'

  pub workshop_says : (record_bytes Workshop i c ≡ record_bytes Workshop i d)
      ↔ ((c.model.degree ≡ d.model.degree) × (c.model.radius ≡ d.model.radius))
  workshop_says = (
    λ e. (
      ap (λ (l : List ℕ). get_or l 1 0) e,
      field 2 c.model.radius d.model.radius (omega (arith, f.radius)) (omega (arith, g.radius)) _ _ e refl refl,
    ),
    λ s k. i ∷ s.0 k ∷ little_endian (s.1 k),
  )

  pub service_says : (record_bytes Service i c ≡ record_bytes Service i d)
      ↔ ((c.model.degree ≡ d.model.degree) × (c.m ≡ d.m) × (c.N ≡ d.N) × (c.b ≡ d.b) × (c.model.radius ≡ d.model.radius))
  service_says = (
    λ e. (
      ap (λ (l : List ℕ). get_or l 1 0) e,
      field 2 c.m d.m (omega (arith, f.contraction)) (omega (arith, g.contraction)) _ _ e refl refl,
      field 6 c.N d.N (omega (arith, f.residual)) (omega (arith, g.residual)) _ _ e refl refl,
      field 10 c.b d.b (omega (arith, f.displacement, f.radius)) (omega (arith, g.displacement, g.radius)) _ _ e refl refl,
      field 14 c.model.radius d.model.radius (omega (arith, f.radius)) (omega (arith, g.radius)) _ _ e refl refl,
    ),
    λ s k. i ∷ s.0 k ∷ (little_endian (s.1 k) ++ (little_endian (s.2 k) ++ (little_endian (s.3 k) ++ little_endian (s.4 k)))),
  )

-- ---- the two theorems

module _ (job job' : List ℕ) (w s w' s' : List ℤ) (room room' : List ℕ) (rs rs' : List Model) where
  module _ (e : report_outcome Workshop job w s room ≡ accepted rs) (e' : report_outcome Workshop job' w' s' room' ≡ accepted rs')
      (n : length rs ≡ length rs') where
    workshop_each : (i : ℕ) → i < length rs → (record_bytes Workshop i (certificate_of job i) ≡ record_bytes Workshop i (certificate_of job' i))
        ↔ (((result_at rs i).degree ≡ (result_at rs' i).degree) × ((result_at rs i).radius ≡ (result_at rs' i).radius))
    workshop_each i h =
        let o = report_ran Workshop job w s room rs e in
        let o' = report_ran Workshop job' w' s' room' rs' e' in
        let c = certificate_of job i in
        let d = certificate_of job' i in
        let m : c.model ≡ result_at rs i = (certificate_made job rs o i h).model in
        let m' : d.model ≡ result_at rs' i = (certificate_made job' rs' o' i (omega arith)).model in
        subst₂ (λ (x y : Model). (record_bytes Workshop i c ≡ record_bytes Workshop i d) ↔ ((x.degree ≡ y.degree) × (x.radius ≡ y.radius)))
        m m' (workshop_says i c d (job_numbers job rs o i h) (job_numbers job' rs' o' i (omega arith)))

    pub workshop_exactly :
        (take (room_size Workshop) (room_after Workshop job w s room) ≡ take (room_size Workshop) (room_after Workshop job' w' s' room'))
        ↔ ((i : ℕ) → i < length rs
        → ((result_at rs i).degree ≡ (result_at rs' i).degree) × ((result_at rs i).radius ≡ (result_at rs' i).radius))
    workshop_exactly =
        let each = rooms_each Workshop job job' w s w' s' room room' rs rs' e e' n in
        (λ same i h. (workshop_each i h).0 (each.0 same i h), λ agree. each.1 (λ i h. (workshop_each i h).1 (agree i h)))

  module _ (e : report_outcome Service job w s room ≡ accepted rs) (e' : report_outcome Service job' w' s' room' ≡ accepted rs')
      (n : length rs ≡ length rs') where
    service_each : (i : ℕ) → i < length rs → let c = certificate_of job i in let d = certificate_of job' i in
        (record_bytes Service i c ≡ record_bytes Service i d)
        ↔ (((result_at rs i).degree ≡ (result_at rs' i).degree) × (c.m ≡ d.m) × (c.N ≡ d.N) × (c.b ≡ d.b)
        × ((result_at rs i).radius ≡ (result_at rs' i).radius))
    service_each i h =
        let o = report_ran Service job w s room rs e in
        let o' = report_ran Service job' w' s' room' rs' e' in
        let c = certificate_of job i in
        let d = certificate_of job' i in
        let m : c.model ≡ result_at rs i = (certificate_made job rs o i h).model in
        let m' : d.model ≡ result_at rs' i = (certificate_made job' rs' o' i (omega arith)).model in
        subst₂ (λ (x y : Model). (record_bytes Service i c ≡ record_bytes Service i d)
        ↔ ((x.degree ≡ y.degree) × (c.m ≡ d.m) × (c.N ≡ d.N) × (c.b ≡ d.b) × (x.radius ≡ y.radius)))
        m m' (service_says i c d (job_numbers job rs o i h) (job_numbers job' rs' o' i (omega arith)))

    pub service_exactly :
        (take (room_size Service) (room_after Service job w s room) ≡ take (room_size Service) (room_after Service job' w' s' room'))
        ↔ ((i : ℕ) → i < length rs → let c = certificate_of job i in let d = certificate_of job' i in
        ((result_at rs i).degree ≡ (result_at rs' i).degree) × (c.m ≡ d.m) × (c.N ≡ d.N) × (c.b ≡ d.b)
        × ((result_at rs i).radius ≡ (result_at rs' i).radius))
    service_exactly =
        let each = rooms_each Service job job' w s w' s' room room' rs rs' e e' n in
        (λ same i h. (service_each i h).0 (each.0 same i h), λ agree. each.1 (λ i h. (service_each i h).1 (agree i h)))
