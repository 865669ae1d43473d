-- The bytes of report records: their lengths, and the numbers read back from them.
use Rattle.std.specs.Prelude.{◌≡◌, refl}
use Rattle.std.proofs.Math.Path.{ap, sym}
use Rattle.std.proofs.Common.{◌∙◌, mod-lt}
use mathlib.Core.List.{List, [], ◌∷◌, ◌++◌, append_assoc, append-nil}
use Prim.Native.Nat.{ℕ, ◌+◌, ◌*◌, ◌-◌, ◌/◌, ◌^◌, ◌≤◌, ◌<◌}
use native.Mathlib.Omega.{arith}
use Rattle.std.proofs.Math.Nat.{div-add-mod, mul-le-mul_left}
use Rattle.std.proofs.Math.ListN.{length, length-append}
use Rattle.std.proofs.lemmas.List.{length-replicate}
use Rattle.certificate.specs.definitions.Tests.{Certificate}
use Rattle.job.specs.definitions.Bytes.{unsigned_at}
use Rattle.job.specs.definitions.Reports.{little_endian, record_size, record_bytes, records_from, zero_bytes, room_size, room_with}
use Rattle.job.specs.definitions.Reading.{max_results}
use Rattle.job.specs.declared.types.Report.{Report}
use Rattle.job.specs.declared.types.Report.TheVariants.{Empty, Workshop, Service}

-- ---- little-endian: a job's own reading of four bytes gives the number back

pub little_endian_read : (n : ℕ) → n < 2 ^ 32 → unsigned_at (little_endian n) 0 ≡ n
little_endian_read n h =
    let a = div-add-mod n 256 in
    let a' = mod-lt n {m = 256} (omega arith) in
    let b = div-add-mod n 65536 in
    let b' = mod-lt n {m = 65536} (omega arith) in
    let c = div-add-mod n 16777216 in
    let c' = mod-lt n {m = 16777216} (omega arith) in
    let d = div-add-mod (n / 256) 256 in
    let d' = mod-lt (n / 256) {m = 256} (omega arith) in
    let e = div-add-mod (n / 65536) 256 in
    let e' = mod-lt (n / 65536) {m = 256} (omega arith) in
    let f = div-add-mod (n / 16777216) 256 in
    let f' = mod-lt (n / 16777216) {m = 256} (omega arith) in
    let second : n / 65536 ≡ n / 256 / 256 = omega (arith, a, a', b, b', d, d') in
    let third : n / 16777216 ≡ n / 65536 / 256 = omega (arith, b, b', c, c', e, e') in
    let last : n / 16777216 / 256 ≡ 0 = omega (arith, c, c', f, f') in
    omega (arith, a, d, e, f, second, third, last)

-- ---- lengths

pub length-zero_bytes : (n : ℕ) → length (zero_bytes n) ≡ n
unfolding zero_bytes
length-zero_bytes n = length-replicate n 0

module _ (report : Report) where
  pub length-record_bytes : (i : ℕ) (c : Certificate) → length (record_bytes report i c) ≡ record_size report
  length-record_bytes i c = by report
    where
      by : (r : Report) → length (record_bytes r i c) ≡ record_size r
      by Empty = refl
      by Workshop = refl
      by Service = refl

  pub length-records_from : (i : ℕ) (cs : List Certificate) → length (records_from report i cs) ≡ record_size report * length cs
  unfolding records_from
  length-records_from i [] = omega arith
  length-records_from i (c ∷ cs) =
      length-append (record_bytes report i c) (records_from report (i + 1) cs)
      ∙ omega (arith, length-record_bytes i c, length-records_from (i + 1) cs)

  -- one more at the end
  pub records_from-append : (i : ℕ) (cs : List Certificate) (c : Certificate)
      → records_from report i (cs ++ (c ∷ [])) ≡ records_from report i cs ++ record_bytes report (i + length cs) c
  unfolding records_from
  records_from-append i [] c =
      append-nil (record_bytes report i c) ∙ ap (λ (k : ℕ). record_bytes report k c) (omega arith)
  records_from-append i (d ∷ cs) c =
      let e : i + 1 + length cs ≡ i + length (d ∷ cs) = omega arith in
      ap (λ (l : List ℕ). record_bytes report i d ++ l) (records_from-append (i + 1) cs c)
      ∙ sym (append_assoc (record_bytes report i d) (records_from report (i + 1) cs) _)
      ∙ ap (λ (k : ℕ). (record_bytes report i d ++ records_from report (i + 1) cs) ++ record_bytes report k c) e

  -- a room of at most 32 records
  pub length-room_with : (cs : List Certificate) → length cs ≤ max_results → length (room_with report cs) ≡ room_size report
  unfolding room_with
  length-room_with cs few =
      let n : ℕ = record_size report in
      let p : n * length cs ≤ n * max_results = mul-le-mul_left n few in
      length-append (records_from report 0 cs) (zero_bytes (room_size report - n * length cs))
      ∙ omega (arith, p, length-records_from 0 cs, length-zero_bytes (room_size report - n * length cs))

  pub room_empty : room_with report [] ≡ zero_bytes (room_size report)
  unfolding room_with records_from
  room_empty = ap zero_bytes (omega arith)
