-- The room of report records: writing one record, and the records that it holds.
use mathlib.Core.Path.{◌≡◌, ap, ap₂, sym, ◌∙◌}
use mathlib.Core.List.{List, [], ◌∷◌, ◌++◌, append_assoc, append-nil}
use Prim.Native.Nat.{ℕ, suc, ◌+◌, ◌*◌, ◌-◌, ◌≤◌, ◌<◌}
use native.Mathlib.Omega.{arith}
use native.Mathlib.Nat.{mul-le-mul_left}
use lib.ListN.{length, set, take, drop, length-append, replicate-append-replicate}
use lib.Seq.{sets, sets-eq, take_at, drop_at, drop-drop}
use Rattle.certificate.specs.definitions.Tests.{Certificate}
use Rattle.job.specs.definitions.Reading.{max_results}
use Rattle.job.specs.definitions.Reports.{little_endian, record_size, record_with, record_bytes, records_from, zero_bytes, room_size, room_with}
use Rattle.job.specs.definitions.InnerContracts.{written_at, recorded_from}
use Rattle.job.proofs.laws.RecordLaws.{length-records_from, records_from-append, length-zero_bytes, length-room_with}
use Rattle.job.specs.declared.types.Report.{Report}
use Rattle.job.specs.declared.types.Report.TheVariants.{Workshop, Service}

zero_bytes-append : (m n : ℕ) → zero_bytes m ++ zero_bytes n ≡ zero_bytes (m + n)
unfolding zero_bytes
zero_bytes-append m n = replicate-append-replicate m n 0

-- ---- one record

-- bytes stored one after the other from a position on
pub four_stored : (l : List ℕ) (at a b c d : ℕ) → set (set (set (set l at a) (at + 1) b) (at + 2) c) (at + 3) d ≡ sets l at (a ∷ b ∷ c ∷ d ∷ [])
four_stored l at a b c d =
    let e : at + 1 ≡ suc at = omega arith in
    let f : at + 2 ≡ suc (suc at) = omega arith in
    let g : at + 3 ≡ suc (suc (suc at)) = omega arith in
    λ k. set (set (set (set l at a) (e k) b) (f k) c) (g k) d

-- number and degree, then the fields, of four bytes each
module _ (l : List ℕ) (at i degree : ℕ) where
  abbrev two : List ℕ
  two = set (set l at i) (at + 1) degree

  e1 : at + 1 ≡ suc at
  e1 = omega arith

  e2 : at + 2 ≡ suc (suc at)
  e2 = omega arith

  pub workshop_stored : (r : ℕ) {l₁ : List ℕ} → l₁ ≡ sets two (at + 2) (little_endian r) → l₁ ≡ sets l at (record_with Workshop i degree 0 0 0 r)
  workshop_stored r p = p ∙ (λ k. sets (set (set l at i) (e1 k) degree) (e2 k) (little_endian r))

  pub service_stored : (m n b r : ℕ) {l₁ l₂ l₃ l₄ : List ℕ} → l₁ ≡ sets two (at + 2) (little_endian m) → l₂ ≡ sets l₁ (at + 6) (little_endian n)
      → l₃ ≡ sets l₂ (at + 10) (little_endian b) → l₄ ≡ sets l₃ (at + 14) (little_endian r)
      → l₄ ≡ sets l at (record_with Service i degree m n b r)
  service_stored m n b r p q s t =
      let e6 : at + 6 ≡ suc (suc (suc (suc (suc (suc at))))) = omega arith in
      let e10 : at + 10 ≡ suc (suc (suc (suc (suc (suc (suc (suc (suc (suc at))))))))) = omega arith in
      let e14 : at + 14 ≡ suc (suc (suc (suc (suc (suc (suc (suc (suc (suc (suc (suc (suc (suc at))))))))))))) = omega arith in
      t ∙ ap (λ (x : List ℕ). sets x (at + 14) (little_endian r)) (s ∙ ap (λ (x : List ℕ). sets x (at + 10) (little_endian b))
      (q ∙ ap (λ (x : List ℕ). sets x (at + 6) (little_endian n)) p))
      ∙ (λ k. sets (sets (sets (sets (set (set l at i) (e1 k) degree) (e2 k) (little_endian m)) (e6 k) (little_endian n)) (e10 k) (little_endian b)) (e14 k) (little_endian r))

-- what is left then
pub stored_between : (bytes l : List ℕ) (at : ℕ) → at + length bytes ≤ length l → sets l at bytes ≡ take at l ++ (bytes ++ drop (at + length bytes) l)
stored_between bytes l at h = sets-eq bytes l at h ∙ append_assoc (take at l) bytes _

-- ---- the records that a room holds

module _ (report : Report) where
  abbrev size : ℕ
  size = record_size report

  drop-zero_bytes : (n k : ℕ) (t : List ℕ) → k ≤ n → drop k (zero_bytes n ++ t) ≡ zero_bytes (n - k) ++ t
  drop-zero_bytes n k t h =
      let e : n ≡ k + (n - k) = omega arith in
      ap (λ (j : ℕ). drop k (zero_bytes j ++ t)) e
      ∙ ap (λ (l : List ℕ). drop k (l ++ t)) (sym (zero_bytes-append k (n - k)))
      ∙ ap (λ (l : List ℕ). drop k l) (append_assoc (zero_bytes k) (zero_bytes (n - k)) t)
      ∙ drop_at (zero_bytes k) (zero_bytes (n - k) ++ t) k (length-zero_bytes k)

  -- the numbers of the places
  space : (n : ℕ) → n < max_results → size ≤ room_size report - size * n
  space n few = let p : size * (n + 1) ≤ size * max_results = mul-le-mul_left size (omega arith) in omega (arith, p)

  rest : (n k : ℕ) → k ≡ n + 1 → room_size report - size * n - size ≡ room_size report - size * k
  rest n k e = rw e (omega arith)

  -- the record of the next result written
  written_holds : (cs : List Certificate) (c : Certificate) (room t : List ℕ) → length cs < max_results → room ≡ room_with report cs ++ t
      → written_at report room (length cs) (record_bytes report (length cs) c) ≡ room_with report (cs ++ (c ∷ [])) ++ t
  unfolding room_with
  written_holds cs c room t few e =
      let n : ℕ = length cs in
      let a : ℕ = size * n in
      let front : List ℕ = records_from report 0 cs in
      let new : List ℕ = record_bytes report n c in
      let z : List ℕ = zero_bytes (room_size report - a) in
      let la : length front ≡ a = length-records_from report 0 cs in
      let is : room ≡ front ++ (z ++ t) = e ∙ append_assoc front z t in
      let ln : length (cs ++ (c ∷ [])) ≡ n + 1 = length-append cs (c ∷ []) in
      let left : room_size report - a - size ≡ room_size report - size * length (cs ++ (c ∷ [])) = rest n (length (cs ++ (c ∷ []))) ln in
      let l1 : take a room ≡ front = ap (λ (l : List ℕ). take a l) is ∙ take_at front (z ++ t) a la in
      let l2 : drop (a + size) room ≡ zero_bytes (room_size report - size * length (cs ++ (c ∷ []))) ++ t =
      ap (λ (l : List ℕ). drop (a + size) l) is
      ∙ sym (drop-drop size a (front ++ (z ++ t)))
      ∙ ap (λ (l : List ℕ). drop size l) (drop_at front (z ++ t) a la)
      ∙ drop-zero_bytes (room_size report - a) size t (space n few)
      ∙ ap (λ (k : ℕ). zero_bytes k ++ t) left in
      let zero_plus : 0 + length cs ≡ length cs = omega arith in
      ap₂ (λ (x y : List ℕ). x ++ (new ++ y)) l1 l2
      ∙ sym (append_assoc front new _)
      ∙ ap (λ (l : List ℕ). l ++ (zero_bytes (room_size report - size * length (cs ++ (c ∷ []))) ++ t)) (sym (records_from-append report 0 cs c ∙ ap (λ (k : ℕ). front ++ record_bytes report k c) zero_plus))
      ∙ sym (append_assoc (records_from report 0 (cs ++ (c ∷ []))) _ t)

  -- the bytes behind
  pub room_behind : (cs : List Certificate) (room t : List ℕ) → length cs ≤ max_results → room ≡ room_with report cs ++ t → drop (room_size report) room ≡ t
  room_behind cs room t few e =
      ap (λ (l : List ℕ). drop (room_size report) l) e ∙ drop_at (room_with report cs) t (room_size report) (length-room_with report cs few)

  -- the records of the next results
  pub recorded_holds : (new cs : List Certificate) (i : ℕ) (room t : List ℕ) → i ≡ length cs → length cs + length new ≤ max_results
      → room ≡ room_with report cs ++ t → recorded_from report room i new ≡ room_with report (cs ++ new) ++ t
  unfolding recorded_from
  recorded_holds [] cs i room t n few e = e ∙ ap (λ (l : List Certificate). room_with report l ++ t) (sym (append-nil cs))
  recorded_holds (c ∷ new) cs i room t n few e =
      let w : written_at report room i (record_bytes report i c) ≡ room_with report (cs ++ (c ∷ [])) ++ t =
      ap (λ (k : ℕ). written_at report room k (record_bytes report k c)) n ∙ written_holds cs c room t (omega arith) e in
      recorded_holds new (cs ++ (c ∷ [])) (i + 1) _ t (omega (arith, length-append cs (c ∷ []))) (omega (arith, length-append cs (c ∷ []))) w
      ∙ ap (λ (l : List Certificate). room_with report l ++ t) (append_assoc cs (c ∷ []) new)
