-- What the entry of the conversion answers and leaves.
use Rattle.std.specs.Prelude.{◌≡◌, List, ◌++◌, ℕ, ◌≤◌, ◌<◌, length, drop}
use Rattle.std.proofs.Math.Path.{refl, ap}
use Rattle.std.proofs.Common.{sym, ap₂, ◌∙◌, arith, le-leb, length-append, length-drop, drop_at}
use Rattle.std.proofs.lemmas.Bool.{lt-leb}
use Rattle.std.proofs.Math.ListN.{replicate}
use Rattle.job.specs.definitions.Decode.{Command}
use Rattle.job.specs.definitions.Outcomes.{accepted, refused}
use Rattle.job.specs.definitions.Reader.{JobReading, well, ill, job_reading}
use Rattle.survey.specs.definitions.Editions.{converted, edition_conversion, conversion_by, output_by, output_after}
use Rattle.survey.specs.definitions.InnerContracts.{reading_outcome, short_output}

-- ---- what an outcome says of the reading

pub read_well : (j : JobReading) {count : ℕ} → accepted count ≡ reading_outcome j → (cs : List Command) × (j ≡ well cs)
read_well (well cs) e = (cs, refl)
read_well (ill n k) e = let z : ◌≡◌ {A = ℕ} 0 1 = cc e in absurd (omega arith)

pub refused_ill : (j : JobReading) {n k : ℕ} → refused n k ≡ reading_outcome j → j ≡ ill n k
refused_ill (well cs) e = let z : ◌≡◌ {A = ℕ} 0 1 = cc e in absurd (omega arith)
refused_ill (ill m l) {n} {k} e = let x : n ≡ m = cc e in let y : k ≡ l = cc e in ap₂ ill (sym x) (sym y)

-- ---- the answer

module _ (job : List ℕ) where
  pub conversion_short : (room : ℕ) {cs : List Command} → job_reading job ≡ well cs → room < length job → edition_conversion job room ≡ refused 20 0
  unfolding edition_conversion
  conversion_short room e h = ap (conversion_by job room) e ∙ rw (lt-leb (length job) room h) refl

  pub conversion_well : (room : ℕ) {cs : List Command} → job_reading job ≡ well cs → length job ≤ room → edition_conversion job room ≡ accepted (length job)
  unfolding edition_conversion
  conversion_well room e h = ap (conversion_by job room) e ∙ rw (le-leb (length job) room h) refl

  pub conversion_ill : (room : ℕ) {n k : ℕ} → job_reading job ≡ ill n k → edition_conversion job room ≡ refused n k
  unfolding edition_conversion
  conversion_ill room e = ap (conversion_by job room) e

  pub conversion_refused : (room : ℕ) → room < length job → short_output (reading_outcome (job_reading job)) ≡ edition_conversion job room
  conversion_refused room h = by (job_reading job) refl
    where
      by : (j : JobReading) → job_reading job ≡ j → short_output (reading_outcome j) ≡ edition_conversion job room
      by (well cs) e = sym (conversion_short room e h)
      by (ill n k) e = sym (conversion_ill room e)

  -- ---- the output

  pub output_well : (out : List ℕ) {cs : List Command} → job_reading job ≡ well cs → length job ≤ length out
      → output_after job out ≡ converted job ++ drop (length job) out
  unfolding output_after
  output_well out e h = ap (output_by job out) (conversion_well (length out) e h)

  pub output_ill : (out : List ℕ) {n k : ℕ} → job_reading job ≡ ill n k → output_after job out ≡ replicate (length out) 0
  unfolding output_after
  output_ill out e = ap (output_by job out) (conversion_ill (length out) e)

  pub output_short : (out : List ℕ) → length out < length job → output_after job out ≡ replicate (length out) 0
  unfolding output_after
  output_short out h = by (job_reading job) refl
    where
      by : (j : JobReading) → job_reading job ≡ j → output_by job out (edition_conversion job (length out)) ≡ replicate (length out) 0
      by (well cs) e = ap (output_by job out) (conversion_short (length out) e h)
      by (ill n k) e = ap (output_by job out) (conversion_ill (length out) e)

-- ---- a prefix that was lent twice

module _ (len : ℕ) (q out : List ℕ) (h : length q ≡ len) where
  pub lent_twice : (p : List ℕ) → p ++ drop len (q ++ drop len out) ≡ p ++ drop len out
  lent_twice p = ap (λ (l : List ℕ). p ++ l) (drop_at q (drop len out) len h)

  pub lent_length : len ≤ length out → length (q ++ drop len out) ≡ length out
  lent_length room = omega (arith, length-append q (drop len out), length-drop len out)
