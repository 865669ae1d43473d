-- What a caller holds after an accepted conversion.
use Rattle.std.specs.Prelude.{◌≡◌, refl, Bool, true, false, cond, List, ℕ, leb, length, take, drop, replicate}
use Rattle.std.proofs.Common.{sym, ap, subst, ◌∙◌, arith, take_at, drop_at}
use Rattle.job.specs.definitions.Outcomes.{JobOutcome, accepted, refused}
use Rattle.job.specs.definitions.Reader.{JobReading, well, ill, job_reading, ReadsWell}
use Rattle.survey.specs.definitions.Editions.{converted, ConvertedJob, conversion_by, edition_conversion, output_by, output_after}
use Rattle.survey.proofs.laws.ConvertedCopied.{converted_copied}
use Rattle.survey.proofs.laws.ConvertedReads.{converted_reads}
use Rattle.survey.proofs.laws.ConvertedSame.{converted_same}
use Rattle.survey.proofs.laws.ConvertedTwice.{converted-length, converted_edition, converted_stated}

pub converted_job : (job : List ℕ) → ReadsWell job → ConvertedJob job (converted job)
converted_job job r = record {
  same_outcome = converted_same job r.1;
  other_edition_lem = converted_edition job r;
  reads_well = converted_reads job r;
  as_long = converted-length job;
  stated = converted_stated job r;
  all_else_copied = converted_copied job r;
}

refused_not : {m k n : ℕ} → ¬ (◌≡◌ {A = JobOutcome ℕ} (refused m k) (accepted n))
refused_not e = let z : ◌≡◌ {A = ℕ} 0 1 = cc e in absurd (omega arith)

-- a job that is converted reads well, and its length is answered
pub accepted_reads : (job : List ℕ) (room n : ℕ) → edition_conversion job room ≡ accepted n → ReadsWell job × (n ≡ length job)
unfolding edition_conversion
accepted_reads job room n = by (job_reading job) refl
  where
    by : (j : JobReading) → job_reading job ≡ j → conversion_by job room j ≡ accepted n → ReadsWell job × (n ≡ length job)
    by (well cs) e = pick (leb (length job) room)
      where
        pick : (t : Bool) → cond t (accepted (length job)) (refused 20 0) ≡ accepted n → ReadsWell job × (n ≡ length job)
        pick true h = let x : length job ≡ n = cc h in ((cs, e), sym x)
        pick false h = absurd (refused_not h)
    by (ill m k) e = λ h. absurd (refused_not h)

-- the output after a refusal, and after an acceptance
pub refused_zero : (job out : List ℕ) (n k : ℕ) → edition_conversion job (length out) ≡ refused n k → output_after job out ≡ replicate (length out) 0
unfolding output_after
refused_zero job out n k e = ap (output_by job out) e

pub behind_stays : (job out : List ℕ) (n : ℕ) → edition_conversion job (length out) ≡ accepted n
    → (take n (output_after job out) ≡ converted job) × (drop n (output_after job out) ≡ drop n out)
unfolding output_after
behind_stays job out n e =
    let long = (accepted_reads job (length out) n e).1 in
    let l : length (converted job) ≡ n = converted-length job ∙ sym long in (
      ap (λ (o : JobOutcome ℕ). take n (output_by job out o)) e ∙ take_at (converted job) (drop (length job) out) n l,
      ap (λ (o : JobOutcome ℕ). drop n (output_by job out o)) e ∙ drop_at (converted job) (drop (length job) out) n l ∙ ap (λ (i : ℕ). drop i out) (sym long),
    )

-- the first n bytes of the output
pub output_converted : (job out : List ℕ) (n : ℕ) → edition_conversion job (length out) ≡ accepted n → ConvertedJob job (take n (output_after job out))
output_converted job out n e =
    subst (ConvertedJob job) (sym (behind_stays job out n e).0) (converted_job job (accepted_reads job (length out) n e).0)

-- so of a code that answers and leaves what the definitions say
pub output_claim : (job out : List ℕ) {o : JobOutcome ℕ} {left : List ℕ} → o ≡ edition_conversion job (length out) → left ≡ output_after job out
    → (n : ℕ) → o ≡ accepted n → ConvertedJob job (take n left)
output_claim job out e f n h = subst (λ (l : List ℕ). ConvertedJob job (take n l)) (sym f) (output_converted job out n (sym e ∙ h))
