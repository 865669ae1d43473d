-- The default and the converter of 02, S-27, are kept.
use Rattle.std.specs.Prelude.{◌≡◌, refl, List, ℕ, ◌+◌}
use Rattle.std.proofs.Common.{ap, ◌∙◌}
use Rattle.model.proofs.laws.MultiplicationLaws as products
use Rattle.job.specs.definitions.Bytes.{byte_at}
use Rattle.job.proofs.laws.EditionLaws as editions
use Rattle.job.specs.definitions.Decode.{shape_of}
use Rattle.job.specs.declared.types.Kind.TheVariants.{Result}
use Rattle.job.specs.declared.types.Operation.TheVariants.{Multiply}
use Rattle.survey.specs.definitions.Editions.{other_edition, StandsAt, OpenAt}
use Rattle.survey.proofs.laws.ConvertedCopied as copied
use Rattle.survey.proofs.laws.ConvertedOutput as outputs
use Rattle.survey.proofs.laws.ConvertedReads as reads
use Rattle.survey.proofs.laws.ConvertedSame as outcomes
use Rattle.survey.proofs.laws.ConvertedTwice as twice
use Rattle.survey.proofs.laws.JobLength as lengths
use Rattle.survey.proofs.laws.OutputLaws as conversions
use Rattle.promises.specs.definitions.Editions.{KinderDefault, Conversions}

pub default_kept : KinderDefault
default_kept = record {
  larger_kept = products.larger_kept;
  open_in_1 = λ n m. refl;
  open_in_2 = λ n m. refl;
  stated_in = editions.stated_in;
  multiply_stands_for = editions.multiply_stands_for;
  edition_known = twice.edition_known;
  edition_refused = editions.edition_refused;
}

-- from the other edition of either
to_2 : {e f : ℕ} → f ≡ other_edition e → e ≡ 1 → f ≡ 2
to_2 o e = o ∙ ap other_edition e

to_1 : {e f : ℕ} → f ≡ other_edition e → e ≡ 2 → f ≡ 1
to_1 o e = o ∙ ap other_edition e

-- a byte that is no open kept degree, in so many words
closed : {job : List ℕ} {i : ℕ}
    → ((at : ℕ) → StandsAt job at → (shape_of (byte_at job at)).kind ≡ Result Multiply → i ≡ at + 3 → ¬ (byte_at job i ≡ 0xFF)) → ¬ OpenAt job i
closed h o = h o.at o.stands o.multiplies o.place o.left_open

pub conversions_kept : Conversions
conversions_kept = record {
  converted_same = λ job r. outcomes.converted_same job r.1;
  from_1_to_2 = λ job r e. to_2 (twice.converted_edition job r) e;
  from_2_to_1 = λ job r e. to_1 (twice.converted_edition job r) e;
  converted_reads = reads.converted_reads;
  converted-length = twice.converted-length;
  all_else_copied = λ job r i b h. copied.converted_copied job r i b (closed h);
  converted_stated = twice.all_stated;
  converted_twice = twice.converted_twice;
  reading_first = λ job room n k e. conversions.conversion_ill job room e;
  short_output = λ job room r h. conversions.conversion_short job room r.1 h;
  length_answered = λ job room r h. conversions.conversion_well job room r.1 h;
  refused_zero = outputs.refused_zero;
  behind_stays = outputs.behind_stays;
  job_length = λ job r. lengths.job_small job r.1;
  numbers_fit = lengths.conversion_small;
  contract_says = λ job other c. (
    c.same_outcome,
    c.reads_well,
    c.as_long,
    (to_2 c.other_edition_lem, to_1 c.other_edition_lem),
    c.stated,
    λ i b h. c.all_else_copied i b (closed h),
  );
}
