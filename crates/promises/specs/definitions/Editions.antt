-- 02, S-27: what 255 and 0xFF mean, and the conversion of a job to the other edition.
use Rattle.std.specs.Prelude.{◌≡◌, List, ◌∷◌, ◌⊎◌, ℕ, ◌+◌, ◌≤◌, ◌<◌, max, length, set, take, drop, replicate}
use Rattle.model.specs.definitions.Multiply.{multiplication}
use Rattle.model.specs.declared.types.Model.{Model}
use Rattle.job.specs.definitions.Bytes.{byte_at}
use Rattle.job.specs.definitions.Decode.{kept_in, shape_of, maker_at}
use Rattle.job.specs.definitions.Operations.{multiply, result_at, operation}
use Rattle.job.specs.definitions.Outcomes.{accepted, refused, result_count, refused_command}
use Rattle.job.specs.definitions.Reader.{ill, job_reading, ReadsWell}
use Rattle.job.specs.definitions.Run.{job_outcome}
use Rattle.job.specs.declared.types.Kind.TheVariants.{Result}
use Rattle.job.specs.declared.types.Operation.TheVariants.{Multiply}
use Rattle.survey.specs.definitions.Editions.{converted, StandsAt, StatedFrom, ConvertedJob, edition_conversion, output_after}

-- ---- the kinder default

pub record KinderDefault : Type 0 where
  -- "in the library 255, means the larger degree of the two factors", whatever the models; what 255 meant: FormerNumbers
  pub larger_kept : (a b : Model) → multiplication 255 a b ≡ multiplication (max a.degree b.degree) a b
  -- "In edition 2 the multiply byte 0xFF … means the larger degree of the two factors. Edition 1 keeps 32."; any other byte
  -- stands for itself
  pub open_in_1 : (n m : ℕ) → kept_in 1 0xFF n m ≡ 32
  pub open_in_2 : (n m : ℕ) → kept_in 2 0xFF n m ≡ max n m
  pub stated_in : (e d n m : ℕ) → ¬ (d ≡ 0xFF) → kept_in e d n m ≡ d
  -- a multiply command gives what it gives with that degree stated: the factors are results of the job, e its second byte
  pub multiply_stands_for : (job : List ℕ) (at : ℕ) (rs : List Model)
      → let i = byte_at job (at + 1) in
      let j = byte_at job (at + 2) in
      operation (maker_at Multiply job at) rs
      ≡ operation (multiply i j (kept_in (byte_at job 1) (byte_at job (at + 3)) (result_at rs i).degree (result_at rs j).degree)) rs
  -- "The edition check under 9 admits 1 and 2."
  pub edition_known : (job : List ℕ) → ReadsWell job → (byte_at job 1 ≡ 1) ⊎ (byte_at job 1 ≡ 2)
  pub edition_refused : (e : ℕ) (behind : List ℕ) → ¬ (e ≡ 1) → ¬ (e ≡ 2) → job_outcome (0x01 ∷ e ∷ behind) ≡ refused 9 0

-- ---- the converter

pub record Conversions : Type 0 where
  -- "Source and converted job have equal results, refusals of operations included.": with their commands
  pub converted_same : (job : List ℕ) → ReadsWell job → job_outcome (converted job) ≡ job_outcome job
  -- "the edition byte changes"
  pub from_1_to_2 : (job : List ℕ) → ReadsWell job → byte_at job 1 ≡ 1 → byte_at (converted job) 1 ≡ 2
  pub from_2_to_1 : (job : List ℕ) → ReadsWell job → byte_at job 1 ≡ 2 → byte_at (converted job) 1 ≡ 1
  pub converted_reads : (job : List ℕ) → ReadsWell job → ReadsWell (converted job)
  pub converted-length : (job : List ℕ) → length (converted job) ≡ length job
  -- "all else is copied": byte i, unless it is the edition's, or the kept degree of a multiply command and 0xFF
  pub all_else_copied : (job : List ℕ) → ReadsWell job → (i : ℕ) → ¬ (i ≡ 1)
      → ((at : ℕ) → StandsAt job at → (shape_of (byte_at job at)).kind ≡ Result Multiply → i ≡ at + 3 → ¬ (byte_at job i ≡ 0xFF))
      → byte_at (converted job) i ≡ byte_at job i
  -- "0xFF is replaced": none is left as a kept degree
  pub converted_stated : (job : List ℕ) → ReadsWell job → StatedFrom (length job + 1) (converted job) 0
  -- what is converted twice is the first conversion's job but for its edition byte
  pub converted_twice : (job : List ℕ) → ReadsWell job → converted (converted job) ≡ set (converted job) 1 (byte_at job 1)
  -- "Only jobs that read well are converted; others get the refusal of their reading."
  pub reading_first : (job : List ℕ) (room n k : ℕ) → job_reading job ≡ ill n k → edition_conversion job room ≡ refused n k
  -- "Number 20: the output is too short, after reading."
  pub short_output : (job : List ℕ) (room : ℕ) → ReadsWell job → room < length job → edition_conversion job room ≡ refused 20 0
  -- "the length is answered"
  pub length_answered : (job : List ℕ) (room : ℕ) → ReadsWell job → length job ≤ room
      → edition_conversion job room ≡ accepted (length job)
  -- "After any refusal, 20 included, the whole output is zero."
  pub refused_zero : (job out : List ℕ) (n k : ℕ) → edition_conversion job (length out) ≡ refused n k
      → output_after job out ≡ replicate (length out) 0
  -- "bytes behind stay"
  pub behind_stays : (job out : List ℕ) (n : ℕ) → edition_conversion job (length out) ≡ accepted n
      → (take n (output_after job out) ≡ converted job) × (drop n (output_after job out) ≡ drop n out)
  -- the length and the command fit their fields
  pub job_length : (job : List ℕ) → ReadsWell job → length job ≤ 8488
  pub numbers_fit : (job : List ℕ) (room : ℕ)
      → (result_count (edition_conversion job room) ≤ 8488) × (refused_command (edition_conversion job room) ≤ 33)
  -- what the contract of the entry promises of the bytes that a caller then holds, in so many words
  pub contract_says : (job other : List ℕ) → ConvertedJob job other
      → (job_outcome other ≡ job_outcome job) × ReadsWell other × (length other ≡ length job)
      × ((byte_at job 1 ≡ 1 → byte_at other 1 ≡ 2) × (byte_at job 1 ≡ 2 → byte_at other 1 ≡ 1))
      × StatedFrom (length other + 1) other 0
      × ((i : ℕ) → ¬ (i ≡ 1)
      → ((at : ℕ) → StandsAt job at → (shape_of (byte_at job at)).kind ≡ Result Multiply → i ≡ at + 3 → ¬ (byte_at job i ≡ 0xFF))
      → byte_at other i ≡ byte_at job i)
