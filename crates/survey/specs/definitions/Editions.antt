-- 02, S-27: "A converter takes either edition to the other".
use Rattle.std.specs.Prelude.{◌≡◌, false, cond, List, [], ◌++◌, ℕ, zero, suc, ◌+◌, leb, eqb, length, set, drop, replicate}
use Rattle.model.specs.definitions.Multiply.{kept_degree}
use Rattle.job.specs.definitions.Bytes.{byte_at}
use Rattle.job.specs.definitions.Decode.{edition_of, shape_of, Command, edition, result, finish, unknown, command_at}
use Rattle.job.specs.definitions.Operations.{Maker, load, add, subtract, multiply, quotient, root}
use Rattle.job.specs.definitions.Outcomes.{JobOutcome, accepted, refused}
use Rattle.job.specs.definitions.Reading.{is_end}
use Rattle.job.specs.definitions.Reader.{JobReading, well, ill, job_reading, ReadsWell}
use Rattle.job.specs.definitions.Run.{job_outcome}
use Rattle.job.specs.declared.types.Kind.TheVariants.{Result}
use Rattle.job.specs.declared.types.Operation.TheVariants.{Multiply}
use Rattle.survey.specs.definitions.Degrees.{degree_at, degrees_after}

-- "the edition byte changes": 1 to 2, and 2 to 1
abbrev pub other_edition : ℕ → ℕ
other_edition e = cond (eqb e 1) 2 1

-- "0xFF is replaced by the kept degree it stood for … all else is copied": the bytes s with the command at a position
-- converted, after results of the degrees ds. A maker's d is what the library takes for the byte (`kept_byte`), so that this is
-- `kept_in`; a byte that is not 0xFF stands for itself, and stays.
abbrev pub maker_converted : Maker → ℕ → List ℕ → List ℕ → List ℕ
maker_converted (load m) at ds s = s
maker_converted (add i j) at ds s = s
maker_converted (subtract i j) at ds s = s
maker_converted (multiply i j d) at ds s = set s (at + 3) (kept_degree d (degree_at ds i) (degree_at ds j))
maker_converted (quotient i j h w) at ds s = s
maker_converted (root rule i h w) at ds s = s

abbrev pub command_converted : Command → List ℕ → ℕ → List ℕ → List ℕ → List ℕ
command_converted edition job at ds s = set s (at + 1) (other_edition (byte_at job (at + 1)))
command_converted (result m) job at ds s = maker_converted m at ds s
command_converted finish job at ds s = s
command_converted unknown job at ds s = s

-- the bytes s with the commands of a job from a position on converted. A walk of its own beside `read_from` and `run`: it needs
-- the positions of commands, which the list of commands that reading gives does not have.
unfoldable pub convert_from : ℕ → List ℕ → List ℕ → ℕ → List ℕ → List ℕ
convert_from zero job ds at s = s
convert_from (suc f) job ds at s =
    let shape = shape_of (byte_at job at) in
    let c = command_at shape.kind job at in
    cond (is_end shape.kind) s (convert_from f job (degrees_after c ds) (at + 1 + shape.width) (command_converted c job at ds s))

-- of a job that reads well
unfoldable pub converted : List ℕ → List ℕ
converted job = convert_from (length job + 1) job [] 0 job

-- no multiply command from a position on has the byte 0xFF for its kept degree
unfoldable pub StatedFrom : ℕ → List ℕ → ℕ → Type 0
StatedFrom zero job at = Unit {0}
StatedFrom (suc f) job at =
    let shape = shape_of (byte_at job at) in
    (byte_at job at ≡ 0x13 → ¬ (byte_at job (at + 3) ≡ 0xFF))
    × (is_end shape.kind ≡ false → StatedFrom f job (at + 1 + shape.width))

abbrev pub Stated : List ℕ → Type 0
Stated job = StatedFrom (length job + 1) job 0

-- a command stands at a position
pub data StandsAt (job : List ℕ) : ℕ → Type 0 where
  first : StandsAt job 0
  next : {at : ℕ} → StandsAt job at → StandsAt job (at + 1 + (shape_of (byte_at job at)).width)

-- byte i is the kept degree of a multiply command, and left open
pub record OpenAt (job : List ℕ) (i : ℕ) : Type 0 where
  pub at : ℕ
  pub stands : StandsAt job at
  pub multiplies : (shape_of (byte_at job at)).kind ≡ Result Multiply
  pub place : i ≡ at + 3
  pub left_open : byte_at job i ≡ 0xFF

-- what the converted job has to do with its source: "Source and converted job have equal results, refusals of operations
-- included"; it is of the other edition, reads well, is as long, and states every kept degree; "all else is copied"
pub record ConvertedJob (job other : List ℕ) : Type 0 where
  pub same_outcome : job_outcome other ≡ job_outcome job
  pub other_edition_lem : edition_of other ≡ other_edition (edition_of job)
  pub reads_well : ReadsWell other
  pub as_long : length other ≡ length job
  pub stated : Stated other
  pub all_else_copied : (i : ℕ) → ¬ (i ≡ 1) → ¬ OpenAt job i → byte_at other i ≡ byte_at job i

-- ---- the entry

-- "Only jobs that read well are converted; others get the refusal of their reading"; "Number 20: the output is too short, after
-- reading"; "the length is answered"
abbrev pub conversion_by : List ℕ → ℕ → JobReading → JobOutcome ℕ
conversion_by job room (well cs) = cond (leb (length job) room) (accepted (length job)) (refused 20 0)
conversion_by job room (ill n k) = refused n k

unfoldable pub edition_conversion : List ℕ → ℕ → JobOutcome ℕ
edition_conversion job room = conversion_by job room (job_reading job)

-- "bytes behind stay"; "After any refusal, 20 included, the whole output is zero."
abbrev pub output_by : List ℕ → List ℕ → JobOutcome ℕ → List ℕ
output_by job out (accepted n) = converted job ++ drop (length job) out
output_by job out (refused n k) = replicate (length out) 0

unfoldable pub output_after : List ℕ → List ℕ → List ℕ
output_after job out = output_by job out (edition_conversion job (length out))
