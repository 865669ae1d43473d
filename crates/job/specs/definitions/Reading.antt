-- Document 01, "Jobs": reading one command, on the bytes, the position and the count of results alone.
use Rattle.std.specs.Prelude.{Bool, true, false, not, ◌&&◌, ◌||◌, List, [], ◌∷◌, ℕ, ◌+◌, leb, ltb, eqb, length}
use Rattle.std.specs.Prelude.{Result as CodeResult, Ok, Err}
use Rattle.model.specs.definitions.Multiply.{bad_kept}
use Rattle.model.specs.definitions.Outcomes.{passing, number_of}
use Rattle.model.specs.declared.types.Refusal.{Refusal}
use Rattle.job.specs.definitions.Bytes.{byte_at}
use Rattle.job.specs.definitions.Operations.{names_bad}
use Rattle.job.specs.definitions.Decode.{shape_of, Command, edition, result, finish, unknown, command_at}
use Rattle.job.specs.declared.types.Kind.{Kind}
use Rattle.job.specs.declared.types.Kind.TheVariants.{End, Edition, Result, Unknown}
use Rattle.job.specs.declared.types.Names.{Names}
use Rattle.job.specs.declared.types.Names.TheVariants.{Nothing, One, Two}
use Rattle.job.specs.declared.types.OperandValues.{OperandValues}
use Rattle.job.specs.declared.types.OperandValues.TheVariants.{Any, KnownEdition, KeptDegree}
use Rattle.job.specs.declared.types.Shape.{Shape}
use Rattle.job.specs.declared.types.ReadCommand.{ReadCommand}

-- "Results are counted 0 to 31 as they arise."
abbrev pub max_results : ℕ
max_results = 32

-- ---- the conditions of the places of reading

-- "command byte: 9, unknown, no edition first, edition again"; k is the command's number
abbrev pub bad_kind : ℕ → Kind → Bool
bad_kind k End = eqb k 0
bad_kind k Edition = not (eqb k 0)
bad_kind k (Result o) = eqb k 0
bad_kind k Unknown = true

-- "operand values: 9, edition not 1; d from 33 to 254"; 02, S-27: "The edition check under 9 admits 1 and 2."
abbrev pub bad_values : OperandValues → List ℕ → ℕ → Bool
bad_values Any job at = false
bad_values KnownEdition job at = not (eqb (byte_at job (at + 1)) 1) && not (eqb (byte_at job (at + 1)) 2)
bad_values KeptDegree job at = bad_kept (byte_at job (at + 3))

-- "result bytes: 12, not yet a result"
abbrev pub bad_names : Command → ℕ → Bool
bad_names edition count = false
bad_names (result m) count = names_bad m count
bad_names finish count = false
bad_names unknown count = false

-- the same, of the first bytes after a command's byte
abbrev pub bad_bytes : Names → List ℕ → ℕ → ℕ → Bool
bad_bytes Nothing job at count = false
bad_bytes One job at count = leb count (byte_at job (at + 1))
bad_bytes Two job at count = leb count (byte_at job (at + 1)) || leb count (byte_at job (at + 2))

-- the bytes after a command's byte among which those that name results, and those whose values are asked, stand
abbrev pub name_bytes : Names → ℕ
name_bytes Nothing = 0
name_bytes One = 1
name_bytes Two = 2

abbrev pub value_bytes : OperandValues → ℕ
value_bytes Any = 0
value_bytes KnownEdition = 1
value_bytes KeptDegree = 3

-- the commands that make a result
abbrev pub makes_result : Kind → Bool
makes_result End = false
makes_result Edition = false
makes_result (Result o) = true
makes_result Unknown = false

abbrev pub is_end : Kind → Bool
is_end End = true
is_end Edition = false
is_end (Result o) = false
is_end Unknown = false

-- ---- reading command k at a position, with so many results before it

module _ (job : List ℕ) (k count at : ℕ) where
  abbrev pub shape_at : Shape
  shape_at = shape_of (byte_at job at)

  abbrev pub command_read : Command
  command_read = command_at shape_at.kind job at

  abbrev pub next_at : ℕ
  next_at = at + 1 + shape_at.width

  -- the places of 01's table that reading passes through, in their order; a missing command byte is a job that ends
  -- "before an end"
  unfoldable pub reading_places : List (Bool × ℕ)
  reading_places =
      (leb (length job) at, 10)
      ∷ (bad_kind k shape_at.kind, 9)
      ∷ (ltb (length job) next_at, 10)
      ∷ (bad_values shape_at.values job at, 9)
      ∷ (bad_names command_read count, 12)
      ∷ (makes_result shape_at.kind && leb max_results count, 13)
      ∷ (is_end shape_at.kind && ltb next_at (length job), 11)
      ∷ []

-- what reading answers: the kind of the command and the next position, or a refusal
pub data CommandReading : Type 0 where
  found : Kind → ℕ → CommandReading
  refused : ℕ → CommandReading

abbrev pub command_reading_of : CodeResult ReadCommand Refusal → CommandReading
command_reading_of (Ok r) = found r.kind r.next
command_reading_of (Err v) = refused (number_of v)

unfoldable pub command_reading : List ℕ → ℕ → ℕ → ℕ → CommandReading
command_reading job k count at =
    passing (reading_places job k count at) (found (shape_at job k count at).kind (next_at job k count at)) refused
