-- Document 01, "Jobs": the commands, and what the command byte decides.
use Rattle.std.specs.Prelude.{cond, List, [], ◌∷◌, ℕ, ◌+◌, eqb}
use Rattle.model.specs.definitions.Intervals.{standard_interval}
use Rattle.model.specs.definitions.Models.{max_degree}
use Rattle.model.specs.definitions.Multiply.{kept_degree}
use Rattle.certificate.specs.declared.types.RootRule.TheVariants.{ByDiscriminant, ByLeastRadius}
use Rattle.job.specs.definitions.Bytes.{byte_at, unsigned_at, candidate_at, block_at, interval_at}
use Rattle.job.specs.definitions.Operations.{Maker, load, add, subtract, multiply, quotient, root, making_for, names_in}
use Rattle.job.specs.declared.types.Operation.{Operation}
use Rattle.job.specs.declared.types.Operation.TheVariants.{Load, Add, Subtract, Multiply, LoadOn, Quotient, Root}
use Rattle.job.specs.declared.types.Kind.{Kind}
use Rattle.job.specs.declared.types.Kind.TheVariants.{End, Edition, Result, Unknown}
use Rattle.job.specs.declared.types.Names.{Names}
use Rattle.job.specs.declared.types.Names.TheVariants.{Nothing}
use Rattle.job.specs.declared.types.OperandValues.{OperandValues}
use Rattle.job.specs.declared.types.OperandValues.TheVariants.{Any, KnownEdition, KeptDegree}
use Rattle.job.specs.declared.types.Shape.{Shape}

-- 01's table of commands: the byte of each; 02, S-22: "Add command 0x22, with the operands of 0x21."
-- S-24: "Command 0x14 loads a model with l and u, signed 32-bit, after the radius; 0x10 … mean −S and S."
abbrev pub command_bytes : List (ℕ × Kind)
command_bytes =
    (0x00, End)
    ∷ (0x01, Edition)
    ∷ (0x10, Result Load)
    ∷ (0x11, Result Add)
    ∷ (0x12, Result Subtract)
    ∷ (0x13, Result Multiply)
    ∷ (0x14, Result LoadOn)
    ∷ (0x20, Result Quotient)
    ∷ (0x21, Result (Root ByDiscriminant))
    ∷ (0x22, Result (Root ByLeastRadius))
    ∷ []

-- every other byte is unknown
abbrev pub kind_in : List (ℕ × Kind) → ℕ → Kind
kind_in [] b = Unknown
kind_in (r ∷ rs) b = cond (eqb b r.0) r.1 (kind_in rs b)

-- the edition of a job that has one: the operand of its first command
abbrev pub edition_of : List ℕ → ℕ
edition_of job = byte_at job 1

-- what the library takes for the byte d of a multiply command in edition e; 02, S-27: "In edition 2 the multiply byte 0xFF,
-- and in the library 255, means the larger degree of the two factors. Edition 1 keeps 32."
abbrev pub kept_byte : ℕ → ℕ → ℕ
kept_byte e d = cond (eqb e 2) d (cond (eqb d 0xFF) max_degree d)

-- the kept degree that this byte stands for between factors of degrees n and m
abbrev pub kept_in : ℕ → ℕ → ℕ → ℕ → ℕ
kept_in e d n m = kept_degree (kept_byte e d) n m

-- the operands of a command: their width, which of their bytes name results, and which values are asked of them
pub record Layout : Type 0 where
  pub width : ℕ
  pub names : Names
  pub values : OperandValues

-- the row of an operation: the width of its operands, the values that are asked of them, and what they mean where the command's
-- byte stands at a position of the job
pub record OperationRow : Type 0 where
  pub width : ℕ
  pub values : OperandValues
  pub maker : List ℕ → ℕ → Maker

abbrev pub operation_row : Operation → OperationRow
operation_row Load = record {
  width = 137;
  values = Any;
  maker = λ job at. load (block_at job (at + 1) (unsigned_at job (at + 134)) standard_interval);
}
operation_row LoadOn = record {
  width = 145;
  values = Any;
  maker = λ job at. load (block_at job (at + 1) (unsigned_at job (at + 134)) (interval_at job (at + 138)));
}
operation_row Add =
    record { width = 2; values = Any; maker = λ job at. add (byte_at job (at + 1)) (byte_at job (at + 2)) }
operation_row Subtract =
    record { width = 2; values = Any; maker = λ job at. subtract (byte_at job (at + 1)) (byte_at job (at + 2)) }
operation_row Multiply = record {
  width = 3;
  values = KeptDegree;
  maker = λ job at. multiply (byte_at job (at + 1)) (byte_at job (at + 2)) (kept_byte (edition_of job) (byte_at job (at + 3)));
}
operation_row Quotient = record {
  width = 268;
  values = Any;
  maker = λ job at. quotient (byte_at job (at + 1)) (byte_at job (at + 2)) (candidate_at job (at + 3)) (candidate_at job (at + 136));
}
operation_row (Root rule) = record {
  width = 267;
  values = Any;
  maker = λ job at. root rule (byte_at job (at + 1)) (candidate_at job (at + 2)) (candidate_at job (at + 135));
}

-- how many results a command names does not depend on the job's bytes, so the maker on the empty job tells it
abbrev pub operands_for : Operation → Layout
operands_for op =
    let r = operation_row op in record { width = r.width; names = names_in (making_for (r.maker [] 0)); values = r.values }

unfoldable pub maker_at : Operation → List ℕ → ℕ → Maker
maker_at op job at = (operation_row op).maker job at

abbrev pub layout_for : Kind → Layout
layout_for End = record { width = 0; names = Nothing; values = Any }
layout_for Edition = record { width = 1; names = Nothing; values = KnownEdition }
layout_for (Result o) = operands_for o
layout_for Unknown = record { width = 0; names = Nothing; values = Any }

-- "The command byte decides the operand width and the operation"
abbrev pub shape_with : Kind → Shape
shape_with kind = let o = layout_for kind in record { kind = kind; width = o.width; names = o.names; values = o.values }

abbrev pub shape_of : ℕ → Shape
shape_of b = shape_with (kind_in command_bytes b)

-- a command with its operands
pub data Command : Type 0 where
  edition : Command
  result : Maker → Command
  finish : Command
  unknown : Command

-- the command of a kind whose byte stands at a position
abbrev pub command_at : Kind → List ℕ → ℕ → Command
command_at End job at = finish
command_at Edition job at = edition
command_at (Result o) job at = result (maker_at o job at)
command_at Unknown job at = unknown
