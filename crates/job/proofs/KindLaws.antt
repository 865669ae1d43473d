-- The layouts of the commands.
use mathlib.Core.Path.{◌≡◌, refl}
use mathlib.Core.List.{List}
use Prim.Native.Nat.{ℕ, ◌≤◌}
use native.Mathlib.Omega.{arith}
use Rattle.job.specs.definitions.Reading.{bad_names, bad_bytes, name_bytes, value_bytes}
use Rattle.job.specs.definitions.Decode.{layout_for, maker_at, command_at}
use Rattle.job.specs.declared.types.Operation.{Operation}
use Rattle.job.specs.declared.types.Operation.TheVariants.{Load, Add, Subtract, Multiply, LoadOn, Quotient, Root}
use Rattle.job.specs.declared.types.Kind.{Kind}
use Rattle.job.specs.declared.types.Kind.TheVariants.{End, Edition, Result, Unknown}

-- the bytes that reading looks at are operand bytes, and those that name results are the results that the command names
pub record Agrees (kind : Kind) : Type 0 where
  pub names_inside : name_bytes (layout_for kind).names ≤ (layout_for kind).width
  pub values_inside : value_bytes (layout_for kind).values ≤ (layout_for kind).width
  pub named : (job : List ℕ) (at count : ℕ) → bad_bytes (layout_for kind).names job at count ≡ bad_names (command_at kind job at) count

operation_agrees : (op : Operation) → Agrees (Result op)
unfolding maker_at
operation_agrees Load = record { names_inside = omega arith; values_inside = omega arith; named = λ job at count. refl }
operation_agrees Add = record { names_inside = omega arith; values_inside = omega arith; named = λ job at count. refl }
operation_agrees Subtract = record { names_inside = omega arith; values_inside = omega arith; named = λ job at count. refl }
operation_agrees Multiply = record { names_inside = omega arith; values_inside = omega arith; named = λ job at count. refl }
operation_agrees LoadOn = record { names_inside = omega arith; values_inside = omega arith; named = λ job at count. refl }
operation_agrees Quotient = record { names_inside = omega arith; values_inside = omega arith; named = λ job at count. refl }
operation_agrees (Root rule) = record { names_inside = omega arith; values_inside = omega arith; named = λ job at count. refl }

pub agrees : (kind : Kind) → Agrees kind
agrees End = record { names_inside = omega arith; values_inside = omega arith; named = λ job at count. refl }
agrees Edition = record { names_inside = omega arith; values_inside = omega arith; named = λ job at count. refl }
agrees (Result op) = operation_agrees op
agrees Unknown = record { names_inside = omega arith; values_inside = omega arith; named = λ job at count. refl }
