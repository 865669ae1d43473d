-- `add::combine` meets its contract. The loop fills the list a + sign·b from the front and sums its weight.
use mathlib.Core.Path.{◌≡◌}
use mathlib.Core.List.{List}
use Prim.Native.Nat.{ℕ, ◌+◌}
use lib.IntN.{ℤ}
use lib.ListN.{drop}
use Rattle.ring.specs.definitions.Integer.{ℤ_ring}
use Rattle.integer.proofs.laws.Filling.{Filling}
use Rattle.chebyshev.specs.definitions.Coefficients.{weight, add_lists, scale_list}
use Rattle.model.proofs.add.combine.Given as goal

-- a + s·b
abbrev pub sum : List ℤ → List ℤ → ℤ → List ℤ
sum a b s = add_lists ℤ_ring a (scale_list ℤ_ring s b)

-- the first i places of z are written, and their weight is summed
pub record Walked (z start out : List ℤ) (total i : ℕ) : Type 0 where
  pub filled : Filling z start out 0 33 i
  pub rest : total + weight (drop i z) ≡ weight z

abbrev pub invariant-loop-i : goal.invariant-loop-i
invariant-loop-i l = Walked (sum l.a l.b l.sign) l.initial.coefficients l.coefficients l.weight l.i
