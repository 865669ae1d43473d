-- `convert::add_expanded` meets its contract: after k turns the first k terms are expanded.
use mathlib.Core.Path.{◌≡◌}
use mathlib.Core.List.{List}
use Prim.Native.Nat.{ℕ, ◌+◌, ◌*◌, ◌≤◌}
use lib.IntN.{ℤ}
use lib.ListN.{length, drop}
use Rattle.ring.specs.definitions.Integer.{ℤ_ring}
use Rattle.chebyshev.specs.definitions.Coefficients.{weight, add_lists}
use Rattle.series.specs.definitions.Table.{expansion_unit}
use Rattle.series.specs.definitions.Convert.{expanded_from}
use Rattle.series.proofs.convert.add_expanded.Given as goal

pub record Walked (sums₀ ps sums : List ℤ) (k : ℕ) : Type 0 where
  pub within : k ≤ length ps
  pub size : length sums ≡ length sums₀
  pub rest : add_lists ℤ_ring sums (expanded_from k (drop k ps)) ≡ add_lists ℤ_ring sums₀ (expanded_from 0 ps)
  pub bound : weight sums + expansion_unit * weight (drop k ps) ≤ weight sums₀ + expansion_unit * weight ps

abbrev pub invariant-loop-k : goal.invariant-loop-k
invariant-loop-k l = Walked l.initial.sums l.terms l.sums l.k
