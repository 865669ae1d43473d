-- `measure::measure_parts` meets its contract. The loop's invariant in rest form: what is summed and what is left of the
-- weight, of all coefficients and of those beyond the degree n, is the whole of it.
use mathlib.Core.Path.{◌≡◌}
use mathlib.Core.List.{List}
use Prim.Native.Nat.{ℕ, suc, ◌+◌, ◌*◌, ◌^◌, ◌≤◌, max}
use lib.IntN.{ℤ}
use lib.ListN.{drop}
use Rattle.chebyshev.specs.definitions.Coefficients.{weight}
use Rattle.model.proofs.measure.measure_parts.Given as goal

-- what is left at i of the weight beyond n
abbrev pub left-beyond : ℕ → ℕ → List ℤ → ℕ
left-beyond n i cs = weight (drop (max i (suc n)) cs)

abbrev pub invariant-loop-i : goal.invariant-loop-i
invariant-loop-i l =
    (l.total + weight (drop l.i l.coefficients) ≡ weight l.coefficients) × (l.beyond + left-beyond l.n l.i l.coefficients ≡ left-beyond l.n 0 l.coefficients) × (l.total ≤ l.i * 2 ^ 32) × (l.beyond ≤ l.total)
