-- `measure::weigh` meets its contract.
use mathlib.Core.Path.{◌≡◌}
use Prim.Native.Nat.{◌+◌}
use lib.ListN.{drop}
use Rattle.chebyshev.specs.definitions.Coefficients.{weight}
use Rattle.model.proofs.measure.weigh.Given as goal

abbrev pub invariant-loop-x : goal.invariant-loop-x
invariant-loop-x l = l.total + weight (drop l.x-index l.c) ≡ weight l.c
