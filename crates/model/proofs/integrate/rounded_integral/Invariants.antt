-- `integrate::rounded_integral` meets its contract: a turn is that of the walk (IntegralWalk.antt).
use mathlib.Core.Path.{◌≡◌}
use Prim.Native.Nat.{suc, ◌*◌}
use lib.Dec.{ltb}
use lib.ListN.{take}
use Rattle.model.specs.definitions.Models.{scale}
use Rattle.model.proofs.IntegralWalk.{Walk}
use Rattle.model.proofs.integrate.rounded_integral.Given as goal

abbrev pub invariant-loop-k : goal.invariant-loop-k
invariant-loop-k l =
    (l.wide ≡ ltb (4 * scale) l.extent)
    × Walk l.extent (take (suc l.degree) l.doubled) l.coefficients l.weight l.first l.above l.here l.k
