-- `form::form` meets its contract: each turn writes two places of the group, or the last one.
use Prim.Native.Nat.{◌-◌}
use lib.ListN.{length}
use Rattle.ring.specs.definitions.Integer.{ℤ_ring}
use Rattle.integer.proofs.laws.Filling.{Filling}
use Rattle.chebyshev.specs.definitions.TwoSums.{places_from}
use Rattle.groups.proofs.form.form.Given as goal

abbrev pub invariant-loop-t : goal.invariant-loop-t
invariant-loop-t l = Filling (places_from ℤ_ring (length l.initial.part) l.start l.a l.b) l.initial.part l.part 0 (length l.initial.part) l.t

abbrev pub decreases-loop-t : goal.decreases-loop-t
decreases-loop-t l = length l.initial.part - l.t
