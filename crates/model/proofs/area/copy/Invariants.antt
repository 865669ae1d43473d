-- `area::copy` meets its contract: a turn copies one number.
use mathlib.Core.Path.{◌≡◌}
use lib.ListN.{length}
use Rattle.integer.proofs.laws.Filling.{Filling}
use Rattle.model.proofs.area.copy.Given as goal

abbrev pub invariant-loop-i : goal.invariant-loop-i
invariant-loop-i l = (length l.from ≡ length l.initial.to) × Filling l.from l.initial.to l.to 0 (length l.from) l.i
