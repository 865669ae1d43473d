-- `area::copy` meets its contract: a turn copies one number.
use Rattle.std.proofs.Common.{rules, arith, pos, w32, to_z-of_z}
use Rattle.integer.proofs.laws.Filling.{turn}
use Rattle.model.proofs.area.copy.Goals as goal

pub loop-i-preserved : goal.loop-i-preserved
loop-i-preserved c =
    let l = c.loop-i in
    (l.invariant.0, turn l.i _ (pos 0) l.invariant.1 c.loop-i-test.true (omega arith) (to_z-of_z {w = w32} (search rules)))
