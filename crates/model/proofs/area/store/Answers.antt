-- `area::store` meets its contract, at an area that has room and at one that has not.
use Rattle.std.proofs.Common.{arith}
use Rattle.model.proofs.laws.AreaLaws.{filled, untouched}
use Rattle.model.proofs.area.store.Goals as goal

pub returns-then-area : goal.returns-then-area
returns-then-area g c = rw c.copy_from_slice.ensures.after (filled g.row.N c.args.values c.args.area.now (omega arith))

pub returns-else-area : goal.returns-else-area
returns-else-area g c = untouched g.row.N c.args.values c.args.area.now (omega arith)
