-- `values::difference` meets its contract: each arm is what `cond` picks.
use Rattle.proposals.specs.definitions.Values.{magnitude, difference}
use Rattle.proposals.proofs.laws.ValueLaws.{nought_is}
use Rattle.proposals.proofs.values.difference.Goals as goal

pub returns-then-d : goal.returns-then-d
unfolding difference magnitude
returns-then-d c = rw (rw nought_is at c.if-d.true)

pub returns-else-d : goal.returns-else-d
unfolding difference magnitude
returns-else-d c = rw (rw nought_is at c.if-d.false)
