-- `values::greater` meets its contract: each arm is what `cond` picks.
use Rattle.proposals.specs.definitions.Values.{greater}
use Rattle.proposals.proofs.values.greater.Goals as goal

pub returns-then-x-y : goal.returns-then-x-y
unfolding greater
returns-then-x-y c = rw c.if-x-y.true

pub returns-else-x-y : goal.returns-else-x-y
unfolding greater
returns-else-x-y c = rw c.if-x-y.false
