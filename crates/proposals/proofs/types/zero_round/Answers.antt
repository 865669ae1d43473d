-- `types::zero_round` meets its contract.
use Rattle.proposals.specs.definitions.Reciprocal.{zero_round}
use Rattle.proposals.proofs.laws.ValueLaws.{nought_is}
use Rattle.proposals.proofs.types.zero_round.Goals as goal

pub returns : goal.returns
unfolding zero_round
returns c = rw nought_is
