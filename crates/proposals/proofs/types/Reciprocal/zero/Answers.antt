-- `Reciprocal::zero` meets its contract.
use Rattle.proposals.specs.definitions.Reciprocal.{refused_reciprocal}
use Rattle.proposals.proofs.laws.ValueLaws.{nought_is}
use Rattle.proposals.proofs.types.Reciprocal.zero.Goals as goal

pub returns : goal.returns
unfolding refused_reciprocal
returns c = rw (c.zero_round.ensures, c.zero_candidate.ensures, nought_is)
