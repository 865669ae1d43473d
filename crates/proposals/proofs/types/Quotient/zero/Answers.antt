-- `Quotient::zero` meets its contract.
use Rattle.proposals.specs.definitions.Quotient.{refused_quotient}
use Rattle.proposals.proofs.laws.ValueLaws.{nought_is}
use Rattle.proposals.proofs.types.Quotient.zero.Goals as goal

pub returns : goal.returns
unfolding refused_quotient
returns c = rw (c.zero_round.ensures, c.zero_candidate.ensures, c.zero_candidate-2.ensures, nought_is)
