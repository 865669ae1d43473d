-- `rounds::is_finite_round` meets its contract.
use mathlib.Core.Path.{◌∙◌}
use Rattle.proposals.specs.definitions.Rounds.{finite_round}
use Rattle.proposals.proofs.laws.ValueLaws.{finite_is}
use Rattle.proposals.proofs.rounds.is_finite_round.Goals as goal

pub returns : goal.returns
unfolding finite_round
returns c = rw (c.are_finite.ensures, c.is_finite.ensures.value ∙ finite_is c.args.r.change)
