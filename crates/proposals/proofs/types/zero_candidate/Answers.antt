-- `types::zero_candidate` meets its contract.
use mathlib.Core.Path.{refl}
use Rattle.integer.specs.definitions.Lists.{zeros}
use Rattle.proposals.specs.definitions.Units.{zero_candidate}
use Rattle.proposals.proofs.types.zero_candidate.Goals as goal

pub returns : goal.returns
unfolding zero_candidate zeros
returns c = refl
