-- `reciprocal::constant` meets its contract.
use Rattle.std.proofs.Common.{rules}
use lib.Ieee.{of_bits}
use Rattle.proposals.specs.definitions.Reciprocal.{constant_list}
use Rattle.proposals.proofs.reciprocal.constant.Goals as goal

pub returns : goal.returns
unfolding of_bits constant_list
returns c = search rules
