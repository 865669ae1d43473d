-- `values::values_of` meets its contract.
use Rattle.std.proofs.Common.{rules}
use lib.IntN.{pos}
use Rattle.proposals.specs.definitions.Values.{value_of}
use Rattle.proposals.proofs.Mapping.{mapped}
use Rattle.proposals.proofs.values.values_of.Goals as goal

pub returns : goal.returns
returns c = mapped value_of (pos 0) c.args.coefficients c.each.result (λ k y h r. search rules) c.each.ensures
