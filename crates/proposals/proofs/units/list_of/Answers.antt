-- `units::list_of` meets its contract.
use Rattle.std.proofs.Common.{rules}
use native.Mathlib.Omega.{arith}
use lib.Ieee.{nan}
use Rattle.proposals.specs.definitions.InnerContracts.{limited_units}
use Rattle.proposals.proofs.laws.ValueLaws.{finite_at}
use Rattle.proposals.proofs.Mapping.{mapped}
use Rattle.proposals.proofs.units.list_of.Goals as goal

pub each-requires : goal.each-requires
each-requires c = (omega arith, (omega arith, λ k d h. finite_at c.args.values k d c.requires h))

pub returns : goal.returns
returns c = mapped limited_units nan c.args.values c.each.result (λ k y h r. search rules) c.each.ensures
