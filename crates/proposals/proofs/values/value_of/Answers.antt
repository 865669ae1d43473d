-- `values::value_of` meets its contract.
use mathlib.Core.Path.{refl}
use mir.Facts.{to_z-of_z}
use Rattle.proposals.specs.definitions.Values.{value_of}
use Rattle.proposals.proofs.laws.ValueLaws.{scale_is}
use Rattle.proposals.proofs.values.value_of.Goals as goal

pub returns : goal.returns
unfolding value_of
returns c = simp (to_z-of_z c.ranges.n, scale_is) refl
