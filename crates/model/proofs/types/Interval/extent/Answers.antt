-- `Interval::extent` meets its contract.
use Rattle.std.proofs.Common.{rules}
use lib.IntN.{◌-ℤ◌}
use mir.Syntax.{w32, w64}
use mir.Val.{SFits}
use mir.Facts.{to_z-of_z}
use Rattle.integer.proofs.laws.Machine.{fits_widens}
use Rattle.model.specs.definitions.Intervals.{extent}
use Rattle.model.proofs.EndWords.{difference-fits}
use Rattle.model.proofs.types.Interval.extent.Goals as goal

pub returns : goal.returns
unfolding extent
returns c =
    let i = c.args.self in
    let lower : SFits w32 i.lower = search rules in
    let upper : SFits w32 i.upper = search rules in
    let fits : SFits w64 (i.upper -ℤ i.lower) = difference-fits i.upper i.lower upper lower in
    simp (to_z-of_z lower, to_z-of_z upper, to_z-of_z (fits_widens lower), to_z-of_z (fits_widens upper), to_z-of_z fits) at c.unsigned_abs.ensures.value
