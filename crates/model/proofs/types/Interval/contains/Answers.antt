-- `Interval::contains` meets its contract.
use Rattle.std.proofs.Common.{rules}
use mir.Syntax.{w32}
use mir.Val.{SFits}
use mir.Facts.{to_z-of_z}
use Rattle.model.specs.definitions.Intervals.{contains}
use Rattle.model.proofs.types.Interval.contains.Goals as goal

pub returns : goal.returns
unfolding contains
returns c =
    let lower : SFits w32 c.args.self.lower = search rules in
    let upper : SFits w32 c.args.self.upper = search rules in
    simp (to_z-of_z lower, to_z-of_z upper, to_z-of_z c.ranges.p)
