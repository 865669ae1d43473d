-- `measure::measure` meets its contract.
use mathlib.Core.Bool.{◌&&◌}
use Rattle.model.specs.definitions.Models.{good}
use Rattle.model.proofs.measure.measure.Goals as goal

pub returns : goal.returns
unfolding good
returns c = let l = c.measure_limits-limits.ensures in (λ i. l.0 i && c.is_good.ensures i, l.1)
