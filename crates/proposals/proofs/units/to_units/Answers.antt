-- `units::to_units` meets its contract.
use mathlib.Core.Path.{sym, ◌∙◌}
use Rattle.proposals.proofs.laws.MakerLaws.{units_not_finite, units_too_large, units_accepted}
use Rattle.proposals.proofs.units.to_units.Goals as goal

pub returns-then-not-are_finite : goal.returns-then-not-are_finite
returns-then-not-are_finite c = units_not_finite c.args.values (sym c.are_finite.ensures ∙ c.if-not-are_finite.true)

pub returns-then-measured-gt-MAX_WEIGHT : goal.returns-then-measured-gt-MAX_WEIGHT
returns-then-measured-gt-MAX_WEIGHT c =
    units_too_large c.args.values c.list_of.result c.measure_candidate-measured.result.weight (sym c.are_finite.ensures ∙ c.if-not-are_finite.false) c.list_of.ensures
    c.measure_candidate-measured.ensures.1 c.if-measured-gt-MAX_WEIGHT.true

pub returns : goal.returns
returns c =
    units_accepted c.args.values c.list_of.result c.measure_candidate-measured.result.weight (sym c.are_finite.ensures ∙ c.if-not-are_finite.false) c.list_of.ensures
    c.measure_candidate-measured.ensures.1 c.if-measured-gt-MAX_WEIGHT.false
