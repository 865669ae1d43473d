-- `add::subtract` meets its contract.
use mathlib.Core.Path.{◌∙◌}
use Rattle.model.proofs.laws.CombinationLaws.{subtraction_is}
use Rattle.model.proofs.add.subtract.Goals as goal

pub returns : goal.returns
returns c = c.combine_models.ensures ∙ subtraction_is c.args.a c.args.b
