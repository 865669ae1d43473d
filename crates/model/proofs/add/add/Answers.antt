-- `add::add` meets its contract.
use mathlib.Core.Path.{◌∙◌}
use Rattle.model.proofs.laws.CombinationLaws.{addition_is}
use Rattle.model.proofs.add.add.Goals as goal

pub returns : goal.returns
returns c = c.combine_models.ensures ∙ addition_is c.args.a c.args.b
