-- `area::model_in` meets its contract: numbers behind play no part.
use mathlib.Core.Path.{◌∙◌}
use native.Mathlib.Omega.{arith}
use Rattle.model.specs.definitions.Area.{model_size}
use Rattle.model.proofs.laws.AreaLaws.{model_front}
use Rattle.model.proofs.area.model_in.Goals as goal

pub returns : goal.returns
returns c = c.read.ensures ∙ model_front model_size c.args.area.now (omega arith)
