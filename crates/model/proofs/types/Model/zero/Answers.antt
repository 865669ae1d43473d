-- `Model::zero` meets its contract.
use mathlib.Core.Path.{◌∙◌, ap}
use lib.IntN.{pos}
use lib.ListN.{replicate}
use Rattle.model.specs.definitions.Models.{coefficient_count, make_model, zero_model}
use Rattle.model.proofs.types.Model.zero.Goals as goal

pub returns : goal.returns
unfolding zero_model
returns c = c.new.ensures ∙ ap (make_model 0 (replicate coefficient_count (pos 0)) 0) c.zero.ensures
