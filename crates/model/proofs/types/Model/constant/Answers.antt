-- `Model::constant` meets its contract.
use mathlib.Core.Path.{◌∙◌, ap}
use mathlib.Core.List.{◌∷◌}
use lib.IntN.{pos}
use lib.ListN.{replicate}
use mir.Facts.{to_z-of_z}
use Rattle.model.specs.definitions.Models.{make_model, constant_model}
use Rattle.model.proofs.types.Model.constant.Goals as goal

pub returns : goal.returns
unfolding constant_model
returns c = (simp (to_z-of_z c.ranges.c) at c.new.ensures) ∙ ap (make_model 0 (c.args.c ∷ replicate 32 (pos 0)) 0) c.standard.ensures
