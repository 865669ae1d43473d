-- Document 01, "Plain operations": a model that is loaded.
use Rattle.std.specs.Prelude.{Bool, List, [], ◌∷◌, ℕ}
use Rattle.model.specs.definitions.Models.{zero_model, bad_place}
use Rattle.model.specs.definitions.Outcomes.{Outcome, outcome}
use Rattle.model.specs.declared.types.Model.{Model}

-- a model that is handed in: "each model: 2"
abbrev pub loading_places : Model → List (Bool × ℕ)
loading_places m = bad_place m ∷ []

unfoldable pub loading : Model → Outcome Model
loading m = outcome (loading_places m) m zero_model
