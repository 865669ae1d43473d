-- What an exported operation answers and leaves in its areas. Every function takes areas of every length: one that is too short
-- for its numbers is refusal 1, before all else. What an area holds afterwards depends on its own length alone.
use Rattle.std.specs.Prelude.{◌≡◌, Result, cond, ◌&&◌, List, [], ◌∷◌, ℕ, ℤ}
use Rattle.model.specs.definitions.Area.{model_size, words, area_model, fits, area_out}
use Rattle.model.specs.definitions.Evaluate.{zero_bounds, evaluation}
use Rattle.model.specs.declared.types.Bounds.{Bounds}
use Rattle.model.specs.definitions.Models.{zero_model}
use Rattle.model.specs.definitions.Outcomes.{Outcome, refused, number, payload, outcome_of}
use Rattle.model.specs.declared.types.Model.{Model}
use Rattle.model.specs.declared.types.Refusal.{Refusal}
use Rattle.ferruntzo.specs.definitions.Areas.{bounds_size}

-- ---- refusal 1, whichever area is too short

-- "A refused operation gives its number beside the zero model (degree 0, all zero)"
abbrev pub short_outcome : Outcome Model
short_outcome = refused 1 zero_model

-- "refused evaluation gives bounds 0 and 0"
abbrev pub short_bounds : Outcome Bounds
short_bounds = refused 1 zero_bounds

-- ---- add, subtract, multiply, integrate

-- the number, and what the area of the result holds afterwards
pub record OperationAnswer : Type 0 where
  pub number : ℕ
  pub out : List ℤ

abbrev pub operation_answer : ℕ → List ℤ → OperationAnswer
operation_answer n o = record { number = n; out = o }

-- an outcome, answered over an area
unfoldable pub outcome_in : Outcome Model → List ℤ → OperationAnswer
outcome_in o out = operation_answer (number o) (area_out model_size (words (payload o)) out)

-- of two models
abbrev pub binary_answer : (Model → Model → Outcome Model) → List ℤ → List ℤ → List ℤ → OperationAnswer
binary_answer f a b out =
    outcome_in
    (cond (fits model_size a && fits model_size b && fits model_size out) (f (area_model a) (area_model b)) short_outcome)
    out

-- of one model
abbrev pub unary_answer : (Model → Outcome Model) → List ℤ → List ℤ → OperationAnswer
unary_answer f a out = outcome_in (cond (fits model_size a && fits model_size out) (f (area_model a)) short_outcome) out

-- what a call can return by `post` is what f gives
abbrev pub Computes : (Model → Model → Result Model Refusal → Type 0) → (Model → Model → Outcome Model) → Type 0
Computes post f = (a b : Model) (r : Result Model Refusal) → post a b r → outcome_of r ≡ f a b

-- ---- evaluate

-- the number, and what the area of the bounds holds afterwards
pub record EvaluationAnswer : Type 0 where
  pub number : ℕ
  pub bounds : List ℤ

abbrev pub evaluation_answer : ℕ → List ℤ → EvaluationAnswer
evaluation_answer n b = record { number = n; bounds = b }

unfoldable pub bounds_in : Outcome Bounds → List ℤ → EvaluationAnswer
bounds_in o bounds = evaluation_answer (number o) (area_out bounds_size ((payload o).low ∷ (payload o).high ∷ []) bounds)

abbrev pub evaluate_answer : List ℤ → ℤ → List ℤ → EvaluationAnswer
evaluate_answer a p bounds =
    bounds_in (cond (fits model_size a && fits bounds_size bounds) (evaluation (area_model a) p) short_bounds) bounds
