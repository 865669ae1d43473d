-- Document 01, "Plain operations": add and subtract.
use Rattle.std.specs.Prelude.{Bool, List, [], ◌∷◌, ℕ, ◌+◌, max}
use Rattle.ring.specs.definitions.Integer.{ℤ_ring}
use Rattle.chebyshev.specs.definitions.Coefficients.{add_lists, subtract_lists}
use Rattle.model.specs.definitions.Models.{make_model, zero_model, bad_place, different_place, large_place}
use Rattle.model.specs.definitions.Outcomes.{Outcome, outcome}
use Rattle.model.specs.declared.types.Model.{Model}

-- "Add and subtract: coefficient by coefficient, the larger degree, radii added." On the operands' interval.
unfoldable pub sum_model : Model → Model → Model
sum_model a b =
    make_model (max a.degree b.degree) (add_lists ℤ_ring a.coefficients b.coefficients) (a.radius + b.radius)
    a.interval

unfoldable pub difference_model : Model → Model → Model
difference_model a b =
    make_model (max a.degree b.degree) (subtract_lists ℤ_ring a.coefficients b.coefficients) (a.radius + b.radius)
    a.interval

abbrev pub addition_places : Model → Model → List (Bool × ℕ)
addition_places a b = bad_place a ∷ bad_place b ∷ different_place a b ∷ large_place (sum_model a b) ∷ []

unfoldable pub addition : Model → Model → Outcome Model
addition a b = outcome (addition_places a b) (sum_model a b) zero_model

abbrev pub subtraction_places : Model → Model → List (Bool × ℕ)
subtraction_places a b = bad_place a ∷ bad_place b ∷ different_place a b ∷ large_place (difference_model a b) ∷ []

unfoldable pub subtraction : Model → Model → Outcome Model
subtraction a b = outcome (subtraction_places a b) (difference_model a b) zero_model
