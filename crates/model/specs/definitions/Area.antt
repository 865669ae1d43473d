-- Lent areas, and models and candidates in areas of signed 32-bit numbers. A model is "37 numbers …, ends last" (S-24): degree,
-- coefficients, radius, l and u; "A candidate is a model without a radius".
use Rattle.std.specs.Prelude.{Bool, cond, List, [], ◌∷◌, ◌++◌, ℕ, ◌+◌, ◌-◌, ◌^◌, ◌≤◌, leb, ℤ, pos, negsuc, length, get_or, take, drop}
use Rattle.model.specs.definitions.Intervals.{make_interval}
use Rattle.model.specs.definitions.Models.{max_degree, coefficient_count, max_radius, make_model}
use Rattle.model.specs.declared.types.Model.{Model}
use Rattle.model.specs.declared.types.Candidate.{Candidate}

-- how many numbers a model has, and a candidate
abbrev pub model_size : ℕ
model_size = 37

abbrev pub candidate_size : ℕ
candidate_size = 34

-- whether an area has its n numbers
abbrev pub fits : {A : Type 0} → ℕ → List A → Bool
fits n s = leb n (length s)

-- an area afterwards: the new numbers stand in its n, and numbers behind stay; one that is itself too short is not touched
unfoldable pub area_out : {A : Type 0} → ℕ → List A → List A → List A
area_out n new old = cond (fits n old) (new ++ drop n old) old

-- the numbers of a model
abbrev pub words : Model → List ℤ
words m = pos m.degree ∷ (m.coefficients ++ (pos m.radius ∷ m.interval.lower ∷ m.interval.upper ∷ []))

-- a model whose degree and radius are within their limits, so that signed 32-bit numbers hold them
abbrev pub Storable : Model → Type 0
Storable m = (m.degree ≤ max_degree) × (m.radius ≤ max_radius)

-- A degree or a radius is read as the unsigned number with the same 32 bits: a negative one is beyond its limit.
abbrev pub unsigned_of : ℤ → ℕ
unsigned_of (pos n) = n
unsigned_of (negsuc n) = 2 ^ 32 - 1 - n

-- the model in the first 37 numbers of an area
abbrev pub area_model : List ℤ → Model
area_model s =
    make_model (unsigned_of (get_or s 0 (pos 0)))
    (take coefficient_count (drop 1 s))
    (unsigned_of (get_or s (coefficient_count + 1) (pos 0)))
    (make_interval (get_or s (coefficient_count + 2) (pos 0)) (get_or s (coefficient_count + 3) (pos 0)))

-- the candidate in the first 34 numbers of an area
abbrev pub area_candidate : List ℤ → Candidate
area_candidate s = record { degree = unsigned_of (get_or s 0 (pos 0)); coefficients = take coefficient_count (drop 1 s) }
