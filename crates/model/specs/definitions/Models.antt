-- Document 01, "Models and values": limits and good models; with the ends of document 02, S-24.
use Rattle.std.specs.Prelude.{Bool, not, cond, ◌&&◌, ◌||◌, List, ◌∷◌, ℕ, suc, ◌^◌, leb, ltb, eqb, ℤ, pos, replicate, take, drop}
use Rattle.chebyshev.specs.definitions.Coefficients.{weight}
use Rattle.model.specs.definitions.Intervals.{good_ends, standard_interval, zero_interval, same_interval}
use Rattle.model.specs.declared.types.Interval.{Interval}
use Rattle.model.specs.declared.types.Model.{Model}
use Rattle.model.specs.declared.types.Candidate.{Candidate}

-- "S = 2^20 = 1,048,576. One unit is 1/S."
abbrev pub scale : ℕ
scale = 2 ^ 20

-- "A model has degree n from 0 to 32, signed coefficients a_0..a_32 in units, zero beyond n, and radius e."
abbrev pub max_degree : ℕ
max_degree = 32

-- how many coefficients a model has
abbrev pub coefficient_count : ℕ
coefficient_count = 33

-- how many numbers the list C( , ) has: "the whole list of up to 65 numbers"
abbrev pub product_size : ℕ
product_size = 65

-- "A and e are each at most 2^28."
abbrev pub max_weight : ℕ
max_weight = 2 ^ 28

abbrev pub max_radius : ℕ
max_radius = 2 ^ 28

-- the coefficients up to the degree, and those beyond it
abbrev pub terms : Model → List ℤ
terms m = take (suc m.degree) m.coefficients

abbrev pub beyond : Model → List ℤ
beyond m = drop (suc m.degree) m.coefficients

-- Refusal 2 is for a model with these parts that is not so: "degree, weight, radius, or a nonzero beyond the degree".
unfoldable pub parts_within_limits : ℕ → List ℤ → ℕ → Bool
parts_within_limits n cs e =
    leb n max_degree && (leb (weight cs) max_weight && (leb e max_radius && eqb (weight (drop (suc n) cs)) 0))

abbrev pub within_limits : Model → Bool
within_limits m = parts_within_limits m.degree m.coefficients m.radius

-- A good model.
unfoldable pub good : Model → Bool
good m = within_limits m && good_ends m.interval

-- "Number 18: ends wrong, straight after number 2 for the same model.": where nothing but the ends is wrong
abbrev pub fault : Model → ℕ
fault m = cond (good_ends m.interval) 2 (cond (within_limits m) 18 2)

-- Refusal 3, of a result: "weight or radius above 2^28, degree above 32".
unfoldable pub too_large : Model → Bool
too_large m = ltb max_weight (weight m.coefficients) || (ltb max_radius m.radius || ltb max_degree m.degree)

-- the model with these parts
abbrev pub make_model : ℕ → List ℤ → ℕ → Interval → Model
make_model n cs e i = record { degree = n; coefficients = cs; radius = e; interval = i }

-- "the zero model (degree 0, all zero)"
unfoldable pub zero_model : Model
zero_model = make_model 0 (replicate coefficient_count (pos 0)) 0 zero_interval

-- "A candidate is a model without a radius (taken as 0)." "A candidate has its operand's interval."
abbrev pub candidate_model : Interval → Candidate → Model
candidate_model i c = make_model c.degree c.coefficients 0 i

-- on −S and S
abbrev pub standard_model : ℕ → List ℤ → ℕ → Model
standard_model n cs e = make_model n cs e standard_interval

unfoldable pub constant_model : ℤ → Model
constant_model c = standard_model 0 (c ∷ replicate 32 (pos 0)) 0

-- "each model: 2", or 18: the place of a model among those of an operation
abbrev pub bad_place : Model → Bool × ℕ
bad_place m = (not (good m), fault m)

-- "Number 19: two operands on different intervals, …, after the models."
abbrev pub different_place : Model → Model → Bool × ℕ
different_place a b = (not (same_interval a.interval b.interval), 19)

-- "result: 3": the place of a result
abbrev pub large_place : Model → Bool × ℕ
large_place m = (too_large m, 3)
