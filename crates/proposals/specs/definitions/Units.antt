-- "Turning an f64 into units is exact work on its bits: nearest whole number to value times S, ties to even."
use Rattle.std.specs.Prelude.{Bool, true, false, not, List, [], ◌∷◌, map, ℕ, ◌*◌, ltb, ℤ, pos, neg_ℤ, Float, Result}
use Rattle.std.specs.Float.{nan, inf, fin}
use Rattle.std.specs.Float.Ieee.{up, down}
use Rattle.integer.specs.definitions.Rounding.{near}
use Rattle.integer.specs.definitions.Lists.{zeros}
use Rattle.chebyshev.specs.definitions.Coefficients.{weight}
use Rattle.model.specs.definitions.Models.{scale, max_degree, max_weight, coefficient_count}
use Rattle.model.specs.definitions.Outcomes.{Outcome, outcome, judged}
use Rattle.model.specs.declared.types.Candidate.{Candidate}
use Rattle.model.specs.declared.types.Refusal.{Refusal}
use Rattle.proposals.specs.definitions.Values.{all_finite}

-- n with the sign of a number that is negative or not
abbrev pub signed : Bool → ℕ → ℤ
signed true n = neg_ℤ (pos n)
signed false n = pos n

-- the sign of an f64
abbrev pub sign_of : Float → Bool
sign_of nan = false
sign_of (inf s) = s
sign_of (fin s m e) = s

-- A finite f64 is ±m·2^e, and 2^e is the fraction up e / down e. A list with a NaN or an infinity is refused.
unfoldable pub units_of : Float → ℤ
units_of nan = pos 0
units_of (inf s) = pos 0
units_of (fin s m e) = near (signed s (m * up e * scale)) (down e)

-- "Each list, product and proposal has degree 32."
abbrev pub candidate_in : List ℤ → Candidate
candidate_in u = record { degree = max_degree; coefficients = u }

-- a refused list: degree 0, all zero
unfoldable pub zero_candidate : Candidate
zero_candidate = record { degree = 0; coefficients = zeros coefficient_count }

-- "Number 15: … a value isn't finite"
abbrev pub not_finite_place : Bool → Bool × ℕ
not_finite_place finite = (not finite, 15)

-- "Number 16: converted weight above 2^28"
abbrev pub weight_place : List ℤ → Bool × ℕ
weight_place u = (ltb max_weight (weight u), 16)

-- a list of 33 values in units
unfoldable pub in_units : List Float → Outcome Candidate
in_units v =
    let u = map units_of v in
    outcome (not_finite_place (all_finite v) ∷ weight_place u ∷ []) (candidate_in u) zero_candidate

-- ---- what the code's answers mean

abbrev pub in_units_of : Result Candidate Refusal → Outcome Candidate
in_units_of r = judged zero_candidate r
