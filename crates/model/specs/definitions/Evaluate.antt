-- Document 01, "Plain operations": evaluate at p/S; with document 02, S-24, at a point of the own interval.
use Rattle.std.specs.Prelude.{Bool, not, cond, List, [], ◌∷◌, ℕ, zero, suc, ◌+◌, ◌*◌, ◌-◌, ◌^◌, eqb, ℤ, pos, nat_abs, ◌+ℤ◌, ◌-ℤ◌, ◌*ℤ◌, Result}
use Rattle.fraction.specs.definitions.Fraction.{ℚ, ◌/1+◌}
use Rattle.integer.specs.definitions.Rounding.{floor, up, near}
use Rattle.chebyshev.specs.definitions.Coefficients.{lipschitz_weight}
use Rattle.model.specs.definitions.Intervals.{extent, contains}
use Rattle.model.specs.definitions.Models.{scale, terms, bad_place}
use Rattle.model.specs.definitions.Outcomes.{Outcome, outcome, judged}
use Rattle.model.specs.declared.types.Interval.{Interval}
use Rattle.model.specs.declared.types.Model.{Model}
use Rattle.model.specs.declared.types.Bounds.{Bounds}
use Rattle.model.specs.declared.types.Refusal.{Refusal}

-- "Evaluate at p/S"
abbrev pub point : ℤ → ℚ
point p = p /1+ (scale - 1)

-- S times (2·S·x−l−u)/(u−l) at x = p/S is this over u − l
abbrev pub mapped_numerator : Interval → ℤ → ℤ
mapped_numerator i p = pos scale *ℤ (pos 2 *ℤ p -ℤ i.lower -ℤ i.upper)

-- S-24: "Evaluation maps the point and rounds near"
unfoldable pub mapped_point : Interval → ℤ → ℤ
mapped_point i p = near (mapped_numerator i p) (extent i)

-- whether that was exact
unfoldable pub maps_exactly : Interval → ℤ → Bool
maps_exactly i p = eqb (nat_abs (mapped_point i p *ℤ pos (extent i) -ℤ mapped_numerator i p)) 0

-- of the point so mapped: "t_0 = 2^30, t_1 = 2^10·p, t_(k+2) = near(2·p·t_(k+1)/S) − t_k"
unfoldable pub point_term : ℤ → ℕ → ℤ
point_term p zero = pos (2 ^ 30)
point_term p (suc zero) = pos (2 ^ 10) *ℤ p
point_term p (suc (suc k)) = near (pos 2 *ℤ p *ℤ point_term p (suc k)) scale -ℤ point_term p k

-- "V = Σ a_k·t_k", from place k on
unfoldable pub point_sum : ℤ → ℕ → List ℤ → ℤ
point_sum p k [] = pos 0
point_sum p k (a ∷ rest) = a *ℤ point_term p k +ℤ point_sum p (suc k) rest

-- "W = Σ|a_k|·k·(k−1)", from place k on
unfoldable pub point_error : ℕ → List ℤ → ℕ
point_error k [] = 0
point_error k (a ∷ rest) = nat_abs a * (k * (k - 1)) + point_error (suc k) rest

-- S-24: "if that was inexact, W grows by 2^11·Σ|a_k|·k²"
unfoldable pub growth : Bool → List ℤ → ℕ
growth exact cs = cond exact 0 (2 ^ 11 * lipschitz_weight 0 cs)

-- V and W of a model at p/S
abbrev pub value_sum : Model → ℤ → ℤ
value_sum a p = point_sum (mapped_point a.interval p) 0 (terms a)

abbrev pub error_sum : Model → ℤ → ℕ
error_sum a p = point_error 0 (terms a) + growth (maps_exactly a.interval p) (terms a)

-- "The bounds are the whole number below or at (4V−W)/2^32, less e, and up((4V+W)/2^32) plus e."
unfoldable pub low_bound : Model → ℤ → ℤ
low_bound a p = floor (pos 4 *ℤ value_sum a p -ℤ pos (error_sum a p)) (2 ^ 32) -ℤ pos a.radius

unfoldable pub high_bound : Model → ℤ → ℤ
high_bound a p = up (pos 4 *ℤ value_sum a p +ℤ pos (error_sum a p)) (2 ^ 32) +ℤ pos a.radius

-- "refused evaluation gives bounds 0 and 0"
abbrev pub zero_bounds : Bounds
zero_bounds = record { low = pos 0; high = pos 0 }

-- "point: 4", with S-24 "for points outside l..u"
abbrev pub evaluation_places : Model → ℤ → List (Bool × ℕ)
evaluation_places a p = bad_place a ∷ (not (contains a.interval p), 4) ∷ []

unfoldable pub evaluation : Model → ℤ → Outcome Bounds
evaluation a p = outcome (evaluation_places a p) (record { low = low_bound a p; high = high_bound a p }) zero_bounds

-- what the code's answer means
abbrev pub bounds_of : Result Bounds Refusal → Outcome Bounds
bounds_of r = judged zero_bounds r
