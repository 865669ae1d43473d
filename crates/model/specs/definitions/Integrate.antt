-- Document 01, "Plain operations": integrate; with document 02, S-24, from the lower end l/S.
use Rattle.std.specs.Prelude.{Bool, List, [], ◌∷◌, ◌++◌, map, ℕ, suc, ◌+◌, ◌*◌, ◌-◌, ℤ, pos, ◌-ℤ◌, ◌*ℤ◌, replicate, drop, length}
use Rattle.fraction.specs.definitions.Fraction.{ℚ, whole, ◌*ℚ◌, ◌/ℚ◌, ◌≤ℚ◌}
use Rattle.integer.specs.definitions.FractionRing.{ℚ_ring}
use Rattle.ring.specs.definitions.Integer.{ℤ_ring}
use Rattle.integer.specs.definitions.Rounding.{near, upℕ}
use Rattle.chebyshev.specs.definitions.Coefficients.{subtract_lists, scale_list}
use Rattle.chebyshev.specs.definitions.Norms.{total_absolute}
use Rattle.chebyshev.specs.definitions.Primitive.{primitive}
use Rattle.model.specs.definitions.Intervals.{extent}
use Rattle.model.specs.definitions.Models.{scale, coefficient_count, terms, make_model, zero_model, bad_place, large_place}
use Rattle.model.specs.definitions.Outcomes.{Outcome, outcome}
use Rattle.model.specs.declared.types.Interval.{Interval}
use Rattle.model.specs.declared.types.Model.{Model}

-- 2·a_0, a_1, a_2, …
unfoldable pub double_first : List ℤ → List ℤ
double_first [] = []
double_first (a ∷ rest) = (pos 2 *ℤ a) ∷ rest

-- the numerators of c_1, c_2, …: "a_(k−1) − a_(k+1), with 2·a_0 in place of a_0 for k = 1"
unfoldable pub numerators : List ℤ → List ℤ
numerators cs = subtract_lists ℤ_ring (double_first cs) (drop 2 cs)

-- near of each over 2k, from place k on. S-24 "multiplies each numerator by (u−l)/(2S) before rounding": near(n·(u−l)/(4S·k))
unfoldable pub halved : ℕ → ℕ → List ℤ → List ℤ
halved d k [] = []
halved d k (n ∷ ns) = near (n *ℤ pos d) (4 * scale * k) ∷ halved d (suc k) ns

-- c_1 − c_2 + c_3 − …
unfoldable pub alternating : List ℤ → ℤ
alternating [] = pos 0
alternating (c ∷ cs) = c -ℤ alternating cs

-- "for k from 1 to n+1, c_k = near((a_(k−1) − a_(k+1))/(2k)), with 2·a_0 in place of a_0 for k = 1. c_0 makes the value at
-- −1", where T_k is taken for x = l/S, "exactly 0."
unfoldable pub integral_list : ℕ → List ℤ → List ℤ
integral_list d cs = alternating (halved d 1 (numerators cs)) ∷ halved d 1 (numerators cs)

-- S-24: "has radius up(e·(u−l)/S) + n + 1"
unfoldable pub integral_model : Model → Model
integral_model a =
    let cs = integral_list (extent a.interval) (terms a) in
    make_model (a.degree + 1)
    (cs ++ replicate (coefficient_count - length cs) (pos 0))
    (upℕ (a.radius * extent a.interval) scale + a.degree + 1)
    a.interval

abbrev pub integration_places : Model → List (Bool × ℕ)
integration_places a = bad_place a ∷ large_place (integral_model a) ∷ []

unfoldable pub integration : Model → Outcome Model
integration a = outcome (integration_places a) (integral_model a) zero_model

-- ---- what it is an integral of

-- (u−l)/(2S)
abbrev pub ratio : Interval → ℚ
ratio i = whole (pos (extent i)) /ℚ (whole (pos 2) *ℚ whole (pos scale))

-- "the exact primitive" from l/S, in x, of a list of fractions: (u−l)/(2S) times that from −1 in y = (2·S·x−l−u)/(u−l)
abbrev pub exact_integral : Interval → List ℚ → List ℚ
exact_integral i α = scale_list ℚ_ring (ratio i) (primitive α)

-- α is a "list of fractions whose coefficients differ from the model's by at most e units in total absolute difference"
abbrev pub Describes : Model → List ℚ → Type 0
Describes a α = total_absolute (subtract_lists ℚ_ring α (map whole a.coefficients)) ≤ℚ whole (pos a.radius)
