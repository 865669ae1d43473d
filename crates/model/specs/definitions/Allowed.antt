-- What a model allows at a point of its interval.
use Rattle.std.specs.Prelude.{pos}
use Rattle.fraction.specs.definitions.Fraction.{ℚ, whole, ◌-ℚ◌, ◌*ℚ◌, ◌/ℚ◌, ◌≤ℚ◌}
use Rattle.chebyshev.specs.definitions.Allows.{allows}
use Rattle.model.specs.definitions.Models.{scale}
use Rattle.model.specs.declared.types.Interval.{Interval}
use Rattle.model.specs.declared.types.Model.{Model}

-- 02, S-24: "T_k is taken at (2·S·x−l−u)/(u−l)"
unfoldable pub position : Interval → ℚ → ℚ
position i x =
    (whole (pos 2) *ℚ whole (pos scale) *ℚ x -ℚ whole i.lower -ℚ whole i.upper)
    /ℚ (whole i.upper -ℚ whole i.lower)

-- l/S, where an interval starts
abbrev pub start : Interval → ℚ
start i = whole i.lower /ℚ whole (pos scale)

-- 01: "A model allows the value v at x when |v − Σ a_k·T_k(x)/S| ≤ e/S."
unfoldable pub AllowsAt : Model → ℚ → ℚ → Type 0
AllowsAt m y v = allows scale m.coefficients m.radius y v

abbrev pub Allows : Model → ℚ → ℚ → Type 0
Allows m x v = AllowsAt m (position m.interval x) v

-- "fractions of its own interval": l ≤ S·x ≤ u
pub record OnInterval (i : Interval) (x : ℚ) : Type 0 where
  pub above : whole i.lower ≤ℚ (whole (pos scale) *ℚ x)
  pub below : (whole (pos scale) *ℚ x) ≤ℚ whole i.upper
