-- What a list of coefficients with a radius allows at a point.
use Rattle.std.specs.Prelude.{List, map, ℕ, ℤ, pos}
use Rattle.fraction.specs.definitions.Fraction.{ℚ, whole, ◌-ℚ◌, ◌*ℚ◌, ◌≤ℚ◌, ∣◌∣ℚ}
use Rattle.integer.specs.definitions.FractionRing.{ℚ_ring}
use Rattle.chebyshev.specs.definitions.Coefficients.{value}

-- 01: "A model allows the value v at x when |v − Σ a_k·T_k(x)/S| ≤ e/S", both sides times the scale s, so that no division
-- stands in it (`allows_quotient` of AllowsLaws.antt is 01's own form)
unfoldable pub allows : ℕ → List ℤ → ℕ → ℚ → ℚ → Type 0
allows s a e x v = ∣ v *ℚ whole (pos s) -ℚ value ℚ_ring x (map whole a) ∣ℚ ≤ℚ whole (pos e)
