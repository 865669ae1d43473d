-- Document 02, request S-8: the sense of integration by strips, which holds also where no list of coefficients describes the
-- integrand; with S-24, "the strips run from l/S to x".
use Rattle.std.specs.Prelude.{map, ℕ, ◌*◌, pos}
use Rattle.fraction.specs.definitions.Fraction.{ℚ, whole, ◌+ℚ◌, ◌-ℚ◌, ◌*ℚ◌, ◌/ℚ◌, ◌≤ℚ◌, ∣◌∣ℚ}
use Rattle.integer.specs.definitions.FractionRing.{ℚ_ring}
use Rattle.chebyshev.specs.definitions.Coefficients.{lipschitz_weight, value}
use Rattle.chebyshev.specs.definitions.Strips.{left_sum}
use Rattle.model.specs.definitions.Intervals.{extent}
use Rattle.model.specs.definitions.Models.{scale}
use Rattle.model.specs.definitions.Allowed.{position, start, Allows, OnInterval}
use Rattle.model.specs.declared.types.Interval.{Interval}
use Rattle.model.specs.declared.types.Model.{Model}

-- "choose an allowed value at every fraction"
abbrev pub Chooses : Model → (ℚ → ℚ) → Type 0
Chooses a choice = (x : ℚ) → OnInterval a.interval x → Allows a x (choice x)

-- "cut …" l/S "to x into k equal strips, add left-end value times width"
unfoldable pub strip_sum : Interval → (ℚ → ℚ) → ℚ → ℕ → ℚ
strip_sum i choice x k = left_sum choice (start i) ((x -ℚ start i) /ℚ whole (pos k)) k

-- "L = Σ|a_k|·k² of the integrand"
abbrev pub lipschitz : Model → ℕ
lipschitz a = lipschitz_weight 0 a.coefficients

-- "the sum differs from the integral's polynomial at x by at most the radius plus …" "L·(u−l)/(S·k)" "units", of the integrand a
-- and its integral c
abbrev pub StripsWithin : Model → Model → (ℚ → ℚ) → ℚ → ℕ → Type 0
StripsWithin a c choice x k =
    ∣ strip_sum a.interval choice x k *ℚ whole (pos scale)
    -ℚ value ℚ_ring (position c.interval x) (map whole c.coefficients) ∣ℚ
    ≤ℚ (whole (pos c.radius) +ℚ whole (pos (lipschitz a * extent a.interval)) /ℚ whole (pos (scale * k)))
