-- 02, S-3: models of power series.
use Rattle.std.specs.Prelude.{◌≡◌, true, map, ℕ, suc, ◌^◌, ◌≤◌, ◌<◌, pos}
use Rattle.fraction.specs.definitions.Fraction.{ℚ, whole, -ℚ◌, ◌*ℚ◌, ◌/ℚ◌, ◌≤ℚ◌}
use Rattle.integer.specs.definitions.FractionRing.{ℚ_ring}
use Rattle.ring.specs.definitions.Integer.{ℤ_ring}
use Rattle.chebyshev.specs.definitions.Coefficients.{value, scale_list}
use Rattle.chebyshev.specs.definitions.Neighbours.{neighbour_sums}
use Rattle.model.specs.definitions.Intervals.{standard_interval}
use Rattle.model.specs.definitions.Models.{scale, good}
use Rattle.model.specs.definitions.Outcomes.{accepted}
use Rattle.model.specs.definitions.Allowed.{Allows}
use Rattle.model.specs.declared.types.Model.{Model}
use Rattle.series.specs.definitions.Convert.{conversion}
use Rattle.series.specs.definitions.SeriesValue.{series_value, power}
use Rattle.series.specs.definitions.Table.{expansion_row}
use Rattle.series.specs.declared.types.Series.{Series}

pub record SeriesPromises : Type 0 where
  -- "Each converted model allows the series' exact value at every fraction from −1 to 1."
  pub conversion_sound : (s : Series) (m : Model) → conversion s ≡ accepted m
      → (x : ℚ) → (-ℚ whole (pos 1)) ≤ℚ x → x ≤ℚ whole (pos 1) → Allows m x (series_value s.coefficients x /ℚ whole (pos scale))
  -- S-24: "the converter of S-3" means "−S and S"
  pub conversion_interval : (s : Series) (m : Model) → conversion s ≡ accepted m → m.interval ≡ standard_interval
  -- a converted model is a good one, which a job may load
  pub conversion-good : (s : Series) (m : Model) → conversion s ≡ accepted m → good m ≡ true
  -- "Each x^k is expanded in T_0..T_32 with weights times 2^32, all whole numbers"
  pub expansion_value : (k : ℕ) → k ≤ 32 → (x : ℚ)
      → value ℚ_ring x (map whole (expansion_row k)) ≡ whole (pos (2 ^ 32)) *ℚ power x k
  -- the halves of the rule are exact
  pub row_twice : (k : ℕ) → k < 32 → scale_list ℤ_ring (pos 2) (expansion_row (suc k)) ≡ neighbour_sums ℤ_ring (expansion_row k)
