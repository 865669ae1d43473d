-- What is promised of a converted model.
use Rattle.std.specs.Prelude.{◌≡◌, pos}
use Rattle.fraction.specs.definitions.Fraction.{ℚ, whole, -ℚ◌, ◌/ℚ◌, ◌≤ℚ◌}
use Rattle.model.specs.definitions.Models.{scale}
use Rattle.model.specs.definitions.Intervals.{standard_interval}
use Rattle.model.specs.definitions.Allowed.{Allows}
use Rattle.model.specs.declared.types.Model.{Model}
use Rattle.series.specs.definitions.SeriesValue.{series_value}
use Rattle.series.specs.declared.types.Series.{Series}

-- Of the model m of the series s. 02, S-3: "Each converted model allows the series' exact value at every fraction from −1 to 1."
pub record SeriesAllowed (s : Series) (m : Model) : Type 0 where
  pub value : (x : ℚ) → (-ℚ whole (pos 1)) ≤ℚ x → x ≤ℚ whole (pos 1)
      → Allows m x (series_value s.coefficients x /ℚ whole (pos scale))
  -- S-24: the converter's models are on −S and S
  pub interval : m.interval ≡ standard_interval
