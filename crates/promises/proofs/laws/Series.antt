-- The promises about models of power series are kept.
use Rattle.series.proofs.laws.ConversionSound as conversions
use Rattle.series.proofs.laws.RowLaws as rows
use Rattle.promises.specs.definitions.Series.{SeriesPromises}

pub series_kept : SeriesPromises
series_kept = record {
  conversion_sound = λ s m e. conversions.conversion_sound s e;
  conversion_interval = λ s m e. conversions.conversion_interval s e;
  conversion-good = λ s m e. conversions.conversion-good s e;
  expansion_value = rows.expansion_value;
  row_twice = rows.row_twice;
}
