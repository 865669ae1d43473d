-- Document 02, S-11, of a power series: the series with its coefficients negated at the chosen places.
use Rattle.std.specs.Prelude.{Bool, ℕ}
use Rattle.chebyshev.specs.definitions.Negation.{every, odd, negated_from}
use Rattle.series.specs.declared.types.Series.{Series}

abbrev pub negated_series_where : (ℕ → Bool) → Series → Series
negated_series_where chosen s = record { degree = s.degree; coefficients = negated_from chosen 0 s.coefficients }

-- all p_k negated: minus the series
abbrev pub negated_series : Series → Series
negated_series s = negated_series_where every s

-- the odd p_k negated: the series at −x
abbrev pub mirrored_series : Series → Series
mirrored_series s = negated_series_where odd s
