-- What the exported converter of power series answers and leaves in its area (document 02, S-3).
use Rattle.std.specs.Prelude.{cond, ◌&&◌, List, ℕ, ℤ}
use Rattle.model.specs.definitions.Area.{model_size, candidate_size, area_candidate, fits}
use Rattle.series.specs.definitions.Convert.{conversion}
use Rattle.series.specs.declared.types.Series.{Series}
use Rattle.ferruntzo.specs.definitions.Operations.{short_outcome, outcome_in, OperationAnswer}

-- how many numbers a series has: its degree and p_0..p_32, as many as a candidate
abbrev pub series_size : ℕ
series_size = candidate_size

-- the series in the first 34 numbers of an area, which are read as a candidate's: a negative degree is beyond its limit
abbrev pub area_series : List ℤ → Series
area_series s = let c = area_candidate s in record { degree = c.degree; coefficients = c.coefficients }

-- refusal 1 before all else
abbrev pub series_answer : List ℤ → List ℤ → OperationAnswer
series_answer series out =
    outcome_in (cond (fits series_size series && fits model_size out) (conversion (area_series series)) short_outcome) out
