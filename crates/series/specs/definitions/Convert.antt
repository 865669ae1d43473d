-- Document 02, S-3: "Clinics own stocks of paths as power series, Σ p_k·x^k with k up to 32, p_k in units and weight at most
-- 2^28. A converter shall make models of them."
use Rattle.std.specs.Prelude.{Bool, not, ◌&&◌, List, [], ◌∷◌, ◌++◌, ℕ, suc, ◌-◌, leb, eqb, ℤ, pos, replicate, take, drop}
use Rattle.ring.specs.definitions.Integer.{ℤ_ring}
use Rattle.integer.specs.definitions.Rounding.{upℕ}
use Rattle.chebyshev.specs.definitions.Coefficients.{weight, add_lists, scale_list}
use Rattle.model.specs.definitions.Models.{max_degree, max_weight, coefficient_count, standard_model, zero_model, large_place}
use Rattle.model.specs.definitions.Outcomes.{Outcome, outcome}
use Rattle.model.specs.definitions.Round.{rounded, rounding_loss}
use Rattle.model.specs.declared.types.Model.{Model}
use Rattle.series.specs.definitions.Table.{expansion_unit, expansion_row}
use Rattle.series.specs.declared.types.Series.{Series}

-- the coefficients up to the degree, and those beyond it
abbrev pub series_terms : Series → List ℤ
series_terms s = take (suc s.degree) s.coefficients

abbrev pub series_beyond : Series → List ℤ
series_beyond s = drop (suc s.degree) s.coefficients

-- Refusal 14 is for a series that is not within its limits: "degree or weight of the series outside its limit, or a nonzero
-- beyond its degree".
unfoldable pub good_series : Series → Bool
good_series s =
    leb s.degree max_degree && (leb (weight s.coefficients) max_weight && eqb (weight (series_beyond s)) 0)

-- Σ p_k·(row k), from row k on
unfoldable pub expanded_from : ℕ → List ℤ → List ℤ
expanded_from k [] = []
expanded_from k (p ∷ ps) = add_lists ℤ_ring (scale_list ℤ_ring p (expansion_row k)) (expanded_from (suc k) ps)

-- the coefficients of T_0..T_n in the series, times 2^32
abbrev pub expanded : Series → List ℤ
expanded s = expanded_from 0 (series_terms s)

-- "The degree stays, coefficients are rounded near, and the radius is the total absolute rounding difference, rounded up."
unfoldable pub series_model : Series → Model
series_model s =
    standard_model s.degree
    (rounded expansion_unit (expanded s) ++ replicate (coefficient_count - suc s.degree) (pos 0))
    (upℕ (rounding_loss expansion_unit (expanded s)) expansion_unit)

-- "Number 14: … checked first. Number 3 keeps its place at the result."
abbrev pub conversion_places : Series → List (Bool × ℕ)
conversion_places s = (not (good_series s), 14) ∷ large_place (series_model s) ∷ []

unfoldable pub conversion : Series → Outcome Model
conversion s = outcome (conversion_places s) (series_model s) zero_model
