-- Closed series: one that is accepted, one for each refusal, and ties with their mirrors.
use Rattle.std.specs.Prelude.{◌≡◌, refl, List, [], ◌∷◌, ℕ, ℤ, pos, negsuc}
use Rattle.integer.specs.definitions.Rounding.{floor, near, upℕ}
use Rattle.chebyshev.specs.definitions.Coefficients.{weight, add_lists, scale_list}
use Rattle.chebyshev.specs.definitions.Negation.{odd, negated_from}
use Rattle.chebyshev.specs.definitions.Neighbours.{neighbour_sums}
use Rattle.model.specs.definitions.Models.{standard_model, zero_model, too_large}
use Rattle.model.specs.definitions.Outcomes.{accepted, refused, passing}
use Rattle.model.specs.definitions.Round.{rounded, rounding_loss}
use Rattle.model.proofs.laws.Examples.{padded}
use Rattle.series.specs.definitions.Convert.{good_series, expanded_from, series_model, conversion}
use Rattle.series.specs.definitions.Mirror.{negated_series, mirrored_series}
use Rattle.series.specs.definitions.Table.{expansion_row}
use Rattle.series.specs.declared.types.Series.{Series}

abbrev pub series : ℕ → List ℤ → Series
series n ps = record { degree = n; coefficients = padded ps }

-- 2·x² + 3·x³ is 1 + 9/4·T_1 + T_2 + 3/4·T_3; the same with degree 2; 7 + (2^28 − 7)·x^5, of weight 2^28, which rounding raises by 1
abbrev pub Examples : Type 0
Examples =
    (conversion (series 3 (pos 0 ∷ pos 0 ∷ pos 2 ∷ pos 3 ∷ [])) ≡ accepted (standard_model 3 (padded (pos 1 ∷ pos 2 ∷ pos 1 ∷ pos 1 ∷ [])) 1))
    × (conversion (series 2 (pos 0 ∷ pos 0 ∷ pos 2 ∷ pos 3 ∷ [])) ≡ refused 14 zero_model)
    × (conversion (series 5 (pos 7 ∷ pos 0 ∷ pos 0 ∷ pos 0 ∷ pos 0 ∷ pos 268435449 ∷ [])) ≡ refused 3 zero_model)

pub examples : Examples
unfolding conversion good_series series_model expanded_from expansion_row neighbour_sums add_lists scale_list rounded rounding_loss near floor upℕ passing too_large weight zero_model
examples = (refl, refl, refl)

-- 3·x² + 6·x³ is 3/2 + 9/2·T_1 + 3/2·T_2 + 3/2·T_3, all ties
abbrev tied : Series
tied = series 3 (pos 0 ∷ pos 0 ∷ pos 3 ∷ pos 6 ∷ [])

abbrev pub Ties : Type 0
Ties =
    (conversion tied ≡ accepted (standard_model 3 (padded (pos 2 ∷ pos 4 ∷ pos 2 ∷ pos 2 ∷ [])) 2))
    × (conversion (negated_series tied) ≡ accepted (standard_model 3 (padded (negsuc 1 ∷ negsuc 3 ∷ negsuc 1 ∷ negsuc 1 ∷ [])) 2))
    × (conversion (mirrored_series tied) ≡ accepted (standard_model 3 (padded (pos 2 ∷ negsuc 3 ∷ pos 2 ∷ negsuc 1 ∷ [])) 2))

pub ties : Ties
unfolding conversion good_series series_model expanded_from expansion_row neighbour_sums add_lists scale_list rounded rounding_loss near floor upℕ passing too_large weight zero_model odd negated_from
ties = (refl, refl, refl)

-- a coefficient −2^31, whose negation 32 bits do not hold, is refused on both sides
abbrev lowest : Series
lowest = series 1 (pos 0 ∷ negsuc 2147483647 ∷ [])

pub lowest_refused : (conversion lowest ≡ refused 14 zero_model)
    × (conversion (negated_series lowest) ≡ refused 14 zero_model)
    × (conversion (mirrored_series lowest) ≡ refused 14 zero_model)
unfolding conversion good_series passing weight odd negated_from
lowest_refused = (refl, refl, refl)
