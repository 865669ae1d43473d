-- Document 02, S-24: "the converter of S-3" means −S and S, and its outcome is the former one, which stands here written out.
use Rattle.std.specs.Prelude.{◌≡◌, refl, Bool, not, ◌&&◌, [], ◌∷◌, ◌++◌, suc, ◌-◌, ◌^◌, leb, eqb, pos, replicate, take, drop}
use Rattle.integer.specs.definitions.Rounding.{upℕ}
use Rattle.chebyshev.specs.definitions.Coefficients.{weight}
use Rattle.model.specs.definitions.Models.{standard_model, zero_model, large_place}
use Rattle.model.specs.definitions.Outcomes.{Outcome, outcome}
use Rattle.model.specs.definitions.Round.{rounded, rounding_loss}
use Rattle.model.specs.declared.types.Model.{Model}
use Rattle.series.specs.definitions.Convert.{good_series, expanded_from, series_model, conversion}
use Rattle.series.specs.declared.types.Series.{Series}

-- "The degree stays, coefficients are rounded near, and the radius is the total absolute rounding difference, rounded up."
abbrev pub former_model : Series → Model
former_model s =
    let numerators = expanded_from 0 (take (suc s.degree) s.coefficients) in
    standard_model s.degree
    (rounded (2 ^ 32) numerators ++ replicate (33 - suc s.degree) (pos 0))
    (upℕ (rounding_loss (2 ^ 32) numerators) (2 ^ 32))

-- "Number 14: degree or weight of the series outside its limit, or a nonzero beyond its degree"
abbrev pub former_good : Series → Bool
former_good s =
    leb s.degree 32 && (leb (weight s.coefficients) (2 ^ 28) && eqb (weight (drop (suc s.degree) s.coefficients)) 0)

-- 14 "checked first. Number 3 keeps its place at the result."
unfoldable pub former_conversion : Series → Outcome Model
former_conversion s = outcome ((not (former_good s), 14) ∷ large_place (former_model s) ∷ []) (former_model s) zero_model

pub conversion_former : (s : Series) → conversion s ≡ former_conversion s
unfolding conversion good_series series_model former_conversion
conversion_former s = refl
