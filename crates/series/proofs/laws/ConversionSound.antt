-- Document 02, S-3: "Each converted model allows the series' exact value at every fraction from −1 to 1." And it is a good model.
use Rattle.std.specs.Prelude.{◌≡◌, refl, true, List, [], ◌∷◌, ℕ, zero, suc, ◌+◌, ◌-◌, ◌≤◌, ℤ, pos, length, take, drop, replicate, Result, Ok, Err, IfOk}
use Rattle.std.proofs.Common.{sym, ◌∙◌, ap, ap₂, subst, arith, length-take, take_all}
use Rattle.std.proofs.Math.Path.{subst⁻¹}
use Rattle.std.proofs.lemmas.Bool.{not-false}
use Rattle.ring.specs.definitions.Integer.{ℤ_ring}
use Rattle.fraction.specs.definitions.Fraction.{ℚ, whole, ◌+ℚ◌, ◌-ℚ◌, -ℚ◌, ◌*ℚ◌, ◌/ℚ◌, ◌≤ℚ◌, ∣◌∣ℚ}
use Rattle.integer.proofs.laws.FractionInverse.{quotient_mul}
use Rattle.integer.proofs.laws.FractionRounding.{up_bound}
use Rattle.integer.proofs.laws.FractionSolver.{solveℚ, reifyℚ}
use Rattle.chebyshev.specs.definitions.Allows.{allows}
use Rattle.chebyshev.specs.definitions.Coefficients.{value, value_from, weight, scale_list}
use Rattle.chebyshev.proofs.laws.Weight.{weight_end, weight-zero}
use Rattle.model.specs.definitions.Models.{scale, coefficient_count, beyond, good, zero_model}
use Rattle.model.specs.definitions.Outcomes.{accepted, outcome_of}
use Rattle.model.specs.definitions.Round.{rounded, rounding_loss}
use Rattle.model.specs.definitions.Intervals.{good_ends, standard_interval}
use Rattle.model.proofs.laws.GoodResults.{good_small, weight_behind}
use Rattle.model.proofs.laws.IntervalLaws.{within}
use Rattle.model.proofs.laws.StandardInterval.{standard_ends, position_standard, on_standard}
use Rattle.model.specs.definitions.Allowed.{position, AllowsAt, Allows}
use Rattle.model.proofs.laws.PlaceLaws.{outcome_accepted}
use Rattle.model.proofs.laws.RoundingPassLaws.{rounding_value, rounded-length}
use Rattle.model.proofs.laws.ValueLaws.{value_at, value_at_add, value_at_scale, value_at_append_zeros, scale_nonzero}
use Rattle.model.specs.declared.types.Model.{Model}
use Rattle.model.specs.declared.types.Refusal.{Refusal}
use Rattle.series.specs.definitions.Table.{expansion_unit, expansion_row}
use Rattle.series.specs.definitions.Convert.{series_terms, good_series, expanded_from, expanded, series_model, conversion_places, conversion}
use Rattle.series.specs.definitions.SeriesValue.{power, series_from, series_value}
use Rattle.series.specs.definitions.Promise.{SeriesAllowed}
use Rattle.series.specs.declared.types.Series.{Series}
use Rattle.series.proofs.laws.RowLaws.{expansion_value}
use Rattle.series.proofs.laws.ConversionLaws.{limits, length-expanded}

-- ---- the value of the expanded series is 2^32 times that of the series

value_expanded : (x : ℚ) (k : ℕ) (ps : List ℤ) → k + length ps ≤ coefficient_count
    → value_at x (expanded_from k ps) ≡ whole (pos expansion_unit) *ℚ series_from x k ps
unfolding expanded_from series_from value value_from
value_expanded x k [] h = solveℚ [] (search reifyℚ depth 20) (search reifyℚ depth 20) tt
value_expanded x k (p ∷ ps) h =
    value_at_add x (scale_list ℤ_ring p (expansion_row k)) (expanded_from (suc k) ps)
    ∙ ap₂ ◌+ℚ◌
    (value_at_scale x p (expansion_row k) ∙ ap (λ v. whole p *ℚ v) (expansion_value k (omega arith) x))
    (value_expanded x (suc k) ps (omega arith))
    ∙ regroup (whole (pos expansion_unit)) (whole p) (power x k) (series_from x (suc k) ps)
  where
    regroup : (d p v w : ℚ) → p *ℚ (d *ℚ v) +ℚ d *ℚ w ≡ d *ℚ (p *ℚ v +ℚ w)
    regroup d p v w = solveℚ (d ∷ p ∷ v ∷ w ∷ []) (search reifyℚ depth 20) (search reifyℚ depth 20) tt

-- ---- zeros beyond the degree do not count

series_zeros : (x : ℚ) (k n : ℕ) → series_from x k (replicate n (pos 0)) ≡ whole (pos 0)
unfolding series_from
series_zeros x k zero = refl
series_zeros x k (suc n) =
    ap (λ v. whole (pos 0) *ℚ power x k +ℚ v) (series_zeros x (suc k) n)
    ∙ solveℚ (power x k ∷ []) (search reifyℚ depth 20) (search reifyℚ depth 20) tt

series_take : (x : ℚ) (k n : ℕ) (ps : List ℤ) → weight (drop n ps) ≡ 0 → series_from x k ps ≡ series_from x k (take n ps)
unfolding series_from
series_take x k zero ps h = ap (series_from x k) (weight-zero ps h) ∙ series_zeros x k (length ps)
series_take x k (suc n) [] h = refl
series_take x k (suc n) (p ∷ ps) h = ap (λ v. whole p *ℚ power x k +ℚ v) (series_take x (suc k) n ps h)

-- ---- the claim

-- d·(v − c) within the weight of the rounding differences, where d·v is the value of e, and c that of e rounded over d
rounded_sound : (d : ℕ) (e : List ℤ) (x v : ℚ) → ∣ x ∣ℚ ≤ℚ whole (pos 1) → value_at x e ≡ whole (pos d) *ℚ v
    → ∣ whole (pos d) *ℚ (v -ℚ value_at x (rounded d e)) ∣ℚ ≤ℚ whole (pos (rounding_loss d e))
rounded_sound d e x v on h =
    let all : take (length e) e ≡ e = take_all (length e) e (omega arith) in
    let none : rounding_loss d e + weight (drop (length e) e) ≡ rounding_loss d e = omega (arith, weight_end e (length e) (omega arith)) in
    rw (split, ← none) (rw all at (rounding_value d (length e) x on e))
  where
    spread : (d v c : ℚ) → d *ℚ (v -ℚ c) ≡ d *ℚ v -ℚ d *ℚ c
    spread d v c = solveℚ (d ∷ v ∷ c ∷ []) (search reifyℚ depth 20) (search reifyℚ depth 20) tt

    split : whole (pos d) *ℚ (v -ℚ value_at x (rounded d e)) ≡ value_at x e -ℚ whole (pos d) *ℚ value_at x (rounded d e)
    split = spread (whole (pos d)) v (value_at x (rounded d e)) ∙ ap (λ z. z -ℚ whole (pos d) *ℚ value_at x (rounded d e)) (sym h)

series_sound : (s : Series) → good_series s ≡ true → (x : ℚ) → ∣ x ∣ℚ ≤ℚ whole (pos 1) → AllowsAt (series_model s) x (series_value s.coefficients x /ℚ whole (pos scale))
unfolding AllowsAt allows series_model
series_sound s g x on =
    rw (quotient_mul (series_value s.coefficients x) (whole (pos scale)) scale_nonzero, value_at_append_zeros x (rounded expansion_unit (expanded s)) (coefficient_count - suc s.degree))
    (up_bound (rounding_loss expansion_unit (expanded s)) expansion_unit (series_value s.coefficients x -ℚ value_at x (rounded expansion_unit (expanded s))) (omega arith)
    (rounded_sound expansion_unit (expanded s) x (series_value s.coefficients x) on value_is))
  where
    value_is : value_at x (expanded s) ≡ whole (pos expansion_unit) *ℚ series_value s.coefficients x
    value_is =
        let l = limits s g in
        value_expanded x 0 (series_terms s) (omega (arith, length-take (suc s.degree) s.coefficients, l.degree_fits))
        ∙ ap (λ v. whole (pos expansion_unit) *ℚ v) (sym (series_take x 0 (suc s.degree) s.coefficients l.beyond-zero))

-- S-24: the converter's models are on −S and S
pub conversion_interval : (s : Series) {m : Model} → conversion s ≡ accepted m → m.interval ≡ standard_interval
unfolding conversion series_model
conversion_interval s e = ap (λ (r : Model). r.interval) (outcome_accepted (conversion_places s) (series_model s) zero_model e).1

pub conversion_sound : (s : Series) {m : Model} → conversion s ≡ accepted m
    → (x : ℚ) → (-ℚ whole (pos 1)) ≤ℚ x → x ≤ℚ whole (pos 1) → Allows m x (series_value s.coefficients x /ℚ whole (pos scale))
unfolding conversion
conversion_sound s {m} e x above below =
    let p = outcome_accepted (conversion_places s) (series_model s) zero_model e in
    let near = subst (λ y. ∣ y ∣ℚ ≤ℚ whole (pos 1)) (position_standard x) (within standard_ends x (on_standard above below)) in
    let v = series_value s.coefficients x /ℚ whole (pos scale) in
    let at_x = subst⁻¹ (λ r. AllowsAt r x v) p.1 (series_sound s (not-false (good_series s) p.0.0) x near) in
    subst⁻¹ (λ i. AllowsAt m (position i x) v) (conversion_interval s e) (subst⁻¹ (λ y. AllowsAt m y v) (position_standard x) at_x)

-- both, of the code's model where it answers one
pub series_allowed : (s : Series) (r : Result Model Refusal) → outcome_of r ≡ conversion s → IfOk r (λ m. SeriesAllowed s m)
series_allowed s (Ok m) e = record { value = conversion_sound s (sym e); interval = conversion_interval s (sym e) }
series_allowed s (Err r) e = tt

-- the promise put to use
pub allowed_series : {s : Series} {m : Model} → SeriesAllowed s m → (x : ℚ) → (-ℚ whole (pos 1)) ≤ℚ x → x ≤ℚ whole (pos 1)
    → (m.interval ≡ standard_interval) × Allows m x (series_value s.coefficients x /ℚ whole (pos scale))
allowed_series a x above below = (a.interval, a.value x above below)

-- ---- a converted model is good, so that no operation refuses it with 2 or 18

series_beyond : (s : Series) → weight (beyond (series_model s)) ≡ 0
unfolding series_model
series_beyond s =
    weight_behind (suc s.degree) (rounded expansion_unit (expanded s)) (coefficient_count - suc s.degree)
    (rw (rounded-length, length-expanded, length-take) (omega arith))

pub conversion-good : (s : Series) {m : Model} → conversion s ≡ accepted m → good m ≡ true
unfolding conversion series_model good_ends
conversion-good s e =
    let (passed, same) = outcome_accepted (conversion_places s) (series_model s) zero_model e in
    rw same (good_small (series_model s) passed.1.0 (series_beyond s) refl)
