-- Laws of the expanded series (Convert.antt) for code that forms it: a row's part of the table, steps, lengths and weights; and the
-- series within its limits.
use Rattle.std.specs.Prelude.{◌≡◌, refl, true, false, List, [], ◌∷◌, ◌++◌, ℕ, zero, suc, ◌+◌, ◌-◌, ◌*◌, ◌<◌, ◌≤◌, ℤ, pos, nat_abs, length, get_or, take, drop, replicate}
use Rattle.std.proofs.Common.{sym, ◌∙◌, ap, ap₂, arith, add-one, mul-le-mul, length-append, drop_of_length-le, drop-cons, take_all}
use Rattle.std.proofs.lemmas.List.{length-replicate}
use Rattle.std.proofs.Math.Seq.{take-append_seam, drop-append-add}
use Rattle.ring.specs.definitions.Integer.{ℤ_ring}
use Rattle.chebyshev.specs.definitions.Coefficients.{weight, add_lists, scale_list}
use Rattle.chebyshev.proofs.laws.CoefficientLaws.{length-add, length-scale}
use Rattle.chebyshev.proofs.laws.Weight.{weight-add, weight-scale, weight_append_zeros, weight_end}
use Rattle.integer.specs.definitions.Rounding.{upℕ}
use Rattle.model.specs.definitions.Area.{Storable}
use Rattle.model.specs.definitions.InnerContracts.{RoundedFrom, formed_outcome, unless_large}
use Rattle.model.specs.definitions.Intervals.{good_ends, standard_interval}
use Rattle.model.specs.definitions.Models.{parts_within_limits, max_degree, coefficient_count, standard_model, zero_model, good}
use Rattle.model.specs.definitions.Outcomes.{refused, payload, passing}
use Rattle.model.specs.definitions.Round.{rounded, rounding_loss}
use Rattle.model.proofs.laws.FormedLaws.{formed_is}
use Rattle.model.proofs.laws.ModelLaws.{Good, good_is}
use Rattle.model.proofs.laws.ResultLaws.{stored}
use Rattle.model.specs.declared.round.Rounded.{Rounded}
use Rattle.series.specs.definitions.Table.{expansion_unit, expansion_row, rows_from, expansion_table}
use Rattle.series.specs.definitions.Convert.{series_terms, good_series, expanded_from, expanded, series_model, conversion}
use Rattle.series.specs.declared.types.Series.{Series}
use Rattle.series.proofs.laws.RowLaws.{length_row, weight_row}

-- ---- where row k stands in the table

drop_front : (a b : List ℤ) (n m : ℕ) → n ≡ length a + m → drop n (a ++ b) ≡ drop m b
drop_front a b n m h = rw h (drop-append-add a b m)

row_in : (n k i : ℕ) → i < n → k + n ≤ coefficient_count → take (suc (k + i)) (drop (coefficient_count * i) (rows_from n k)) ≡ expansion_row (k + i)
row_in zero k i h b = absurd (omega arith)
row_in (suc n) k zero h b =
    let e : k + 0 ≡ k = omega arith in
    rw e (rw (length_row k) at (take-append_seam (expansion_row k) (replicate (max_degree - k) (pos 0) ++ rows_from n (suc k))))
row_in (suc n) k (suc i) h b =
    let z = replicate (max_degree - k) (pos 0) in
    let e : k + suc i ≡ suc k + i = omega arith in
    rw (
      e,
      drop_front (expansion_row k) (z ++ rows_from n (suc k)) (coefficient_count * suc i) (max_degree - k + coefficient_count * i) (omega (arith, length_row k)),
      drop_front z (rows_from n (suc k)) (max_degree - k + coefficient_count * i) (coefficient_count * i) (omega (arith, length-replicate (max_degree - k) (pos 0))),
    )
    (row_in n (suc k) i (omega arith) (omega arith))

pub row_in_table : (k : ℕ) → k ≤ max_degree → take (suc k) (drop (coefficient_count * k) expansion_table) ≡ expansion_row k
unfolding expansion_table
row_in_table k h =
    let e : 0 + k ≡ k = omega arith in
    rw e at (row_in coefficient_count 0 k (omega arith) (omega arith))

pub length_table : length expansion_table ≡ coefficient_count * coefficient_count
unfolding expansion_table
length_table = from coefficient_count 0 (omega arith)
  where
    from : (n k : ℕ) → k + n ≤ coefficient_count → length (rows_from n k) ≡ coefficient_count * n
    from zero k h = refl
    from (suc n) k h =
        rw (length-append, length-append, length-replicate) (omega (arith, length_row k, from n (suc k) (omega arith)))

-- ---- the expanded series

pub expanded_step : (ps : List ℤ) (k : ℕ) → k < length ps
    → expanded_from k (drop k ps) ≡ add_lists ℤ_ring (scale_list ℤ_ring (get_or ps k (pos 0)) (expansion_row k)) (expanded_from (k + 1) (drop (k + 1) ps))
unfolding expanded_from
expanded_step ps k h = rw (drop-cons ps k (pos 0) h, add-one)

pub expanded_end : (ps : List ℤ) (k : ℕ) → length ps ≤ k → expanded_from k (drop k ps) ≡ []
unfolding expanded_from
expanded_end ps k h = rw drop_of_length-le

length_from : (k : ℕ) (p : ℤ) (ps : List ℤ) → length (expanded_from k (p ∷ ps)) ≡ suc k + length ps
unfolding expanded_from
length_from k p [] =
    length-add ℤ_ring (scale_list ℤ_ring p (expansion_row k)) [] ∙ omega (arith, length-scale ℤ_ring p (expansion_row k), length_row k)
length_from k p (q ∷ ps) =
    length-add ℤ_ring (scale_list ℤ_ring p (expansion_row k)) (expanded_from (suc k) (q ∷ ps))
    ∙ omega (arith, length-scale ℤ_ring p (expansion_row k), length_row k, length_from (suc k) q ps)

pub length-expanded : (ps : List ℤ) → length (expanded_from 0 ps) ≡ length ps
unfolding expanded_from
length-expanded [] = refl
length-expanded (p ∷ ps) = length_from 0 p ps ∙ omega arith

-- |p|·(the weight of row k)
pub multiple_weight : (k : ℕ) (p : ℤ) → k ≤ max_degree → weight (scale_list ℤ_ring p (expansion_row k)) ≤ expansion_unit * nat_abs p
multiple_weight k p h = omega (arith, weight-scale p (expansion_row k), part)
  where
    part : nat_abs p * weight (expansion_row k) ≤ nat_abs p * expansion_unit
    part = mul-le-mul (omega arith) (weight_row k h)

pub weight-expanded : (k : ℕ) (ps : List ℤ) → k + length ps ≤ coefficient_count → weight (expanded_from k ps) ≤ expansion_unit * weight ps
unfolding expanded_from weight
weight-expanded k [] h = omega arith
weight-expanded k (p ∷ ps) h =
    omega (
      arith,
      weight-add (scale_list ℤ_ring p (expansion_row k)) (expanded_from (suc k) ps),
      multiple_weight k p (omega arith),
      weight-expanded (suc k) ps (omega arith),
    )

-- added to zeros, the expanded series stands in the first places
pub from_zeros : (m : ℕ) (e : List ℤ) → length e ≤ m → take (length e) (add_lists ℤ_ring (replicate m (pos 0)) e) ≡ e
unfolding add_lists
from_zeros zero [] h = refl
from_zeros zero (x ∷ e) h = absurd (omega arith)
from_zeros (suc m) [] h = refl
from_zeros (suc m) (x ∷ e) h = ap₂ ◌∷◌ (ℤ_ring.zero-add x) (from_zeros m e (omega arith))

-- ---- a series within its limits

-- the limits are a model's, with radius 0
pub series_good : (s : Series) → parts_within_limits s.degree s.coefficients 0 ≡ good_series s
unfolding parts_within_limits good_series
series_good s = refl

pub limits : (s : Series) → good_series s ≡ true → Good (standard_model s.degree s.coefficients 0)
unfolding good good_ends
limits s h = good_is (standard_model s.degree s.coefficients 0) (rw (series_good s ∙ h))

-- ---- the result from the rounded sums

pub series_formed : (s : Series) (r : Rounded) → length (series_terms s) ≡ suc s.degree → RoundedFrom expansion_unit (expanded s) (suc s.degree) r
    → formed_outcome s.degree r.coefficients r.weight (upℕ r.loss expansion_unit) standard_interval ≡ unless_large (series_model s)
unfolding series_model
series_formed s r l f =
    let m = series_model s in
    let n = suc s.degree in
    let all : take n (expanded s) ≡ expanded s = take_all n (expanded s) (omega (arith, l, length-expanded (series_terms s))) in
    let w : r.weight ≡ weight m.coefficients =
    f.weight_is ∙ ap (λ c. weight (rounded expansion_unit c)) all
    ∙ sym (weight_append_zeros (rounded expansion_unit (expanded s)) (coefficient_count - n)) in
    let loss : r.loss ≡ rounding_loss expansion_unit (expanded s) =
    f.loss_is ∙ omega (arith, ap (rounding_loss expansion_unit) all, weight_end (expanded s) n (omega (arith, l, length-expanded (series_terms s)))) in
    let e : upℕ r.loss expansion_unit ≡ m.radius = ap (λ z. upℕ z expansion_unit) loss in
    (λ t. formed_outcome s.degree r.coefficients (w t) (e t) standard_interval)
    ∙ formed_is m r.coefficients (λ h. f.coefficients_are (omega arith) ∙ ap (λ c. rounded expansion_unit c ++ replicate (coefficient_count - n) (pos 0)) all)

-- of a series within its limits only the result is tested
pub conversion_of_good : (s : Series) → good_series s ≡ true → unless_large (series_model s) ≡ conversion s
unfolding conversion unless_large passing
conversion_of_good s h = rw h

pub conversion_of_bad : (s : Series) → good_series s ≡ false → refused 14 zero_model ≡ conversion s
unfolding conversion passing
conversion_of_bad s h = rw h

pub conversion_storable : (s : Series) → Storable (payload (conversion s))
unfolding conversion
conversion_storable s = stored _ _ (λ p. p.1.0)
