-- Document 02, S-11, of the converter, as equations of whole outcomes, refusals included, for every series: negating all p_k negates
-- the model, and negating the odd ones mirrors it.
use Rattle.std.specs.Prelude.{◌≡◌, Bool, true, false, ◌⊎◌, ℤ, pos, ◌*ℤ◌, length, get_or}
use Rattle.std.proofs.Math.Path.{refl, sym, ap, ap₂}
use Rattle.std.proofs.Common.{◌∙◌, inl, inr, mod-lt, length-take}
use mathlib.Core.List.{List, [], ◌∷◌, ◌++◌}
use Prim.Native.Nat.{ℕ, zero, suc, ◌+◌, ◌-◌, ◌*◌, ◌/◌, ◌%◌, ◌<◌, ◌≤◌}
use Rattle.std.proofs.Math.Decide.{dec_le}
use Rattle.std.proofs.Math.Nat.{div-add-mod}
use native.Mathlib.Omega.{arith}
use Rattle.std.proofs.Math.IntN.{*ℤ_comm, zero-*ℤ}
use Rattle.std.proofs.Math.ListN.{replicate, get_or-eq_default}
use Rattle.ring.specs.definitions.Integer.{ℤ_ring}
use Rattle.integer.specs.definitions.Rounding.{upℕ}
use Rattle.chebyshev.specs.definitions.Coefficients.{add_lists, scale_list}
use Rattle.chebyshev.specs.definitions.Negation.{every, odd, negated_if, negated_from}
use Rattle.chebyshev.proofs.laws.NegationLaws.{negated-zero, negated_left, take-negated, negated_append_zeros, negated_sum, odd_twice}
use Rattle.model.specs.definitions.Mirror.{negated_where, negated, mirrored}
use Rattle.model.specs.definitions.Models.{max_degree, coefficient_count, standard_model, zero_model}
use Rattle.model.specs.definitions.Outcomes.{refused, map_outcome}
use Rattle.model.specs.definitions.Round.{rounded, rounding_loss}
use Rattle.model.proofs.laws.MirrorLaws.{rounded-negated, rounding_loss-negated, within_limits-negated, too_large-negated, zero-negated, outcome_mapped}
use Rattle.series.specs.definitions.Convert.{series_terms, good_series, expanded_from, expanded, series_model, conversion_places, conversion}
use Rattle.series.specs.definitions.Mirror.{negated_series_where, negated_series, mirrored_series}
use Rattle.series.specs.definitions.Table.{expansion_unit, expansion_row}
use Rattle.series.specs.declared.types.Series.{Series}
use Rattle.series.proofs.laws.ConversionLaws.{series_good, limits, conversion_of_bad}
use Rattle.series.proofs.laws.RowLaws.{length_row, row_alternate}

-- ---- the rows: what stands in row k is negated or not as p_k is

abbrev Fits : (ℕ → Bool) → Type 0
Fits chosen = (k i : ℕ) → k ≤ max_degree → (get_or (expansion_row k) i (pos 0) ≡ pos 0) ⊎ (chosen i ≡ chosen k)

fits-every : Fits every
fits-every k i h = inr refl

-- T_i stands in x^k only if k − i is even
fits-odd : Fits odd
fits-odd k i h = pick (dec_le i k)
  where
    Answer : Type 0
    Answer = (get_or (expansion_row k) i (pos 0) ≡ pos 0) ⊎ (odd i ≡ odd k)

    halves : (m r : ℕ) → k ≡ i + 2 * m + r → r < 2 → Answer
    halves m zero e q = let f : k ≡ i + 2 * m = omega arith in inr (sym (ap odd f ∙ odd_twice i m))
    halves m (suc zero) e q = inl (row_alternate k i m h (omega arith))
    halves m (suc (suc r)) e q = absurd (omega arith)

    pick : Dec (i ≤ k) → Answer
    pick (yes l) = halves ((k - i) / 2) ((k - i) % 2) (omega (arith, div-add-mod (k - i) 2)) (mod-lt (k - i) {m = 2} (omega arith))
    pick (no n) = inl (get_or-eq_default (expansion_row k) (pos 0) {n = i} (omega (arith, length_row k)))

module _ (chosen : ℕ → Bool) where
  scale-negated : (b : Bool) (p : ℤ) (j : ℕ) (e : List ℤ) → ((i : ℕ) → (get_or e i (pos 0) ≡ pos 0) ⊎ (chosen (j + i) ≡ b))
      → scale_list ℤ_ring (negated_if b p) e ≡ negated_from chosen j (scale_list ℤ_ring p e)
  unfolding scale_list negated_from
  scale-negated b p j [] h = refl
  scale-negated b p j (x ∷ e) h =
      ap₂ ◌∷◌ (first (h 0)) (scale-negated b p (suc j) e (λ i. rw (shift i) at (h (suc i))))
    where
      shift : (i : ℕ) → j + suc i ≡ suc j + i
      shift i = omega arith

      here : j + 0 ≡ j
      here = omega arith

      nothing : (c : Bool) → negated_if b p *ℤ pos 0 ≡ negated_if c (p *ℤ pos 0)
      nothing c = rw (*ℤ_comm (negated_if b p) (pos 0), *ℤ_comm p (pos 0), zero-*ℤ (negated_if b p), zero-*ℤ p, negated-zero c)

      first : (x ≡ pos 0) ⊎ (chosen (j + 0) ≡ b) → negated_if b p *ℤ x ≡ negated_if (chosen j) (p *ℤ x)
      first (inl z) = rw z (nothing (chosen j))
      first (inr c) = negated_left b p x ∙ ap (λ d. negated_if d (p *ℤ x)) (sym c ∙ ap chosen here)

module _ (chosen : ℕ → Bool) (fits : Fits chosen) where
  expanded-negated : (k : ℕ) (ps : List ℤ) → k + length ps ≤ coefficient_count → expanded_from k (negated_from chosen k ps) ≡ negated_from chosen 0 (expanded_from k ps)
  unfolding expanded_from negated_from
  expanded-negated k [] h = refl
  expanded-negated k (p ∷ ps) h =
      ap₂ (add_lists ℤ_ring) (scale-negated chosen (chosen k) p 0 (expansion_row k) (λ i. rw (start i) (fits k i (omega arith))))
      (expanded-negated (suc k) ps (omega arith))
      ∙ negated_sum chosen 0 (scale_list ℤ_ring p (expansion_row k)) (expanded_from (suc k) ps)
    where
      start : (i : ℕ) → 0 + i ≡ i
      start i = omega arith

  good_series-negated : (s : Series) → good_series (negated_series_where chosen s) ≡ good_series s
  good_series-negated s =
      sym (series_good (negated_series_where chosen s)) ∙ within_limits-negated chosen (standard_model s.degree s.coefficients 0) ∙ series_good s

  module _ (s : Series) (good : good_series s ≡ true) where
    expanded_is : expanded (negated_series_where chosen s) ≡ negated_from chosen 0 (expanded s)
    expanded_is =
        ap (expanded_from 0) (take-negated chosen (suc s.degree) 0 s.coefficients)
        ∙ expanded-negated 0 (series_terms s) (omega (arith, length-take (suc s.degree) s.coefficients, limits s good))

    series_model-negated : series_model (negated_series_where chosen s) ≡ negated_where chosen (series_model s)
    unfolding series_model
    series_model-negated =
        let zeros = replicate (coefficient_count - suc s.degree) (pos 0) in
        ap₂ (standard_model s.degree)
        (ap (λ c. rounded expansion_unit c ++ zeros) expanded_is
        ∙ ap (λ c. c ++ zeros) (rounded-negated chosen expansion_unit (omega arith) 0 (expanded s))
        ∙ sym (negated_append_zeros chosen 0 (coefficient_count - suc s.degree) (rounded expansion_unit (expanded s))))
        (ap (λ c. upℕ (rounding_loss expansion_unit c) expansion_unit) expanded_is
        ∙ ap (λ (n : ℕ). upℕ n expansion_unit) (rounding_loss-negated chosen expansion_unit (omega arith) 0 (expanded s)))

    conversion_of_good_negated : conversion (negated_series_where chosen s) ≡ map_outcome (negated_where chosen) (conversion s)
    unfolding conversion
    conversion_of_good_negated =
        rw (good_series-negated s, series_model-negated, too_large-negated chosen (series_model s))
        (outcome_mapped (negated_where chosen) (conversion_places s) (series_model s) zero_model (zero-negated chosen))

  conversion_mapped : (s : Series) → conversion (negated_series_where chosen s) ≡ map_outcome (negated_where chosen) (conversion s)
  conversion_mapped s = pick (good_series s) refl
    where
      pick : (t : Bool) → good_series s ≡ t → conversion (negated_series_where chosen s) ≡ map_outcome (negated_where chosen) (conversion s)
      pick true e = conversion_of_good_negated s e
      pick false e =
          sym (conversion_of_bad (negated_series_where chosen s) (good_series-negated s ∙ e))
          ∙ ap (refused 14) (sym (zero-negated chosen))
          ∙ ap (map_outcome (negated_where chosen)) (conversion_of_bad s e)

-- negating all p_k negates the model
pub conversion-negated : (s : Series) → conversion (negated_series s) ≡ map_outcome negated (conversion s)
conversion-negated s = conversion_mapped every fits-every s

-- negating the odd p_k mirrors it
pub conversion-mirrored : (s : Series) → conversion (mirrored_series s) ≡ map_outcome mirrored (conversion s)
conversion-mirrored s = conversion_mapped odd fits-odd s
