-- Document 02, S-11, as equations of whole outcomes, refusals included, for every model, kept degree and point: "Negating every
-- coefficient of one factor, or of an integrand, then negates the result's coefficients and keeps its radius." Evaluation stands in
-- MirroredEvaluation.antt.
use Rattle.std.specs.Prelude.{◌≡◌, refl, Bool, pos, neg_ℤ, ◌-ℤ◌, ◌*ℤ◌, length, take, drop}
use Rattle.std.proofs.Math.Path.{sym, ap, ap₂}
use Rattle.std.proofs.Common.{◌∙◌, arith}
use mathlib.Core.List.{List, [], ◌∷◌, ◌++◌, map}
use Prim.Native.Nat.{ℕ, zero, suc, ◌+◌, ◌-◌, ◌*◌, max}
use Rattle.std.proofs.Math.IntN.{ℤ}
use Rattle.std.proofs.Math.ListN.{replicate}
use Rattle.ring.specs.laws.Difference.{all1, all2, differences}
use Rattle.ring.specs.definitions.Integer.{ℤ_ring}
use Rattle.integer.specs.definitions.Rounding.{near, upℕ}
use Rattle.integer.proofs.laws.RoundingLaws.{near_opposite}
use Rattle.chebyshev.specs.definitions.Coefficients.{subtract_lists}
use Rattle.chebyshev.specs.definitions.Product.{product}
use Rattle.chebyshev.specs.definitions.Negation.{every, negated_from}
use Rattle.chebyshev.proofs.laws.NegationLaws.{Signs, signs_left, signs_right, signs_odd, product-negated, length-negated, take-negated, drop-negated, weight-negated, negated_append_zeros, negated-every, negated_sum, negated-difference}
use Rattle.model.specs.definitions.Models.{scale, coefficient_count, product_size, terms, make_model, zero_model}
use Rattle.model.specs.definitions.Mirror.{negated_where, negated, mirrored}
use Rattle.model.specs.definitions.Intervals.{extent}
use Rattle.model.specs.definitions.Outcomes.{map_outcome}
use Rattle.model.specs.definitions.Load.{loading_places, loading}
use Rattle.model.specs.definitions.Add.{sum_model, difference_model, addition_places, subtraction_places, addition, subtraction}
use Rattle.model.specs.definitions.Multiply.{product_list, product_degree, product_loss, product_model, multiplication_places, multiplication}
use Rattle.model.specs.definitions.Integrate.{double_first, numerators, halved, alternating, integral_list, integral_model, integration_places, integration}
use Rattle.model.specs.definitions.Round.{rounded}
use Rattle.model.proofs.laws.MirrorLaws.{rounded-negated, rounding_loss-negated, terms-negated, weight_of_negated, negated_nowhere, within_limits-negated, good-negated, too_large-negated, zero-negated, outcome_mapped}
use Rattle.model.specs.declared.types.Model.{Model}

-- ---- a load

pub loading-negated : (chosen : ℕ → Bool) (m : Model) → loading (negated_where chosen m) ≡ map_outcome (negated_where chosen) (loading m)
unfolding loading
loading-negated chosen m =
    rw (good-negated chosen m, within_limits-negated chosen m)
    (outcome_mapped (negated_where chosen) (loading_places m) m zero_model (zero-negated chosen))

-- ---- add and subtract, both operands negated at the same places

module _ (chosen : ℕ → Bool) (a b : Model) where
  abbrev formed : List ℤ → Model
  formed cs = make_model (max a.degree b.degree) cs (a.radius + b.radius) a.interval

  sum_model-negated : sum_model (negated_where chosen a) (negated_where chosen b) ≡ negated_where chosen (sum_model a b)
  unfolding sum_model
  sum_model-negated = ap formed (negated_sum chosen 0 a.coefficients b.coefficients)

  pub addition-negated : addition (negated_where chosen a) (negated_where chosen b) ≡ map_outcome (negated_where chosen) (addition a b)
  unfolding addition
  addition-negated =
      rw (good-negated chosen a, good-negated chosen b, within_limits-negated chosen a, within_limits-negated chosen b, sum_model-negated, too_large-negated chosen (sum_model a b))
      (outcome_mapped (negated_where chosen) (addition_places a b) (sum_model a b) zero_model (zero-negated chosen))

  difference_model-negated : difference_model (negated_where chosen a) (negated_where chosen b) ≡ negated_where chosen (difference_model a b)
  unfolding difference_model
  difference_model-negated = ap formed (negated-difference chosen 0 a.coefficients b.coefficients)

  pub subtraction-negated : subtraction (negated_where chosen a) (negated_where chosen b) ≡ map_outcome (negated_where chosen) (subtraction a b)
  unfolding subtraction
  subtraction-negated =
      rw (good-negated chosen a, good-negated chosen b, within_limits-negated chosen a, within_limits-negated chosen b, difference_model-negated, too_large-negated chosen (difference_model a b))
      (outcome_mapped (negated_where chosen) (subtraction_places a b) (difference_model a b) zero_model (zero-negated chosen))

-- ---- multiply

module _ {s t u : ℕ → Bool} (signs : Signs s t u) (a b : Model) where
  pub product_list-negated : product_list (negated_where s a) (negated_where t b) ≡ negated_from u 0 (product_list a b)
  unfolding product_list
  product_list-negated = ap₂ (product ℤ_ring product_size) (terms-negated s a) (terms-negated t b) ∙ product-negated signs product_size (terms a) (terms b)

  kept_negated : (n : ℕ) → take n (product_list (negated_where s a) (negated_where t b)) ≡ negated_from u 0 (take n (product_list a b))
  kept_negated n = ap (take n) product_list-negated ∙ take-negated u n 0 (product_list a b)

  product_loss-negated : (n : ℕ) → product_loss n (negated_where s a) (negated_where t b) ≡ product_loss n a b
  unfolding product_loss
  product_loss-negated n =
      rw (
        kept_negated (suc n),
        rounding_loss-negated u (2 * scale) (omega arith) 0 (take (suc n) (product_list a b)),
        product_list-negated,
        drop-negated u (suc n) 0 (product_list a b),
        weight-negated u (0 + suc n) (drop (suc n) (product_list a b)),
        weight_of_negated s a,
        weight_of_negated t b,
      )

  product_model-negated : (d : ℕ) → product_model d (negated_where s a) (negated_where t b) ≡ negated_where u (product_model d a b)
  unfolding product_model
  product_model-negated d =
      let n = product_degree d a b in
      ap₂ (λ cs (e : ℕ). make_model n cs e a.interval)
      (ap (λ c. rounded (2 * scale) c ++ zeros n) (kept_negated (suc n))
      ∙ ap (λ c. c ++ zeros n) (rounded-negated u (2 * scale) (omega arith) 0 (take (suc n) (product_list a b)))
      ∙ sym (negated_append_zeros u 0 (coefficient_count - suc n) (rounded (2 * scale) (take (suc n) (product_list a b)))))
      (ap (λ e. upℕ e (2 * scale)) (product_loss-negated n))
    where
      zeros : ℕ → List ℤ
      zeros n = replicate (coefficient_count - suc n) (pos 0)

  pub multiplication-negated : (d : ℕ) → multiplication d (negated_where s a) (negated_where t b) ≡ map_outcome (negated_where u) (multiplication d a b)
  unfolding multiplication
  multiplication-negated d =
      rw (good-negated s a, good-negated t b, within_limits-negated s a, within_limits-negated t b, product_model-negated d, too_large-negated u (product_model d a b))
      (outcome_mapped (negated_where u) (multiplication_places d a b) (product_model d a b) zero_model (zero-negated u))

-- "Negating every coefficient of one factor … negates the result's coefficients and keeps its radius", the first, and the second
pub multiplication_first : (d : ℕ) (a b : Model) → multiplication d (negated a) b ≡ map_outcome negated (multiplication d a b)
multiplication_first d a b = ap (multiplication d (negated a)) (sym (negated_nowhere b)) ∙ multiplication-negated signs_left a b d

pub multiplication_second : (d : ℕ) (a b : Model) → multiplication d a (negated b) ≡ map_outcome negated (multiplication d a b)
multiplication_second d a b = ap (λ m. multiplication d m (negated b)) (sym (negated_nowhere a)) ∙ multiplication-negated signs_right a b d

-- both factors mirrored
pub multiplication-mirrored : (d : ℕ) (a b : Model) → multiplication d (mirrored a) (mirrored b) ≡ map_outcome mirrored (multiplication d a b)
multiplication-mirrored d a b = multiplication-negated signs_odd a b d

pub opposites : (x y : ℤ) → neg_ℤ x -ℤ neg_ℤ y ≡ neg_ℤ (x -ℤ y)
opposites = all2 _ (simp differences (omega arith))

-- ---- integrate

opposite_difference : (a b : List ℤ) → subtract_lists ℤ_ring (map neg_ℤ a) (map neg_ℤ b) ≡ map neg_ℤ (subtract_lists ℤ_ring a b)
opposite_difference a b =
    ap₂ (subtract_lists ℤ_ring) (sym (negated-every 0 a)) (sym (negated-every 0 b))
    ∙ negated-difference every 0 a b
    ∙ negated-every 0 (subtract_lists ℤ_ring a b)

numerators_opposite : (cs : List ℤ) → numerators (map neg_ℤ cs) ≡ map neg_ℤ (numerators cs)
unfolding numerators double_first
numerators_opposite cs =
    ap₂ (subtract_lists ℤ_ring) (doubled cs) (dropped 2 cs) ∙ opposite_difference (double_first cs) (drop 2 cs)
  where
    twice : (a : ℤ) → pos 2 *ℤ neg_ℤ a ≡ neg_ℤ (pos 2 *ℤ a)
    twice = all1 _ (simp differences (omega arith))

    doubled : (cs : List ℤ) → double_first (map neg_ℤ cs) ≡ map neg_ℤ (double_first cs)
    doubled [] = refl
    doubled (a ∷ cs) = ap (λ z. z ∷ map neg_ℤ cs) (twice a)

    dropped : (n : ℕ) (cs : List ℤ) → drop n (map neg_ℤ cs) ≡ map neg_ℤ (drop n cs)
    dropped zero cs = refl
    dropped (suc n) [] = refl
    dropped (suc n) (c ∷ cs) = dropped n cs

halved_opposite : (d k : ℕ) (ns : List ℤ) → halved d (suc k) (map neg_ℤ ns) ≡ map neg_ℤ (halved d (suc k) ns)
unfolding halved
halved_opposite d k [] = refl
halved_opposite d k (n ∷ ns) =
    ap₂ ◌∷◌ (ap (λ z. near z (4 * scale * suc k)) (turn n (pos d)) ∙ near_opposite (n *ℤ pos d) (4 * scale * suc k) (omega arith)) (halved_opposite d (suc k) ns)
  where
    turn : (n d : ℤ) → neg_ℤ n *ℤ d ≡ neg_ℤ (n *ℤ d)
    turn = all2 _ (simp differences (omega arith))

alternating_opposite : (cs : List ℤ) → alternating (map neg_ℤ cs) ≡ neg_ℤ (alternating cs)
unfolding alternating
alternating_opposite [] = refl
alternating_opposite (c ∷ cs) = ap (λ z. neg_ℤ c -ℤ z) (alternating_opposite cs) ∙ opposites c (alternating cs)

integral_list_opposite : (d : ℕ) (cs : List ℤ) → integral_list d (map neg_ℤ cs) ≡ map neg_ℤ (integral_list d cs)
unfolding integral_list
integral_list_opposite d cs =
    let tail : halved d 1 (numerators (map neg_ℤ cs)) ≡ map neg_ℤ (halved d 1 (numerators cs)) = ap (halved d 1) (numerators_opposite cs) ∙ halved_opposite d 0 (numerators cs) in
    ap₂ ◌∷◌ (ap alternating tail ∙ alternating_opposite (halved d 1 (numerators cs))) tail

integral_model-negated : (a : Model) → integral_model (negated a) ≡ negated (integral_model a)
unfolding integral_model
integral_model-negated a =
    let d = extent a.interval in
    let l = integral_list d (terms a) in
    let e : integral_list d (terms (negated a)) ≡ negated_from every 0 l =
    ap (integral_list d) (terms-negated every a ∙ negated-every 0 (terms a)) ∙ integral_list_opposite d (terms a) ∙ sym (negated-every 0 l) in
    ap (λ cs. make_model (a.degree + 1) cs (upℕ (a.radius * d) scale + a.degree + 1) a.interval)
    (ap (λ c. c ++ replicate (coefficient_count - length c) (pos 0)) e
    ∙ ap (λ (n : ℕ). negated_from every 0 l ++ replicate (coefficient_count - n) (pos 0)) (length-negated every 0 l)
    ∙ sym (negated_append_zeros every 0 (coefficient_count - length l) l))

-- "… or of an integrand"
pub integration-negated : (a : Model) → integration (negated a) ≡ map_outcome negated (integration a)
unfolding integration
integration-negated a =
    rw (good-negated every a, within_limits-negated every a, integral_model-negated a, too_large-negated every (integral_model a))
    (outcome_mapped negated (integration_places a) (integral_model a) zero_model (zero-negated every))
