-- An accepted result of each operation is a good model, so that no later operation refuses it with 2.
use Rattle.std.specs.Prelude.{◌≡◌, true, false, List, [], ◌∷◌, ◌++◌, map, ℕ, zero, suc, ◌+◌, ◌-◌, ◌≤◌, ◌*◌, ltb, ℤ, pos, length, take, drop, replicate}
use Rattle.std.proofs.Common.{sym, le-leb, ltb-false, length-take}
use native.Mathlib.Omega.{arith}
use Rattle.std.proofs.lemmas.Bool.{not-false}
use Rattle.std.proofs.Math.IntN.{neg_ℤ}
use Rattle.ring.specs.definitions.Integer.{ℤ_ring}
use Rattle.chebyshev.specs.definitions.Coefficients.{weight, add_lists, subtract_lists}
use Rattle.chebyshev.proofs.laws.Weight.{weight-add, weight-drop, weight-zeros, weight_opposite}
use Rattle.model.specs.definitions.InnerContracts.{rounded_integral, rounded_tail}
use Rattle.model.specs.definitions.Models.{scale, max_degree, max_weight, max_radius, coefficient_count, terms, beyond, parts_within_limits, good, too_large, zero_model}
use Rattle.model.specs.definitions.Intervals.{extent, good_ends}
use Rattle.model.proofs.laws.ModelLaws.{good_is, good_ends_lem}
use Rattle.model.specs.definitions.Outcomes.{accepted}
use Rattle.model.specs.definitions.Load.{loading, loading_places}
use Rattle.model.specs.definitions.Add.{sum_model, difference_model, addition_places, subtraction_places, addition, subtraction}
use Rattle.model.specs.definitions.Multiply.{product_list, product_degree, product_model, multiplication_places, multiplication}
use Rattle.model.specs.definitions.Integrate.{double_first, alternating, integral_model, integration_places, integration}
use Rattle.model.specs.definitions.Round.{rounded}
use Rattle.model.proofs.laws.IntegralLaws.{integral_is, length-rounded, length_doubled}
use Rattle.model.proofs.laws.RoundingPassLaws.{rounded-length}
use Rattle.model.proofs.laws.PlaceLaws.{outcome_accepted}
use Rattle.model.proofs.laws.ResultLaws.{neither}
use Rattle.model.specs.declared.types.Model.{Model}

-- a result that is not too large, with zeros beyond its degree and good ends
pub good_small : (m : Model) → too_large m ≡ false → weight (beyond m) ≡ 0 → good_ends m.interval ≡ true → good m ≡ true
unfolding good parts_within_limits too_large
good_small m t z i =
    let p = neither (ltb max_weight (weight m.coefficients)) _ t in
    let q = neither (ltb max_radius m.radius) _ p.1 in
    rw (
      le-leb m.degree max_degree (ltb-false max_degree m.degree q.1),
      le-leb (weight m.coefficients) max_weight (ltb-false max_weight (weight m.coefficients) p.0),
      le-leb m.radius max_radius (ltb-false max_radius m.radius q.0),
      z,
      i,
    )

-- ---- the weight beyond a place

weight_drop_more : (j k : ℕ) (a : List ℤ) → j ≤ k → weight (drop k a) ≤ weight (drop j a)
unfolding weight
weight_drop_more zero k a h = weight-drop k a
weight_drop_more (suc j) zero a h = absurd (omega arith)
weight_drop_more (suc j) (suc k) [] h = omega arith
weight_drop_more (suc j) (suc k) (c ∷ a) h = weight_drop_more j k a (omega arith)

weight_drop_add : (k : ℕ) (a b : List ℤ) → weight (drop k (add_lists ℤ_ring a b)) ≤ weight (drop k a) + weight (drop k b)
unfolding add_lists weight
weight_drop_add zero a b = weight-add a b
weight_drop_add (suc k) [] b = omega arith
weight_drop_add (suc k) (c ∷ a) [] = omega arith
weight_drop_add (suc k) (c ∷ a) (d ∷ b) = weight_drop_add k a b

weight_drop_opposite : (k : ℕ) (b : List ℤ) → weight (drop k (map neg_ℤ b)) ≡ weight (drop k b)
unfolding weight
weight_drop_opposite zero b = weight_opposite b
weight_drop_opposite (suc k) [] = omega arith
weight_drop_opposite (suc k) (c ∷ b) = weight_drop_opposite k b

-- behind a list there are zeros alone
pub weight_behind : (k : ℕ) (a : List ℤ) (n : ℕ) → length a ≤ k → weight (drop k (a ++ replicate n (pos 0))) ≡ 0
weight_behind k [] n h = omega (arith, weight-drop k (replicate n (pos 0)), weight-zeros n)
weight_behind zero (c ∷ a) n h = absurd (omega arith)
weight_behind (suc k) (c ∷ a) n h = weight_behind k a n (omega arith)

-- ---- the operations

module _ (a b : Model) (ga : good a ≡ true) (gb : good b ≡ true) where
  sum_beyond : weight (beyond (sum_model a b)) ≡ 0
  unfolding sum_model
  sum_beyond =
      let n = (sum_model a b).degree in
      omega (
        arith,
        weight_drop_add (suc n) a.coefficients b.coefficients,
        weight_drop_more (suc a.degree) (suc n) a.coefficients (omega arith),
        weight_drop_more (suc b.degree) (suc n) b.coefficients (omega arith),
        (good_is a ga).beyond-zero,
        (good_is b gb).beyond-zero,
      )

  difference-beyond : weight (beyond (difference_model a b)) ≡ 0
  unfolding difference_model subtract_lists
  difference-beyond =
      let n = (difference_model a b).degree in
      omega (
        arith,
        weight_drop_add (suc n) a.coefficients (map neg_ℤ b.coefficients),
        weight_drop_opposite (suc n) b.coefficients,
        weight_drop_more (suc a.degree) (suc n) a.coefficients (omega arith),
        weight_drop_more (suc b.degree) (suc n) b.coefficients (omega arith),
        (good_is a ga).beyond-zero,
        (good_is b gb).beyond-zero,
      )

product-beyond : (d : ℕ) (a b : Model) → weight (beyond (product_model d a b)) ≡ 0
unfolding product_model
product-beyond d a b =
    let n = product_degree d a b in
    let kept = rounded (2 * scale) (take (suc n) (product_list a b)) in
    weight_behind (suc n) kept (coefficient_count - suc n) (rw (rounded-length, length-take) (omega arith))

integral_beyond : (a : Model) → weight (beyond (integral_model a)) ≡ 0
unfolding integral_model rounded_integral
integral_beyond a =
    rw (sym (integral_is a))
    (weight_behind (suc (a.degree + 1)) (alternating tail ∷ tail) (coefficient_count - suc (length tail)) short)
  where
    tail : List ℤ
    tail = rounded_tail (extent a.interval) (double_first (terms a))

    short : length (alternating tail ∷ tail) ≤ suc (a.degree + 1)
    short = rw (length-rounded, length_doubled, length-take) (omega arith)

pub loading-good : (m : Model) {c : Model} → loading m ≡ accepted c → good c ≡ true
unfolding loading
loading-good m e = let (passed, same) = outcome_accepted (loading_places m) m zero_model e in rw same (not-false (good m) passed.0)

pub addition-good : (a b : Model) {c : Model} → addition a b ≡ accepted c → good c ≡ true
unfolding addition sum_model
addition-good a b e =
    let (passed, same) = outcome_accepted (addition_places a b) (sum_model a b) zero_model e in
    let g = not-false (good a) passed.0 in
    rw same (good_small _ passed.1.1.1.0 (sum_beyond a b g (not-false (good b) passed.1.0)) (good_ends_lem a g))

pub subtraction-good : (a b : Model) {c : Model} → subtraction a b ≡ accepted c → good c ≡ true
unfolding subtraction difference_model
subtraction-good a b e =
    let (passed, same) = outcome_accepted (subtraction_places a b) (difference_model a b) zero_model e in
    let g = not-false (good a) passed.0 in
    rw same (good_small _ passed.1.1.1.0 (difference-beyond a b g (not-false (good b) passed.1.0)) (good_ends_lem a g))

pub multiplication-good : (d : ℕ) (a b : Model) {c : Model} → multiplication d a b ≡ accepted c → good c ≡ true
unfolding multiplication product_model
multiplication-good d a b e =
    let (passed, same) = outcome_accepted (multiplication_places d a b) (product_model d a b) zero_model e in
    rw same (good_small _ passed.1.1.1.1.0 (product-beyond d a b) (good_ends_lem a (not-false (good a) passed.0)))

pub integration-good : (a : Model) {c : Model} → integration a ≡ accepted c → good c ≡ true
unfolding integration integral_model
integration-good a e =
    let (passed, same) = outcome_accepted (integration_places a) (integral_model a) zero_model e in
    rw same (good_small _ passed.1.0 (integral_beyond a) (good_ends_lem a (not-false (good a) passed.0)))
