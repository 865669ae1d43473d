-- "a value isn't finite, while making": what is not finite inside a round shows in the list that the round ends with, or in its
-- change, so that testing these after each round (finite_round) sees every value.
use Rattle.std.specs.Prelude.{◌≡◌, refl, Bool, true, List, [], ◌∷◌, map, ℕ, suc, ◌+◌, ◌≤◌, ◌<◌, T, length, replicate, Float}
use Rattle.std.proofs.Common.{sym, ◌∙◌, ap, subst, arith}
use Rattle.std.proofs.lemmas.List.{length-map}
use Rattle.std.specs.Float.{binary64}
use Rattle.std.specs.Float.Ieee.{add, sub, mul}
use Rattle.std.specs.Float.Ieee.Bits.{is_true}
use Rattle.std.specs.Float.Ieee.Fits.{and_l, and_r}
use Rattle.std.specs.Float.Ieee.Scale.{finite}
use Rattle.chebyshev.proofs.laws.ProductLaws.{length_add_terms_by}
use Rattle.model.specs.definitions.Models.{coefficient_count}
use Rattle.proposals.specs.definitions.Values.{nought, two, all_finite}
use Rattle.proposals.specs.definitions.Product.{half, product, product_wide}
use Rattle.proposals.specs.definitions.Rounds.{two_less, improved, change_from, round_of, next_round, finite_round}
use Rattle.proposals.specs.definitions.Finite.{walk_terms, products_finite, all_products_finite, differences}
use Rattle.proposals.proofs.laws.FiniteOperations.{mul_finite, sub_finite, half_finite, head_finite, tail_finite, cons_finite, none_finite, map_finite}
use Rattle.proposals.proofs.laws.FiniteChange.{change_finite}
use Rattle.proposals.proofs.laws.FiniteWalk.{terms_products_finite}

-- a test that is passed, as a fact
pub passes : {b : Bool} → b ≡ true → T b
passes e = subst T (sym e) tt

-- ---- a product

-- the list before it is halved
pub walk_finite : (n : ℕ) (a b : List Float) → all_finite (product_wide n a b) ≡ true → T (all_finite (walk_terms (replicate n nought, 0) 0 a b).0)
unfolding product_wide
walk_finite n a b h = map_finite half half_finite (walk_terms (replicate n nought, 0) 0 a b).0 (passes h)

-- every product of two elements
pub product_finite : (a b : List Float) → length a ≤ coefficient_count → length b ≤ coefficient_count → all_finite (product a b) ≡ true → all_products_finite a b ≡ true
product_finite a b la lb h =
    let l : 0 + length a ≤ coefficient_count = omega arith in
    is_true (all_products_finite a b) (terms_products_finite (replicate coefficient_count nought, 0) 0 a b l lb (walk_finite coefficient_count a b h))

first_finite : (a : List Float) (y : Float) (b : List Float) → T (all_products_finite a (y ∷ b)) → T (all_finite a)
unfolding all_products_finite
first_finite [] y b h = none_finite
first_finite (x ∷ a) y b h =
    let p : T (products_finite x (y ∷ b)) = and_l (products_finite x (y ∷ b)) (all_products_finite a (y ∷ b)) h in
    cons_finite x a (mul_finite binary64 x y (head_finite (mul binary64 x y) (map (mul binary64 x) b) p)).0
    (first_finite a y b (and_r (products_finite x (y ∷ b)) (all_products_finite a (y ∷ b)) h))

second_finite : (x : Float) (a b : List Float) → T (all_products_finite (x ∷ a) b) → T (all_finite b)
unfolding all_products_finite
second_finite x a b h = map_finite (mul binary64 x) (λ y k. (mul_finite binary64 x y k).1) b (and_l (products_finite x b) (all_products_finite a b) h)

products_factors : (a b : List Float) → 0 < length a → 0 < length b → T (all_products_finite a b) → T (all_finite a) × T (all_finite b)
products_factors [] b p q h = absurd (omega arith)
products_factors (x ∷ a) [] p q h = absurd (omega arith)
products_factors (x ∷ a) (y ∷ b) p q h = (first_finite (x ∷ a) y b h, second_finite x a (y ∷ b) h)

-- both factors, where neither is empty
pub factors_finite : (a b : List Float) → length a ≤ coefficient_count → length b ≤ coefficient_count → 0 < length a → 0 < length b
    → all_finite (product a b) ≡ true → (all_finite a ≡ true) × (all_finite b ≡ true)
factors_finite a b la lb p q h =
    let k = products_factors a b p q (passes (product_finite a b la lb h)) in
    (is_true (all_finite a) k.0, is_true (all_finite b) k.1)

-- ---- a round

two_less_finite : (c : List Float) → T (all_finite (two_less c)) → T (all_finite c)
unfolding two_less
two_less_finite [] h = h
two_less_finite (x ∷ c) h =
    let z = sub binary64 nought in
    cons_finite x c (sub_finite binary64 two x (head_finite (sub binary64 two x) (map z c) h)).1
    (map_finite z (λ y k. (sub_finite binary64 nought y k).1) c (tail_finite (sub binary64 two x) (map z c) h))

pub length_two_less : (c : List Float) → length (two_less c) ≡ length c
unfolding two_less
length_two_less [] = refl
length_two_less (x ∷ c) = ap suc (length-map c (sub binary64 nought))

pub length-product : (a b : List Float) → length (product a b) ≡ coefficient_count
unfolding product_wide
length-product a b =
    length-map (walk_terms (replicate coefficient_count nought, 0) 0 a b).0 half
    ∙ length_add_terms_by (add binary64) (mul binary64) (replicate coefficient_count nought, 0) 0 a b

-- every list of a round
pub round_finite : (g w : List Float) (d : Float) → length g ≡ coefficient_count → length w ≡ coefficient_count → finite_round (next_round g (round_of w d)) ≡ true
    → (all_finite (product g w) ≡ true) × (all_finite (two_less (product g w)) ≡ true) × (all_finite g ≡ true) × (all_finite w ≡ true)
unfolding finite_round next_round improved
round_finite g w d lg lw h =
    let v = product g w in
    let t = two_less v in
    let u = improved g w in
    let lt : length t ≡ coefficient_count = length_two_less v ∙ length-product g w in
    let last : all_finite (product w t) ≡ true = is_true (all_finite u) (and_l (all_finite u) (finite (change_from nought u w)) (passes h)) in
    let outer : (all_finite w ≡ true) × (all_finite t ≡ true) = factors_finite w t (omega arith) (omega arith) (omega arith) (omega arith) last in
    let first : all_finite v ≡ true = is_true (all_finite v) (two_less_finite v (passes outer.1)) in
    let inner : (all_finite g ≡ true) × (all_finite w ≡ true) = factors_finite g w (omega arith) (omega arith) (omega arith) (omega arith) first in
    (first, outer.1, inner.0, inner.1)

-- every difference that its change is the largest of
pub round_differences_finite : (g w : List Float) (d : Float) → length g ≡ coefficient_count → length w ≡ coefficient_count
    → finite_round (next_round g (round_of w d)) ≡ true → all_finite (differences (improved g w) w) ≡ true
unfolding finite_round next_round
round_differences_finite g w d lg lw h =
    let u = improved g w in
    let p : T (all_finite u) = and_l (all_finite u) (finite (change_from nought u w)) (passes h) in
    let q : T (all_finite w) = passes (round_finite g w d lg lw h).3 in
    is_true (all_finite (differences u w)) (change_finite nought u w tt p q (and_r (all_finite u) (finite (change_from nought u w)) (passes h))).1
