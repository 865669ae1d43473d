-- Rows of +0 add nothing, so a product of constants is a constant, and a round of constants is a round of two numbers.
use Rattle.std.specs.Prelude.{◌≡◌, refl, true, List, [], ◌∷◌, map, ℕ, zero, suc, ◌+◌, replicate, Float}
use Rattle.std.proofs.Common.{◌∙◌, ap}
use Rattle.std.specs.Float.{binary64}
use Rattle.std.specs.Float.Ieee.{add, mul, sub, div, lt}
use Rattle.std.specs.Float.Ieee.Scale.{finite}
use Rattle.chebyshev.specs.definitions.Product.{distance, Walk, add_at_by, add_pair_by, add_term_by, add_terms_by}
use Rattle.proposals.specs.definitions.Values.{nought, two, difference, greater, magnitude, all_finite}
use Rattle.proposals.specs.definitions.Product.{half, product, product_wide}
use Rattle.proposals.specs.definitions.Rounds.{two_less, improved, change_from}
use Rattle.proposals.specs.definitions.Reciprocal.{constant_list}
use Rattle.proposals.specs.definitions.Finite.{walk_term, walk_terms}

-- ---- +0

add_noughts : add binary64 nought nought ≡ nought
unfolding add
add_noughts = refl

mul_noughts : mul binary64 nought nought ≡ nought
unfolding mul
mul_noughts = refl

sub_noughts : sub binary64 nought nought ≡ nought
unfolding sub
sub_noughts = refl

half-nought : half nought ≡ nought
unfolding half div
half-nought = refl

difference_noughts : difference nought nought ≡ nought
unfolding difference magnitude sub lt
difference_noughts = refl

greater_noughts : greater nought nought ≡ nought
unfolding greater lt
greater_noughts = refl

pub map_replicate : {A B : Type 0} (f : A → B) (n : ℕ) (x : A) (y : B) → f x ≡ y → map f (replicate n x) ≡ replicate n y
map_replicate f zero x y e = refl
map_replicate f (suc n) x y e = rw (e, map_replicate f n x y e)

-- ---- adding +0

-- +0 added to any element leaves it as it is
unfoldable Still : List Float → Type 0
Still [] = Unit
Still (y ∷ c) = (add binary64 y nought ≡ y) × Still c

still_zeros : (n : ℕ) → Still (replicate n nought)
unfolding Still
still_zeros zero = tt
still_zeros (suc n) = (add_noughts, still_zeros n)

still_at : (c : List Float) (k : ℕ) → Still c → add_at_by (add binary64) c k nought ≡ c
unfolding Still add_at_by
still_at [] k s = refl
still_at (y ∷ c) zero s = ap (λ (z : Float). z ∷ c) s.0
still_at (y ∷ c) (suc k) s = ap (λ (l : List Float). y ∷ l) (still_at c k s.1)

still_pair : (c : List Float) (i j : ℕ) (v : Float) → Still c → v ≡ nought → add_pair_by (add binary64) c i j v ≡ c
unfolding add_pair_by
still_pair c i j v s e = rw (e, still_at c (i + j) s) (still_at c (distance i j) s)

-- the pairs of x with zeros
term_of_zeros : (w : Walk Float) (x : Float) (i j n : ℕ) → Still w.0 → mul binary64 x nought ≡ nought → (walk_term w x i j (replicate n nought)).0 ≡ w.0
unfolding add_term_by
term_of_zeros w x i j zero s e = refl
term_of_zeros w x i j (suc n) s e =
    let p : add_pair_by (add binary64) w.0 i j (mul binary64 x nought) ≡ w.0 = still_pair w.0 i j (mul binary64 x nought) s e in
    term_of_zeros (add_pair_by (add binary64) w.0 i j (mul binary64 x nought), w.1 + 1) x i (suc j) n (rw p s) e ∙ p

-- a term of +0: its pairs with y and zeros
term_of_nought : (w : Walk Float) (i : ℕ) (y : Float) (n : ℕ) → Still w.0 → mul binary64 nought y ≡ nought → (walk_term w nought i 0 (y ∷ replicate n nought)).0 ≡ w.0
unfolding add_term_by
term_of_nought w i y n s e =
    let p : add_pair_by (add binary64) w.0 i 0 (mul binary64 nought y) ≡ w.0 = still_pair w.0 i 0 (mul binary64 nought y) s e in
    term_of_zeros (add_pair_by (add binary64) w.0 i 0 (mul binary64 nought y), w.1 + 1) nought i 1 n (rw p s) mul_noughts ∙ p

-- the pairs of zeros with y and zeros
terms_of_zeros : (w : Walk Float) (i m : ℕ) (y : Float) (n : ℕ) → Still w.0 → mul binary64 nought y ≡ nought
    → (walk_terms w i (replicate m nought) (y ∷ replicate n nought)).0 ≡ w.0
unfolding add_terms_by
terms_of_zeros w i zero y n s e = refl
terms_of_zeros w i (suc m) y n s e =
    let p : (walk_term w nought i 0 (y ∷ replicate n nought)).0 ≡ w.0 = term_of_nought w i y n s e in
    terms_of_zeros (walk_term w nought i 0 (y ∷ replicate n nought)) (suc i) m y n (rw p s) e ∙ p

-- ---- the product of two constants

-- the sum at place 0: the pair (0, 0) counts twice
unfoldable pub doubled : Float → Float → Float
doubled x y = add binary64 (add binary64 nought (mul binary64 x y)) (mul binary64 x y)

-- where +0 takes no part in the product of x and y
pub record Plain (x y : Float) : Type 0 where
  pub left : mul binary64 x nought ≡ nought
  pub right : mul binary64 nought y ≡ nought
  pub sum : add binary64 (doubled x y) nought ≡ doubled x y

walk_of_constants : (x y : Float) (n m l : ℕ) → Plain x y
    → (walk_terms (replicate (suc n) nought, 0) 0 (x ∷ replicate m nought) (y ∷ replicate l nought)).0 ≡ doubled x y ∷ replicate n nought
unfolding add_terms_by add_term_by add_pair_by add_at_by doubled Still
walk_of_constants x y n m l p =
    let c = doubled x y ∷ replicate n nought in
    let s : Still c = (p.sum, still_zeros n) in
    let e : (walk_term (c, 1) x 0 1 (replicate l nought)).0 ≡ c = term_of_zeros (c, 1) x 0 1 l s p.left in
    terms_of_zeros (walk_term (c, 1) x 0 1 (replicate l nought)) 1 m y l (rw e s) p.right ∙ e

product_of_constants : (x y : Float) → Plain x y → product (constant_list x) (constant_list y) ≡ constant_list (half (doubled x y))
unfolding product_wide constant_list
product_of_constants x y p =
    ap (map half) (walk_of_constants x y 32 32 32 p) ∙ ap (λ (d : List Float). half (doubled x y) ∷ d) (map_replicate half 32 nought nought half-nought)

-- ---- a round of constants

-- w times (2 − g·w), of numbers
unfoldable pub improved_number : Float → Float → Float
improved_number g w = half (doubled w (sub binary64 two (half (doubled g w))))

two_less_constant : (x : Float) → two_less (constant_list x) ≡ constant_list (sub binary64 two x)
unfolding two_less constant_list
two_less_constant x = ap (λ (d : List Float). sub binary64 two x ∷ d) (map_replicate (sub binary64 nought) 32 nought nought sub_noughts)

pub improved-constant : (g w : Float) → Plain g w → Plain w (sub binary64 two (half (doubled g w))) → improved (constant_list g) (constant_list w) ≡ constant_list (improved_number g w)
unfolding improved improved_number
improved-constant g w p q = rw (product_of_constants g w p, two_less_constant (half (doubled g w))) (product_of_constants w (sub binary64 two (half (doubled g w))) q)

change_of_zeros : (d : Float) (n : ℕ) → greater d nought ≡ d → change_from d (replicate n nought) (replicate n nought) ≡ d
unfolding change_from
change_of_zeros d zero e = refl
change_of_zeros d (suc n) e = rw (difference_noughts, e) (change_of_zeros d n e)

-- the same constant twice
pub no_change : (x : Float) → difference x x ≡ nought → change_from nought (constant_list x) (constant_list x) ≡ nought
unfolding change_from constant_list
no_change x e = rw (e, greater_noughts) (change_of_zeros nought 32 greater_noughts)

zeros_finite : (n : ℕ) → all_finite (replicate n nought) ≡ true
unfolding all_finite
zeros_finite zero = refl
zeros_finite (suc n) = zeros_finite n

pub constant_finite : (x : Float) → finite x ≡ true → all_finite (constant_list x) ≡ true
unfolding all_finite constant_list
constant_finite x e = rw (e, zeros_finite 32)
