-- A list times a constant: each row of the walk adds at one place, whatever its sign, and ±0 at the others.
use Rattle.std.specs.Prelude.{◌≡◌, refl, Bool, true, false, List, [], ◌∷◌, ◌++◌, map, ℕ, zero, suc, ◌+◌, length, replicate, Float}
use Rattle.std.proofs.Common.{sym, ◌∙◌, ap, append_assoc, arith, length-append}
use Rattle.std.specs.Float.{binary64}
use Rattle.std.specs.Float.Ieee.{round, sum, add, mul}
use Rattle.chebyshev.specs.definitions.Product.{distance, Walk, add_at_by, add_pair_by, add_term_by, add_terms_by}
use Rattle.model.specs.definitions.Models.{coefficient_count}
use Rattle.proposals.specs.definitions.Values.{nought}
use Rattle.proposals.specs.definitions.Product.{half, product, product_wide}
use Rattle.proposals.specs.definitions.Reciprocal.{constant_list}
use Rattle.proposals.specs.definitions.Finite.{walk_term, walk_terms}
use Rattle.proposals.proofs.laws.ConstantProduct.{doubled}
use Rattle.proposals.proofs.laws.SignedOperations.{zero_of}

-- ---- adding ±0

-- ±0 added to any element leaves it as it is
unfoldable pub Steady : List Float → Type 0
Steady [] = Unit
Steady (y ∷ c) = ((t : Bool) → add binary64 y (zero_of t) ≡ y) × Steady c

zeros-add : (t : Bool) → add binary64 nought (zero_of t) ≡ nought
unfolding add sum round
zeros-add true = refl
zeros-add false = refl

steady_zeros : (n : ℕ) → Steady (replicate n nought)
unfolding Steady
steady_zeros zero = tt
steady_zeros (suc n) = (zeros-add, steady_zeros n)

steady_both : (a b : List Float) → Steady a → Steady b → Steady (a ++ b)
unfolding Steady
steady_both [] b h k = k
steady_both (x ∷ a) b h k = (h.0, steady_both a b h.1 k)

steady_at : (c : List Float) (k : ℕ) (t : Bool) → Steady c → add_at_by (add binary64) c k (zero_of t) ≡ c
unfolding Steady add_at_by
steady_at [] k t s = refl
steady_at (y ∷ c) zero t s = ap (λ (z : Float). z ∷ c) (s.0 t)
steady_at (y ∷ c) (suc k) t s = ap (λ (l : List Float). y ∷ l) (steady_at c k t s.1)

steady_pair : (c : List Float) (i j : ℕ) (v : Float) (t : Bool) → Steady c → v ≡ zero_of t → add_pair_by (add binary64) c i j v ≡ c
unfolding add_pair_by
steady_pair c i j v t s e = rw (e, steady_at c (i + j) t s) (steady_at c (distance i j) t s)

-- the pairs of x with zeros
steady_term : (w : Walk Float) (x : Float) (i j n : ℕ) (t : Bool) → Steady w.0 → mul binary64 x nought ≡ zero_of t → (walk_term w x i j (replicate n nought)).0 ≡ w.0
unfolding add_term_by
steady_term w x i j zero t s e = refl
steady_term w x i j (suc n) t s e =
    let p : add_pair_by (add binary64) w.0 i j (mul binary64 x nought) ≡ w.0 = steady_pair w.0 i j (mul binary64 x nought) t s e in
    steady_term (add_pair_by (add binary64) w.0 i j (mul binary64 x nought), w.1 + 1) x i (suc j) n t (rw p s) e ∙ p

-- ---- a row

-- v added at the place behind a
add_behind : (a : List Float) (y : Float) (b : List Float) (v : Float) → add_at_by (add binary64) (a ++ (y ∷ b)) (length a) v ≡ a ++ (add binary64 y v ∷ b)
unfolding add_at_by
add_behind [] y b v = refl
add_behind (x ∷ a) y b v = ap (λ (l : List Float). x ∷ l) (add_behind a y b v)

-- both sums of the pair (i, 0) are at place i
first_pair : (a : List Float) (b : List Float) (v : Float)
    → add_pair_by (add binary64) (a ++ (nought ∷ b)) (length a) 0 v ≡ a ++ (add binary64 (add binary64 nought v) v ∷ b)
unfolding add_pair_by
first_pair a b v =
    let p : length a + 0 ≡ length a = omega arith in
    let q : distance (length a) 0 ≡ length a = omega arith in
    rw (p, q, add_behind a nought b v) (add_behind a (add binary64 nought v) b v)

-- where the numbers of a row are plain: x times zero is ±0, and ±0 added to x·y twice leaves it
pub record Row (x y : Float) : Type 0 where
  pub sign : Bool
  pub zero : mul binary64 x nought ≡ zero_of sign
  pub steady : (t : Bool) → add binary64 (doubled x y) (zero_of t) ≡ doubled x y

row : (a b : List Float) (k : ℕ) (x y : Float) (n : ℕ) → Row x y → Steady a → Steady b
    → (walk_term (a ++ (nought ∷ b), k) x (length a) 0 (y ∷ replicate n nought)).0 ≡ a ++ (doubled x y ∷ b)
unfolding add_term_by doubled Steady
row a b k x y n r sa sb =
    let p : add_pair_by (add binary64) (a ++ (nought ∷ b)) (length a) 0 (mul binary64 x y) ≡ a ++ (doubled x y ∷ b) = first_pair a b (mul binary64 x y) in
    let s : Steady (a ++ (doubled x y ∷ b)) = steady_both a (doubled x y ∷ b) sa (r.steady, sb) in
    steady_term (add_pair_by (add binary64) (a ++ (nought ∷ b)) (length a) 0 (mul binary64 x y), k + 1) x (length a) 1 n r.sign (rw p s) r.zero ∙ p

-- ---- all rows

unfoldable pub Rows : List Float → Float → Type 0
Rows [] y = Unit
Rows (x ∷ a) y = Row x y × Rows a y

-- the rows of c are added
rows : (a c : List Float) (k : ℕ) (y : Float) (n : ℕ) → Rows a y → Steady c
    → (walk_terms (c ++ replicate (length a) nought, k) (length c) a (y ∷ replicate n nought)).0 ≡ c ++ map (λ x. doubled x y) a
unfolding add_terms_by Rows Steady
rows [] c k y n r s = refl
rows (x ∷ a) c k y n r s =
    let b = y ∷ replicate n nought in
    let w = walk_term (c ++ (nought ∷ replicate (length a) nought), k) x (length c) 0 b in
    let d = doubled x y ∷ [] in
    let e : w.0 ≡ (c ++ d) ++ replicate (length a) nought =
    row c (replicate (length a) nought) k x y n r.0 s (steady_zeros (length a)) ∙ sym (append_assoc c d (replicate (length a) nought)) in
    let l : suc (length c) ≡ length (c ++ d) = rw (length-append c d) (omega arith) in
    ap (λ (v : List Float). (walk_terms (v, w.1) (suc (length c)) a b).0) e
    ∙ ap (λ (i : ℕ). (walk_terms ((c ++ d) ++ replicate (length a) nought, w.1) i a b).0) l
    ∙ rows a (c ++ d) w.1 y n r.1 (steady_both c d s (r.0.steady, tt))
    ∙ append_assoc c d (map (λ x. doubled x y) a)

-- a list times the constant y
pub times_constant : (a : List Float) (y : Float) → length a ≡ coefficient_count → Rows a y
    → product a (constant_list y) ≡ map half (map (λ x. doubled x y) a)
unfolding product_wide constant_list Steady
times_constant a y l r =
    ap (map half)
    (ap (λ (m : ℕ). (walk_terms (replicate m nought, 0) 0 a (y ∷ replicate 32 nought)).0) (sym l) ∙ rows a [] 0 y 32 r tt)
