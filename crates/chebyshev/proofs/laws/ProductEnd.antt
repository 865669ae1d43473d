-- The walk over all pairs (Product.antt) leaves the places from the sum of the lengths less one on as they were, so C(a, b) is
-- zero there.
use Rattle.std.specs.Prelude.{◌≡◌, ℤ, pos, length, drop, replicate}
use Rattle.std.proofs.Math.Path.{refl}
use Rattle.std.proofs.Common.{◌∙◌, ap, arith}
use mathlib.Core.List.{List, [], ◌∷◌}
use Prim.Native.Nat.{ℕ, zero, suc, ◌+◌, ◌<◌, ◌≤◌}
use Rattle.ring.specs.definitions.Ring.{CommutativeRing}
use Rattle.ring.specs.definitions.Integer.{ℤ_ring}
use Rattle.chebyshev.specs.definitions.Coefficients.{weight}
use Rattle.chebyshev.proofs.laws.Weight.{weight-drop, weight-zeros}
use Rattle.chebyshev.specs.definitions.Product.{distance, add_at, add_pair, Walk, visit, add_term, add_terms, product, add_at_by, add_pair_by, add_term_by, add_terms_by}

module _ (R : CommutativeRing) where
  open R use {A, mul as ◌⊗◌, ι}

  infixl 7 ◌⊗◌
  drop_add_at : (n : ℕ) (c : List A) (k : ℕ) (v : A) → k < n → drop n (add_at R c k v) ≡ drop n c
  unfolding add_at_by
  drop_add_at zero c k v h = absurd (omega arith)
  drop_add_at (suc n) [] k v h = refl
  drop_add_at (suc n) (x ∷ c) zero v h = refl
  drop_add_at (suc n) (x ∷ c) (suc k) v h = drop_add_at n c k v (omega arith)

  drop_add_pair : (n : ℕ) (c : List A) (i j : ℕ) (v : A) → i + j < n → drop n (add_pair R c i j v) ≡ drop n c
  unfolding add_pair_by
  drop_add_pair n c i j v h = drop_add_at n (add_at R c (i + j) v) (distance i j) v (omega arith) ∙ drop_add_at n c (i + j) v h

  drop_add_term : (n : ℕ) (w : Walk A) (x : A) (i j : ℕ) (b : List A) → i + j + length b ≤ n → drop n (add_term R w x i j b).0 ≡ drop n w.0
  unfolding add_term_by
  drop_add_term n w x i j [] h = refl
  drop_add_term n w x i j (y ∷ b) h = drop_add_term n (visit R w i j (x ⊗ y)) x i (suc j) b (omega arith) ∙ drop_add_pair n w.0 i j (x ⊗ y) (omega arith)

  drop_add_terms : (n : ℕ) (w : Walk A) (i : ℕ) (a b : List A) → i + length a + length b ≤ suc n → drop n (add_terms R w i a b).0 ≡ drop n w.0
  unfolding add_terms_by
  drop_add_terms n w i [] b h = refl
  drop_add_terms n w i (x ∷ a) b h = drop_add_terms n (add_term R w x i 0 b) (suc i) a b (omega arith) ∙ drop_add_term n w x i 0 b (omega arith)

pub product_end : (width n : ℕ) (a b : List ℤ) → length a + length b ≤ suc n → weight (drop n (product ℤ_ring width a b)) ≡ 0
unfolding product
product_end width n a b h =
    let zeros = replicate width (pos 0) in
    omega (arith, ap weight (drop_add_terms ℤ_ring n (zeros, 0) 0 a b (omega arith)), weight-drop n zeros, weight-zeros width)
