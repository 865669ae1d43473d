-- The norm and the weight of the walk over all pairs: at most 2·norm a·norm b, for the whole and for every partial sum.
use Rattle.std.proofs.Common.{◌∙◌, ap}
use mathlib.Core.List.{List, [], ◌∷◌}
use Prim.Native.Nat.{ℕ, zero, suc, ◌+◌, ◌*◌, ◌≤◌}
use Rattle.std.specs.Prelude.{ℤ, pos, nat_abs, replicate}
use Rattle.ring.proofs.laws.Solver.{reify, solve}
use Rattle.ring.specs.definitions.OrderedRing.{OrderedRing}
use Rattle.ring.proofs.laws.OrderedRingLaws.{by_certificate, le_refl, le_of_eq, gap, ◌⟨≼⟩◌, ◌⊞◌, ◌⟨+⟩◌, triangle, abs-mul}
use Rattle.ring.specs.definitions.Integer.{ℤ_ring}
use Rattle.ring.proofs.laws.Order.{ℤ_ordered, le-pos, ∣∣_is}
use Rattle.chebyshev.specs.definitions.Coefficients.{weight}
use Rattle.chebyshev.specs.definitions.Norms.{norm}
use Rattle.chebyshev.proofs.laws.NormLaws.{norm_zeros}
use Rattle.chebyshev.proofs.laws.Weight.{norm_weight}
use Rattle.chebyshev.specs.definitions.Product.{distance, add_at, add_pair, Walk, visit, add_term, add_terms, product, add_at_by, add_pair_by, add_term_by, add_terms_by}

module _ (O : OrderedRing) where
  open O use {ring, le as ◌≼◌, abs, abs_nonneg}
  open ring use {A, add as ◌⊕◌, mul as ◌⊗◌, ι, zero-add}

  infixl 6 ◌⊕◌
  infixl 7 ◌⊗◌
  infix 4 ◌≼◌
  norm_add_at : (c : List A) (k : ℕ) (v : A) → norm O (add_at ring c k v) ≼ norm O c ⊕ abs v
  unfolding norm add_at_by
  norm_add_at [] k v = by_certificate O (abs_nonneg v) (solve ring (abs v ∷ []) (search reify depth 20) (search reify depth 20) tt)
  norm_add_at (x ∷ c) zero v =
      by_certificate O (gap O (triangle O x v))
      (solve ring (abs x ∷ abs v ∷ abs (x ⊕ v) ∷ norm O c ∷ []) (search reify depth 20) (search reify depth 20) tt)
  norm_add_at (x ∷ c) (suc k) v =
      by_certificate O (gap O (norm_add_at c k v))
      (solve ring (abs x ∷ abs v ∷ norm O c ∷ norm O (add_at ring c k v) ∷ []) (search reify depth 20) (search reify depth 20) tt)

  norm_add_pair : (c : List A) (i j : ℕ) (v : A) → norm O (add_pair ring c i j v) ≼ norm O c ⊕ ι (pos 2) ⊗ abs v
  unfolding add_pair_by
  norm_add_pair c i j v =
      by_certificate O (◌⊞◌ O (gap O (norm_add_at (add_at ring c (i + j) v) (distance i j) v)) (gap O (norm_add_at c (i + j) v)))
      (solve ring (norm O (add_at ring (add_at ring c (i + j) v) (distance i j) v) ∷ norm O (add_at ring c (i + j) v) ∷ norm O c ∷ abs v ∷ []) (search reify depth 20) (search reify depth 20) tt)

  norm_add_term : (w : Walk A) (x : A) (i j : ℕ) (b : List A) → norm O (add_term ring w x i j b).0 ≼ norm O w.0 ⊕ ι (pos 2) ⊗ abs x ⊗ norm O b
  unfolding norm add_term_by
  norm_add_term w x i j [] = le_of_eq O (solve ring (norm O w.0 ∷ abs x ∷ []) (search reify depth 20) (search reify depth 20) tt)
  norm_add_term w x i j (y ∷ b) =
      ◌⟨≼⟩◌ O (norm_add_term (visit ring w i j (x ⊗ y)) x i (suc j) b)
      (◌⟨≼⟩◌ O (◌⟨+⟩◌ O (norm_add_pair w.0 i j (x ⊗ y)) (le_refl O (ι (pos 2) ⊗ abs x ⊗ norm O b)))
      (le_of_eq O (ap (λ p. norm O w.0 ⊕ ι (pos 2) ⊗ p ⊕ ι (pos 2) ⊗ abs x ⊗ norm O b) (abs-mul O x y)
      ∙ solve ring (norm O w.0 ∷ abs x ∷ abs y ∷ norm O b ∷ []) (search reify depth 20) (search reify depth 20) tt)))

  norm_add_terms : (w : Walk A) (i : ℕ) (a b : List A) → norm O (add_terms ring w i a b).0 ≼ norm O w.0 ⊕ ι (pos 2) ⊗ norm O a ⊗ norm O b
  unfolding norm add_terms_by
  norm_add_terms w i [] b = le_of_eq O (solve ring (norm O w.0 ∷ norm O b ∷ []) (search reify depth 20) (search reify depth 20) tt)
  norm_add_terms w i (x ∷ a) b =
      ◌⟨≼⟩◌ O (norm_add_terms (add_term ring w x i 0 b) (suc i) a b)
      (◌⟨≼⟩◌ O (◌⟨+⟩◌ O (norm_add_term w x i 0 b) (le_refl O (ι (pos 2) ⊗ norm O a ⊗ norm O b)))
      (le_of_eq O (solve ring (norm O w.0 ∷ abs x ∷ norm O a ∷ norm O b ∷ []) (search reify depth 20) (search reify depth 20) tt)))

  norm_product : (width : ℕ) (a b : List A) → norm O (product ring width a b) ≼ ι (pos 2) ⊗ norm O a ⊗ norm O b
  unfolding product
  norm_product width a b =
      ◌⟨≼⟩◌ O (norm_add_terms (replicate width (ι (pos 0)), 0) 0 a b)
      (le_of_eq O (ap (λ n. n ⊕ ι (pos 2) ⊗ norm O a ⊗ norm O b) (norm_zeros O width) ∙ zero-add (ι (pos 2) ⊗ norm O a ⊗ norm O b)))

-- ---- the same as natural numbers, for code over ℤ

pub weight_add_at : (c : List ℤ) (k : ℕ) (v : ℤ) → weight (add_at ℤ_ring c k v) ≤ weight c + nat_abs v
weight_add_at c k v = le-pos _ _ (simp (norm_weight, ∣∣_is) at (norm_add_at ℤ_ordered c k v))

pub weight_add_pair : (c : List ℤ) (i j : ℕ) (v : ℤ) → weight (add_pair ℤ_ring c i j v) ≤ weight c + 2 * nat_abs v
weight_add_pair c i j v = le-pos _ _ (simp (norm_weight, ∣∣_is) at (norm_add_pair ℤ_ordered c i j v))

pub weight_add_term : (w : Walk ℤ) (x : ℤ) (i j : ℕ) (b : List ℤ) → weight (add_term ℤ_ring w x i j b).0 ≤ weight w.0 + 2 * nat_abs x * weight b
weight_add_term w x i j b = le-pos _ _ (simp (norm_weight, ∣∣_is) at (norm_add_term ℤ_ordered w x i j b))

pub weight_add_terms : (w : Walk ℤ) (i : ℕ) (a b : List ℤ) → weight (add_terms ℤ_ring w i a b).0 ≤ weight w.0 + 2 * weight a * weight b
weight_add_terms w i a b = le-pos _ _ (simp norm_weight at (norm_add_terms ℤ_ordered w i a b))

pub weight-product : (width : ℕ) (a b : List ℤ) → weight (product ℤ_ring width a b) ≤ 2 * weight a * weight b
weight-product width a b = le-pos _ _ (simp norm_weight at (norm_product ℤ_ordered width a b))
