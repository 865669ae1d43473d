-- The list C(a, b) of 01: 2·a·b in the basis T_0, T_1, …, as one walk over all pairs of coefficients, which counts its visits.
-- 02, S-5: "let a single walk over the pairs serve the sums and the differences of their places, counting its visits".
use Rattle.std.specs.Prelude.{List, [], ◌∷◌, ℕ, zero, suc, ◌+◌, ◌-◌, replicate, pos}
use Rattle.ring.specs.definitions.Ring.{CommutativeRing}

-- |i − j|
abbrev pub distance : ℕ → ℕ → ℕ
distance i j = (i - j) + (j - i)

-- what a walk has: the list that it adds to, and how many pairs it has visited
abbrev pub Walk : Type 0 → Type 0
Walk A = List A × ℕ

-- The walk asks no law of its numbers: it serves the numbers of a ring, and those of f64 (02, S-19).
module _ {A : Type 0} (◌⊕◌ : A → A → A) where
  infixl 6 ◌⊕◌
  -- v added at place k; nothing where the list has no such place
  unfoldable pub add_at_by : List A → ℕ → A → List A
  add_at_by [] k v = []
  add_at_by (c ∷ cs) zero v = (c ⊕ v) ∷ cs
  add_at_by (c ∷ cs) (suc k) v = c ∷ add_at_by cs k v

  -- the pair (i, j) with the product v: v at place i+j and v at place |i−j|; a pair that meets both conditions counts twice
  unfoldable pub add_pair_by : List A → ℕ → ℕ → A → List A
  add_pair_by c i j v = add_at_by (add_at_by c (i + j) v) (distance i j) v

  module _ (◌⊗◌ : A → A → A) where
    infixl 7 ◌⊗◌
    -- The term of x = a_i: the pairs (i, j), (i, j+1), … with the elements of b. One visit of a pair serves the place of the sum
    -- and the place of the difference.
    unfoldable pub add_term_by : Walk A → A → ℕ → ℕ → List A → Walk A
    add_term_by w x i j [] = w
    add_term_by w x i j (y ∷ b) = add_term_by (add_pair_by w.0 i j (x ⊗ y), w.1 + 1) x i (suc j) b

    -- the terms i, i+1, …
    unfoldable pub add_terms_by : Walk A → ℕ → List A → List A → Walk A
    add_terms_by w i [] b = w
    add_terms_by w i (x ∷ a) b = add_terms_by (add_term_by w x i 0 b) (suc i) a b

module _ (R : CommutativeRing) where
  open R use {A, add, mul, ι}

  abbrev pub add_at : List A → ℕ → A → List A
  add_at = add_at_by add

  abbrev pub add_pair : List A → ℕ → ℕ → A → List A
  add_pair = add_pair_by add

  -- the walk after one visit
  abbrev pub visit : Walk A → ℕ → ℕ → A → Walk A
  visit w i j v = (add_pair w.0 i j v, w.1 + 1)

  abbrev pub add_term : Walk A → A → ℕ → ℕ → List A → Walk A
  add_term = add_term_by add mul

  abbrev pub add_terms : Walk A → ℕ → List A → List A → Walk A
  add_terms = add_terms_by add mul

  -- the walk from zeros, in a list of the given width
  abbrev pub product_walk : ℕ → List A → List A → Walk A
  product_walk width a b = add_terms_by add mul (replicate width (ι (pos 0)), 0) 0 a b

  -- C(a, b), all of it where the width is at least the sum of the lengths less one
  unfoldable pub product : ℕ → List A → List A → List A
  product width a b = (product_walk width a b).0
