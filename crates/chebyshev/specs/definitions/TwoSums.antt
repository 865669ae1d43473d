-- The numbers C_k of 01 as two sums for each k, and lists of them.
use Rattle.std.specs.Prelude.{Bool, cond, List, [], ◌∷◌, ℕ, zero, suc, ◌+◌, eqb, pos, length, get_or}
use Rattle.ring.specs.definitions.Ring.{CommutativeRing}
use Rattle.chebyshev.specs.definitions.Product.{distance}

-- f 0, f 1, …, f (n − 1)
unfoldable pub tabulate : {A : Type 0} → ℕ → (ℕ → A) → List A
tabulate zero f = []
tabulate (suc n) f = f 0 ∷ tabulate n (λ k. f (suc k))

module _ (R : CommutativeRing) where
  open R use {A, add as ◌⊕◌, mul as ◌⊗◌, ι}

  infixl 6 ◌⊕◌
  infixl 7 ◌⊗◌
  -- f 0 + f 1 + … + f (n − 1)
  unfoldable pub sum : ℕ → (ℕ → A) → A
  sum zero f = ι (pos 0)
  sum (suc n) f = f 0 ⊕ sum n (λ k. f (suc k))

  -- Σ a_i·b_j over the pairs (i, j) of which the test holds
  unfoldable pub sum_where : (ℕ → ℕ → Bool) → List A → List A → A
  sum_where test a b =
      sum (length a) (λ i. sum (length b) (λ j. cond (test i j) (get_or a i (ι (pos 0)) ⊗ get_or b j (ι (pos 0))) (ι (pos 0))))

  -- 01: "C_k = Σ a_i·b_j over i+j = k, plus Σ a_i·b_j over |i−j| = k; a pair that meets both conditions counts twice."
  unfoldable pub two_sums : ℕ → List A → List A → A
  two_sums k a b = sum_where (λ i j. eqb (i + j) k) a b ⊕ sum_where (λ i j. eqb (distance i j) k) a b

  -- C_start, C_(start+1), …, n of them
  abbrev pub places_from : ℕ → ℕ → List A → List A → List A
  places_from n start a b = tabulate n (λ k. two_sums (start + k) a b)
