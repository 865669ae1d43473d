-- How many pairs the walk (Product.antt) visits: 02, S-5, "exactly (n+1)·(m+1)".
use Rattle.std.specs.Prelude.{◌≡◌, ℕ, suc, ◌+◌, ◌*◌, pos, length, replicate}
use mathlib.Core.List.{List, [], ◌∷◌}
use native.Mathlib.Omega.{arith}
use Rattle.ring.specs.definitions.Ring.{CommutativeRing}
use Rattle.chebyshev.specs.definitions.Product.{Walk, visit, add_term, add_terms, product_walk, add_term_by, add_terms_by}

module _ (R : CommutativeRing) where
  open R use {A, mul as ◌⊗◌, ι}

  infixl 7 ◌⊗◌
  pub term_visits : (w : Walk A) (x : A) (i j : ℕ) (b : List A) → (add_term R w x i j b).1 ≡ w.1 + length b
  unfolding add_term_by
  term_visits w x i j [] = omega arith
  term_visits w x i j (y ∷ b) = omega (arith, term_visits (visit R w i j (x ⊗ y)) x i (suc j) b)

  terms_visits : (w : Walk A) (i : ℕ) (a b : List A) → (add_terms R w i a b).1 ≡ w.1 + length a * length b
  unfolding add_terms_by
  terms_visits w i [] b = omega arith
  terms_visits w i (x ∷ a) b = omega (arith, terms_visits (add_term R w x i 0 b) (suc i) a b, term_visits w x i 0 b)

  pub product_visits_lem : (width : ℕ) (a b : List A) → (product_walk R width a b).1 ≡ length a * length b
  product_visits_lem width a b = omega (arith, terms_visits (replicate width (ι (pos 0)), 0) 0 a b)
