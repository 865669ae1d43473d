-- The derivatives T'_k of the Chebyshev polynomials over any commutative ring, by the recurrence of T_k differentiated. That
-- they are the derivatives is `first_taylor` (DerivativeLaws.antt): T_k(x + h) is T_k(x) + h·T'_k(x) up to a multiple of h².
use Rattle.std.specs.Prelude.{List, [], ◌∷◌, ℕ, zero, suc, pos}
use Rattle.ring.specs.definitions.Ring.{CommutativeRing}
use Rattle.chebyshev.specs.definitions.Recurrences.{first_kind}

module _ (R : CommutativeRing) where
  open R use {A, add as ◌⊕◌, mul as ◌⊗◌, opp as ⊖◌, ι}

  infixl 6 ◌⊕◌
  infixl 7 ◌⊗◌
  infix 8 ⊖◌
  -- T'_0 = 0, T'_1 = 1, T'_(k+2) = 2·T_(k+1) + 2·x·T'_(k+1) − T'_k
  unfoldable pub derivative : A → ℕ → A
  derivative x zero = ι (pos 0)
  derivative x (suc zero) = ι (pos 1)
  derivative x (suc (suc k)) = ι (pos 2) ⊗ first_kind R x (suc k) ⊕ ι (pos 2) ⊗ x ⊗ derivative x (suc k) ⊕ ⊖ derivative x k

  -- Σ c_i·f(k+i)
  unfoldable pub sum_from : (ℕ → A) → ℕ → List A → A
  sum_from f k [] = ι (pos 0)
  sum_from f k (c ∷ cs) = c ⊗ f k ⊕ sum_from f (suc k) cs

  -- Σ c_k·T'_k(x)
  unfoldable pub derivative_value : A → List A → A
  derivative_value x cs = sum_from (derivative x) 0 cs

  -- (T_k(x + h) − T_k(x) − h·T'_k(x)) / h²
  unfoldable pub remainder : A → A → ℕ → A
  remainder x h zero = ι (pos 0)
  remainder x h (suc zero) = ι (pos 0)
  remainder x h (suc (suc k)) = ι (pos 2) ⊗ derivative x (suc k) ⊕ ι (pos 2) ⊗ (x ⊕ h) ⊗ remainder x h (suc k) ⊕ ⊖ remainder x h k
