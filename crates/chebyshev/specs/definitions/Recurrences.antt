-- The Chebyshev polynomials T_k and U_k by their recurrences, over any commutative ring.
use Rattle.std.specs.Prelude.{ℕ, zero, suc, pos}
use Rattle.ring.specs.definitions.Ring.{CommutativeRing}

module _ (R : CommutativeRing) where
  open R use {A, add as ◌⊕◌, mul as ◌⊗◌, opp as ⊖◌, ι}

  infixl 6 ◌⊕◌
  infixl 7 ◌⊗◌
  infix 8 ⊖◌
  -- 01: "T_0 = 1, T_1 = x, T_(k+2) = 2·x·T_(k+1) − T_k."
  unfoldable pub first_kind : A → ℕ → A
  first_kind x zero = ι (pos 1)
  first_kind x (suc zero) = x
  first_kind x (suc (suc k)) = ι (pos 2) ⊗ x ⊗ first_kind x (suc k) ⊕ ⊖ first_kind x k

  -- `second_kind x k` is U_(k−1)(x), with U_(−1) = 0 and U_0 = 1, so that T_k² + (1 − x²)·U_(k−1)² = 1
  unfoldable pub second_kind : A → ℕ → A
  second_kind x zero = ι (pos 0)
  second_kind x (suc zero) = ι (pos 1)
  second_kind x (suc (suc k)) = ι (pos 2) ⊗ x ⊗ second_kind x (suc k) ⊕ ⊖ second_kind x k

  -- (−1)^k
  unfoldable pub sign : ℕ → A
  sign zero = ι (pos 1)
  sign (suc k) = ⊖ sign k
