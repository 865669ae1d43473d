-- Sums of absolute values of coefficients, over any ordered ring.
use Rattle.std.specs.Prelude.{List, [], ◌∷◌, ℕ, suc, pos}
use Rattle.fraction.specs.definitions.Fraction.{ℚ, whole, ◌+ℚ◌, ∣◌∣ℚ}
use Rattle.ring.specs.definitions.OrderedRing.{OrderedRing}

-- Σ |c_k| of a list of fractions
unfoldable pub total_absolute : List ℚ → ℚ
total_absolute [] = whole (pos 0)
total_absolute (c ∷ cs) = ∣ c ∣ℚ +ℚ total_absolute cs

module _ (O : OrderedRing) where
  open O use {ring, abs}
  open ring use {A, add as ◌⊕◌, mul as ◌⊗◌, ι}

  infixl 6 ◌⊕◌
  infixl 7 ◌⊗◌
  -- Σ |c_k|, in the ring: the weight of a list of any ordered ring
  unfoldable pub norm : List A → A
  norm [] = ι (pos 0)
  norm (c ∷ cs) = abs c ⊕ norm cs

  -- Σ |c_i|·(k+i)²
  unfoldable pub lipschitz_from : ℕ → List A → A
  lipschitz_from k [] = ι (pos 0)
  lipschitz_from k (c ∷ cs) = abs c ⊗ (ι (pos k) ⊗ ι (pos k)) ⊕ lipschitz_from (suc k) cs
