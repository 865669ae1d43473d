-- Sums of products over the pairs (i, j) of one place of the list C, as walks along the first list: of i + j = k the index of the
-- second list falls, of j − i = k it rises.
use Rattle.std.specs.Prelude.{List, [], ◌∷◌, ℕ, zero, suc, pos, get_or}
use Rattle.ring.specs.definitions.Ring.{CommutativeRing}

module _ (R : CommutativeRing) where
  open R use {A, add as ◌⊕◌, mul as ◌⊗◌, ι}

  infixl 6 ◌⊕◌
  infixl 7 ◌⊗◌
  -- Σ a_i·b_j over i + j + 1 = t
  unfoldable pub convolution : ℕ → List A → List A → A
  convolution zero a b = ι (pos 0)
  convolution (suc t) [] b = ι (pos 0)
  convolution (suc t) (x ∷ a) b = x ⊗ get_or b t (ι (pos 0)) ⊕ convolution t a b

  -- Σ a_i·b_j over j = i + k
  unfoldable pub correlation : ℕ → List A → List A → A
  correlation k [] b = ι (pos 0)
  correlation k (x ∷ a) b = x ⊗ get_or b k (ι (pos 0)) ⊕ correlation (suc k) a b
