-- Lists of coefficients of T_0, T_1, …: their weights, sums and values.
use Rattle.std.specs.Prelude.{List, [], ◌∷◌, map, ℕ, suc, ◌+◌, ◌*◌, ℤ, pos, nat_abs, ◌+ℤ◌}
use Rattle.ring.specs.definitions.Ring.{CommutativeRing}
use Rattle.chebyshev.specs.definitions.Recurrences.{first_kind}

-- 01: "Its weight A is the sum of |a_k|", of a list of whole numbers, as a natural number
unfoldable pub weight : List ℤ → ℕ
weight [] = 0
weight (c ∷ cs) = nat_abs c + weight cs

-- Σ |a_i|·(k+i)², as a natural number; from place 0 on the L of 02: "L = Σ|a_k|·k²"
unfoldable pub lipschitz_weight : ℕ → List ℤ → ℕ
lipschitz_weight k [] = 0
lipschitz_weight k (c ∷ cs) = nat_abs c * (k * k) + lipschitz_weight (suc k) cs

-- Σ a_k, as in 01's "Σ w_k > 0"
unfoldable pub coefficient_sum : List ℤ → ℤ
coefficient_sum [] = pos 0
coefficient_sum (c ∷ a) = c +ℤ coefficient_sum a

module _ (R : CommutativeRing) where
  open R use {A, add as ◌⊕◌, mul as ◌⊗◌, opp as ⊖◌, ι}

  infixl 6 ◌⊕◌
  infixl 7 ◌⊗◌
  infix 8 ⊖◌
  -- Σ c_i·T_(k+i)(x)
  unfoldable pub value_from : A → ℕ → List A → A
  value_from x k [] = ι (pos 0)
  value_from x k (c ∷ cs) = c ⊗ first_kind R x k ⊕ value_from x (suc k) cs

  -- Σ c_k·T_k(x)
  unfoldable pub value : A → List A → A
  value x cs = value_from x 0 cs

  -- place by place; the shorter list counts as padded with zeros
  unfoldable pub add_lists : List A → List A → List A
  add_lists [] b = b
  add_lists (x ∷ a) [] = x ∷ a
  add_lists (x ∷ a) (y ∷ b) = (x ⊕ y) ∷ add_lists a b

  unfoldable pub scale_list : A → List A → List A
  scale_list c a = map (λ x. c ⊗ x) a

  unfoldable pub subtract_lists : List A → List A → List A
  subtract_lists a b = add_lists a (map ⊖◌ b)
