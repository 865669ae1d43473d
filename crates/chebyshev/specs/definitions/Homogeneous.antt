-- 01: "At x = p/q with q ≥ 1 and |p| ≤ q everything is cross-multiplied into whole numbers." The whole numbers
-- τ_k = q^k·T_k(p/q), the value of a list at p/q times a power of q, and what a list allows at p/q.
use Rattle.std.specs.Prelude.{◌≡◌, List, [], ◌∷◌, ℕ, zero, suc, ◌-◌, ◌*◌, ◌^◌, ◌≤◌, ◌<◌, ℤ, pos, nat_abs, ◌+ℤ◌, ◌-ℤ◌, ◌*ℤ◌}
use Rattle.fraction.specs.definitions.Fraction.{ℚ, whole, ◌*ℚ◌}

-- x = p/q with q ≥ 1
pub record IsFraction (x : ℚ) (p : ℤ) (q : ℕ) : Type 0 where
  pub positive : 0 < q
  pub equation : x *ℚ whole (pos q) ≡ whole p

-- τ_0 = 1, τ_1 = p, τ_(k+2) = 2·p·τ_(k+1) − q²·τ_k
unfoldable pub homogeneous : ℤ → ℕ → ℕ → ℤ
homogeneous p q zero = pos 1
homogeneous p q (suc zero) = p
homogeneous p q (suc (suc k)) = pos 2 *ℤ p *ℤ homogeneous p q (suc k) -ℤ pos q *ℤ pos q *ℤ homogeneous p q k

-- Σ c_i·τ_(k+i)·q^(n−k−i)
unfoldable pub homogeneous_from : ℤ → ℕ → ℕ → ℕ → List ℤ → ℤ
homogeneous_from p q n k [] = pos 0
homogeneous_from p q n k (c ∷ a) = c *ℤ homogeneous p q k *ℤ pos (q ^ (n - k)) +ℤ homogeneous_from p q n (suc k) a

-- Σ a_k·τ_k·q^(n−k)
unfoldable pub homogeneous_value : ℤ → ℕ → ℕ → List ℤ → ℤ
homogeneous_value p q n a = homogeneous_from p q n 0 a

-- 01's "A model allows the value v at x", cross-multiplied at x = p/q and v = u/d: |u·s·q^n − d·Σ a_k·τ_k·q^(n−k)| ≤ e·d·q^n, for
-- a list that is zero beyond place n
unfoldable pub allows_whole : ℕ → List ℤ → ℕ → ℕ → ℤ → ℕ → ℤ → ℕ → Type 0
allows_whole s a e n p q u d = nat_abs (u *ℤ pos s *ℤ pos (q ^ n) -ℤ pos d *ℤ homogeneous_value p q n a) ≤ e * d * q ^ n
