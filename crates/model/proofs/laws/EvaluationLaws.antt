-- Sizes of t_k, V and W of an evaluation, and a point that is accepted.
use Rattle.std.specs.Prelude.{◌≡◌, Bool, true, false, cond, List, [], ◌∷◌, ℕ, suc, ◌+◌, ◌*◌, ◌-◌, ◌^◌, ◌≤◌, ℤ, nat_abs, ◌*ℤ◌, length}
use Rattle.std.proofs.Common.{mul-le-mul, mul-le-mul_left, arith}
use Rattle.ring.specs.laws.Parts.{abs-add, abs-mul}
use Rattle.chebyshev.specs.definitions.Coefficients.{weight, lipschitz_weight}
use Rattle.model.specs.definitions.InnerContracts.{error_from}
use Rattle.model.specs.definitions.Intervals.{contains}
use Rattle.model.specs.definitions.Models.{scale, good}
use Rattle.model.specs.definitions.Outcomes.{accepted, passing}
use Rattle.model.specs.definitions.Evaluate.{point_term, point_sum, point_error, growth, low_bound, high_bound, evaluation}
use Rattle.model.proofs.laws.EvaluationError.{term_range}
use Rattle.model.specs.declared.types.Model.{Model}

-- ---- sizes, for places up to m

pairs_mono : (k m : ℕ) → k ≤ m → k * (k - 1) ≤ m * (m - 1)
pairs_mono k m h = mul-le-mul h (omega arith)

-- 4·|t_k| ≤ 2^32 + m·(m−1)
pub term_size : (p : ℤ) (k m : ℕ) → nat_abs p ≤ scale → k ≤ m → 4 * nat_abs (point_term p k) ≤ 2 ^ 32 + m * (m - 1)
term_size p k m h l = omega (arith, term_range p h k, pairs_mono k m l)

-- 4·|V| ≤ (2^32 + m·(m−1))·A
pub sum_size : (p : ℤ) (k m : ℕ) (a : List ℤ) → nat_abs p ≤ scale → k + length a ≤ suc m → 4 * nat_abs (point_sum p k a) ≤ (2 ^ 32 + m * (m - 1)) * weight a
unfolding point_sum weight
sum_size p k m [] h l = omega arith
sum_size p k m (c ∷ a) h l =
    go (2 ^ 32 + m * (m - 1)) (nat_abs c) (nat_abs (point_term p k)) (nat_abs (point_sum p (suc k) a)) (weight a) _
    (rw abs-mul at (abs-add (c *ℤ point_term p k) (point_sum p (suc k) a)))
    (term_size p k m h (omega arith))
    (sum_size p (suc k) m a h (omega arith))
  where
    go : (b c t s w r : ℕ) → r ≤ c * t + s → 4 * t ≤ b → 4 * s ≤ b * w → 4 * r ≤ b * (c + w)
    go b c t s w r h l k = omega (arith, mul-le-mul_left c l)

-- W ≤ m·(m−1)·A
pub error_size : (k m : ℕ) (a : List ℤ) → k + length a ≤ suc m → point_error k a ≤ m * (m - 1) * weight a
unfolding point_error weight
error_size k m [] l = omega arith
error_size k m (c ∷ a) l = go (m * (m - 1)) (nat_abs c) (k * (k - 1)) (point_error (suc k) a) (weight a) (pairs_mono k m (omega arith)) (error_size (suc k) m a (omega arith))
  where
    go : (b c t s w : ℕ) → t ≤ b → s ≤ b * w → c * t + s ≤ b * (c + w)
    go b c t s w h l = omega (arith, mul-le-mul_left c h)

-- Σ|a_k|·k² ≤ m²·A
pub lipschitz_size : (k m : ℕ) (a : List ℤ) → k + length a ≤ suc m → lipschitz_weight k a ≤ m * m * weight a
unfolding lipschitz_weight weight
lipschitz_size k m [] l = omega arith
lipschitz_size k m (c ∷ a) l =
    go (m * m) (nat_abs c) (k * k) (lipschitz_weight (suc k) a) (weight a) (mul-le-mul (omega arith) (omega arith)) (lipschitz_size (suc k) m a (omega arith))
  where
    go : (b c t s w : ℕ) → t ≤ b → s ≤ b * w → c * t + s ≤ b * (c + w)
    go b c t s w h l = omega (arith, mul-le-mul_left c h)

pub growth_size : (exact : Bool) (a : List ℤ) → growth exact a ≤ 2 ^ 11 * lipschitz_weight 0 a
unfolding growth
growth_size true a = omega arith
growth_size false a = omega arith

-- W in one sum
pub errors_are : (exact : Bool) (a : List ℤ) → error_from exact 0 a ≡ point_error 0 a + growth exact a
unfolding growth error_from point_error lipschitz_weight
errors_are exact a = from exact 0 a
  where
    from : (exact : Bool) (k : ℕ) (a : List ℤ) → error_from exact k a ≡ point_error k a + cond exact 0 (2 ^ 11 * lipschitz_weight k a)
    from true k [] = omega arith
    from false k [] = omega arith
    from true k (c ∷ a) = omega (arith, from true (suc k) a)
    from false k (c ∷ a) = go (nat_abs c) (k * (k - 1)) (k * k) _ _ _ (from false (suc k) a)
      where
        go : (c t s e p l : ℕ) → e ≡ p + 2 ^ 11 * l → c * (t + 2 ^ 11 * s) + e ≡ c * t + p + 2 ^ 11 * (c * s + l)
        go c t s e p l h = omega arith

pub errors_size : (exact : Bool) (m : ℕ) (a : List ℤ) → length a ≤ suc m → error_from exact 0 a ≤ (m * (m - 1) + 2 ^ 11 * (m * m)) * weight a
errors_size exact m a h = omega (arith, errors_are exact a, error_size 0 m a (omega arith), lipschitz_size 0 m a (omega arith), growth_size exact a)

-- ---- a point that is accepted

pub evaluation_accepted : (a : Model) (p : ℤ) → good a ≡ true → contains a.interval p ≡ true → evaluation a p ≡ accepted (record { low = low_bound a p; high = high_bound a p })
unfolding evaluation passing
evaluation_accepted a p g h = rw (g, h)
