-- The rounding error of the recurrence that evaluates at p/S: t_k differs from 2^30·T_k(p/S) by at most k·(k−1)/4.
use Rattle.std.specs.Prelude.{◌≡◌, ◌↔◌, ℕ, suc, ◌+◌, ◌*◌, ◌-◌, ◌^◌, ◌≤◌, ◌<◌, neg_ℤ, nat_abs, ◌-ℤ◌, ◌*ℤ◌}
use Rattle.std.proofs.Common.{sym, ◌∙◌, ap, arith}
use mathlib.Core.List.{[], ◌∷◌}
use Rattle.std.proofs.Math.IntN.{ℤ, pos}
use Rattle.integer.proofs.laws.FractionRounding.{natural_positive}
use Rattle.integer.proofs.laws.Embedding.{ι_abs}
use Rattle.ring.proofs.laws.Order.{∣◌∣, ∣∣_is, pos-le, le-pos}
use Rattle.integer.specs.definitions.Rounding.{near}
use Rattle.integer.proofs.laws.RoundingLaws.{near_error}
use Rattle.ring.proofs.laws.OrderedRingLaws.{abs-mul, abs_mul_le, le_of_eq, ◌⟨≼⟩◌, ◌⟨+⟩◌, triangle, abs-scale}
use Rattle.fraction.specs.definitions.Fraction.{ℚ, whole, ◌+ℚ◌, ◌-ℚ◌, -ℚ◌, ◌*ℚ◌, ◌≤ℚ◌, ∣◌∣ℚ}
use Rattle.fraction.proofs.laws.FractionLaws.{*ℚ_comm, one_*ℚ, *ℚ_one, whole-add, whole-mul, fraction_num}
use Rattle.ring.proofs.laws.PairLaws.{den_is}
use Rattle.integer.specs.definitions.FractionRing.{ℚ_ring}
use Rattle.integer.proofs.laws.FractionSolver.{reifyℚ, solveℚ}
use Rattle.integer.proofs.laws.FractionOrder.{ℚ_ordered, whole_le, whole-abs, whole_neg}
use Rattle.chebyshev.specs.definitions.Recurrences.{first_kind}
use Rattle.chebyshev.proofs.laws.RecurrenceLaws.{first_bound}
use Rattle.chebyshev.proofs.laws.Perturbed.{perturbed_uniform}
use Rattle.ring.specs.laws.Parts as Parts
use Rattle.model.specs.definitions.Models.{scale}
use Rattle.model.specs.definitions.Evaluate.{point, point_term}

pub point-scale : (p : ℤ) → point p *ℚ whole (pos scale) ≡ whole p
point-scale p = ap (λ d. point p *ℚ whole d) (sym (den_is (scale - 1))) ∙ fraction_num p (scale - 1)

pub abs-whole : (z : ℤ) (n : ℕ) → (∣ whole z ∣ℚ ≤ℚ whole (pos n)) ↔ (nat_abs z ≤ n)
abs-whole z n = rw (whole-abs, ∣∣_is) (λ h. le-pos _ _ ((whole_le _ _).0 h), λ h. (whole_le _ _).1 (pos-le _ _ h))

-- a bound times c, in whole numbers
pub scaled_bound : (c : ℕ) (x : ℚ) (z : ℤ) (n : ℕ) → 0 < c → whole (pos c) *ℚ x ≡ whole z → nat_abs z ≤ c * n → ∣ x ∣ℚ ≤ℚ whole (pos n)
scaled_bound c x z n positive e h =
    (abs-scale ℚ_ordered (whole (pos c)) x (whole (pos n)) (natural_positive c positive)).1 (rw (e, ← whole-mul) ((abs-whole z (c * n)).1 h))

-- |p/S| ≤ 1 where |p| ≤ S
pub point_inside : (p : ℤ) → nat_abs p ≤ scale → ∣ point p ∣ℚ ≤ℚ whole (pos 1)
point_inside p h = scaled_bound scale (point p) p 1 (omega arith) (*ℚ_comm _ _ ∙ point-scale p) (omega arith)

module _ (p : ℤ) (h : nat_abs p ≤ scale) where
  -- the disturbance of the recurrence: near(2·p·t_(k+1)/S) − 2·(p/S)·t_(k+1), twice
  rounding : ℕ → ℚ
  rounding k = whole (pos 2) *ℚ (whole (near (pos 2 *ℤ p *ℤ point_term p (suc k)) scale) -ℚ whole (pos 2) *ℚ point p *ℚ whole (point_term p (suc k)))

  -- twice t_k − 2^30·T_k(p/S)
  error : ℕ → ℚ
  error k = whole (pos 2) *ℚ whole (point_term p k) -ℚ whole (pos (2 ^ 31)) *ℚ first_kind ℚ_ring (point p) k

  rounding_small : (k : ℕ) → ∣ rounding k ∣ℚ ≤ℚ whole (pos 1)
  unfolding rounding
  rounding_small k =
      scaled_bound scale (rounding k) (pos 2 *ℤ (near m scale *ℤ pos scale -ℤ m)) 1 (omega arith)
      (go (point p) (whole (pos scale)) (whole p) (whole t) (whole (near m scale)) (point-scale p) ∙ simp (whole-mul, whole-add, ← whole_neg))
      (rw Parts.abs-mul (near_error m scale (omega arith)))
    where
      t : ℤ
      t = point_term p (suc k)

      m : ℤ
      m = pos 2 *ℤ p *ℤ t

      go : (x s q t n : ℚ) → x *ℚ s ≡ q → s *ℚ (whole (pos 2) *ℚ (n -ℚ whole (pos 2) *ℚ x *ℚ t)) ≡ whole (pos 2) *ℚ (n *ℚ s -ℚ whole (pos 2) *ℚ q *ℚ t)
      go x s q t n e = rw (← e) (solveℚ (x ∷ s ∷ t ∷ n ∷ []) (search reifyℚ depth 20) (search reifyℚ depth 20) tt)

  error_step : (k : ℕ) → error (suc (suc k)) ≡ whole (pos 2) *ℚ point p *ℚ error (suc k) +ℚ -ℚ error k +ℚ rounding k
  unfolding error rounding point_term first_kind
  error_step k =
      let n = near (pos 2 *ℤ p *ℤ point_term p (suc k)) scale in
      rw (whole-add n (neg_ℤ (point_term p k)), ← whole_neg (point_term p k))
      (solveℚ (point p ∷ whole n ∷ whole (point_term p (suc k)) ∷ whole (point_term p k) ∷ first_kind ℚ_ring (point p) (suc k) ∷ first_kind ℚ_ring (point p) k ∷ []) (search reifyℚ depth 20) (search reifyℚ depth 20) tt)

  error_zero : error 0 ≡ whole (pos 0)
  unfolding error point_term first_kind
  error_zero = solveℚ [] (search reifyℚ depth 20) (search reifyℚ depth 20) tt

  error_one : error 1 ≡ whole (pos 0)
  unfolding error point_term first_kind
  error_one =
      rw (whole-mul (pos (2 ^ 10)) p, ← point-scale p)
      (solveℚ (point p ∷ []) (search reifyℚ depth 20) (search reifyℚ depth 20) tt)

  error_bound : (k : ℕ) → (whole (pos 2) *ℚ ∣ error k ∣ℚ) ≤ℚ (whole (pos 1) *ℚ whole (pos (k * (k - 1))))
  error_bound k = perturbed_uniform ℚ_ordered (point p) error rounding (whole (pos 1)) (point_inside p h) error_zero error_one error_step rounding_small k

  -- |4·t_k − 2^32·T_k(p/S)| ≤ k·(k−1)
  pub term_error : (k : ℕ) → ∣ whole (pos 4 *ℤ point_term p k) -ℚ whole (pos (2 ^ 32)) *ℚ first_kind ℚ_ring (point p) k ∣ℚ ≤ℚ whole (pos (k * (k - 1)))
  unfolding error
  term_error k =
      rw (whole-mul, double (whole (point_term p k)) (first_kind ℚ_ring (point p) k), abs-mul ℚ_ordered (whole (pos 2)) (error k), ι_abs ℚ_ordered (pos 2))
      (rw one_*ℚ at (error_bound k))
    where
      double : (t c : ℚ) → whole (pos 4) *ℚ t -ℚ whole (pos (2 ^ 32)) *ℚ c ≡ whole (pos 2) *ℚ (whole (pos 2) *ℚ t -ℚ whole (pos (2 ^ 31)) *ℚ c)
      double t c = solveℚ (t ∷ c ∷ []) (search reifyℚ depth 20) (search reifyℚ depth 20) tt

  -- 4·|t_k| ≤ 2^32 + k·(k−1)
  pub term_range : (k : ℕ) → 4 * nat_abs (point_term p k) ≤ 2 ^ 32 + k * (k - 1)
  term_range k =
      let t = whole (pos 4 *ℤ point_term p k) in
      let c = whole (pos (2 ^ 32)) *ℚ first_kind ℚ_ring (point p) k in
      rw Parts.abs-mul at
      ((abs-whole (pos 4 *ℤ point_term p k) (2 ^ 32 + k * (k - 1))).0
      (rw (whole-add (pos (2 ^ 32)) (pos (k * (k - 1))), split t c)
      (◌⟨≼⟩◌ ℚ_ordered (triangle ℚ_ordered c (t -ℚ c)) (◌⟨+⟩◌ ℚ_ordered scaled (term_error k)))))
    where
      split : (t c : ℚ) → t ≡ c +ℚ (t -ℚ c)
      split t c = solveℚ (t ∷ c ∷ []) (search reifyℚ depth 20) (search reifyℚ depth 20) tt

      scaled : ∣ whole (pos (2 ^ 32)) *ℚ first_kind ℚ_ring (point p) k ∣ℚ ≤ℚ whole (pos (2 ^ 32))
      scaled =
          rw *ℚ_one at
          (abs_mul_le ℚ_ordered (whole (pos (2 ^ 32))) (first_kind ℚ_ring (point p) k) (le_of_eq ℚ_ordered (ι_abs ℚ_ordered (pos (2 ^ 32)))) (first_bound ℚ_ordered (point p) k (point_inside p h)))
