-- Linear facts over ℚ, hypotheses included, in one line: the fractions are brought to a common denominator, then to ℤ, then to ℕ.
--   lemma : (x y z : ℚ) → x ≤ℚ y → (whole (pos 2) *ℚ y) ≤ℚ z → (whole (pos 2) *ℚ x) ≤ℚ z
--   lemma = common3 _ (search linear-prop) (λ k. simp (common-literal k, common) (all3 _ (simp common-differences (omega arith))))
-- Coefficients are literals `whole (pos 2)`, `whole (negsuc 4)`, or none.
use Rattle.std.specs.Prelude.{◌≡◌, ◌↔◌, [], ◌∷◌, ℕ, ℤ, ◌+ℤ◌, ◌*ℤ◌, ◌≤ℤ◌}
use Rattle.std.proofs.Common.{ap}
use mathlib.Core.HLevel.{Π_prop}
use Rattle.ring.specs.laws.Difference.{differences}
use Rattle.ring.proofs.laws.IntegerSolver.{reifyℤ, solveℤ}
use Rattle.ring.proofs.laws.OrderedRingLaws.{mul_left}
use Rattle.ring.proofs.laws.Order.{ℤ_ordered}
use Rattle.fraction.specs.definitions.Fraction.{ℚ, ◌/1+◌, whole, ◌+ℚ◌, ◌*ℚ◌, ◌≤ℚ◌}
use Rattle.fraction.proofs.laws.FractionLaws.{ℚ-set, fraction_eq, fraction_exact, fraction_add, fraction_mul, whole_is, represent}
use Rattle.ring.specs.definitions.Pairs.{den, den_product}
use Rattle.ring.proofs.laws.PairLaws.{den_D, den-mul, den-zero, den_nonneg, cancel_den, cancel_den_le}
use Rattle.integer.proofs.laws.FractionOrder.{fraction_le, fraction_neg, ≤ℚ_prop, represent2}

-- ---- the operations at one denominator

pub common_add : (a b : ℤ) (k : ℕ) → a /1+ k +ℚ b /1+ k ≡ (a +ℤ b) /1+ k
common_add a b k = simp fraction_add (fraction_eq _ _ _ _ (rw den-mul (solveℤ (a ∷ b ∷ den k ∷ []) (search reifyℤ depth 9) (search reifyℤ depth 9) tt)))

pub common_literal : (k : ℕ) (n : ℤ) → whole n ≡ (n *ℤ den k) /1+ k
common_literal k n = simp whole_is (fraction_eq _ _ _ _ (rw den-zero (solveℤ (n ∷ den k ∷ []) (search reifyℤ depth 9) (search reifyℤ depth 9) tt)))

pub common_mul : (a n : ℤ) (k : ℕ) → (n *ℤ den k) /1+ k *ℚ a /1+ k ≡ (n *ℤ a) /1+ k
common_mul a n k = simp fraction_mul (fraction_eq _ _ _ _ (rw den-mul (solveℤ (a ∷ n ∷ den k ∷ []) (search reifyℤ depth 9) (search reifyℤ depth 9) tt)))

pub common_le : (a b : ℤ) (k : ℕ) → (a /1+ k ≤ℚ b /1+ k) ↔ (a ≤ℤ b)
common_le a b k = (
  λ h. cancel_den_le k a b ((fraction_le a k b k).0 h),
  λ h. (fraction_le a k b k).1 (rw (swap a, swap b) (mul_left ℤ_ordered (den k) (den_nonneg k) h)),
)
  where
    swap : (x : ℤ) → x *ℤ den k ≡ den k *ℤ x
    swap x = solveℤ (x ∷ den k ∷ []) (search reifyℤ depth 9) (search reifyℤ depth 9) tt

pub common_eq : (a b : ℤ) (k : ℕ) → (a /1+ k ≡ b /1+ k) ↔ (a ≡ b)
common_eq a b k = (λ h. cancel_den k a b (fraction_exact a k b k h), λ h. ap (λ x. x /1+ k) h)

pub ruleset common = (common_add, common_mul, fraction_neg, common_le, common_eq)

pub ruleset common_differences = (den_D, differences)

-- a linear statement is a proposition
pub le_prop : (x y : ℚ) → IsProp (x ≤ℚ y)
le_prop = ≤ℚ_prop

pub eq_prop : (x y : ℚ) → IsProp (x ≡ y)
eq_prop = ℚ-set

pub arrow_prop : {A B : Type 0} → IsProp B → IsProp (A → B)
arrow_prop h = Π_prop (λ _. h)

pub ruleset linear_prop = (le_prop, eq_prop, arrow_prop)

-- ---- any two, three or four fractions have a common denominator

-- a/b at the denominator b d
scaled : (a : ℤ) (b d : ℕ) → a /1+ b ≡ (a *ℤ den d) /1+ den_product b d
scaled a b d = fraction_eq _ _ _ _ (rw den-mul (solveℤ (a ∷ den b ∷ den d ∷ []) (search reifyℤ depth 9) (search reifyℤ depth 9) tt))

scaled_right : (a : ℤ) (b d : ℕ) → a /1+ d ≡ (a *ℤ den b) /1+ den_product b d
scaled_right a b d = fraction_eq _ _ _ _ (rw den-mul (solveℤ (a ∷ den b ∷ den d ∷ []) (search reifyℤ depth 9) (search reifyℤ depth 9) tt))

pub common2 : (P : ℚ → ℚ → Type 0) → ((x y : ℚ) → IsProp (P x y)) → ((k : ℕ) (a b : ℤ) → P (a /1+ k) (b /1+ k)) → (x y : ℚ) → P x y
common2 P h f = represent2 P h (λ a b c d. rw (scaled a b d, scaled_right c b d) (f (den_product b d) (a *ℤ den d) (c *ℤ den b)))

-- the first fraction joins the others' denominator
pub common3 : (P : ℚ → ℚ → ℚ → Type 0) → ((x y z : ℚ) → IsProp (P x y z)) → ((k : ℕ) (a b c : ℤ) → P (a /1+ k) (b /1+ k) (c /1+ k)) → (x y z : ℚ) → P x y z
common3 P h f x =
    common2 (P x) (h x)
    (λ k b c. represent (λ x. P x (b /1+ k) (c /1+ k)) (λ x. h x (b /1+ k) (c /1+ k))
    (λ a d. rw (scaled a d k, scaled_right b d k, scaled_right c d k) (f (den_product d k) (a *ℤ den k) (b *ℤ den d) (c *ℤ den d))) x)

pub common4 : (P : ℚ → ℚ → ℚ → ℚ → Type 0) → ((x y z w : ℚ) → IsProp (P x y z w)) → ((k : ℕ) (a b c d : ℤ) → P (a /1+ k) (b /1+ k) (c /1+ k) (d /1+ k)) → (x y z w : ℚ) → P x y z w
common4 P h f x =
    common3 (P x) (h x)
    (λ k b c d. represent (λ x. P x (b /1+ k) (c /1+ k) (d /1+ k)) (λ x. h x (b /1+ k) (c /1+ k) (d /1+ k))
    (λ a e. rw (scaled a e k, scaled_right b e k, scaled_right c e k, scaled_right d e k) (f (den_product e k) (a *ℤ den k) (b *ℤ den e) (c *ℤ den e) (d *ℤ den e))) x)
