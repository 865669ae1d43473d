-- The norm of the primitive from −1: at most twice the norm of the list, and how far a rounded primitive lies from the exact one.
use Rattle.std.specs.Prelude.{◌≡◌, ℕ, suc, ◌*◌, ◌<◌, ◌≤◌, pos, get_or}
use Rattle.std.proofs.Common.{sym, ◌∙◌, ap, arith}
use mathlib.Core.List.{List, [], ◌∷◌, tail}
use Rattle.integer.proofs.laws.FractionRounding.{natural_positive}
use Rattle.integer.proofs.laws.Embedding.{ι_nonneg, ι_abs}
use Rattle.ring.proofs.laws.OrderedRingLaws.{by_certificate, gap, ◌⊞◌, le_refl, le_of_eq, ◌⟨≼⟩◌, ◌⟨+⟩◌, mul_mono, triangle, abs-mul, abs_neg}
use Rattle.ring.specs.laws.Difference.{all2, all3}
use Rattle.ring.proofs.laws.Order.{pos-le}
use Rattle.fraction.specs.definitions.Fraction.{ℚ, whole, ◌+ℚ◌, ◌-ℚ◌, ◌*ℚ◌, -ℚ◌, ◌≤ℚ◌, ∣◌∣ℚ, inverse, ◌/ℚ◌}
use Rattle.integer.specs.definitions.FractionRing.{ℚ_ring}
use Rattle.fraction.proofs.laws.FractionLaws.{*ℚ_comm, *ℚ_assoc, *ℚ_one}
use Rattle.integer.proofs.laws.FractionSolver.{reifyℚ, solveℚ}
use Rattle.integer.proofs.laws.FractionOrder.{ℚ_ordered, ≤ℚ_cancel, absℚ_nonneg, whole_le}
use Rattle.integer.proofs.laws.FractionInverse.{inverse_right, quotient_mul}
use Rattle.integer.proofs.laws.FractionLinear.{common2, common3, common, common_literal, common_differences, linear_prop}
use Rattle.chebyshev.specs.definitions.Coefficients.{value, add_lists, scale_list, subtract_lists}
use Rattle.chebyshev.specs.definitions.Norms.{norm}
use Rattle.chebyshev.proofs.laws.CoefficientLaws.{get_d_scale, get_d_subtract}
use Rattle.chebyshev.proofs.laws.NormLaws.{norm_nonneg, norm_uncons, get_d_tail, norm_scale, norm_triangle, norm_bounded, constant_bound, constant-difference}
use Rattle.chebyshev.specs.definitions.Primitive.{primitive_from, double_first, primitive_tail, numerator, primitive}
use Rattle.chebyshev.proofs.laws.PrimitiveLaws.{divisor_nonzero, primitive-numerator, primitive_tail_subtract, primitive_subtract, primitive_minus_one}

-- ---- one term

scale-abs : (n : ℕ) (x : ℚ) → ∣ whole (pos n) *ℚ x ∣ℚ ≡ whole (pos n) *ℚ ∣ x ∣ℚ
scale-abs n x = abs-mul ℚ_ordered (whole (pos n)) x ∙ ap (λ y. y *ℚ ∣ x ∣ℚ) (ι_abs ℚ_ordered (pos n))

-- 2k·|y / 2k| = |y|
quotient_abs : (y : ℚ) (k : ℕ) → whole (pos (2 * suc k)) *ℚ ∣ y /ℚ whole (pos (2 * suc k)) ∣ℚ ≡ ∣ y ∣ℚ
quotient_abs y k =
    sym (scale-abs (2 * suc k) (y /ℚ whole (pos (2 * suc k))))
    ∙ ap ∣◌∣ℚ (*ℚ_comm (whole (pos (2 * suc k))) (y /ℚ whole (pos (2 * suc k))) ∙ quotient_mul y (whole (pos (2 * suc k))) (divisor_nonzero k))

difference-abs : (x y : ℚ) → ∣ x -ℚ y ∣ℚ ≤ℚ (∣ x ∣ℚ +ℚ ∣ y ∣ℚ)
difference-abs x y = rw (abs_neg ℚ_ordered y) at (triangle ℚ_ordered x (-ℚ y))

-- 4·|(x − y) / 2k| ≤ |x| + |y| for k ≥ 2
term_bound : (x y : ℚ) (k : ℕ) → (whole (pos 4) *ℚ ∣ (x -ℚ y) /ℚ whole (pos (2 * suc (suc k))) ∣ℚ) ≤ℚ (∣ x ∣ℚ +ℚ ∣ y ∣ℚ)
term_bound x y k =
    ◌⟨≼⟩◌ ℚ_ordered
    (mul_mono ℚ_ordered (ι_nonneg ℚ_ordered 4) ((whole_le (pos 4) (pos (2 * suc (suc k)))).1 (pos-le _ _ (omega arith))) (absℚ_nonneg q) (le_refl ℚ_ordered ∣ q ∣ℚ))
    (◌⟨≼⟩◌ ℚ_ordered (le_of_eq ℚ_ordered (quotient_abs (x -ℚ y) (suc k))) (difference-abs x y))
  where
    q : ℚ
    q = (x -ℚ y) /ℚ whole (pos (2 * suc (suc k)))

-- ---- the whole list

tail_norm : (a : List ℚ) → norm ℚ_ordered (tail a) ≡ ∣ get_or a 1 (whole (pos 0)) ∣ℚ +ℚ norm ℚ_ordered (tail (tail a))
tail_norm a = norm_uncons ℚ_ordered (tail a) ∙ ap (λ v. ∣ v ∣ℚ +ℚ norm ℚ_ordered (tail (tail a))) (get_d_tail ℚ_ordered a 0)

norm_primitive_from : (k : ℕ) (a : List ℚ)
    → (whole (pos 4) *ℚ norm ℚ_ordered (primitive_from (suc (suc k)) a)) ≤ℚ (norm ℚ_ordered a +ℚ norm ℚ_ordered (tail (tail a)))
unfolding norm primitive_from
norm_primitive_from k [] = le_of_eq ℚ_ordered (solveℚ [] (search reifyℚ depth 20) (search reifyℚ depth 20) tt)
norm_primitive_from k (p ∷ a) = join _ _ _ _ _ _ _ (term_bound p (get_or a 1 (whole (pos 0))) k) (norm_primitive_from (suc k) a) (tail_norm a)
  where
    join : (q r p a₁ n t n₃ : ℚ) → (whole (pos 4) *ℚ q) ≤ℚ (p +ℚ a₁) → (whole (pos 4) *ℚ r) ≤ℚ (n +ℚ n₃) → t ≡ a₁ +ℚ n₃
        → (whole (pos 4) *ℚ (q +ℚ r)) ≤ℚ (p +ℚ n +ℚ t)
    join q r p a₁ n t n₃ h l e =
        by_certificate ℚ_ordered (◌⊞◌ ℚ_ordered (gap ℚ_ordered h) (gap ℚ_ordered l))
        (ap (λ t. p +ℚ n +ℚ t -ℚ whole (pos 4) *ℚ (q +ℚ r)) e ∙ solveℚ (q ∷ r ∷ p ∷ a₁ ∷ n ∷ n₃ ∷ []) (search reifyℚ depth 20) (search reifyℚ depth 20) tt)

infixl 6 ◌⊞ℚ◌
◌⊞ℚ◌ : {x y : ℚ} → whole (pos 0) ≤ℚ x → whole (pos 0) ≤ℚ y → whole (pos 0) ≤ℚ (x +ℚ y)
h ⊞ℚ l = ◌⊞◌ ℚ_ordered h l

quarter : (x y : ℚ) → (whole (pos 4) *ℚ x) ≤ℚ (whole (pos 4) *ℚ y) → x ≤ℚ y
quarter = common2 _ (search linear_prop) (λ k. simp (common_literal k, common) (all2 _ (simp common_differences (omega arith))))

-- Σ |c_k| over k ≥ 1
norm_primitive_tail : (a : List ℚ) → norm ℚ_ordered (primitive_tail a) ≤ℚ norm ℚ_ordered a
unfolding norm primitive_tail primitive_from double_first
norm_primitive_tail [] = le_refl ℚ_ordered (whole (pos 0))
norm_primitive_tail (p ∷ a) =
    join _ _ _ _ _ _ _ first (norm_primitive_from 0 a)
    (norm_uncons ℚ_ordered a ∙ ap (λ n. ∣ get_or a 0 (whole (pos 0)) ∣ℚ +ℚ n) (tail_norm a))
    (absℚ_nonneg (get_or a 0 (whole (pos 0)))) (absℚ_nonneg (get_or a 1 (whole (pos 0)))) (norm_nonneg ℚ_ordered (tail (tail a)))
  where
    first : (whole (pos 2) *ℚ ∣ (whole (pos 2) *ℚ p -ℚ get_or a 1 (whole (pos 0))) /ℚ whole (pos 2) ∣ℚ) ≤ℚ (whole (pos 2) *ℚ ∣ p ∣ℚ +ℚ ∣ get_or a 1 (whole (pos 0)) ∣ℚ)
    first =
        ◌⟨≼⟩◌ ℚ_ordered (le_of_eq ℚ_ordered (quotient_abs (whole (pos 2) *ℚ p -ℚ get_or a 1 (whole (pos 0))) 0))
        (rw (scale-abs 2 p) at (difference-abs (whole (pos 2) *ℚ p) (get_or a 1 (whole (pos 0)))))

    join : (q r p n a₀ a₁ n₃ : ℚ) → (whole (pos 2) *ℚ q) ≤ℚ (whole (pos 2) *ℚ p +ℚ a₁) → (whole (pos 4) *ℚ r) ≤ℚ (n +ℚ n₃) → n ≡ a₀ +ℚ (a₁ +ℚ n₃)
        → whole (pos 0) ≤ℚ a₀ → whole (pos 0) ≤ℚ a₁ → whole (pos 0) ≤ℚ n₃ → (q +ℚ r) ≤ℚ (p +ℚ n)
    join q r p n a₀ a₁ n₃ h l e z₀ z₁ z₃ =
        quarter (q +ℚ r) (p +ℚ n)
        (rw e
        (by_certificate ℚ_ordered (gap ℚ_ordered h ⊞ℚ gap ℚ_ordered h ⊞ℚ gap ℚ_ordered (rw e at l) ⊞ℚ z₀ ⊞ℚ z₀ ⊞ℚ z₀ ⊞ℚ z₁ ⊞ℚ z₃ ⊞ℚ z₃)
        (solveℚ (q ∷ r ∷ p ∷ a₀ ∷ a₁ ∷ n₃ ∷ []) (search reifyℚ depth 20 fits 9000) (search reifyℚ depth 20 fits 9000) tt)))

minus_one_bound : ∣ -ℚ whole (pos 1) ∣ℚ ≤ℚ whole (pos 1)
minus_one_bound = le_of_eq ℚ_ordered (abs_neg ℚ_ordered (whole (pos 1)) ∙ ι_abs ℚ_ordered (pos 1))

double : (x y z : ℚ) → x ≤ℚ y → y ≤ℚ z → (x +ℚ y) ≤ℚ (whole (pos 2) *ℚ z)
double = common3 _ (search linear_prop) (λ k. simp (common_literal k, common) (all3 _ (simp common_differences (omega arith))))

pub norm_primitive : (a : List ℚ) → norm ℚ_ordered (primitive a) ≤ℚ (whole (pos 2) *ℚ norm ℚ_ordered a)
unfolding norm primitive
norm_primitive a = double _ _ _ (constant_bound ℚ_ordered (-ℚ whole (pos 1)) _ (primitive_tail a) minus_one_bound (primitive_minus_one a)) (norm_primitive_tail a)

pub norm_primitive_difference : (a b : List ℚ) → norm ℚ_ordered (subtract_lists ℚ_ring (primitive a) (primitive b)) ≤ℚ (whole (pos 2) *ℚ norm ℚ_ordered (subtract_lists ℚ_ring a b))
norm_primitive_difference a b = rw primitive_subtract at (norm_primitive (subtract_lists ℚ_ring a b))

-- ---- rounding

-- of t = n / 2k and c with 2·|c·2k − n| ≤ 2k the distance is at most one half
round_one : (k : ℕ) (t c n : ℚ) → t *ℚ whole (pos (2 * suc k)) ≡ n → (whole (pos 2) *ℚ ∣ c *ℚ whole (pos (2 * suc k)) -ℚ n ∣ℚ) ≤ℚ whole (pos (2 * suc k))
    → ∣ whole (pos 2) *ℚ (t -ℚ c) ∣ℚ ≤ℚ whole (pos 1)
round_one k t c n e h = ≤ℚ_cancel d ∣ whole (pos 2) *ℚ (t -ℚ c) ∣ℚ (whole (pos 1)) (natural_positive (2 * suc k) (omega arith)) (rw (product, *ℚ_one) h)
  where
    d : ℚ
    d = whole (pos (2 * suc k))

    regroup : (d : ℚ) → d *ℚ (whole (pos 2) *ℚ (t -ℚ c)) ≡ whole (pos 2) *ℚ -ℚ (c *ℚ d -ℚ t *ℚ d)
    regroup d = solveℚ (d ∷ t ∷ c ∷ []) (search reifyℚ depth 20) (search reifyℚ depth 20) tt

    product : d *ℚ ∣ whole (pos 2) *ℚ (t -ℚ c) ∣ℚ ≡ whole (pos 2) *ℚ ∣ c *ℚ d -ℚ n ∣ℚ
    product =
        sym (scale-abs (2 * suc k) (whole (pos 2) *ℚ (t -ℚ c)))
        ∙ ap ∣◌∣ℚ (regroup d ∙ ap (λ v. whole (pos 2) *ℚ -ℚ (c *ℚ d -ℚ v)) e)
        ∙ scale-abs 2 (-ℚ (c *ℚ d -ℚ n))
        ∙ ap (λ v. whole (pos 2) *ℚ v) (abs_neg ℚ_ordered (c *ℚ d -ℚ n))

exact_one : (k : ℕ) (t c : ℚ) → t *ℚ whole (pos (2 * suc k)) ≡ c *ℚ whole (pos (2 * suc k)) → whole (pos 2) *ℚ (t -ℚ c) ≡ whole (pos 0)
exact_one k t c e = ap (λ v. whole (pos 2) *ℚ (v -ℚ c)) (sym (undo t) ∙ ap (λ v. v /ℚ d) e ∙ undo c) ∙ solveℚ (c ∷ []) (search reifyℚ depth 20) (search reifyℚ depth 20) tt
  where
    d : ℚ
    d = whole (pos (2 * suc k))

    undo : (x : ℚ) → (x *ℚ d) /ℚ d ≡ x
    undo x = *ℚ_assoc x d (inverse d) ∙ ap (λ v. x *ℚ v) (inverse_right d (divisor_nonzero k)) ∙ *ℚ_one x

-- c_1, c_2, … = cs are within one half of the exact ones for k from 1 to m, and exact beyond
pub record Rounded (a cs : List ℚ) (m : ℕ) : Type 0 where
  pub near : (k : ℕ) → k < m → (whole (pos 2) *ℚ ∣ get_or cs k (whole (pos 0)) *ℚ whole (pos (2 * suc k)) -ℚ numerator a k ∣ℚ) ≤ℚ whole (pos (2 * suc k))
  pub exact : (k : ℕ) → m ≤ k → get_or cs k (whole (pos 0)) *ℚ whole (pos (2 * suc k)) ≡ numerator a k

norm_rounded : (a cs : List ℚ) (m : ℕ) → Rounded a cs m → (whole (pos 2) *ℚ norm ℚ_ordered (subtract_lists ℚ_ring (primitive_tail a) cs)) ≤ℚ whole (pos m)
norm_rounded a cs m r =
    rw (norm_scale ℚ_ordered, ι_abs ℚ_ordered, *ℚ_one) at
    (norm_bounded ℚ_ordered (whole (pos 1)) m (scale_list ℚ_ring (whole (pos 2)) errors)
    (λ k h. rw error_at (round_one k _ _ (numerator a k) (primitive-numerator a k) (r.near k h)))
    (λ k h. error_at k ∙ exact_one k _ _ (primitive-numerator a k ∙ sym (r.exact k h))))
  where
    errors : List ℚ
    errors = subtract_lists ℚ_ring (primitive_tail a) cs

    error_at : (k : ℕ) → get_or (scale_list ℚ_ring (whole (pos 2)) errors) k (whole (pos 0)) ≡ whole (pos 2) *ℚ (get_or (primitive_tail a) k (whole (pos 0)) -ℚ get_or cs k (whole (pos 0)))
    error_at k = get_d_scale ℚ_ring (whole (pos 2)) errors k ∙ ap (λ v. whole (pos 2) *ℚ v) (get_d_subtract ℚ_ring (primitive_tail a) cs k)

-- 01: the rounded primitive of a "bounds the exact primitive of every list of fractions whose coefficients differ from the
-- model's by at most e units in total absolute difference, again summed over coefficients", here with the radius 2e + m
pub primitive-rounded : (α a cs : List ℚ) (c₀ : ℚ) (m : ℕ) → Rounded a cs m → value ℚ_ring (-ℚ whole (pos 1)) (c₀ ∷ cs) ≡ whole (pos 0)
    → norm ℚ_ordered (subtract_lists ℚ_ring (primitive α) (c₀ ∷ cs)) ≤ℚ (whole (pos 2) *ℚ norm ℚ_ordered (subtract_lists ℚ_ring α a) +ℚ whole (pos m))
unfolding primitive subtract_lists add_lists norm
primitive-rounded α a cs c₀ m r zero_there =
    close _ _ _ _ _
    (constant-difference ℚ_ordered (-ℚ whole (pos 1)) _ c₀ (primitive_tail α) cs minus_one_bound (primitive_minus_one α) zero_there)
    (◌⟨≼⟩◌ ℚ_ordered (norm_triangle ℚ_ordered (primitive_tail α) (primitive_tail a) cs)
    (◌⟨+⟩◌ ℚ_ordered (rw primitive_tail_subtract at (norm_primitive_tail (subtract_lists ℚ_ring α a))) (le_refl ℚ_ordered _)))
    (norm_rounded a cs m r)
  where
    close : (c n e r w : ℚ) → c ≤ℚ n → n ≤ℚ (e +ℚ r) → (whole (pos 2) *ℚ r) ≤ℚ w → (c +ℚ n) ≤ℚ (whole (pos 2) *ℚ e +ℚ w)
    close c n e r w h l k =
        by_certificate ℚ_ordered (gap ℚ_ordered h ⊞ℚ gap ℚ_ordered l ⊞ℚ gap ℚ_ordered l ⊞ℚ gap ℚ_ordered k)
        (solveℚ (c ∷ n ∷ e ∷ r ∷ w ∷ []) (search reifyℚ depth 20) (search reifyℚ depth 20) tt)
