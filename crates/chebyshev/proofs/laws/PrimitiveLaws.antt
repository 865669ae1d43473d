-- Laws of the primitive from −1: its elements, that it is linear, that its value at −1 is 0, and that its derivative is the list.
use Rattle.std.specs.Prelude.{◌≡◌, refl, List, [], ◌∷◌, ℕ, zero, suc, ◌+◌, ◌*◌, pos, get_or}
use Rattle.std.proofs.Common.{sym, ◌∙◌, ap, ap₂, arith}
use Rattle.ring.specs.laws.Difference.{all2}
use Rattle.fraction.specs.definitions.Fraction.{ℚ, whole, ◌+ℚ◌, ◌-ℚ◌, ◌*ℚ◌, -ℚ◌, inverse, ◌/ℚ◌}
use Rattle.fraction.proofs.laws.FractionLaws.{whole-mul, *ℚ_dist}
use Rattle.integer.specs.definitions.FractionRing.{ℚ_ring}
use Rattle.integer.proofs.laws.FractionSolver.{reifyℚ, solveℚ}
use Rattle.integer.proofs.laws.FractionRounding.{natural_nonzero}
use Rattle.integer.proofs.laws.FractionInverse.{quotient_mul}
use Rattle.integer.proofs.laws.FractionLinear.{common2, common, common_literal, common_differences, linear_prop}
use Rattle.chebyshev.specs.definitions.Recurrences.{first_kind, second_kind}
use Rattle.chebyshev.specs.definitions.Coefficients.{value_from, value, add_lists, scale_list, subtract_lists}
use Rattle.chebyshev.proofs.laws.CoefficientLaws.{value_from_add, value_from_scale, get_d_add, get_d_scale, opposite_scale}
use Rattle.chebyshev.specs.definitions.Derivative.{derivative, sum_from, derivative_value, remainder}
use Rattle.chebyshev.proofs.laws.DerivativeLaws.{value_taylor, derivative_constant, second_difference, derivative_second}
use Rattle.chebyshev.specs.definitions.Primitive.{primitive_from, double_first, primitive_tail, numerator, primitive}

-- ---- elements

get_d_primitive_from : (k : ℕ) (a : List ℚ) (i : ℕ)
    → get_or (primitive_from k a) i (whole (pos 0)) ≡ (get_or a i (whole (pos 0)) -ℚ get_or a (suc (suc i)) (whole (pos 0))) /ℚ whole (pos (2 * (k + i)))
unfolding primitive_from
get_d_primitive_from k [] i = solveℚ (inverse (whole (pos (2 * (k + i)))) ∷ []) (search reifyℚ depth 20) (search reifyℚ depth 20) tt
get_d_primitive_from k (p ∷ a) zero =
    let e : k + 0 ≡ k = omega arith in
    rw e
get_d_primitive_from k (p ∷ a) (suc i) =
    let e : k + suc i ≡ suc k + i = omega arith in
    rw e (get_d_primitive_from (suc k) a i)

pub divisor_nonzero : (k : ℕ) → ¬ (whole (pos (2 * suc k)) ≡ whole (pos 0))
divisor_nonzero k = natural_nonzero (omega arith)

double_first_next : (a : List ℚ) (k : ℕ) → get_or (double_first a) (suc k) (whole (pos 0)) ≡ get_or a (suc k) (whole (pos 0))
unfolding double_first
double_first_next [] k = refl
double_first_next (p ∷ a) k = refl

pub numerator_first : (a : List ℚ) → numerator a 0 ≡ whole (pos 2) *ℚ get_or a 0 (whole (pos 0)) -ℚ get_or a 2 (whole (pos 0))
unfolding double_first
numerator_first [] = solveℚ [] (search reifyℚ depth 20) (search reifyℚ depth 20) tt
numerator_first (p ∷ a) = refl

pub numerator_next : (a : List ℚ) (k : ℕ) → numerator a (suc k) ≡ get_or a (suc k) (whole (pos 0)) -ℚ get_or a (suc (suc (suc k))) (whole (pos 0))
numerator_next a k = ap (λ v. v -ℚ get_or a (suc (suc (suc k))) (whole (pos 0))) (double_first_next a k)

-- c_(k+1)·2(k+1) is its numerator
pub primitive-numerator : (a : List ℚ) (k : ℕ) → get_or (primitive_tail a) k (whole (pos 0)) *ℚ whole (pos (2 * suc k)) ≡ numerator a k
unfolding primitive_tail
primitive-numerator a k =
    ap (λ v. v *ℚ whole (pos (2 * suc k)))
    (get_d_primitive_from 1 (double_first a) k ∙ ap₂ (λ v (n : ℕ). (get_or (double_first a) k (whole (pos 0)) -ℚ v) /ℚ whole (pos (2 * n))) (double_first_next a (suc k)) (omega arith))
    ∙ quotient_mul (numerator a k) (whole (pos (2 * suc k))) (divisor_nonzero k)

-- ---- the primitive is linear

primitive_from-add : (k : ℕ) (a b : List ℚ) → primitive_from k (add_lists ℚ_ring a b) ≡ add_lists ℚ_ring (primitive_from k a) (primitive_from k b)
unfolding primitive_from add_lists
primitive_from-add k [] b = refl
primitive_from-add k (x ∷ a) [] = refl
primitive_from-add k (x ∷ a) (y ∷ b) =
    ap₂ ◌∷◌
    (ap (λ v. (x +ℚ y -ℚ v) /ℚ whole (pos (2 * k))) (get_d_add ℚ_ring a b 1)
    ∙ solveℚ (x ∷ y ∷ get_or a 1 (whole (pos 0)) ∷ get_or b 1 (whole (pos 0)) ∷ inverse (whole (pos (2 * k))) ∷ []) (search reifyℚ depth 20) (search reifyℚ depth 20) tt)
    (primitive_from-add (suc k) a b)

primitive_from-scale : (k : ℕ) (s : ℚ) (a : List ℚ) → primitive_from k (scale_list ℚ_ring s a) ≡ scale_list ℚ_ring s (primitive_from k a)
unfolding primitive_from scale_list
primitive_from-scale k s [] = refl
primitive_from-scale k s (x ∷ a) =
    ap₂ ◌∷◌
    (ap (λ v. (s *ℚ x -ℚ v) /ℚ whole (pos (2 * k))) (get_d_scale ℚ_ring s a 1)
    ∙ solveℚ (s ∷ x ∷ get_or a 1 (whole (pos 0)) ∷ inverse (whole (pos (2 * k))) ∷ []) (search reifyℚ depth 20) (search reifyℚ depth 20) tt)
    (primitive_from-scale (suc k) s a)

double_first-add : (a b : List ℚ) → double_first (add_lists ℚ_ring a b) ≡ add_lists ℚ_ring (double_first a) (double_first b)
unfolding double_first add_lists
double_first-add [] b = refl
double_first-add (x ∷ a) [] = refl
double_first-add (x ∷ a) (y ∷ b) = ap (λ v. v ∷ add_lists ℚ_ring a b) (solveℚ (x ∷ y ∷ []) (search reifyℚ depth 20) (search reifyℚ depth 20) tt)

double_first-scale : (s : ℚ) (a : List ℚ) → double_first (scale_list ℚ_ring s a) ≡ scale_list ℚ_ring s (double_first a)
unfolding double_first scale_list
double_first-scale s [] = refl
double_first-scale s (x ∷ a) = ap (λ v. v ∷ scale_list ℚ_ring s a) (solveℚ (s ∷ x ∷ []) (search reifyℚ depth 20) (search reifyℚ depth 20) tt)

primitive_tail-add : (a b : List ℚ) → primitive_tail (add_lists ℚ_ring a b) ≡ add_lists ℚ_ring (primitive_tail a) (primitive_tail b)
unfolding primitive_tail
primitive_tail-add a b = ap (primitive_from 1) (double_first-add a b) ∙ primitive_from-add 1 (double_first a) (double_first b)

primitive_tail-scale : (s : ℚ) (a : List ℚ) → primitive_tail (scale_list ℚ_ring s a) ≡ scale_list ℚ_ring s (primitive_tail a)
unfolding primitive_tail
primitive_tail-scale s a = ap (primitive_from 1) (double_first-scale s a) ∙ primitive_from-scale 1 s (double_first a)

pub primitive_tail_subtract : (a b : List ℚ) → primitive_tail (subtract_lists ℚ_ring a b) ≡ subtract_lists ℚ_ring (primitive_tail a) (primitive_tail b)
unfolding subtract_lists
primitive_tail_subtract a b = simp (opposite_scale ℚ_ring, primitive_tail-add, primitive_tail-scale)

-- Σ c_k·T_k(−1) over k from 1
abbrev tail_at_minus_one : List ℚ → ℚ
tail_at_minus_one t = value_from ℚ_ring (-ℚ whole (pos 1)) 1 t

pub primitive-add : (a b : List ℚ) → primitive (add_lists ℚ_ring a b) ≡ add_lists ℚ_ring (primitive a) (primitive b)
unfolding primitive add_lists
primitive-add a b =
    ap (λ t. (-ℚ tail_at_minus_one t) ∷ t) (primitive_tail-add a b)
    ∙ ap (λ v. v ∷ add_lists ℚ_ring (primitive_tail a) (primitive_tail b))
    (ap -ℚ◌ (value_from_add ℚ_ring (-ℚ whole (pos 1)) 1 (primitive_tail a) (primitive_tail b))
    ∙ solveℚ (tail_at_minus_one (primitive_tail a) ∷ tail_at_minus_one (primitive_tail b) ∷ []) (search reifyℚ depth 20) (search reifyℚ depth 20) tt)

pub primitive-scale : (s : ℚ) (a : List ℚ) → primitive (scale_list ℚ_ring s a) ≡ scale_list ℚ_ring s (primitive a)
unfolding primitive scale_list
primitive-scale s a =
    ap (λ t. (-ℚ tail_at_minus_one t) ∷ t) (primitive_tail-scale s a)
    ∙ ap (λ v. v ∷ scale_list ℚ_ring s (primitive_tail a))
    (ap -ℚ◌ (value_from_scale ℚ_ring (-ℚ whole (pos 1)) 1 s (primitive_tail a))
    ∙ solveℚ (s ∷ tail_at_minus_one (primitive_tail a) ∷ []) (search reifyℚ depth 20) (search reifyℚ depth 20) tt)

pub primitive_subtract : (a b : List ℚ) → primitive (subtract_lists ℚ_ring a b) ≡ subtract_lists ℚ_ring (primitive a) (primitive b)
unfolding subtract_lists
primitive_subtract a b = simp (opposite_scale ℚ_ring, primitive-add, primitive-scale)

-- ---- the value at −1

pub primitive_minus_one : (a : List ℚ) → value ℚ_ring (-ℚ whole (pos 1)) (primitive a) ≡ whole (pos 0)
unfolding primitive value value_from first_kind
primitive_minus_one a = solveℚ (tail_at_minus_one (primitive_tail a) ∷ []) (search reifyℚ depth 20) (search reifyℚ depth 20) tt

-- ---- the derivative of the primitive is the list

pub double_injective : (x y : ℚ) → whole (pos 2) *ℚ x ≡ whole (pos 2) *ℚ y → x ≡ y
double_injective = common2 _ (search linear_prop) (λ k. simp (common_literal k, common) (all2 _ (simp common_differences (omega arith))))

-- 2·c_k·T'_k = (a_(k−1) − a_(k+1))·U_(k−1)
derivative_term : (x y : ℚ) (k : ℕ) → whole (pos 2) *ℚ ((y /ℚ whole (pos (2 * suc k))) *ℚ derivative ℚ_ring x (suc k)) ≡ y *ℚ second_kind ℚ_ring x (suc k)
derivative_term x y k =
    ap (λ d. whole (pos 2) *ℚ ((y /ℚ whole (pos (2 * suc k))) *ℚ d)) (derivative_second ℚ_ring x (suc k))
    ∙ regroup (inverse (whole (pos (2 * suc k)))) (whole (pos (suc k))) (second_kind ℚ_ring x (suc k))
    ∙ ap (λ n. (y /ℚ whole (pos (2 * suc k))) *ℚ n *ℚ second_kind ℚ_ring x (suc k)) (sym (whole-mul (pos 2) (pos (suc k))))
    ∙ ap (λ v. v *ℚ second_kind ℚ_ring x (suc k)) (quotient_mul y (whole (pos (2 * suc k))) (divisor_nonzero k))
  where
    regroup : (w n s : ℚ) → whole (pos 2) *ℚ ((y *ℚ w) *ℚ (n *ℚ s)) ≡ (y *ℚ w) *ℚ (whole (pos 2) *ℚ n) *ℚ s
    regroup w n s = solveℚ (y ∷ w ∷ n ∷ s ∷ []) (search reifyℚ depth 20) (search reifyℚ depth 20) tt

-- the rest of the sum telescopes: what is left over are the first two elements
derivative_from : (x : ℚ) (k : ℕ) (a : List ℚ)
    → whole (pos 2) *ℚ sum_from ℚ_ring (derivative ℚ_ring x) (suc (suc k)) (primitive_from (suc (suc k)) a)
    ≡ whole (pos 2) *ℚ value_from ℚ_ring x (suc k) a +ℚ get_or a 0 (whole (pos 0)) *ℚ second_kind ℚ_ring x k +ℚ get_or a 1 (whole (pos 0)) *ℚ second_kind ℚ_ring x (suc k)
unfolding sum_from primitive_from value_from
derivative_from x k [] = solveℚ (second_kind ℚ_ring x k ∷ second_kind ℚ_ring x (suc k) ∷ []) (search reifyℚ depth 20) (search reifyℚ depth 20) tt
derivative_from x k (p ∷ a) =
    *ℚ_dist (whole (pos 2)) _ _
    ∙ ap₂ ◌+ℚ◌ (derivative_term x (p -ℚ a₁) (suc k)) (derivative_from x (suc k) a)
    ∙ solveℚ (p ∷ s₁ ∷ second_kind ℚ_ring x (suc (suc k)) ∷ v ∷ a₀ ∷ a₁ ∷ []) (search reifyℚ depth 20) (search reifyℚ depth 20) tt
    ∙ ap (λ s. p *ℚ s +ℚ (whole (pos 2) *ℚ v +ℚ a₀ *ℚ s₁)) (second_difference ℚ_ring x k)
    ∙ solveℚ (p ∷ first_kind ℚ_ring x (suc k) ∷ second_kind ℚ_ring x k ∷ s₁ ∷ v ∷ a₀ ∷ []) (search reifyℚ depth 20) (search reifyℚ depth 20) tt
  where
    a₀ : ℚ
    a₀ = get_or a 0 (whole (pos 0))

    a₁ : ℚ
    a₁ = get_or a 1 (whole (pos 0))

    s₁ : ℚ
    s₁ = second_kind ℚ_ring x (suc k)

    v : ℚ
    v = value_from ℚ_ring x (suc (suc k)) a

derivative_tail : (x : ℚ) (a : List ℚ) → sum_from ℚ_ring (derivative ℚ_ring x) 1 (primitive_tail a) ≡ value ℚ_ring x a
unfolding sum_from primitive_tail primitive_from double_first value value_from first_kind second_kind
derivative_tail x [] = refl
derivative_tail x (p ∷ a) =
    double_injective _ _
    (*ℚ_dist (whole (pos 2)) _ _
    ∙ ap₂ ◌+ℚ◌ (derivative_term x (whole (pos 2) *ℚ p -ℚ get_or a 1 (whole (pos 0))) 0) (derivative_from x 0 a)
    ∙ solveℚ (p ∷ value_from ℚ_ring x 1 a ∷ get_or a 0 (whole (pos 0)) ∷ get_or a 1 (whole (pos 0)) ∷ []) (search reifyℚ depth 20) (search reifyℚ depth 20) tt)

-- the derivative of the primitive is the list, at every fraction
pub primitive_derivative : (x : ℚ) (a : List ℚ) → derivative_value ℚ_ring x (primitive a) ≡ value ℚ_ring x a
unfolding primitive
primitive_derivative x a = derivative_constant ℚ_ring x _ (primitive_tail a) ∙ derivative_tail x a

-- P(x + h) = P(x) + h·a(x), up to a multiple of h²
pub primitive_increment : (x h : ℚ) (a : List ℚ)
    → value ℚ_ring (x +ℚ h) (primitive a) ≡ value ℚ_ring x (primitive a) +ℚ h *ℚ value ℚ_ring x a +ℚ h *ℚ h *ℚ sum_from ℚ_ring (remainder ℚ_ring x h) 0 (primitive a)
primitive_increment x h a =
    value_taylor ℚ_ring x h (primitive a)
    ∙ ap (λ v. value ℚ_ring x (primitive a) +ℚ h *ℚ v +ℚ h *ℚ h *ℚ sum_from ℚ_ring (remainder ℚ_ring x h) 0 (primitive a)) (primitive_derivative x a)
