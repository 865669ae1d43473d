-- The laws of the inverse of a fraction and of the quotient of two: x · inverse x = 1 for every x ≠ 0.
use Rattle.std.specs.Prelude.{◌≡◌, refl, [], ◌∷◌, ℕ, zero, suc, ℤ, pos, negsuc}
use Rattle.std.proofs.Common.{sym, ◌∙◌, ap, arith}
use mathlib.Core.HLevel.{Π_prop}
use mathlib.Core.Quot.Quotient
use Rattle.std.proofs.Math.IntN.{zero-*ℤ}
use Rattle.ring.specs.definitions.Pairs.{invert}
use Rattle.ring.proofs.laws.PairLaws.{den_is, den-mul}
use Rattle.fraction.specs.definitions.Fraction.{ℚ, ◌/1+◌, on, ◌*ℚ◌, whole, inverse, ◌/ℚ◌}
use Rattle.fraction.proofs.laws.FractionLaws.{ℚ-set, represent, fraction_mul, fraction_eq, whole_is, one_*ℚ}
use Rattle.integer.proofs.laws.FractionSolver.{reifyℚ, solveℚ}

inverse_is : (a : ℤ) (b : ℕ) → inverse (a /1+ b) ≡ (invert a b).num /1+ (invert a b).below
unfolding ℚ ◌/1+◌ inverse on Quotient.lift
inverse_is a b = refl

pub inverse_right : (x : ℚ) → ¬ (x ≡ whole (pos 0)) → x *ℚ inverse x ≡ whole (pos 1)
unfolding invert
inverse_right = represent _ (λ x. Π_prop (λ _. ℚ-set _ _)) (λ a b n. rw inverse_is (go a b n))
  where
    zero_num : (b : ℕ) → pos 0 /1+ b ≡ whole (pos 0)
    zero_num b = simp whole_is (fraction_eq (pos 0) b (pos 0) 0 (simp zero-*ℤ))

    go : (a : ℤ) (b : ℕ) → ¬ (a /1+ b ≡ whole (pos 0)) → a /1+ b *ℚ (invert a b).num /1+ (invert a b).below ≡ whole (pos 1)
    go (pos zero) b n = absurd (n (zero_num b))
    go (pos (suc m)) b n = simp (fraction_mul, whole_is) (fraction_eq _ _ _ _ (simp (den-mul, den_is) (ap pos (omega arith))))
    go (negsuc m) b n = simp (fraction_mul, whole_is) (fraction_eq _ _ _ _ (simp (den-mul, den_is) (ap pos (omega arith))))

-- (y / x) · x = y
pub quotient_mul : (y x : ℚ) → ¬ (x ≡ whole (pos 0)) → (y /ℚ x) *ℚ x ≡ y
quotient_mul y x n = regroup ∙ ap (λ z. y *ℚ z) (inverse_right x n) ∙ solveℚ (y ∷ []) (search reifyℚ depth 9) (search reifyℚ depth 9) tt
  where
    regroup : (y *ℚ inverse x) *ℚ x ≡ y *ℚ (x *ℚ inverse x)
    regroup = solveℚ (y ∷ x ∷ inverse x ∷ []) (search reifyℚ depth 9) (search reifyℚ depth 9) tt

pub *ℚ_cancel : (c x y : ℚ) → ¬ (c ≡ whole (pos 0)) → c *ℚ x ≡ c *ℚ y → x ≡ y
*ℚ_cancel c x y h e = sym (undo x) ∙ ap (λ z. inverse c *ℚ z) e ∙ undo y
  where
    regroup : (i z c : ℚ) → i *ℚ (c *ℚ z) ≡ c *ℚ i *ℚ z
    regroup i z c = solveℚ (i ∷ z ∷ c ∷ []) (search reifyℚ depth 9) (search reifyℚ depth 9) tt

    undo : (z : ℚ) → inverse c *ℚ (c *ℚ z) ≡ z
    undo z = regroup (inverse c) z c ∙ ap (λ t. t *ℚ z) (inverse_right c h) ∙ one_*ℚ z
