-- The laws of the operations on fractions. A statement about all fractions is proved at numerators and denominators by `all1ℚ`,
-- `all2ℚ`, `all3ℚ`, or by `represent`.
use Rattle.std.specs.Prelude.{◌≡◌, refl, [], ◌∷◌, ℕ, ℤ, pos, negsuc, ◌+ℤ◌, ◌*ℤ◌}
use Rattle.std.proofs.Common.{◌∙◌}
use mathlib.Core.Quot.Quotient
use mathlib.Core.Quot.{Quotient-set}
use Rattle.std.proofs.Math.IntN.{ℤ_set}
use Rattle.ring.proofs.laws.IntegerSolver.{reifyℤ, solveℤ}
use Rattle.ring.specs.definitions.Pairs.{den, den_product}
use Rattle.ring.proofs.laws.PairLaws.{den-mul, den-zero}
use Rattle.fraction.specs.definitions.Fraction.{pairs, ℚ, ◌/1+◌, on₂, ◌+ℚ◌, ◌*ℚ◌, -ℚ◌, whole}

pub ℚ-set : IsSet ℚ
unfolding ℚ
ℚ-set = Quotient-set pairs

pub fraction_eq : (a : ℤ) (b : ℕ) (c : ℤ) (d : ℕ) → a *ℤ den d ≡ c *ℤ den b → a /1+ b ≡ c /1+ d
unfolding ℚ ◌/1+◌
fraction_eq a b c d e = Quotient.sound pairs e

pub fraction_exact : (a : ℤ) (b : ℕ) (c : ℤ) (d : ℕ) → a /1+ b ≡ c /1+ d → a *ℤ den d ≡ c *ℤ den b
unfolding ℚ ◌/1+◌
fraction_exact a b c d e = Quotient.exact pairs (λ f g. ℤ_set _ _) e

-- a proposition about a fraction is proved at its numerator and denominator
pub represent {ℓ} : (P : ℚ → Type ℓ) → ((q : ℚ) → IsProp (P q)) → ((a : ℤ) (b : ℕ) → P (a /1+ b)) → (q : ℚ) → P q
unfolding ℚ ◌/1+◌
represent P h f q = Quotient.ind pairs {motive = P} h (λ x. f x.num x.below) q

pub fraction_add : (a : ℤ) (b : ℕ) (c : ℤ) (d : ℕ) → a /1+ b +ℚ c /1+ d ≡ (a *ℤ den d +ℤ c *ℤ den b) /1+ den_product b d
unfolding ℚ ◌/1+◌ ◌+ℚ◌ on₂ Quotient.lift₂
fraction_add a b c d = refl

pub fraction_mul : (a : ℤ) (b : ℕ) (c : ℤ) (d : ℕ) → a /1+ b *ℚ c /1+ d ≡ (a *ℤ c) /1+ den_product b d
unfolding ℚ ◌/1+◌ ◌*ℚ◌ on₂ Quotient.lift₂
fraction_mul a b c d = refl

pub whole_is : (z : ℤ) → whole z ≡ z /1+ 0
unfolding whole
whole_is z = refl

-- an equation in one, two or three fractions, by their numerators and denominators
pub all1ℚ : (f g : ℚ → ℚ) → ((a : ℤ) (b : ℕ) → f (a /1+ b) ≡ g (a /1+ b)) → (x : ℚ) → f x ≡ g x
all1ℚ f g h = represent (λ x. f x ≡ g x) (λ x. ℚ-set (f x) (g x)) h

pub all2ℚ : (f g : ℚ → ℚ → ℚ) → ((a : ℤ) (b : ℕ) (c : ℤ) (d : ℕ) → f (a /1+ b) (c /1+ d) ≡ g (a /1+ b) (c /1+ d)) → (x y : ℚ) → f x y ≡ g x y
all2ℚ f g h x y = all1ℚ (λ x. f x y) (λ x. g x y) (λ a b. all1ℚ (f (a /1+ b)) (g (a /1+ b)) (h a b) y) x

pub all3ℚ : (f g : ℚ → ℚ → ℚ → ℚ) → ((a : ℤ) (b : ℕ) (c : ℤ) (d : ℕ) (e : ℤ) (k : ℕ) → f (a /1+ b) (c /1+ d) (e /1+ k) ≡ g (a /1+ b) (c /1+ d) (e /1+ k)) → (x y z : ℚ) → f x y z ≡ g x y z
all3ℚ f g h x y z = all1ℚ (λ x. f x y z) (λ x. g x y z) (λ a b. all2ℚ (f (a /1+ b)) (g (a /1+ b)) (h a b) y z) x

ruleset fractions = (fraction_add, fraction_mul)

pub +ℚ_assoc : (x y z : ℚ) → (x +ℚ y) +ℚ z ≡ x +ℚ (y +ℚ z)
+ℚ_assoc = all3ℚ _ _ (λ a b c d e k. simp fractions (fraction_eq _ _ _ _ (simp den-mul (solveℤ (a ∷ c ∷ e ∷ den b ∷ den d ∷ den k ∷ []) (search reifyℤ depth 20) (search reifyℤ depth 20) tt))))

pub +ℚ_comm : (x y : ℚ) → x +ℚ y ≡ y +ℚ x
+ℚ_comm = all2ℚ _ _ (λ a b c d. simp fractions (fraction_eq _ _ _ _ (simp den-mul (solveℤ (a ∷ c ∷ den b ∷ den d ∷ []) (search reifyℤ depth 20) (search reifyℤ depth 20) tt))))

pub *ℚ_assoc : (x y z : ℚ) → (x *ℚ y) *ℚ z ≡ x *ℚ (y *ℚ z)
*ℚ_assoc = all3ℚ _ _ (λ a b c d e k. simp fractions (fraction_eq _ _ _ _ (simp den-mul (solveℤ (a ∷ c ∷ e ∷ den b ∷ den d ∷ den k ∷ []) (search reifyℤ depth 20) (search reifyℤ depth 20) tt))))

pub *ℚ_comm : (x y : ℚ) → x *ℚ y ≡ y *ℚ x
*ℚ_comm = all2ℚ _ _ (λ a b c d. simp fractions (fraction_eq _ _ _ _ (simp den-mul (solveℤ (a ∷ c ∷ den b ∷ den d ∷ []) (search reifyℤ depth 20) (search reifyℤ depth 20) tt))))

pub *ℚ_dist : (x y z : ℚ) → x *ℚ (y +ℚ z) ≡ x *ℚ y +ℚ x *ℚ z
*ℚ_dist = all3ℚ _ _ (λ a b c d e k. simp fractions (fraction_eq _ _ _ _ (simp den-mul (solveℤ (a ∷ c ∷ e ∷ den b ∷ den d ∷ den k ∷ []) (search reifyℤ depth 20) (search reifyℤ depth 20) tt))))

pub whole-add : (a b : ℤ) → whole (a +ℤ b) ≡ whole a +ℚ whole b
unfolding whole
whole-add a b = simp fractions (fraction_eq _ _ _ _ (simp (den-mul, den-zero) (solveℤ (a ∷ b ∷ []) (search reifyℤ depth 20) (search reifyℤ depth 20) tt)))

pub whole-mul : (a b : ℤ) → whole (a *ℤ b) ≡ whole a *ℚ whole b
unfolding whole
whole-mul a b = simp fractions (fraction_eq _ _ _ _ (simp (den-mul, den-zero) (solveℤ (a ∷ b ∷ []) (search reifyℤ depth 20) (search reifyℤ depth 20) tt)))

pub zero_+ℚ : (x : ℚ) → whole (pos 0) +ℚ x ≡ x
unfolding whole
zero_+ℚ = all1ℚ _ _ (λ a b. simp fractions (fraction_eq _ _ _ _ (simp (den-mul, den-zero) (solveℤ (a ∷ den b ∷ []) (search reifyℤ depth 20) (search reifyℤ depth 20) tt))))

pub zero_*ℚ : (x : ℚ) → whole (pos 0) *ℚ x ≡ whole (pos 0)
unfolding whole
zero_*ℚ = all1ℚ _ _ (λ a b. simp fractions (fraction_eq _ _ _ _ (simp (den-mul, den-zero) (solveℤ (a ∷ den b ∷ []) (search reifyℤ depth 20) (search reifyℤ depth 20) tt))))

pub one_*ℚ : (x : ℚ) → whole (pos 1) *ℚ x ≡ x
unfolding whole
one_*ℚ = all1ℚ _ _ (λ a b. simp fractions (fraction_eq _ _ _ _ (simp (den-mul, den-zero) (solveℤ (a ∷ den b ∷ []) (search reifyℤ depth 20) (search reifyℤ depth 20) tt))))

pub *ℚ_one : (x : ℚ) → x *ℚ whole (pos 1) ≡ x
*ℚ_one x = *ℚ_comm x (whole (pos 1)) ∙ one_*ℚ x

pub -ℚ_is : (x : ℚ) → -ℚ x ≡ whole (negsuc 0) *ℚ x
unfolding -ℚ◌
-ℚ_is x = refl

-- a fraction times its denominator is its numerator
pub fraction_num : (a : ℤ) (b : ℕ) → a /1+ b *ℚ whole (den b) ≡ whole a
unfolding whole
fraction_num a b = simp fractions (fraction_eq _ _ _ _ (simp (den-mul, den-zero) (solveℤ (a ∷ den b ∷ []) (search reifyℤ depth 20) (search reifyℤ depth 20) tt)))
