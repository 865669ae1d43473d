-- Laws of denominators, and that the operations on pairs take equal fractions to equal ones.
use Rattle.std.specs.Prelude.{◌≡◌, refl, Bool, true, false, [], ◌∷◌, ℕ, zero, suc, ◌+◌, ◌*◌, T, ℤ, pos, negsuc, neg_ℤ, nat_abs, ◌+ℤ◌, ◌*ℤ◌, ◌≤ℤ◌}
use Rattle.std.proofs.Common.{sym, ◌∙◌, ap, arith, le_of_mul-le-mul_right, zero-lt-suc, mul_comm}
use Rattle.std.proofs.Math.Nat.{eq_of_mul-eq-mul_right}
use Rattle.std.specs.Int.Signed.{le_z_yes}
use Rattle.ring.specs.laws.Parts.{◌⁺, ◌⁻, product, abs-mul}
use Rattle.ring.specs.laws.Difference.{D, D_lit, D_mul, D_≡, D_≤, all2}
use Rattle.ring.proofs.laws.IntegerSolver.{reifyℤ, solveℤ, combine1, combine2}
use Rattle.ring.proofs.laws.OrderedRingLaws.{mul_left}
use Rattle.ring.proofs.laws.Order.{ℤ_ordered, pos-le, mul_nonneg}
use Rattle.ring.specs.definitions.Pairs.{Pair, den, den_product, cross, sum_pair, product_pair, invert, inverse_pair, abs_pair, le_pair}

-- ---- denominators

pub den-mul : (b d : ℕ) → den (den_product b d) ≡ den b *ℤ den d
unfolding den den_product
den-mul b d = ap pos (product-suc b d)
  where
    product-suc : (b d : ℕ) → suc (b * d + b + d) ≡ suc b * suc d
    product-suc b d = omega arith

pub den_is : (b : ℕ) → den b ≡ pos (suc b)
unfolding den
den_is b = refl

pub den_D : (b : ℕ) → den b ≡ D (suc b) 0
unfolding den
den_D b = D_lit (suc b)

pub den-zero : den 0 ≡ pos 1
unfolding den
den-zero = refl

pub den_nonneg : (b : ℕ) → pos 0 ≤ℤ den b
unfolding den
den_nonneg b = pos-le 0 (suc b) (omega arith)

cancel_natural : (n a b c d : ℕ) → D a b *ℤ D (suc n) 0 ≡ D c d *ℤ D (suc n) 0 → D a b ≡ D c d
cancel_natural n a b c d = simp (D_mul, D_≡) (λ h. eq_of_mul-eq-mul_right (suc n) (zero-lt-suc n) (a + d) (c + b) (omega arith))

-- a common denominator cancels
pub cancel_den : (b : ℕ) (x y : ℤ) → x *ℤ den b ≡ y *ℤ den b → x ≡ y
cancel_den n x y = all2 (λ x y. x *ℤ den n ≡ y *ℤ den n → x ≡ y) (λ a b c d h. cancel_natural n a b c d (simp den_D at h)) x y

cancel_natural_le : (n a b c d : ℕ) → (D a b *ℤ D (suc n) 0) ≤ℤ (D c d *ℤ D (suc n) 0) → D a b ≤ℤ D c d
cancel_natural_le n a b c d = simp (D_mul, D_≤) (λ h. le_of_mul-le-mul_right {m = a + d} {n = c + b} {k = suc n} (omega arith) (zero-lt-suc n))

pub cancel_den_le : (b : ℕ) (x y : ℤ) → (x *ℤ den b) ≤ℤ (y *ℤ den b) → x ≤ℤ y
cancel_den_le n x y = all2 (λ x y. (x *ℤ den n) ≤ℤ (y *ℤ den n) → x ≤ℤ y) (λ a b c d h. cancel_natural_le n a b c d (simp den_D at h)) x y

-- ---- equal fractions

pub cross_trans : (x y z : Pair) → cross x y → cross y z → cross x z
cross_trans x y z p q =
    cancel_den y.below (x.num *ℤ den z.below) (z.num *ℤ den x.below)
    (go x.num y.num z.num (den x.below) (den y.below) (den z.below) p q)
  where
    go : (a b c B D F : ℤ) → a *ℤ D ≡ b *ℤ B → b *ℤ F ≡ c *ℤ D → (a *ℤ F) *ℤ D ≡ (c *ℤ B) *ℤ D
    go a b c B D F e f = combine2 F B e f (solveℤ (a ∷ b ∷ c ∷ B ∷ D ∷ F ∷ []) (search reifyℤ depth 20) (search reifyℤ depth 20) tt)

sum_cross : (a b c d a' b' c' d' : ℤ) → a *ℤ b' ≡ a' *ℤ b → c *ℤ d' ≡ c' *ℤ d → (a *ℤ d +ℤ c *ℤ b) *ℤ (b' *ℤ d') ≡ (a' *ℤ d' +ℤ c' *ℤ b') *ℤ (b *ℤ d)
sum_cross a b c d a' b' c' d' e f =
    combine2 (d *ℤ d') (b *ℤ b') e f
    (solveℤ (a ∷ b ∷ c ∷ d ∷ a' ∷ b' ∷ c' ∷ d' ∷ []) (search reifyℤ depth 20) (search reifyℤ depth 20) tt)

product-cross : (a b c d a' b' c' d' : ℤ) → a *ℤ b' ≡ a' *ℤ b → c *ℤ d' ≡ c' *ℤ d → (a *ℤ c) *ℤ (b' *ℤ d') ≡ (a' *ℤ c') *ℤ (b *ℤ d)
product-cross a b c d a' b' c' d' e f =
    combine2 (c *ℤ d') (a' *ℤ b) e f
    (solveℤ (a ∷ b ∷ c ∷ d ∷ a' ∷ b' ∷ c' ∷ d' ∷ []) (search reifyℤ depth 20) (search reifyℤ depth 20) tt)

pub sum_ok : (x y x' y' : Pair) → cross x x' → cross y y' → cross (sum_pair x y) (sum_pair x' y')
sum_ok x y x' y' p q =
    rw (den-mul x.below y.below, den-mul x'.below y'.below)
    (sum_cross x.num (den x.below) y.num (den y.below) x'.num (den x'.below) y'.num (den y'.below) p q)

pub product_ok : (x y x' y' : Pair) → cross x x' → cross y y' → cross (product_pair x y) (product_pair x' y')
product_ok x y x' y' p q =
    rw (den-mul x.below y.below, den-mul x'.below y'.below)
    (product-cross x.num (den x.below) y.num (den y.below) x'.num (den x'.below) y'.num (den y'.below) p q)

pub abs_ok : (x y : Pair) → cross x y → cross (abs_pair x) (abs_pair y)
unfolding den
abs_ok x y p = ap pos (sym (abs-mul x.num (pos (suc y.below))) ∙ ap nat_abs p ∙ abs-mul y.num (pos (suc x.below)))

swap : (m n b c : ℕ) → m * c ≡ n * b → b * n ≡ c * m
swap m n b c e = sym (mul_comm n b) ∙ sym e ∙ mul_comm m c

invert_ok : (a a' : ℤ) (b b' : ℕ) → a *ℤ pos (suc b') ≡ a' *ℤ pos (suc b) → cross (invert a b) (invert a' b')
unfolding invert den
invert_ok (pos zero) (pos zero) b b' e = refl
invert_ok (pos zero) (pos (suc n)) b b' e = absurd (omega (arith, ap ◌⁺ e))
invert_ok (pos zero) (negsuc n) b b' e = absurd (omega (arith, ap ◌⁻ e, product (negsuc n) (pos (suc b))))
invert_ok (pos (suc m)) (pos zero) b b' e = absurd (omega (arith, ap ◌⁺ e))
invert_ok (pos (suc m)) (pos (suc n)) b b' e = ap pos (swap (suc m) (suc n) (suc b) (suc b') (ap ◌⁺ e))
invert_ok (pos (suc m)) (negsuc n) b b' e = absurd (omega (arith, ap ◌⁺ e, product (negsuc n) (pos (suc b))))
invert_ok (negsuc m) (pos zero) b b' e = absurd (omega (arith, ap ◌⁻ e, product (negsuc m) (pos (suc b'))))
invert_ok (negsuc m) (pos (suc n)) b b' e = absurd (omega (arith, ap ◌⁻ e, product (negsuc m) (pos (suc b'))))
invert_ok (negsuc m) (negsuc n) b b' e =
    ap (λ (k : ℕ). neg_ℤ (pos k))
    (swap (suc m) (suc n) (suc b) (suc b') (omega (arith, ap ◌⁻ e, product (negsuc m) (pos (suc b')), product (negsuc n) (pos (suc b)))))

pub inverse_ok : (x y : Pair) → cross x y → cross (inverse_pair x) (inverse_pair y)
inverse_ok x y p = invert_ok x.num y.num x.below y.below (simp den_is at p)

le-cross : (a c a' c' : ℤ) (b d b' d' : ℕ) → a *ℤ den b' ≡ a' *ℤ den b → c *ℤ den d' ≡ c' *ℤ den d → (a *ℤ den d) ≤ℤ (c *ℤ den b) → (a' *ℤ den d') ≤ℤ (c' *ℤ den b')
le-cross a c a' c' b d b' d' e f h =
    cancel_den_le (den_product b d) _ _
    (rw den-mul
    (rw (left (den b) (den d) (den b') (den d') e, right (den b) (den d) (den b') (den d') f)
    (mul_left ℤ_ordered (den b' *ℤ den d') (mul_nonneg _ _ (den_nonneg b') (den_nonneg d')) h)))
  where
    left : (B D B' D' : ℤ) → a *ℤ B' ≡ a' *ℤ B → a' *ℤ D' *ℤ (B *ℤ D) ≡ B' *ℤ D' *ℤ (a *ℤ D)
    left B D B' D' e = combine1 (neg_ℤ (D *ℤ D')) e (solveℤ (a ∷ a' ∷ B ∷ D ∷ B' ∷ D' ∷ []) (search reifyℤ depth 20) (search reifyℤ depth 20) tt)

    right : (B D B' D' : ℤ) → c *ℤ D' ≡ c' *ℤ D → c' *ℤ B' *ℤ (B *ℤ D) ≡ B' *ℤ D' *ℤ (c *ℤ B)
    right B D B' D' f = combine1 (neg_ℤ (B *ℤ B')) f (solveℤ (c ∷ c' ∷ B ∷ D ∷ B' ∷ D' ∷ []) (search reifyℤ depth 20) (search reifyℤ depth 20) tt)

bool_ext : (x y : Bool) → (T x → T y) → (T y → T x) → x ≡ y
bool_ext true true f g = refl
bool_ext true false f g = absurd (f tt)
bool_ext false true f g = absurd (g tt)
bool_ext false false f g = refl

pub le_ok : (x y x' y' : Pair) → cross x x' → cross y y' → le_pair x y ≡ le_pair x' y'
le_ok x y x' y' p q =
    bool_ext _ _
    (λ t. (le-cross x.num y.num x'.num y'.num x.below y.below x'.below y'.below p q (le_z_yes t)).le)
    (λ t. (le-cross x'.num y'.num x.num y.num x'.below y'.below x.below y.below (sym p) (sym q) (le_z_yes t)).le)
