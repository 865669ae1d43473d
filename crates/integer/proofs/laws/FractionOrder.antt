-- The laws of the order and |·| of fractions; ℚ is an ordered commutative ring: `ℚ_ordered`. The passage to whole numbers is by
-- cross-multiplication: `fraction_le`.
use Rattle.std.specs.Prelude.{◌≡◌, refl, ◌↔◌, ◌⊎◌, Bool, true, false, not, [], ◌∷◌, ℕ, T, ℤ, pos, neg_ℤ, ◌+ℤ◌, ◌*ℤ◌, ◌≤ℤ◌}
use Rattle.std.proofs.Common.{sym, ◌∙◌, ap, subst, inl, inr}
use mathlib.Core.HLevel.{Π_prop}
use mathlib.Core.Quot.Quotient
use Rattle.std.proofs.Math.Dec.{T_prop}
use Rattle.std.proofs.Math.IntN.{zero-*ℤ}
use Rattle.std.specs.Int.Signed.{le_z_yes}
use Rattle.ring.proofs.laws.IntegerSolver.{reifyℤ, solveℤ, *_one}
use Rattle.ring.specs.definitions.OrderedRing.{OrderedRing}
use Rattle.ring.proofs.laws.OrderedRingLaws.{by_certificate, gap, ◌⊞◌, ◌⊠◌, abs_of_nonneg, abs_neg}
use Rattle.ring.proofs.laws.Order.{ℤ_ordered, total, mul_nonneg, cancel, abs_nonneg, ∣◌∣, ∣∣_is}
use Rattle.ring.specs.definitions.Pairs.{den}
use Rattle.ring.proofs.laws.PairLaws.{den-mul, den_nonneg, den-zero, cancel_den_le}
use Rattle.fraction.specs.definitions.Fraction.{ℚ, ◌/1+◌, on, ◌+ℚ◌, ◌*ℚ◌, -ℚ◌, whole, ∣◌∣ℚ, leℚ, ◌≤ℚ◌}
use Rattle.fraction.proofs.laws.FractionLaws.{ℚ-set, represent, -ℚ_is, fraction_add, fraction_mul, fraction_eq, fraction_exact, whole_is}
use Rattle.integer.specs.definitions.FractionRing.{ℚ_ring}
use Rattle.integer.proofs.laws.FractionSolver.{reifyℚ, solveℚ}

pub fraction_le : (a : ℤ) (b : ℕ) (c : ℤ) (d : ℕ) → (a /1+ b ≤ℚ c /1+ d) ↔ ((a *ℤ den d) ≤ℤ (c *ℤ den b))
unfolding ℚ ◌/1+◌ leℚ Quotient.lift₂
fraction_le a b c d = (λ h. le_z_yes h.leq, λ h. record { leq = h.le })

pub ≤ℚ_prop : (x y : ℚ) → IsProp (x ≤ℚ y)
≤ℚ_prop x y h k = λ i. record { leq = T_prop (leℚ x y) h.leq k.leq i }

-- a proposition about two or three fractions is proved at numerators and denominators
pub represent2 : (P : ℚ → ℚ → Type 0) → ((x y : ℚ) → IsProp (P x y)) → ((a : ℤ) (b : ℕ) (c : ℤ) (d : ℕ) → P (a /1+ b) (c /1+ d)) → (x y : ℚ) → P x y
represent2 P h f x y = represent (λ x. P x y) (λ x. h x y) (λ a b. represent (P (a /1+ b)) (h (a /1+ b)) (f a b) y) x

pub represent3 : (P : ℚ → ℚ → ℚ → Type 0) → ((x y z : ℚ) → IsProp (P x y z)) → ((a : ℤ) (b : ℕ) (c : ℤ) (d : ℕ) (e : ℤ) (k : ℕ) → P (a /1+ b) (c /1+ d) (e /1+ k)) → (x y z : ℚ) → P x y z
represent3 P h f x y z = represent (λ x. P x y z) (λ x. h x y z) (λ a b. represent2 (P (a /1+ b)) (h (a /1+ b)) (f a b) y z) x

-- ---- the fields of the instance

pub ≤ℚ_trans : (x y z : ℚ) → x ≤ℚ y → y ≤ℚ z → x ≤ℚ z
≤ℚ_trans =
    represent3 _ (λ x y z. Π_prop (λ _. Π_prop (λ _. ≤ℚ_prop x z)))
    (λ a b c d e k. simp fraction_le (λ h l. cancel_den_le d _ _ (go a c e (den b) (den d) (den k) (den_nonneg b) (den_nonneg k) h l)))
  where
    go : (a c e B D K : ℤ) → pos 0 ≤ℤ B → pos 0 ≤ℤ K → (a *ℤ D) ≤ℤ (c *ℤ B) → (c *ℤ K) ≤ℤ (e *ℤ D) → (a *ℤ K *ℤ D) ≤ℤ (e *ℤ B *ℤ D)
    go a c e B D K h_b h_k h l =
        by_certificate ℤ_ordered (◌⊞◌ ℤ_ordered (◌⊠◌ ℤ_ordered h_k (gap ℤ_ordered h)) (◌⊠◌ ℤ_ordered h_b (gap ℤ_ordered l)))
        (solveℤ (a ∷ c ∷ e ∷ B ∷ D ∷ K ∷ []) (search reifyℤ depth 20) (search reifyℤ depth 20) tt)

pub ≤ℚ_antisym : (x y : ℚ) → x ≤ℚ y → y ≤ℚ x → x ≡ y
≤ℚ_antisym = represent2 _ (λ x y. Π_prop (λ _. Π_prop (λ _. ℚ-set x y))) (λ a b c d. simp fraction_le (λ h l. fraction_eq a b c d (ℤ_ordered.le_antisym _ _ h l)))

pub ≤ℚ_add : (x y z : ℚ) → x ≤ℚ y → (x +ℚ z) ≤ℚ (y +ℚ z)
≤ℚ_add =
    represent3 _ (λ x y z. Π_prop (λ _. ≤ℚ_prop (x +ℚ z) (y +ℚ z)))
    (λ a b c d e k. simp (fraction_add, fraction_le, den-mul) (λ h. go a c e (den b) (den d) (den k) (den_nonneg k) h))
  where
    go : (a c e B D K : ℤ) → pos 0 ≤ℤ K → (a *ℤ D) ≤ℤ (c *ℤ B) → ((a *ℤ K +ℤ e *ℤ B) *ℤ (D *ℤ K)) ≤ℤ ((c *ℤ K +ℤ e *ℤ D) *ℤ (B *ℤ K))
    go a c e B D K h_k h =
        by_certificate ℤ_ordered (◌⊠◌ ℤ_ordered (◌⊠◌ ℤ_ordered h_k h_k) (gap ℤ_ordered h))
        (solveℤ (a ∷ c ∷ e ∷ B ∷ D ∷ K ∷ []) (search reifyℤ depth 20) (search reifyℤ depth 20) tt)

nonneg_num : (a : ℤ) (b : ℕ) → (whole (pos 0) ≤ℚ a /1+ b) ↔ (pos 0 ≤ℤ a)
nonneg_num a b = simp (whole_is, fraction_le, den-zero, *_one, zero-*ℤ) (λ h. h, λ h. h)

pub ≤ℚ_mul : (x y : ℚ) → whole (pos 0) ≤ℚ x → whole (pos 0) ≤ℚ y → whole (pos 0) ≤ℚ (x *ℚ y)
≤ℚ_mul = represent2 _ (λ x y. Π_prop (λ _. Π_prop (λ _. ≤ℚ_prop (whole (pos 0)) (x *ℚ y)))) (λ a b c d. simp (fraction_mul, nonneg_num) (λ h l. mul_nonneg a c h l))

clash : (t : Bool) → T t → T (not t) → ⊥
clash true h k = k
clash false h k = h

not_le : (x y : ℚ) → T (not (leℚ x y)) → y ≤ℚ x
not_le = represent2 _ (λ x y. Π_prop (λ _. ≤ℚ_prop y x)) (λ a b c d t. go a b c d t (total (c *ℤ den b) (a *ℤ den d)))
  where
    go : (a : ℤ) (b : ℕ) (c : ℤ) (d : ℕ) → T (not (leℚ (a /1+ b) (c /1+ d))) → ((c *ℤ den b) ≤ℤ (a *ℤ den d)) ⊎ ((a *ℤ den d) ≤ℤ (c *ℤ den b)) → c /1+ d ≤ℚ a /1+ b
    go a b c d t (inl h) = (fraction_le c d a b).1 h
    go a b c d t (inr h) = absurd (clash (leℚ (a /1+ b) (c /1+ d)) ((fraction_le a b c d).1 h).leq t)

pub ≤ℚ_decide : (x y : ℚ) → (x ≤ℚ y) ⊎ ¬ (x ≤ℚ y)
≤ℚ_decide x y = go (leℚ x y) refl
  where
    go : (t : Bool) → leℚ x y ≡ t → (x ≤ℚ y) ⊎ ¬ (x ≤ℚ y)
    go true e = inl (record { leq = subst T (sym e) tt })
    go false e = inr (λ h. subst T e h.leq)

pub ≤ℚ_total : (x y : ℚ) → (x ≤ℚ y) ⊎ (y ≤ℚ x)
≤ℚ_total x y = go (leℚ x y) refl
  where
    go : (t : Bool) → leℚ x y ≡ t → (x ≤ℚ y) ⊎ (y ≤ℚ x)
    go true e = inl (record { leq = subst T (sym e) tt })
    go false e = inr (not_le x y (subst (λ (t : Bool). T (not t)) (sym e) tt))

pub ≤ℚ_cancel : (c u v : ℚ) → ¬ (c ≤ℚ whole (pos 0)) → (c *ℚ u) ≤ℚ (c *ℚ v) → u ≤ℚ v
≤ℚ_cancel = represent3 _ (λ c u v. Π_prop (λ _. Π_prop (λ _. ≤ℚ_prop u v))) (λ a b c d e k p h. go a b c d e k p h)
  where
    regroup : (a B c K : ℤ) → (a *ℤ c) *ℤ (B *ℤ K) ≡ (a *ℤ (c *ℤ K)) *ℤ B
    regroup a B c K = solveℤ (a ∷ B ∷ c ∷ K ∷ []) (search reifyℤ depth 20) (search reifyℤ depth 20) tt

    positive : (a : ℤ) (b : ℕ) → ¬ (a /1+ b ≤ℚ whole (pos 0)) → ¬ (a ≤ℤ pos 0)
    positive a b p h = p (simp (whole_is, fraction_le, den-zero, *_one, zero-*ℤ) h)

    go : (a : ℤ) (b : ℕ) (c : ℤ) (d : ℕ) (e : ℤ) (k : ℕ) → ¬ (a /1+ b ≤ℚ whole (pos 0)) → (a /1+ b *ℚ c /1+ d) ≤ℚ (a /1+ b *ℚ e /1+ k) → c /1+ d ≤ℚ e /1+ k
    go a b c d e k p h =
        (fraction_le c d e k).1
        (cancel a (c *ℤ den k) (e *ℤ den d) (positive a b p)
        (cancel_den_le b (a *ℤ (c *ℤ den k)) (a *ℤ (e *ℤ den d))
        (rw (← regroup a (den b) c (den k), ← regroup a (den b) e (den d)) (simp (fraction_mul, fraction_le, den-mul) at h))))

-- ---- |·|

pub fraction_abs : (a : ℤ) (b : ℕ) → ∣ a /1+ b ∣ℚ ≡ ∣ a ∣ /1+ b
unfolding ℚ ◌/1+◌ ∣◌∣ℚ on Quotient.lift
fraction_abs a b = ap (λ z. z /1+ b) (sym (∣∣_is a))

pub absℚ_nonneg : (x : ℚ) → whole (pos 0) ≤ℚ ∣ x ∣ℚ
absℚ_nonneg = represent _ (λ x. ≤ℚ_prop _ _) (λ a b. simp (fraction_abs, nonneg_num) (abs_nonneg a))

pub fraction_neg : (a : ℤ) (b : ℕ) → -ℚ a /1+ b ≡ neg_ℤ a /1+ b
fraction_neg a b = simp (-ℚ_is, whole_is, fraction_mul) (fraction_eq _ _ _ _ (rw (den-mul, den-zero) (solveℤ (a ∷ den b ∷ []) (search reifyℤ depth 9) (search reifyℤ depth 9) tt)))

-- |x| is x or −x: which of the two, the order tells
absℚ_of_nonneg : (x : ℚ) → whole (pos 0) ≤ℚ x → ∣ x ∣ℚ ≡ x
absℚ_of_nonneg =
    represent _ (λ x. Π_prop (λ _. ℚ-set _ _))
    (λ a b h. fraction_abs a b ∙ ap (λ z. z /1+ b) (abs_of_nonneg ℤ_ordered ((nonneg_num a b).0 h)))

absℚ_neg : (x : ℚ) → ∣ -ℚ x ∣ℚ ≡ ∣ x ∣ℚ
absℚ_neg =
    represent _ (λ x. ℚ-set _ _)
    (λ a b. ap ∣◌∣ℚ (fraction_neg a b) ∙ fraction_abs (neg_ℤ a) b ∙ ap (λ z. z /1+ b) (abs_neg ℤ_ordered a) ∙ sym (fraction_abs a b))

pub absℚ_cases : (x : ℚ) → (∣ x ∣ℚ ≡ x) ⊎ (∣ x ∣ℚ ≡ -ℚ x)
absℚ_cases x = pick (≤ℚ_total (whole (pos 0)) x)
  where
    zero_sum : whole (pos 0) +ℚ -ℚ x ≡ -ℚ x
    zero_sum = solveℚ (x ∷ []) (search reifyℚ depth 9) (search reifyℚ depth 9) tt

    cancel_sum : x +ℚ -ℚ x ≡ whole (pos 0)
    cancel_sum = solveℚ (x ∷ []) (search reifyℚ depth 9) (search reifyℚ depth 9) tt

    flip : x ≤ℚ whole (pos 0) → whole (pos 0) ≤ℚ -ℚ x
    flip h = subst (λ z. z ≤ℚ -ℚ x) cancel_sum (subst (λ z. (x +ℚ -ℚ x) ≤ℚ z) zero_sum (≤ℚ_add x (whole (pos 0)) (-ℚ x) h))

    pick : (whole (pos 0) ≤ℚ x) ⊎ (x ≤ℚ whole (pos 0)) → (∣ x ∣ℚ ≡ x) ⊎ (∣ x ∣ℚ ≡ -ℚ x)
    pick (inl h) = inl (absℚ_of_nonneg x h)
    pick (inr h) = inr (sym (absℚ_neg x) ∙ absℚ_of_nonneg (-ℚ x) (flip h))

abbrev pub ℚ_ordered : OrderedRing
ℚ_ordered = record {
  ring = ℚ_ring;
  le = ◌≤ℚ◌;
  le_trans = ≤ℚ_trans;
  le_antisym = ≤ℚ_antisym;
  le_total = ≤ℚ_total;
  le_decide = ≤ℚ_decide;
  le-add = ≤ℚ_add;
  le-mul = ≤ℚ_mul;
  le_cancel = ≤ℚ_cancel;
  abs = ∣◌∣ℚ;
  abs_nonneg = absℚ_nonneg;
  abs_cases = absℚ_cases;
}

-- ---- the embedding of ℤ keeps the order and |·|

pub whole_le : (a b : ℤ) → (whole a ≤ℚ whole b) ↔ (a ≤ℤ b)
whole_le a b = simp (whole_is, fraction_le, den-zero, *_one) (λ h. h, λ h. h)

pub whole-abs : (a : ℤ) → ∣ whole a ∣ℚ ≡ whole ∣ a ∣
whole-abs a = simp (whole_is, fraction_abs)

pub whole_neg : (a : ℤ) → -ℚ whole a ≡ whole (neg_ℤ a)
whole_neg a = simp (whole_is, fraction_neg)

pub whole_injective : (a b : ℤ) → whole a ≡ whole b → a ≡ b
whole_injective a b e = simp (den-zero, *_one) at (fraction_exact a 0 b 0 (sym (whole_is a) ∙ e ∙ whole_is b))
