-- Boxes and operations: what contains the four products, or quotients, of the ends contains every product, or quotient.
use Rattle.std.specs.Prelude.{◌≡◌, ◌⊎◌, [], ◌∷◌, pos}
use Rattle.std.proofs.Common.{sym, ◌∙◌, ap, subst, inl, inr}
use Rattle.ring.proofs.laws.OrderedRingLaws.{le_of_eq, mul_left, le-neg, ◌⟨+⟩◌, by_certificate, gap, ◌⊠◌}
use Rattle.fraction.specs.definitions.Fraction.{ℚ, whole, ◌+ℚ◌, ◌-ℚ◌, ◌*ℚ◌, -ℚ◌, ◌≤ℚ◌, ◌<ℚ◌, inverse, ◌/ℚ◌}
use Rattle.integer.proofs.laws.FractionSolver.{reifyℚ, solveℚ}
use Rattle.fraction.proofs.laws.FractionLaws.{*ℚ_comm}
use Rattle.integer.proofs.laws.FractionOrder.{ℚ_ordered, ≤ℚ_trans, ≤ℚ_total, ≤ℚ_decide, ≤ℚ_cancel}
use Rattle.integer.proofs.laws.FractionInverse.{inverse_right}
use Rattle.job.specs.definitions.Requirement.{Box, Lies, ContainsFour}

abbrev zeroℚ : ℚ
zeroℚ = whole (pos 0)

-- a multiple s·v, v between l and h, is not below what is below s·l and s·h: s·v is at least s·l where s ≥ 0, else at least s·h
above_multiple : (s l v h b : ℚ) → l ≤ℚ v → v ≤ℚ h → b ≤ℚ (s *ℚ l) → b ≤ℚ (s *ℚ h) → b ≤ℚ (s *ℚ v)
above_multiple s l v h b lv vh bl bh = pick (≤ℚ_total zeroℚ s)
  where
    pick : (zeroℚ ≤ℚ s) ⊎ (s ≤ℚ zeroℚ) → b ≤ℚ (s *ℚ v)
    pick (inl p) = ≤ℚ_trans b (s *ℚ l) (s *ℚ v) bl (mul_left ℚ_ordered s p lv)
    pick (inr p) =
        ≤ℚ_trans b (s *ℚ h) (s *ℚ v) bh
        (by_certificate ℚ_ordered (◌⊠◌ ℚ_ordered (gap ℚ_ordered p) (gap ℚ_ordered vh)) (solveℚ (s ∷ v ∷ h ∷ []) (search reifyℚ depth 12) (search reifyℚ depth 12) tt))

-- the same from above, by opposites
below_multiple : (s l v h b : ℚ) → l ≤ℚ v → v ≤ℚ h → (s *ℚ l) ≤ℚ b → (s *ℚ h) ≤ℚ b → (s *ℚ v) ≤ℚ b
below_multiple s l v h b lv vh lb hb = pick (≤ℚ_total zeroℚ s)
  where
    pick : (zeroℚ ≤ℚ s) ⊎ (s ≤ℚ zeroℚ) → (s *ℚ v) ≤ℚ b
    pick (inl p) = ≤ℚ_trans (s *ℚ v) (s *ℚ h) b (mul_left ℚ_ordered s p vh) hb
    pick (inr p) =
        ≤ℚ_trans (s *ℚ v) (s *ℚ l) b
        (by_certificate ℚ_ordered (◌⊠◌ ℚ_ordered (gap ℚ_ordered p) (gap ℚ_ordered lv)) (solveℚ (s ∷ v ∷ l ∷ []) (search reifyℚ depth 12) (search reifyℚ depth 12) tt)) lb

-- a multiple of a number between l and h lies in a box that contains the multiples of l and h
multiple_lies : (s l v h : ℚ) (c : Box) → l ≤ℚ v → v ≤ℚ h → Lies (s *ℚ l) c → Lies (s *ℚ h) c → Lies (s *ℚ v) c
multiple_lies s l v h c lv vh p q = record {
  above = above_multiple s l v h c.low lv vh p.above q.above;
  below = below_multiple s l v h c.high lv vh p.below q.below;
}

swap_lies : (s t : ℚ) (c : Box) → Lies (s *ℚ t) c → Lies (t *ℚ s) c
swap_lies s t c p = subst (λ z. Lies z c) (*ℚ_comm s t) p

-- the product of u between l and h with t, from the products of the ends with t
product_between : (l u h l' t h' : ℚ) (c : Box) → l ≤ℚ u → u ≤ℚ h → l' ≤ℚ t → t ≤ℚ h'
    → Lies (l *ℚ l') c → Lies (l *ℚ h') c → Lies (h *ℚ l') c → Lies (h *ℚ h') c → Lies (u *ℚ t) c
product_between l u h l' t h' c lu uh lt th ll lh hl hh =
    swap_lies t u c
    (multiple_lies t l u h c lu uh
    (swap_lies l t c (multiple_lies l l' t h' c lt th ll lh))
    (swap_lies h t c (multiple_lies h l' t h' c lt th hl hh)))

pub product_lies : (a b c : Box) (u v : ℚ) → ContainsFour ◌*ℚ◌ a b c → Lies u a → Lies v b → Lies (u *ℚ v) c
product_lies a b c u v f p q =
    product_between a.low u a.high b.low v b.high c p.above p.below q.above q.below f.low_low f.low_high f.high_low f.high_high

-- ---- quotients

-- 0 < a·b for two positive numbers
positive_product : (a b : ℚ) → zeroℚ <ℚ a → zeroℚ <ℚ b → zeroℚ <ℚ (a *ℚ b)
positive_product a b p q h = q (≤ℚ_cancel a b zeroℚ p (subst (λ z. (a *ℚ b) ≤ℚ z) (solveℚ (a ∷ []) (search reifyℚ depth 9) (search reifyℚ depth 9) tt) h))

-- of two numbers of one sign the larger has the smaller inverse
inverse_antitone : (a b : ℚ) → ¬ (a ≡ zeroℚ) → ¬ (b ≡ zeroℚ) → zeroℚ <ℚ (a *ℚ b) → a ≤ℚ b → inverse b ≤ℚ inverse a
inverse_antitone a b na nb p h = ≤ℚ_cancel (a *ℚ b) (inverse b) (inverse a) p (rw (left, right) h)
  where
    left : (a *ℚ b) *ℚ inverse b ≡ a
    left = solveℚ (a ∷ b ∷ inverse b ∷ []) (search reifyℚ depth 9) (search reifyℚ depth 9) tt ∙ ap (λ z. a *ℚ z) (inverse_right b nb) ∙ solveℚ (a ∷ []) (search reifyℚ depth 9) (search reifyℚ depth 9) tt

    right : (a *ℚ b) *ℚ inverse a ≡ b
    right = solveℚ (a ∷ b ∷ inverse a ∷ []) (search reifyℚ depth 9) (search reifyℚ depth 9) tt ∙ ap (λ z. b *ℚ z) (inverse_right a na) ∙ solveℚ (b ∷ []) (search reifyℚ depth 9) (search reifyℚ depth 9) tt

-- the ends of a box that excludes 0, and what lies between them, have one sign
module _ (b : Box) (v : ℚ) (excludes : ¬ Lies zeroℚ b) (p : Lies v b) where
  abbrev OneSign : Type 0
  OneSign = (zeroℚ <ℚ (b.low *ℚ v)) × ((zeroℚ <ℚ (v *ℚ b.high)) × ((¬ (b.low ≡ zeroℚ)) × ((¬ (v ≡ zeroℚ)) × (¬ (b.high ≡ zeroℚ)))))

  above_zero : zeroℚ <ℚ b.low → OneSign
  above_zero h = (
    positive_product b.low v h pv,
    (positive_product v b.high pv ph, ((λ e. h (le_of_eq ℚ_ordered e)), ((λ e. pv (le_of_eq ℚ_ordered e)), (λ e. ph (le_of_eq ℚ_ordered e))))),
  )
    where
      pv : zeroℚ <ℚ v
      pv k = h (≤ℚ_trans b.low v zeroℚ p.above k)

      ph : zeroℚ <ℚ b.high
      ph k = pv (≤ℚ_trans v b.high zeroℚ p.below k)

  -- two negative numbers have a positive product
  both_negative : (s t : ℚ) → s <ℚ zeroℚ → t <ℚ zeroℚ → zeroℚ <ℚ (s *ℚ t)
  both_negative s t hs ht =
      subst (λ z. zeroℚ <ℚ z) (solveℚ (s ∷ t ∷ []) (search reifyℚ depth 9) (search reifyℚ depth 9) tt)
      (positive_product (-ℚ s) (-ℚ t) (flip s hs) (flip t ht))
    where
      flip : (s : ℚ) → s <ℚ zeroℚ → zeroℚ <ℚ -ℚ s
      flip s h k = h (by_certificate ℚ_ordered (gap ℚ_ordered k) (solveℚ (s ∷ []) (search reifyℚ depth 9) (search reifyℚ depth 9) tt))

  below_zero : b.high <ℚ zeroℚ → OneSign
  below_zero h = (
    both_negative b.low v nl nv,
    (both_negative v b.high nv h, ((λ e. nl (le_of_eq ℚ_ordered (sym e))), ((λ e. nv (le_of_eq ℚ_ordered (sym e))), (λ e. h (le_of_eq ℚ_ordered (sym e)))))),
  )
    where
      nv : v <ℚ zeroℚ
      nv k = h (≤ℚ_trans zeroℚ v b.high k p.below)

      nl : b.low <ℚ zeroℚ
      nl k = nv (≤ℚ_trans zeroℚ b.low v k p.above)

  one_sign : OneSign
  one_sign = pick (≤ℚ_decide b.low zeroℚ)
    where
      pick : (b.low ≤ℚ zeroℚ) ⊎ ¬ (b.low ≤ℚ zeroℚ) → OneSign
      pick (inl h) = below_zero (λ k. excludes (record { above = h; below = k }))
      pick (inr h) = above_zero h

  inverse_above : inverse b.high ≤ℚ inverse v
  inverse_above = let s = one_sign in inverse_antitone v b.high s.1.1.1.0 s.1.1.1.1 s.1.0 p.below

  inverse_below : inverse v ≤ℚ inverse b.low
  inverse_below = let s = one_sign in inverse_antitone b.low v s.1.1.0 s.1.1.1.0 s.0 p.above

pub quotient_lies : (a b c : Box) (u v : ℚ) → ¬ Lies zeroℚ b → ContainsFour ◌/ℚ◌ a b c → Lies u a → Lies v b → Lies (u /ℚ v) c
quotient_lies a b c u v excludes f p q =
    product_between a.low u a.high (inverse b.high) (inverse v) (inverse b.low) c p.above p.below (inverse_above b v excludes q) (inverse_below b v excludes q)
    f.low_high f.low_low f.high_high f.high_low

-- ---- sums and differences

pub sum_lies : (a b c : Box) (u v : ℚ) → c.low ≡ a.low +ℚ b.low → c.high ≡ a.high +ℚ b.high → Lies u a → Lies v b → Lies (u +ℚ v) c
sum_lies a b c u v l h p q = record {
  above = subst (λ z. z ≤ℚ (u +ℚ v)) (sym l) (◌⟨+⟩◌ ℚ_ordered p.above q.above);
  below = subst (λ z. (u +ℚ v) ≤ℚ z) (sym h) (◌⟨+⟩◌ ℚ_ordered p.below q.below);
}

pub difference_lies : (a b c : Box) (u v : ℚ) → c.low ≡ a.low -ℚ b.high → c.high ≡ a.high -ℚ b.low → Lies u a → Lies v b → Lies (u -ℚ v) c
difference_lies a b c u v l h p q = record {
  above = subst (λ z. z ≤ℚ (u -ℚ v)) (sym l) (◌⟨+⟩◌ ℚ_ordered p.above (le-neg ℚ_ordered q.below));
  below = subst (λ z. (u -ℚ v) ≤ℚ z) (sym h) (◌⟨+⟩◌ ℚ_ordered p.below (le-neg ℚ_ordered q.above));
}
