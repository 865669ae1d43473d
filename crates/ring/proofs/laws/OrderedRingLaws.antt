-- The laws of ordered commutative rings.
--
-- GUIDE. An inequality that is not linear is proved by a certificate, b − a as a sum of products of things known not
-- negative; the solver proves the equation:
--   box : (x y z w : A) → 0 ≤ x → x ≤ z → 0 ≤ w → y ≤ w → x y ≤ z w
--   box x y z w hx hz hw hy = by-certificate O (⊞ O (⊠ O (gap O hz) hw) (⊠ O hx (gap O hy))) (solve ..)
use Rattle.std.specs.Prelude.{◌≡◌, refl, ◌↔◌, ◌⊎◌, [], ◌∷◌, pos}
use Rattle.std.proofs.Common.{sym, ◌∙◌, ap, ap₂, subst, inl, inr, ⊎_elim}
use Rattle.ring.proofs.laws.Solver.{reify, solve}
use Rattle.ring.specs.definitions.OrderedRing.{OrderedRing, ◌≺◌}

module _ (O : OrderedRing) where
  open O use {ring, le as ◌≼◌, le_trans, le_antisym, le_total, le_decide, le-add, le-mul, le_cancel, abs, abs_nonneg, abs_cases}
  open ring use {A, add as ◌⊕◌, mul as ◌⊗◌, opp as ⊖◌, ι, zero-add, add_comm}

  infixl 6 ◌⊕◌
  infixl 7 ◌⊗◌
  infix 8 ⊖◌
  infix 4 ◌≼◌
  pub le_refl : (x : A) → x ≼ x
  le_refl x = ⊎_elim (λ h. h) (λ h. h) (le_total x x)

  pub le_of_eq : {x y : A} → x ≡ y → x ≼ y
  le_of_eq {x} e = subst (λ z. x ≼ z) e (le_refl x)

  pub lt-le : {x y : A} → ◌≺◌ O x y → x ≼ y
  lt-le {x} {y} h = ⊎_elim (λ k. k) (λ k. absurd (h k)) (le_total x y)

  infixl 5 ◌⟨≼⟩◌
  pub ◌⟨≼⟩◌ : {x y z : A} → x ≼ y → y ≼ z → x ≼ z
  ◌⟨≼⟩◌ {x} {y} {z} h k = le_trans x y z h k

  -- ---- certificates

  -- b − a is something that is not negative
  pub by_certificate : {a b c : A} → ι (pos 0) ≼ c → b ⊕ ⊖ a ≡ c → a ≼ b
  by_certificate {a} {b} {c} h e = subst (λ y. a ≼ y) back (subst (λ y. y ≼ c ⊕ a) (zero-add a) (le-add (ι (pos 0)) c a h))
    where
      back : c ⊕ a ≡ b
      back = ap (λ y. y ⊕ a) (sym e) ∙ solve ring (a ∷ b ∷ []) (search reify depth 9) (search reify depth 9) tt

  pub gap : {x y : A} → x ≼ y → ι (pos 0) ≼ y ⊕ ⊖ x
  gap {x} {y} h = subst (λ z. z ≼ y ⊕ ⊖ x) (solve ring (x ∷ []) (search reify depth 9) (search reify depth 9) tt) (le-add x y (⊖ x) h)

  infixl 6 ◌⊞◌
  pub ◌⊞◌ : {x y : A} → ι (pos 0) ≼ x → ι (pos 0) ≼ y → ι (pos 0) ≼ x ⊕ y
  ◌⊞◌ {x} {y} h k = le_trans _ _ _ k (subst (λ z. z ≼ x ⊕ y) (zero-add y) (le-add (ι (pos 0)) x y h))

  infixl 7 ◌⊠◌
  pub ◌⊠◌ : {x y : A} → ι (pos 0) ≼ x → ι (pos 0) ≼ y → ι (pos 0) ≼ x ⊗ y
  ◌⊠◌ {x} {y} h k = le-mul x y h k

  -- ---- sums, opposites and products

  infixl 6 ◌⟨+⟩◌
  pub ◌⟨+⟩◌ : {x y z w : A} → x ≼ y → z ≼ w → x ⊕ z ≼ y ⊕ w
  ◌⟨+⟩◌ {x} {y} {z} {w} h k = by_certificate (gap h ⊞ gap k) (solve ring (x ∷ y ∷ z ∷ w ∷ []) (search reify depth 12) (search reify depth 12) tt)

  pub le-neg : {x y : A} → x ≼ y → ⊖ y ≼ ⊖ x
  le-neg {x} {y} h = by_certificate (gap h) (solve ring (x ∷ y ∷ []) (search reify depth 9) (search reify depth 9) tt)

  pub mul_mono : {x y z w : A} → ι (pos 0) ≼ x → x ≼ z → ι (pos 0) ≼ w → y ≼ w → x ⊗ y ≼ z ⊗ w
  mul_mono {x} {y} {z} {w} hx hz hw hy =
      by_certificate (gap hz ⊠ hw ⊞ hx ⊠ gap hy) (solve ring (x ∷ y ∷ z ∷ w ∷ []) (search reify depth 12) (search reify depth 12) tt)

  pub mul_left : (c : A) {x y : A} → ι (pos 0) ≼ c → x ≼ y → c ⊗ x ≼ c ⊗ y
  mul_left c {x} {y} hc h = by_certificate (hc ⊠ gap h) (solve ring (c ∷ x ∷ y ∷ []) (search reify depth 9) (search reify depth 9) tt)

  pub sq_nonneg : (x : A) → ι (pos 0) ≼ x ⊗ x
  sq_nonneg x = pick (le_total (ι (pos 0)) x)
    where
      sq : ⊖ x ⊗ ⊖ x ≡ x ⊗ x
      sq = solve ring (x ∷ []) (search reify depth 9) (search reify depth 9) tt

      zero-neg : ⊖ ι (pos 0) ≡ ι (pos 0)
      zero-neg = solve ring [] (search reify depth 9) (search reify depth 9) tt

      pick : (ι (pos 0) ≼ x) ⊎ (x ≼ ι (pos 0)) → ι (pos 0) ≼ x ⊗ x
      pick (inl h) = h ⊠ h
      pick (inr h) = let k = subst (λ z. z ≼ ⊖ x) zero-neg (le-neg h) in subst (λ z. ι (pos 0) ≼ z) sq (k ⊠ k)

  pub zero_one : ι (pos 0) ≼ ι (pos 1)
  zero_one = subst (λ z. ι (pos 0) ≼ z) (solve ring [] (search reify depth 9) (search reify depth 9) tt) (sq_nonneg (ι (pos 1)))

  -- ---- |·|

  pub abs_hi : (x : A) → x ≼ abs x
  abs_hi x =
      ⊎_elim (λ e. le_of_eq (sym e)) (λ e. by_certificate (abs_nonneg x ⊞ abs_nonneg x) (subst (λ z. z ⊕ ⊖ x ≡ z ⊕ z) (sym e) refl)) (abs_cases x)

  pub abs_lo : (x : A) → ⊖ abs x ≼ x
  abs_lo x = pick (abs_cases x)
    where
      pick : (abs x ≡ x) ⊎ (abs x ≡ ⊖ x) → ⊖ abs x ≼ x
      pick (inl e) = by_certificate (abs_nonneg x ⊞ abs_nonneg x) (subst (λ z. x ⊕ ⊖ ⊖ z ≡ z ⊕ z) (sym e) (solve ring (x ∷ []) (search reify depth 9) (search reify depth 9) tt))
      pick (inr e) = le_of_eq (ap ⊖◌ e ∙ solve ring (x ∷ []) (search reify depth 9) (search reify depth 9) tt)

  -- |x| ≤ n exactly where −n ≤ x ≤ n
  pub abs-le : {x n : A} → x ≼ n → ⊖ n ≼ x → abs x ≼ n
  abs-le {x} {n} h k = pick (abs_cases x)
    where
      pick : (abs x ≡ x) ⊎ (abs x ≡ ⊖ x) → abs x ≼ n
      pick (inl e) = subst (λ z. z ≼ n) (sym e) h
      pick (inr e) = subst (λ z. z ≼ n) (sym e) (by_certificate (gap k) (solve ring (x ∷ n ∷ []) (search reify depth 9) (search reify depth 9) tt))

  pub abs_upper : {x n : A} → abs x ≼ n → x ≼ n
  abs_upper {x} h = abs_hi x ⟨≼⟩ h

  pub abs_lower : {x n : A} → abs x ≼ n → ⊖ n ≼ x
  abs_lower {x} h = le-neg h ⟨≼⟩ abs_lo x

  pub abs_of_nonneg : {x : A} → ι (pos 0) ≼ x → abs x ≡ x
  abs_of_nonneg {x} h = le_antisym (abs x) x (abs-le (le_refl x) (by_certificate (h ⊞ h) (solve ring (x ∷ []) (search reify depth 9) (search reify depth 9) tt))) (abs_hi x)

  pub abs_neg : (x : A) → abs (⊖ x) ≡ abs x
  abs_neg x = le_antisym (abs (⊖ x)) (abs x) (half x) (subst (λ z. abs z ≼ abs (⊖ x)) double (half (⊖ x)))
    where
      double : ⊖ ⊖ x ≡ x
      double = solve ring (x ∷ []) (search reify depth 9) (search reify depth 9) tt

      half : (x : A) → abs (⊖ x) ≼ abs x
      half x = abs-le (by_certificate (gap (abs_lo x)) (solve ring (x ∷ abs x ∷ []) (search reify depth 9) (search reify depth 9) tt)) (le-neg (abs_hi x))

  pub triangle : (x y : A) → abs (x ⊕ y) ≼ abs x ⊕ abs y
  triangle x y =
      abs-le (abs_hi x ⟨+⟩ abs_hi y)
      (by_certificate (gap (abs_lo x) ⊞ gap (abs_lo y)) (solve ring (x ∷ y ∷ abs x ∷ abs y ∷ []) (search reify depth 12) (search reify depth 12) tt))

  pub abs-mul : (x y : A) → abs (x ⊗ y) ≡ abs x ⊗ abs y
  abs-mul x y = pick (abs_cases x) (abs_cases y)
    where
      both : (s : A) → (s ≡ x ⊗ y) ⊎ (s ≡ ⊖ (x ⊗ y)) → ι (pos 0) ≼ s → abs (x ⊗ y) ≡ s
      both s (inl e) h = ap abs (sym e) ∙ abs_of_nonneg h
      both s (inr e) h = sym (abs_neg (x ⊗ y)) ∙ ap abs (sym e) ∙ abs_of_nonneg h

      pick : (abs x ≡ x) ⊎ (abs x ≡ ⊖ x) → (abs y ≡ y) ⊎ (abs y ≡ ⊖ y) → abs (x ⊗ y) ≡ abs x ⊗ abs y
      pick (inl e) (inl f) = both (abs x ⊗ abs y) (inl (ap₂ ◌⊗◌ e f)) (abs_nonneg x ⊠ abs_nonneg y)
      pick (inl e) (inr f) = both (abs x ⊗ abs y) (inr (ap₂ ◌⊗◌ e f ∙ solve ring (x ∷ y ∷ []) (search reify depth 9) (search reify depth 9) tt)) (abs_nonneg x ⊠ abs_nonneg y)
      pick (inr e) (inl f) = both (abs x ⊗ abs y) (inr (ap₂ ◌⊗◌ e f ∙ solve ring (x ∷ y ∷ []) (search reify depth 9) (search reify depth 9) tt)) (abs_nonneg x ⊠ abs_nonneg y)
      pick (inr e) (inr f) = both (abs x ⊗ abs y) (inl (ap₂ ◌⊗◌ e f ∙ solve ring (x ∷ y ∷ []) (search reify depth 9) (search reify depth 9) tt)) (abs_nonneg x ⊠ abs_nonneg y)

  -- |x y| ≤ a b from |x| ≤ a and |y| ≤ b
  pub abs_mul_le : (x y : A) {a b : A} → abs x ≼ a → abs y ≼ b → abs (x ⊗ y) ≼ a ⊗ b
  abs_mul_le x y {a} {b} h k = subst (λ z. z ≼ a ⊗ b) (sym (abs-mul x y)) (mul_mono (abs_nonneg x) h (abs_nonneg y ⟨≼⟩ k) k)

  -- ---- squares

  -- t² ≤ n² and 0 ≤ n: t ≤ n. Otherwise n ≤ t and 0 < t, so t t ≤ n n ≤ t n, and t cancels
  pub root_le : (t n : A) → ι (pos 0) ≼ n → t ⊗ t ≼ n ⊗ n → t ≼ n
  root_le t n hn h = pick (le_total t n) (le_decide t (ι (pos 0)))
    where
      pick : (t ≼ n) ⊎ (n ≼ t) → (t ≼ ι (pos 0)) ⊎ ¬ (t ≼ ι (pos 0)) → t ≼ n
      pick (inl k) d = k
      pick (inr k) (inl z) = z ⟨≼⟩ hn
      pick (inr k) (inr z) = le_cancel t t n z (h ⟨≼⟩ mul_mono hn k hn (le_refl n))

  pub root_abs : (t n : A) → ι (pos 0) ≼ n → t ⊗ t ≼ n ⊗ n → abs t ≼ n
  root_abs t n hn h =
      abs-le (root_le t n hn h)
      (by_certificate (gap (root_le (⊖ t) n hn (subst (λ z. z ≼ n ⊗ n) (solve ring (t ∷ []) (search reify depth 9) (search reify depth 9) tt) h))) (solve ring (t ∷ n ∷ []) (search reify depth 9) (search reify depth 9) tt))

  pub abs_square : (t n : A) → abs t ≼ n → t ⊗ t ≼ n ⊗ n
  abs_square t n h = abs_hi (t ⊗ t) ⟨≼⟩ abs_mul_le t t h h

  -- ---- bounds of |·|

  pub abs_add_le : (x y : A) {a b : A} → abs x ≼ a → abs y ≼ b → abs (x ⊕ y) ≼ a ⊕ b
  abs_add_le x y h k = triangle x y ⟨≼⟩ (h ⟨+⟩ k)

  pub abs_neg_le : (x : A) {a : A} → abs x ≼ a → abs (⊖ x) ≼ a
  abs_neg_le x h = le_of_eq (abs_neg x) ⟨≼⟩ h

  -- |x| ≤ n and |c·x| ≤ c·n say the same where c > 0
  pub abs-scale : (c x n : A) → ◌≺◌ O (ι (pos 0)) c → (abs x ≼ n) ↔ (abs (c ⊗ x) ≼ c ⊗ n)
  abs-scale c x n positive = (
    λ h. rw scaled (mul_left c (lt-le positive) h),
    λ h. le_cancel c (abs x) n positive (rw scaled at h),
  )
    where
      scaled : abs (c ⊗ x) ≡ c ⊗ abs x
      scaled = abs-mul c x ∙ ap (λ z. z ⊗ abs x) (abs_of_nonneg (lt-le positive))
