-- One place of the list C(a, b) by three walks: Σ a_i·b_(k−i), Σ b_j·a_(j+k) and Σ a_i·b_(i+k); at place 0 the last two are the
-- same pairs, which count once. Code forms a place by these alone, so that any part of C can be formed without the rest.
use Rattle.std.specs.Prelude.{◌≡◌, Bool, true, false, ltb, ◌⊎◌, ℤ, pos, nat_abs, ◌+ℤ◌, ◌*ℤ◌, length, drop}
use Rattle.std.proofs.Math.Path.{refl, sym, ap, ap₂}
use Rattle.std.proofs.Common.{◌∙◌, mul-le-mul, le_refl, add-one, ⊎_elim, inl, inr, drop-cons}
use mathlib.Core.List.{List, [], ◌∷◌}
use Rattle.std.proofs.Math.Bool.{cond}
use Prim.Native.Nat.{ℕ, zero, suc, ◌+◌, ◌*◌, ◌<◌, ◌≤◌}
use native.Mathlib.Omega.{arith}
use Rattle.std.proofs.Math.Nat.{zero-add as zero-add-ℕ}
use Rattle.std.proofs.Math.Dec.{eqb}
use borrow.Author.Tests.{eqb-true, eqb-false, eq-eqb, ne_eqb, ltb-true, ltb-false}
use Rattle.std.proofs.Math.ListN.{get_or, drop_of_length-le}
use Rattle.ring.specs.laws.Parts.{abs-add, abs-mul}
use Rattle.ring.specs.definitions.Ring.{CommutativeRing}
use Rattle.ring.specs.definitions.Integer.{ℤ_ring}
use Rattle.chebyshev.specs.definitions.Coefficients.{weight}
use Rattle.chebyshev.proofs.laws.CoefficientLaws.{add-zero}
use Rattle.chebyshev.proofs.laws.Weight.{weight_at}
use Rattle.chebyshev.specs.definitions.Product.{distance}
use Rattle.chebyshev.specs.definitions.Convolution.{convolution, correlation}
use Rattle.chebyshev.specs.definitions.TwoSums.{sum, sum_where, two_sums}
use Rattle.chebyshev.proofs.laws.ProductSums.{sum_zero, sum_cong, sum_add, sum_where_cong, sum_where_swap}

module _ (R : CommutativeRing) where
  open R use {A, add as ◌⊕◌, mul as ◌⊗◌, ι, add_assoc, zero-add, zero-mul, mul_comm}

  infixl 6 ◌⊕◌
  infixl 7 ◌⊗◌
  -- ---- turns of the walks, and their ends

  pub convolution_step : (t : ℕ) (a b : List A) (i : ℕ) → i < length a → convolution R (suc t) (drop i a) b ≡ get_or a i (ι (pos 0)) ⊗ get_or b t (ι (pos 0)) ⊕ convolution R t (drop (i + 1) a) b
  unfolding convolution
  convolution_step t a b i h = rw (drop-cons a i (ι (pos 0)) h, add-one)

  convolution_nil : (t : ℕ) (b : List A) → convolution R t [] b ≡ ι (pos 0)
  unfolding convolution
  convolution_nil zero b = refl
  convolution_nil (suc t) b = refl

  pub convolution_end : (t : ℕ) (a b : List A) (i : ℕ) → length a ≤ i → convolution R t (drop i a) b ≡ ι (pos 0)
  convolution_end t a b i h = rw drop_of_length-le (convolution_nil t b)

  pub convolution_zero : (a b : List A) → convolution R 0 a b ≡ ι (pos 0)
  unfolding convolution
  convolution_zero a b = refl

  get_d_beyond : (b : List A) (k : ℕ) → length b ≤ k → get_or b k (ι (pos 0)) ≡ ι (pos 0)
  get_d_beyond [] k h = refl
  get_d_beyond (y ∷ b) zero h = absurd (omega arith)
  get_d_beyond (y ∷ b) (suc k) h = get_d_beyond b k (omega arith)

  pub mul-zero : (x : A) → x ⊗ ι (pos 0) ≡ ι (pos 0)
  mul-zero x = mul_comm x (ι (pos 0)) ∙ zero-mul x

  -- where b has ended, the first pairs are zero
  pub convolution_skip : (j t : ℕ) (a b : List A) → length b ≤ t → convolution R (t + j) a b ≡ convolution R t (drop j a) b
  unfolding convolution
  convolution_skip zero t a b h = let e : t + 0 ≡ t = omega arith in rw e
  convolution_skip (suc j) t [] b h = convolution_nil (t + suc j) b ∙ sym (convolution_nil t b)
  convolution_skip (suc j) t (x ∷ a) b h =
      let e : t + suc j ≡ suc (t + j) = omega arith in
      rw e (ap (λ y. x ⊗ y ⊕ convolution R (t + j) a b) (get_d_beyond b (t + j) (omega arith)) ∙ ap (λ y. y ⊕ convolution R (t + j) a b) (mul-zero x) ∙ zero-add (convolution R (t + j) a b) ∙ convolution_skip j t a b h)

  pub correlation_step : (k : ℕ) (a b : List A) (i : ℕ) → i < length a → correlation R k (drop i a) b ≡ get_or a i (ι (pos 0)) ⊗ get_or b k (ι (pos 0)) ⊕ correlation R (suc k) (drop (i + 1) a) b
  unfolding correlation
  correlation_step k a b i h = rw (drop-cons a i (ι (pos 0)) h, add-one)

  pub correlation_end : (k : ℕ) (a b : List A) (i : ℕ) → length a ≤ i → correlation R k (drop i a) b ≡ ι (pos 0)
  unfolding correlation
  correlation_end k a b i h = rw drop_of_length-le

  pub correlation_beyond : (k : ℕ) (a b : List A) → length b ≤ k → correlation R k a b ≡ ι (pos 0)
  unfolding correlation
  correlation_beyond k [] b h = refl
  correlation_beyond k (x ∷ a) b h =
      ap₂ (λ y r. x ⊗ y ⊕ r) (get_d_beyond b k h) (correlation_beyond (suc k) a b (omega arith))
      ∙ ap (λ y. y ⊕ ι (pos 0)) (mul-zero x)
      ∙ zero-add (ι (pos 0))

  -- ---- the two sums of 01, by these walks

  eqb_suc : (j t : ℕ) → eqb (suc j) (suc t) ≡ eqb j t
  eqb_suc j t = pick (eqb j t) refl
    where
      pick : (c : Bool) → eqb j t ≡ c → eqb (suc j) (suc t) ≡ c
      pick true e = eq-eqb (suc j) (suc t) (ap suc (eqb-true j t e))
      pick false e = ne_eqb (suc j) (suc t) (λ q. eqb-false j t e (omega arith))

  -- the one pair of x with the element t
  one-pair : (x : A) (b : List A) (t : ℕ) → sum R (length b) (λ j. cond (eqb j t) (x ⊗ get_or b j (ι (pos 0))) (ι (pos 0))) ≡ x ⊗ get_or b t (ι (pos 0))
  unfolding sum
  one-pair x [] t = sym (mul-zero x)
  one-pair x (y ∷ b) zero =
      ap (λ s. x ⊗ y ⊕ s) (sum_cong R (length b) (λ j. cond (eqb (suc j) 0) (x ⊗ get_or b j (ι (pos 0))) (ι (pos 0))) (λ j. ι (pos 0)) (λ j. rw (ne_eqb (suc j) 0 (omega arith))) ∙ sum_zero R (length b))
      ∙ add-zero R (x ⊗ y)
  one-pair x (y ∷ b) (suc t) =
      ap₂ ◌⊕◌ (ap (λ c. cond c (x ⊗ y) (ι (pos 0))) (ne_eqb 0 (suc t) (omega arith)))
      (sum_cong R (length b) (λ j. cond (eqb (suc j) (suc t)) (x ⊗ get_or b j (ι (pos 0))) (ι (pos 0))) (λ j. cond (eqb j t) (x ⊗ get_or b j (ι (pos 0))) (ι (pos 0))) (λ j. ap (λ c. cond c (x ⊗ get_or b j (ι (pos 0))) (ι (pos 0))) (eqb_suc j t)) ∙ one-pair x b t)
      ∙ zero-add (x ⊗ get_or b t (ι (pos 0)))

  -- no pair
  sum_where_none : (test : ℕ → ℕ → Bool) → ((i j : ℕ) → test i j ≡ false) → (a b : List A) → sum_where R test a b ≡ ι (pos 0)
  unfolding sum_where
  sum_where_none test h a b =
      sum_cong R (length a) _ (λ i. ι (pos 0)) (λ i. sum_cong R (length b) _ (λ j. ι (pos 0)) (λ j. rw (h i j)) ∙ sum_zero R (length b))
      ∙ sum_zero R (length a)

  -- i + j = k
  by_sum : (k : ℕ) (a b : List A) → sum_where R (λ i j. eqb (i + j) k) a b ≡ convolution R (suc k) a b
  unfolding sum_where sum convolution
  by_sum k [] b = refl
  by_sum zero (x ∷ a) b =
      ap₂ ◌⊕◌ (simp zero-add-ℕ (one-pair x b 0)) (sum_where_none (λ i j. eqb (suc i + j) 0) (λ i j. ne_eqb (suc i + j) 0 (omega arith)) a b)
  by_sum (suc k) (x ∷ a) b =
      ap₂ ◌⊕◌ (simp zero-add-ℕ (one-pair x b (suc k)))
      (sum_where_cong R (λ i j. eqb (suc i + j) (suc k)) (λ i j. eqb (i + j) k) (λ i j. let e : suc i + j ≡ suc (i + j) = omega arith in rw e (eqb_suc (i + j) k)) a b
      ∙ by_sum k a b)

  -- j = i + k
  by_difference : (k : ℕ) (a b : List A) → sum_where R (λ i j. eqb j (i + k)) a b ≡ correlation R k a b
  unfolding sum_where sum correlation
  by_difference k [] b = refl
  by_difference k (x ∷ a) b =
      ap₂ ◌⊕◌ (simp zero-add-ℕ (one-pair x b k))
      (sum_where_cong R (λ i j. eqb j (suc i + k)) (λ i j. eqb j (i + suc k)) (λ i j. let e : suc i + k ≡ i + suc k = omega arith in rw e) a b
      ∙ by_difference (suc k) a b)

  -- i = j + k, along b
  by_other_difference : (k : ℕ) (a b : List A) → sum_where R (λ i j. eqb i (j + k)) a b ≡ correlation R k b a
  by_other_difference k a b = sum_where_swap R (λ i j. eqb i (j + k)) a b ∙ by_difference k b a

  sides : (i j k : ℕ) → distance i j ≡ k → (j ≡ i + k) ⊎ (i ≡ j + k)
  sides i j k e = test (ltb i j) refl
    where
      test : (c : Bool) → ltb i j ≡ c → (j ≡ i + k) ⊎ (i ≡ j + k)
      test true l = inl (omega (arith, ltb-true i j l))
      test false l = inr (omega (arith, ltb-false i j l))

  -- a pair with |i − j| = k ≥ 1 has either j = i + k or i = j + k
  distance_split : (k i j : ℕ) (v : A)
      → cond (eqb (distance i j) (suc k)) v (ι (pos 0)) ≡ cond (eqb i (j + suc k)) v (ι (pos 0)) ⊕ cond (eqb j (i + suc k)) v (ι (pos 0))
  distance_split k i j v = pick (eqb i (j + suc k)) (eqb j (i + suc k)) refl refl
    where
      pick : (c d : Bool) → eqb i (j + suc k) ≡ c → eqb j (i + suc k) ≡ d
          → cond (eqb (distance i j) (suc k)) v (ι (pos 0)) ≡ cond c v (ι (pos 0)) ⊕ cond d v (ι (pos 0))
      pick true true p q = absurd (omega (arith, eqb-true i (j + suc k) p, eqb-true j (i + suc k) q))
      pick true false p q = rw (eq-eqb (distance i j) (suc k) (omega (arith, eqb-true i (j + suc k) p))) (sym (add-zero R v))
      pick false true p q = rw (eq-eqb (distance i j) (suc k) (omega (arith, eqb-true j (i + suc k) q))) (sym (zero-add v))
      pick false false p q =
          rw (ne_eqb (distance i j) (suc k) (λ e. ⊎_elim (eqb-false j (i + suc k) q) (eqb-false i (j + suc k) p) (sides i j (suc k) e)))
          (sym (zero-add (ι (pos 0))))

  -- |i − j| = 0 from both sides is one pair
  distance_none : (i j : ℕ) → eqb (distance i j) 0 ≡ eqb i (j + 0)
  distance_none i j = pick (eqb i (j + 0)) refl
    where
      pick : (c : Bool) → eqb i (j + 0) ≡ c → eqb (distance i j) 0 ≡ c
      pick true p = eq-eqb (distance i j) 0 (omega (arith, eqb-true i (j + 0) p))
      pick false p = ne_eqb (distance i j) 0 (λ e. eqb-false i (j + 0) p (omega arith))

  pub two_sums_zero : (a b : List A) → two_sums R 0 a b ≡ convolution R 1 a b ⊕ correlation R 0 b a
  unfolding two_sums
  two_sums_zero a b =
      ap₂ ◌⊕◌ (by_sum 0 a b)
      (sum_where_cong R (λ i j. eqb (distance i j) 0) (λ i j. eqb i (j + 0)) distance_none a b ∙ by_other_difference 0 a b)

  pub two_sums_suc : (k : ℕ) (a b : List A) → two_sums R (suc k) a b ≡ convolution R (suc (suc k)) a b ⊕ correlation R (suc k) b a ⊕ correlation R (suc k) a b
  unfolding two_sums sum_where
  two_sums_suc k a b =
      ap₂ ◌⊕◌ (by_sum (suc k) a b)
      (sum_cong R (length a) _ _ (λ i. sum_cong R (length b) _ (λ j. other i j ⊕ one i j) (λ j. distance_split k i j (get_or a i (ι (pos 0)) ⊗ get_or b j (ι (pos 0)))) ∙ sum_add R (length b) (other i) (one i))
      ∙ sum_add R (length a) (λ i. sum R (length b) (other i)) (λ i. sum R (length b) (one i))
      ∙ ap₂ ◌⊕◌ (by_other_difference (suc k) a b) (by_difference (suc k) a b))
      ∙ sym (add_assoc (convolution R (suc (suc k)) a b) (correlation R (suc k) b a) (correlation R (suc k) a b))
    where
      one : ℕ → ℕ → A
      one i j = cond (eqb j (i + suc k)) (get_or a i (ι (pos 0)) ⊗ get_or b j (ι (pos 0))) (ι (pos 0))

      other : ℕ → ℕ → A
      other i j = cond (eqb i (j + suc k)) (get_or a i (ι (pos 0)) ⊗ get_or b j (ι (pos 0))) (ι (pos 0))

-- ---- sizes, for code over ℤ

pair_small : (x : ℤ) (b : List ℤ) (k : ℕ) (r : ℤ) (m : ℕ) → nat_abs r ≤ m * weight b → nat_abs (x *ℤ get_or b k (pos 0) +ℤ r) ≤ (nat_abs x + m) * weight b
pair_small x b k r m h =
    let y = get_or b k (pos 0) in
    omega (arith, abs-add (x *ℤ y) r, abs-mul x y, mul-le-mul (le_refl (nat_abs x)) (weight_at b k), h)

pub convolution_small : (t : ℕ) (a b : List ℤ) → nat_abs (convolution ℤ_ring t a b) ≤ weight a * weight b
unfolding convolution weight
convolution_small zero a b = omega arith
convolution_small (suc t) [] b = omega arith
convolution_small (suc t) (x ∷ a) b = pair_small x b t (convolution ℤ_ring t a b) (weight a) (convolution_small t a b)

pub correlation_small : (k : ℕ) (a b : List ℤ) → nat_abs (correlation ℤ_ring k a b) ≤ weight a * weight b
unfolding correlation weight
correlation_small k [] b = omega arith
correlation_small k (x ∷ a) b = pair_small x b k (correlation ℤ_ring (suc k) a b) (weight a) (correlation_small (suc k) a b)
