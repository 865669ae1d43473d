-- Where the sums of a place begin, and a place by its three walks.
use mathlib.Core.Path.{◌≡◌, sym, ◌∙◌, ap}
use mathlib.Core.List.{List}
use Prim.Native.Nat.{ℕ, zero, suc, ◌+◌, ◌-◌, ◌≤◌, ◌<◌}
use native.Mathlib.Omega.{arith}
use native.Mathlib.Nat.{le_refl}
use lib.IntN.{ℤ, pos, ◌+ℤ◌, ◌*ℤ◌, +ℤ_idl}
use lib.ListN.{length, get_or, drop}
use Rattle.ring.specs.definitions.Integer.{ℤ_ring}
use Rattle.chebyshev.specs.definitions.Convolution.{convolution, correlation}
use Rattle.chebyshev.proofs.laws.ConvolutionLaws.{convolution_skip, convolution_step, convolution_end, two_sums_zero, two_sums_suc}
use Rattle.chebyshev.specs.definitions.TwoSums.{two_sums}
use Rattle.groups.proofs.PairWalks.{no_pair}

module _ (a b : List ℤ) where
  -- ---- where the sums begin

  pub from_zero : (t : ℕ) → pos 0 +ℤ convolution ℤ_ring (t - 0) (drop 0 a) b ≡ convolution ℤ_ring t a b
  from_zero t = let e : t - 0 ≡ t = omega arith in rw e (+ℤ_idl (convolution ℤ_ring t a b))

  -- the pairs before place `from` of a meet no element of b
  skipped : (t from n : ℕ) → t ≡ n + from → length b ≤ n → convolution ℤ_ring t a b ≡ convolution ℤ_ring n (drop from a) b
  skipped t from n e h = rw e (convolution_skip ℤ_ring from n a b h)

  module _ (k from : ℕ) (meet : from + length b ≡ k + 1) where
    -- the first pair of the first place, with the last element of b
    pub first_from : 0 < length b → from < length a → (pair : ℤ) → pair ≡ pos 0 +ℤ get_or a from (pos 0) *ℤ get_or b (length b - 1) (pos 0)
        → pair +ℤ convolution ℤ_ring (k + 1 - (from + 1)) (drop (from + 1) a) b ≡ convolution ℤ_ring (k + 1) a b
    first_from h l pair e =
        let n : k + 1 - (from + 1) ≡ length b - 1 = omega arith in
        let m : length b ≡ suc (length b - 1) = omega arith in
        rw n (ap (λ z. z +ℤ convolution ℤ_ring (length b - 1) (drop (from + 1) a) b) (e ∙ +ℤ_idl (get_or a from (pos 0) *ℤ get_or b (length b - 1) (pos 0))))
        ∙ sym (skipped (k + 1) from (length b) (omega arith) (le_refl (length b))
        ∙ ap (λ (t : ℕ). convolution ℤ_ring t (drop from a) b) m ∙ convolution_step ℤ_ring (length b - 1) a b from l)

    -- no pair of the second place yet
    pub second_from : (x none : ℤ) → none ≡ pos 0 +ℤ x *ℤ pos 0
        → none +ℤ convolution ℤ_ring (k + 2 - (from + 1)) (drop (from + 1) a) b ≡ convolution ℤ_ring (k + 2) a b
    second_from x none e =
        let n : k + 2 - (from + 1) ≡ length b = omega arith in
        rw (no_pair x (pos 0) none e, n) (+ℤ_idl (convolution ℤ_ring (length b) (drop (from + 1) a) b))
        ∙ sym (skipped (k + 2) (from + 1) (length b) (omega arith) (le_refl (length b)))

    pub none_from : length a ≤ from → (pos 0 ≡ convolution ℤ_ring (k + 1) a b) × (pos 0 ≡ convolution ℤ_ring (k + 2) a b)
    none_from h = (
      sym (skipped (k + 1) from (length b) (omega arith) (le_refl (length b)) ∙ convolution_end ℤ_ring (length b) a b from h),
      sym (skipped (k + 2) (from + 1) (length b) (omega arith) (le_refl (length b)) ∙ convolution_end ℤ_ring (length b) a b (from + 1) (omega arith)),
    )

  -- ---- a place by its three walks

  pub place_zero : (k : ℕ) → k ≡ 0 → (x y : ℤ) → x ≡ convolution ℤ_ring (k + 1) a b → y ≡ x +ℤ correlation ℤ_ring k b a → y ≡ two_sums ℤ_ring k a b
  place_zero zero h x y e f = f ∙ ap (λ z. z +ℤ correlation ℤ_ring 0 b a) e ∙ sym (two_sums_zero ℤ_ring a b)
  place_zero (suc k) h x y e f = absurd (omega arith)

  pub place_positive : (k : ℕ) → 0 < k → (x y z : ℤ) → x ≡ convolution ℤ_ring (k + 1) a b → y ≡ x +ℤ correlation ℤ_ring k b a
      → z ≡ y +ℤ correlation ℤ_ring k a b → z ≡ two_sums ℤ_ring k a b
  place_positive zero h x y z e f g = absurd (omega arith)
  place_positive (suc k) h x y z e f g =
      let m : suc k + 1 ≡ suc (suc k) = omega arith in
      g
      ∙ ap (λ v. v +ℤ correlation ℤ_ring (suc k) a b) (f ∙ ap (λ v. v +ℤ correlation ℤ_ring (suc k) b a) (e ∙ ap (λ (t : ℕ). convolution ℤ_ring t a b) m))
      ∙ sym (two_sums_suc ℤ_ring k a b)
