-- The laws of the Chebyshev polynomials: the pair step, Pell's identity, |T_k| ≤ 1 where |x| ≤ 1, the values at 1 and −1,
-- and the product rule 2·T_i·T_j = T_(i+j) + T_|i−j|.
use Rattle.std.specs.Prelude.{◌≡◌, pos}
use Rattle.std.proofs.Math.Path.{refl, ap₂}
use Rattle.std.proofs.Common.{sym, ◌∙◌, ap, subst}
use mathlib.Core.List.{[], ◌∷◌}
use Prim.Native.Nat.{ℕ, zero, suc, ◌+◌, ◌≤◌}
use native.Mathlib.Omega.{arith}
use Rattle.std.proofs.Math.Decide.{dec_le}
use Rattle.ring.specs.definitions.Ring.{CommutativeRing}
use Rattle.ring.proofs.laws.Solver.{reify, solve}
use Rattle.ring.specs.definitions.OrderedRing.{OrderedRing}
use Rattle.ring.proofs.laws.OrderedRingLaws.{by_certificate, gap, ◌⊠◌, sq_nonneg, zero_one, root_abs, abs_square}
use Rattle.chebyshev.specs.definitions.Recurrences.{first_kind, second_kind, sign}
use Rattle.chebyshev.specs.definitions.Product.{distance}

module _ (R : CommutativeRing) where
  open R use {A, add as ◌⊕◌, mul as ◌⊗◌, opp as ⊖◌, ι}

  infixl 6 ◌⊕◌
  infixl 7 ◌⊗◌
  infix 8 ⊖◌
  -- T_(k+1) = x·T_k − (1 − x²)·U_(k−1) and U_k = x·U_(k−1) + T_k
  pub pair_step : (x : A) (k : ℕ)
      → (first_kind R x (suc k) ≡ x ⊗ first_kind R x k ⊕ ⊖ ((ι (pos 1) ⊕ ⊖ (x ⊗ x)) ⊗ second_kind R x k))
      × (second_kind R x (suc k) ≡ x ⊗ second_kind R x k ⊕ first_kind R x k)
  unfolding first_kind second_kind
  pair_step x zero = (
    solve R (x ∷ []) (search reify depth 20) (search reify depth 20) tt,
    solve R (x ∷ []) (search reify depth 20) (search reify depth 20) tt,
  )
  pair_step x (suc k) = go (pair_step x k).0 (pair_step x k).1
    where
      go : {t u t' u' : A} → t' ≡ x ⊗ t ⊕ ⊖ ((ι (pos 1) ⊕ ⊖ (x ⊗ x)) ⊗ u) → u' ≡ x ⊗ u ⊕ t
          → (ι (pos 2) ⊗ x ⊗ t' ⊕ ⊖ t ≡ x ⊗ t' ⊕ ⊖ ((ι (pos 1) ⊕ ⊖ (x ⊗ x)) ⊗ u')) × (ι (pos 2) ⊗ x ⊗ u' ⊕ ⊖ u ≡ x ⊗ u' ⊕ t')
      go {t} {u} e f =
          rw (e, f) (
            solve R (x ∷ t ∷ u ∷ []) (search reify depth 20) (search reify depth 20) tt,
            solve R (x ∷ t ∷ u ∷ []) (search reify depth 20) (search reify depth 20) tt,
          )

  -- T_k² + (1 − x²)·U_(k−1)² = 1
  pub pell : (x : A) (k : ℕ) → first_kind R x k ⊗ first_kind R x k ⊕ (ι (pos 1) ⊕ ⊖ (x ⊗ x)) ⊗ (second_kind R x k ⊗ second_kind R x k) ≡ ι (pos 1)
  unfolding first_kind second_kind
  pell x zero = solve R (x ∷ []) (search reify depth 20) (search reify depth 20) tt
  pell x (suc k) =
      rw ((pair_step x k).0, (pair_step x k).1)
      (solve R (x ∷ first_kind R x k ∷ second_kind R x k ∷ []) (search reify depth 20) (search reify depth 20) tt ∙ pell x k)

  -- T_k(1) = 1
  pub first_one : (k : ℕ) → first_kind R (ι (pos 1)) k ≡ ι (pos 1)
  unfolding first_kind
  first_one zero = refl
  first_one (suc zero) = refl
  first_one (suc (suc k)) =
      ap₂ (λ a b. ι (pos 2) ⊗ ι (pos 1) ⊗ a ⊕ ⊖ b) (first_one (suc k)) (first_one k) ∙ solve R [] (search reify depth 20) (search reify depth 20) tt

  -- T_k(−1) = (−1)^k
  pub first_minus_one : (k : ℕ) → first_kind R (⊖ ι (pos 1)) k ≡ sign R k
  unfolding first_kind sign
  first_minus_one zero = refl
  first_minus_one (suc zero) = refl
  first_minus_one (suc (suc k)) =
      ap₂ (λ a b. ι (pos 2) ⊗ ⊖ ι (pos 1) ⊗ a ⊕ ⊖ b) (first_minus_one (suc k)) (first_minus_one k)
      ∙ solve R (sign R k ∷ []) (search reify depth 20) (search reify depth 20) tt

  -- with i = d + j; the sums are given by equations
  product_above : (x : A) (j d i s : ℕ) → i ≡ d + j → s ≡ i + j → ι (pos 2) ⊗ first_kind R x i ⊗ first_kind R x j ≡ first_kind R x s ⊕ first_kind R x d
  unfolding first_kind
  product_above x zero d i s e f =
      let same_i : i ≡ d = omega arith in
      let same_s : s ≡ d = omega arith in
      rw (same_i, same_s) (solve R (first_kind R x d ∷ []) (search reify depth 20) (search reify depth 20) tt)
  product_above x (suc zero) d i s e f =
      let next_i : i ≡ suc d = omega arith in
      let next_s : s ≡ suc (suc d) = omega arith in
      rw (next_i, next_s) (solve R (x ∷ first_kind R x d ∷ first_kind R x (suc d) ∷ []) (search reify depth 20) (search reify depth 20) tt)
  product_above x (suc (suc j)) d i s e f =
      let r : ℕ = i + j in
      let next_s : s ≡ suc (suc r) = omega arith in
      rw next_s
      (go
      (product_above x (suc j) (suc d) i (suc r) (omega arith) (omega arith))
      (product_above x j (suc (suc d)) i r (omega arith) refl))
    where
      go : {t j₁ j₀ s₁ s₀ d₁ d₀ : A} → ι (pos 2) ⊗ t ⊗ j₁ ≡ s₁ ⊕ d₁ → ι (pos 2) ⊗ t ⊗ j₀ ≡ s₀ ⊕ (ι (pos 2) ⊗ x ⊗ d₁ ⊕ ⊖ d₀)
          → ι (pos 2) ⊗ t ⊗ (ι (pos 2) ⊗ x ⊗ j₁ ⊕ ⊖ j₀) ≡ (ι (pos 2) ⊗ x ⊗ s₁ ⊕ ⊖ s₀) ⊕ d₀
      go {t} {j₁} {j₀} {s₁} {s₀} {d₁} {d₀} h k =
          solve R (x ∷ t ∷ j₁ ∷ j₀ ∷ []) (search reify depth 20) (search reify depth 20) tt
          ∙ ap₂ (λ a b. ι (pos 2) ⊗ x ⊗ a ⊕ ⊖ b) h k
          ∙ solve R (x ∷ s₁ ∷ s₀ ∷ d₁ ∷ d₀ ∷ []) (search reify depth 20) (search reify depth 20) tt

  -- 2·T_i·T_j = T_(i+j) + T_|i−j|
  pub first_product : (x : A) (i j : ℕ) → ι (pos 2) ⊗ first_kind R x i ⊗ first_kind R x j ≡ first_kind R x (i + j) ⊕ first_kind R x (distance i j)
  first_product x i j = pick (dec_le j i)
    where
      pick : Dec (j ≤ i) → ι (pos 2) ⊗ first_kind R x i ⊗ first_kind R x j ≡ first_kind R x (i + j) ⊕ first_kind R x (distance i j)
      pick (yes h) = product_above x j (distance i j) i (i + j) (omega arith) refl
      pick (no h) =
          solve R (first_kind R x i ∷ first_kind R x j ∷ []) (search reify depth 20) (search reify depth 20) tt
          ∙ product_above x i (distance i j) j (i + j) (omega arith) (omega arith)

module _ (O : OrderedRing) where
  open O use {ring, le as ◌≼◌, abs}
  open ring use {A, add as ◌⊕◌, mul as ◌⊗◌, opp as ⊖◌, ι}

  infixl 6 ◌⊕◌
  infixl 7 ◌⊗◌
  infix 8 ⊖◌
  infix 4 ◌≼◌
  -- 0 ≤ 1 − x² where |x| ≤ 1
  pub one_minus_square : (x : A) → abs x ≼ ι (pos 1) → ι (pos 0) ≼ ι (pos 1) ⊕ ⊖ (x ⊗ x)
  one_minus_square x h = subst (λ z. ι (pos 0) ≼ z) (solve ring (x ∷ []) (search reify depth 20) (search reify depth 20) tt) (gap O (abs_square O x (ι (pos 1)) h))

  -- |T_k(x)| ≤ 1 where |x| ≤ 1
  pub first_bound : (x : A) (k : ℕ) → abs x ≼ ι (pos 1) → abs (first_kind ring x k) ≼ ι (pos 1)
  first_bound x k h =
      root_abs O (first_kind ring x k) (ι (pos 1)) (zero_one O)
      (by_certificate O (◌⊠◌ O (one_minus_square x h) (sq_nonneg O (second_kind ring x k)))
      (ap (λ z. z ⊕ ⊖ (first_kind ring x k ⊗ first_kind ring x k)) (one_square ∙ sym (pell ring x k))
      ∙ solve ring (x ∷ first_kind ring x k ∷ second_kind ring x k ∷ []) (search reify depth 20) (search reify depth 20) tt))
    where
      one_square : ι (pos 1) ⊗ ι (pos 1) ≡ ι (pos 1)
      one_square = solve ring [] (search reify depth 20) (search reify depth 20) tt
