-- Lipschitz bounds on [−1, 1]: |T_k(x) − T_k(y)| ≤ k²·|x − y|, and |a(x) − a(y)| ≤ L·|x − y| for a list a, with L = Σ|a_k|·k².
use Rattle.std.specs.Prelude.{◌≡◌, ℕ, zero, suc, ◌*◌, ℤ, pos, nat_abs}
use Rattle.std.proofs.Math.Path.{refl, sym, ap₂}
use Rattle.std.proofs.Common.{◌∙◌}
use mathlib.Core.List.{List, [], ◌∷◌, map}
use Rattle.integer.proofs.laws.Embedding.{ι_suc, ι_abs}
use Rattle.ring.proofs.laws.Solver.{reify, solve}
use Rattle.ring.specs.definitions.OrderedRing.{OrderedRing}
use Rattle.ring.proofs.laws.OrderedRingLaws.{by_certificate, gap, ◌⊞◌, ◌⊠◌, ◌⟨≼⟩◌, ◌⟨+⟩◌, le_refl, le_of_eq, sq_nonneg, abs_mul_le, triangle}
use Rattle.chebyshev.specs.definitions.Recurrences.{first_kind}
use Rattle.chebyshev.proofs.laws.RecurrenceLaws.{first_bound}
use Rattle.chebyshev.specs.definitions.Coefficients.{lipschitz_weight, value_from, value}
use Rattle.chebyshev.specs.definitions.Norms.{lipschitz_from}
use Rattle.chebyshev.proofs.laws.Perturbed.{Perturbed, perturbed_growth}

module _ (O : OrderedRing) where
  open O use {ring, le as ◌≼◌, abs, abs_nonneg}
  open ring use {A, add as ◌⊕◌, mul as ◌⊗◌, opp as ⊖◌, ι, ι_add, ι_mul}

  infixl 6 ◌⊕◌
  infixl 7 ◌⊗◌
  infix 8 ⊖◌
  infix 4 ◌≼◌
  module _ (x y : A) where
    abbrev difference : ℕ → A
    difference k = first_kind ring x k ⊕ ⊖ first_kind ring y k

    -- the difference meets T's recurrence at x with the disturbance 2·(x − y)·T_(k+1)(y)
    abbrev disturbance : ℕ → A
    disturbance k = ι (pos 2) ⊗ (x ⊕ ⊖ y) ⊗ first_kind ring y (suc k)

    abbrev bound : ℕ → A
    bound k = (ι (pos 2) ⊗ ι (pos k) ⊕ ι (pos 1)) ⊗ abs (x ⊕ ⊖ y)

    module _ (hx : abs x ≼ ι (pos 1)) (hy : abs y ≼ ι (pos 1)) where
      disturbance_bound : (k : ℕ) → abs (disturbance k) ≼ ι (pos 2) ⊗ abs (x ⊕ ⊖ y) ⊗ ι (pos 1)
      disturbance_bound k =
          abs_mul_le O (ι (pos 2) ⊗ (x ⊕ ⊖ y)) (first_kind ring y (suc k))
          (abs_mul_le O (ι (pos 2)) (x ⊕ ⊖ y) (le_of_eq O (ι_abs O (pos 2))) (le_refl O (abs (x ⊕ ⊖ y))))
          (first_bound O y (suc k) hy)

      perturbed : Perturbed O x difference disturbance bound
      unfolding first_kind
      perturbed = record {
        range = hx;
        start = solve ring [] (search reify depth 9) (search reify depth 9) tt;
        step = λ k. solve ring (x ∷ y ∷ first_kind ring x k ∷ first_kind ring x (suc k) ∷ first_kind ring y k ∷ first_kind ring y (suc k) ∷ []) (search reify depth 20) (search reify depth 20) tt;
        first = le_of_eq O (solve ring (abs (x ⊕ ⊖ y) ∷ []) (search reify depth 9) (search reify depth 9) tt);
        grow = λ k. rw (ι_suc ring k, bound) (by_certificate O (gap O (disturbance_bound k)) (regroup (ι (pos k)) (abs (x ⊕ ⊖ y)) (abs (disturbance k))));
      }
        where
          regroup : (n d t : A) → (ι (pos 2) ⊗ (ι (pos 1) ⊕ n) ⊕ ι (pos 1)) ⊗ d ⊕ ⊖ ((ι (pos 2) ⊗ n ⊕ ι (pos 1)) ⊗ d ⊕ t) ≡ ι (pos 2) ⊗ d ⊗ ι (pos 1) ⊕ ⊖ t
          regroup n d t = solve ring (n ∷ d ∷ t ∷ []) (search reify depth 20) (search reify depth 20) tt

      -- |T_k(x) − T_k(y)| ≤ k²·|x − y|
      pub first_lipschitz : (k : ℕ) → abs (first_kind ring x k ⊕ ⊖ first_kind ring y k) ≼ ι (pos k) ⊗ ι (pos k) ⊗ abs (x ⊕ ⊖ y)
      first_lipschitz zero = rw (perturbed.start, ι_abs O (pos 0)) (le_of_eq O (solve ring (abs (x ⊕ ⊖ y) ∷ []) (search reify depth 9) (search reify depth 9) tt))
      first_lipschitz (suc k) =
          rw (ι_suc ring k)
          (by_certificate O (◌⊞◌ O (gap O (first_lipschitz k)) (gap O (perturbed_growth O x difference disturbance bound perturbed k)))
          (regroup (ι (pos k)) (abs (x ⊕ ⊖ y)) (abs (difference k)) (abs (difference (suc k)))))
        where
          regroup : (n d u w : A) → (ι (pos 1) ⊕ n) ⊗ (ι (pos 1) ⊕ n) ⊗ d ⊕ ⊖ w ≡ n ⊗ n ⊗ d ⊕ ⊖ u ⊕ (u ⊕ (ι (pos 2) ⊗ n ⊕ ι (pos 1)) ⊗ d ⊕ ⊖ w)
          regroup n d u w = solve ring (n ∷ d ∷ u ∷ w ∷ []) (search reify depth 20) (search reify depth 20) tt

      value_from_lipschitz : (k : ℕ) (a : List A) → abs (value_from ring x k a ⊕ ⊖ value_from ring y k a) ≼ lipschitz_from O k a ⊗ abs (x ⊕ ⊖ y)
      unfolding value_from lipschitz_from
      value_from_lipschitz k [] = rw (none, ι_abs O (pos 0)) (le_of_eq O (solve ring (abs (x ⊕ ⊖ y) ∷ []) (search reify depth 9) (search reify depth 9) tt))
        where
          none : ι (pos 0) ⊕ ⊖ ι (pos 0) ≡ ι (pos 0)
          none = solve ring [] (search reify depth 9) (search reify depth 9) tt
      value_from_lipschitz k (c ∷ a) =
          rw (split (first_kind ring x k) (first_kind ring y k) (value_from ring x (suc k) a) (value_from ring y (suc k) a))
          (◌⟨≼⟩◌ O (triangle O (c ⊗ difference k) (value_from ring x (suc k) a ⊕ ⊖ value_from ring y (suc k) a))
          (◌⟨≼⟩◌ O (◌⟨+⟩◌ O (abs_mul_le O c (difference k) (le_refl O (abs c)) (first_lipschitz k)) (value_from_lipschitz (suc k) a))
          (le_of_eq O (regroup (abs c) (ι (pos k)) (abs (x ⊕ ⊖ y)) (lipschitz_from O (suc k) a)))))
        where
          split : (s t v w : A) → c ⊗ s ⊕ v ⊕ ⊖ (c ⊗ t ⊕ w) ≡ c ⊗ (s ⊕ ⊖ t) ⊕ (v ⊕ ⊖ w)
          split s t v w = solve ring (c ∷ s ∷ t ∷ v ∷ w ∷ []) (search reify depth 20) (search reify depth 20) tt

          regroup : (m n d l : A) → m ⊗ (n ⊗ n ⊗ d) ⊕ l ⊗ d ≡ (m ⊗ (n ⊗ n) ⊕ l) ⊗ d
          regroup m n d l = solve ring (m ∷ n ∷ d ∷ l ∷ []) (search reify depth 20) (search reify depth 20) tt

      -- |a(x) − a(y)| ≤ L·|x − y| with L = Σ|a_k|·k²
      pub value_lipschitz : (a : List A) → abs (value ring x a ⊕ ⊖ value ring y a) ≼ lipschitz_from O 0 a ⊗ abs (x ⊕ ⊖ y)
      unfolding value
      value_lipschitz a = value_from_lipschitz 0 a

  pub lipschitz_nonneg : (k : ℕ) (a : List A) → ι (pos 0) ≼ lipschitz_from O k a
  unfolding lipschitz_from
  lipschitz_nonneg k [] = le_refl O (ι (pos 0))
  lipschitz_nonneg k (c ∷ a) = ◌⊞◌ O (◌⊠◌ O (abs_nonneg c) (sq_nonneg O (ι (pos k)))) (lipschitz_nonneg (suc k) a)

  -- of whole numbers it is a whole number
  pub lipschitz-whole : (k : ℕ) (a : List ℤ) → lipschitz_from O k (map ι a) ≡ ι (pos (lipschitz_weight k a))
  unfolding lipschitz_from lipschitz_weight
  lipschitz-whole k [] = refl
  lipschitz-whole k (c ∷ a) =
      ap₂ ◌⊕◌ (ap₂ ◌⊗◌ (ι_abs O c) (sym (ι_mul (pos k) (pos k))) ∙ sym (ι_mul (pos (nat_abs c)) (pos (k * k)))) (lipschitz-whole (suc k) a)
      ∙ sym (ι_add (pos (nat_abs c * (k * k))) (pos (lipschitz_weight (suc k) a)))
