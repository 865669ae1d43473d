-- Laws of the derivatives T'_k: Taylor's formula with its remainder, and T'_k = k·U_(k−1).
use Rattle.std.specs.Prelude.{◌≡◌, pos}
use Rattle.std.proofs.Common.{sym, ◌∙◌}
use Rattle.std.proofs.Math.Path.{ap, ap₂}
use mathlib.Core.List.{List, [], ◌∷◌}
use Prim.Native.Nat.{ℕ, zero, suc}
use Rattle.integer.proofs.laws.Embedding.{ι_suc}
use Rattle.ring.specs.definitions.Ring.{CommutativeRing}
use Rattle.ring.proofs.laws.Solver.{reify, solve}
use Rattle.chebyshev.specs.definitions.Recurrences.{first_kind, second_kind}
use Rattle.chebyshev.proofs.laws.RecurrenceLaws.{pair_step}
use Rattle.chebyshev.specs.definitions.Coefficients.{value_from, value}
use Rattle.chebyshev.specs.definitions.Derivative.{derivative, sum_from, derivative_value, remainder}

module _ (R : CommutativeRing) where
  open R use {A, add as ◌⊕◌, mul as ◌⊗◌, opp as ⊖◌, ι}

  infixl 6 ◌⊕◌
  infixl 7 ◌⊗◌
  infix 8 ⊖◌
  first_taylor : (x h : A) (k : ℕ) → first_kind R (x ⊕ h) k ≡ first_kind R x k ⊕ h ⊗ derivative R x k ⊕ h ⊗ h ⊗ remainder R x h k
  unfolding first_kind derivative remainder
  first_taylor x h zero = solve R (h ∷ []) (search reify depth 20) (search reify depth 20) tt
  first_taylor x h (suc zero) = solve R (x ∷ h ∷ []) (search reify depth 20) (search reify depth 20) tt
  first_taylor x h (suc (suc k)) =
      ap₂ (λ s t. ι (pos 2) ⊗ (x ⊕ h) ⊗ s ⊕ ⊖ t) (first_taylor x h (suc k)) (first_taylor x h k)
      ∙ solve R (x ∷ h ∷ first_kind R x (suc k) ∷ first_kind R x k ∷ derivative R x (suc k) ∷ derivative R x k ∷ remainder R x h (suc k) ∷ remainder R x h k ∷ [])
      (search reify depth 20) (search reify depth 20) tt

  value_from_taylor : (x h : A) (k : ℕ) (cs : List A) → value_from R (x ⊕ h) k cs ≡ value_from R x k cs ⊕ h ⊗ sum_from R (derivative R x) k cs ⊕ h ⊗ h ⊗ sum_from R (remainder R x h) k cs
  unfolding value_from sum_from
  value_from_taylor x h k [] = solve R (h ∷ []) (search reify depth 20) (search reify depth 20) tt
  value_from_taylor x h k (c ∷ cs) =
      ap₂ (λ s t. c ⊗ s ⊕ t) (first_taylor x h k) (value_from_taylor x h (suc k) cs)
      ∙ solve R (h ∷ c ∷ first_kind R x k ∷ derivative R x k ∷ remainder R x h k ∷ value_from R x (suc k) cs ∷ sum_from R (derivative R x) (suc k) cs ∷ sum_from R (remainder R x h) (suc k) cs ∷ [])
      (search reify depth 20) (search reify depth 20) tt

  -- the same for Σ c_k·T_k
  pub value_taylor : (x h : A) (cs : List A) → value R (x ⊕ h) cs ≡ value R x cs ⊕ h ⊗ derivative_value R x cs ⊕ h ⊗ h ⊗ sum_from R (remainder R x h) 0 cs
  unfolding value derivative_value
  value_taylor x h cs = value_from_taylor x h 0 cs

  -- T'_0 = 0: the constant coefficient does not count
  pub derivative_constant : (x c : A) (cs : List A) → derivative_value R x (c ∷ cs) ≡ sum_from R (derivative R x) 1 cs
  unfolding derivative_value sum_from derivative
  derivative_constant x c cs = solve R (c ∷ sum_from R (derivative R x) 1 cs ∷ []) (search reify depth 20) (search reify depth 20) tt

  -- T_(k+1) = x·U_k − U_(k−1), so U_(k+1) − U_(k−1) = 2·T_(k+1)
  pub second_difference : (x : A) (k : ℕ) → second_kind R x (suc (suc k)) ≡ ι (pos 2) ⊗ first_kind R x (suc k) ⊕ second_kind R x k
  unfolding second_kind
  second_difference x k =
      ap (λ u. ι (pos 2) ⊗ x ⊗ u ⊕ ⊖ second_kind R x k) (pair_step R x k).1
      ∙ solve R (x ∷ first_kind R x k ∷ second_kind R x k ∷ []) (search reify depth 20) (search reify depth 20) tt
      ∙ ap (λ t. ι (pos 2) ⊗ t ⊕ second_kind R x k) (sym (pair_step R x k).0)

  -- T'_k = k·U_(k−1)
  pub derivative_second : (x : A) (k : ℕ) → derivative R x k ≡ ι (pos k) ⊗ second_kind R x k
  unfolding derivative second_kind
  derivative_second x zero = solve R [] (search reify depth 20) (search reify depth 20) tt
  derivative_second x (suc zero) = solve R [] (search reify depth 20) (search reify depth 20) tt
  derivative_second x (suc (suc k)) =
      ap₂ (λ s t. ι (pos 2) ⊗ first_kind R x (suc k) ⊕ ι (pos 2) ⊗ x ⊗ s ⊕ ⊖ t) (derivative_second x (suc k)) (derivative_second x k)
      ∙ rw (ι_suc R (suc k), ι_suc R k) (go (ι (pos k)) (first_kind R x (suc k)) (second_kind R x (suc k)) (second_kind R x k) (second_difference x k))
    where
      go : (n t s u : A) → ι (pos 2) ⊗ x ⊗ s ⊕ ⊖ u ≡ ι (pos 2) ⊗ t ⊕ u
          → ι (pos 2) ⊗ t ⊕ ι (pos 2) ⊗ x ⊗ ((ι (pos 1) ⊕ n) ⊗ s) ⊕ ⊖ (n ⊗ u) ≡ (ι (pos 1) ⊕ (ι (pos 1) ⊕ n)) ⊗ (ι (pos 2) ⊗ x ⊗ s ⊕ ⊖ u)
      go n t s u e =
          solve R (x ∷ n ∷ t ∷ s ∷ u ∷ []) (search reify depth 20) (search reify depth 20) tt
          ∙ ap (λ w. w ⊕ (ι (pos 1) ⊕ n) ⊗ (ι (pos 2) ⊗ x ⊗ s ⊕ ⊖ u)) (sym e)
          ∙ solve R (x ∷ n ∷ s ∷ u ∷ []) (search reify depth 20) (search reify depth 20) tt
