-- What negated coefficients mean: all negated, the value is negated; the odd ones negated, the value at −x is that at x, because
-- T_k(−x) = (−1)^k·T_k(x).
use Rattle.std.specs.Prelude.{◌≡◌, ℤ, pos}
use Rattle.std.proofs.Math.Path.{refl, sym, ap, ap₂}
use Rattle.std.proofs.Common.{◌∙◌}
use mathlib.Core.List.{List, [], ◌∷◌, map}
use Prim.Native.Nat.{ℕ, zero, suc}
use Rattle.integer.proofs.laws.Embedding.{ι_opposite}
use Rattle.ring.specs.definitions.Ring.{CommutativeRing}
use Rattle.ring.proofs.laws.Solver.{reify, solve}
use Rattle.chebyshev.specs.definitions.Coefficients.{value_from, value}
use Rattle.chebyshev.specs.definitions.Negation.{every, odd, negated_if, negated_from}
use Rattle.chebyshev.specs.definitions.Recurrences.{first_kind, sign}
use Rattle.chebyshev.proofs.laws.NegationLaws.{negated_not}

module _ (R : CommutativeRing) where
  open R use {A, add as ◌⊕◌, mul as ◌⊗◌, opp as ⊖◌, ι}

  infixl 6 ◌⊕◌
  infixl 7 ◌⊗◌
  infix 8 ⊖◌
  first_opposite : (x : A) (k : ℕ) → first_kind R (⊖ x) k ≡ sign R k ⊗ first_kind R x k
  unfolding first_kind sign
  first_opposite x zero = solve R [] (search reify depth 20) (search reify depth 20) tt
  first_opposite x (suc zero) = solve R (x ∷ []) (search reify depth 20) (search reify depth 20) tt
  first_opposite x (suc (suc k)) =
      ap₂ (λ t u. ι (pos 2) ⊗ ⊖ x ⊗ t ⊕ ⊖ u) (first_opposite x (suc k)) (first_opposite x k)
      ∙ solve R (x ∷ sign R k ∷ first_kind R x (suc k) ∷ first_kind R x k ∷ []) (search reify depth 20) (search reify depth 20) tt

  sign_square : (k : ℕ) → sign R k ⊗ sign R k ≡ ι (pos 1)
  unfolding sign
  sign_square zero = solve R [] (search reify depth 20) (search reify depth 20) tt
  sign_square (suc k) = solve R (sign R k ∷ []) (search reify depth 20) (search reify depth 20) tt ∙ sign_square k

  odd_sign : (k : ℕ) (c : ℤ) → ι (negated_if (odd k) c) ≡ sign R k ⊗ ι c
  unfolding odd sign
  odd_sign zero c = sym (R.one-mul (ι c))
  odd_sign (suc k) c =
      ap ι (negated_not (odd k) c)
      ∙ ι_opposite R (negated_if (odd k) c)
      ∙ ap ⊖◌ (odd_sign k c)
      ∙ solve R (sign R k ∷ ι c ∷ []) (search reify depth 20) (search reify depth 20) tt

  value_from_mirrored : (x : A) (k : ℕ) (a : List ℤ) → value_from R (⊖ x) k (map ι (negated_from odd k a)) ≡ value_from R x k (map ι a)
  unfolding value_from negated_from
  value_from_mirrored x k [] = refl
  value_from_mirrored x k (c ∷ a) =
      ap₂ ◌⊕◌
      (ap₂ ◌⊗◌ (odd_sign k c) (first_opposite x k)
      ∙ solve R (sign R k ∷ ι c ∷ first_kind R x k ∷ []) (search reify depth 20) (search reify depth 20) tt
      ∙ ap (λ s. s ⊗ (ι c ⊗ first_kind R x k)) (sign_square k)
      ∙ R.one-mul (ι c ⊗ first_kind R x k))
      (value_from_mirrored x (suc k) a)

  pub value_mirrored : (x : A) (a : List ℤ) → value R (⊖ x) (map ι (negated_from odd 0 a)) ≡ value R x (map ι a)
  unfolding value
  value_mirrored x a = value_from_mirrored x 0 a

  value_from_negated : (x : A) (k : ℕ) (a : List ℤ) → value_from R x k (map ι (negated_from every k a)) ≡ ⊖ value_from R x k (map ι a)
  unfolding value_from negated_from
  value_from_negated x k [] = solve R [] (search reify depth 20) (search reify depth 20) tt
  value_from_negated x k (c ∷ a) =
      ap₂ (λ d v. d ⊗ first_kind R x k ⊕ v) (ι_opposite R c) (value_from_negated x (suc k) a)
      ∙ solve R (ι c ∷ first_kind R x k ∷ value_from R x (suc k) (map ι a) ∷ []) (search reify depth 20) (search reify depth 20) tt

  pub value_negated : (x : A) (a : List ℤ) → value R x (map ι (negated_from every 0 a)) ≡ ⊖ value R x (map ι a)
  unfolding value
  value_negated x a = value_from_negated x 0 a
