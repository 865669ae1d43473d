-- The algebra of the quotient test, over any ordered commutative ring: s is the scale, W, G, H, F are the values of w, g, h and
-- f, and u and v are allowed by f and g.
use Rattle.std.specs.Prelude.{◌≡◌, [], ◌∷◌, pos}
use Rattle.std.proofs.Common.{sym, ◌∙◌, ap, subst}
use Rattle.integer.proofs.laws.Embedding.{ι_abs}
use Rattle.ring.proofs.laws.Solver.{reify, solve}
use Rattle.ring.specs.definitions.OrderedRing.{OrderedRing}
use Rattle.ring.proofs.laws.OrderedRingLaws.{by_certificate, gap, ◌⊞◌, ◌⊠◌, ◌⟨≼⟩◌, le_refl, le_of_eq, abs_neg, abs-mul, abs_mul_le, abs_of_nonneg, abs_upper, abs_add_le, abs_neg_le}

module _ (O : OrderedRing) where
  open O use {ring, le as ◌≼◌, le_cancel, abs, abs_nonneg}
  open ring use {A, add as ◌⊕◌, mul as ◌⊗◌, opp as ⊖◌, ι}

  infixl 6 ◌⊕◌
  infixl 7 ◌⊗◌
  infix 8 ⊖◌
  infix 4 ◌≼◌
  twice_bound : (x y : A) {a b : A} → abs x ≼ a → abs y ≼ b → abs (ι (pos 2) ⊗ x ⊗ y) ≼ ι (pos 2) ⊗ a ⊗ b
  twice_bound x y h k = abs_mul_le O (ι (pos 2) ⊗ x) y (abs_mul_le O (ι (pos 2)) x (le_of_eq O (ι_abs O (pos 2))) h) k

  -- 2s·(s − W·v) = (2s² − 2·W·G) + 2·W·(G − v·s)
  pub contraction_bound : (s W G v : A) {l M e : A} → abs (ι (pos 2) ⊗ s ⊗ s ⊕ ⊖ (ι (pos 2) ⊗ W ⊗ G)) ≼ l → abs W ≼ M → abs (v ⊗ s ⊕ ⊖ G) ≼ e
      → abs (ι (pos 2) ⊗ s ⊗ (s ⊕ ⊖ (W ⊗ v))) ≼ l ⊕ ι (pos 2) ⊗ M ⊗ e
  contraction_bound s W G v {l} {M} {e} hl h_m he =
      subst (λ z. abs z ≼ l ⊕ ι (pos 2) ⊗ M ⊗ e) (solve ring (s ∷ W ∷ G ∷ v ∷ []) (search reify depth 20) (search reify depth 20) tt)
      (abs_add_le O (ι (pos 2) ⊗ s ⊗ s ⊕ ⊖ (ι (pos 2) ⊗ W ⊗ G)) (ι (pos 2) ⊗ W ⊗ ⊖ (v ⊗ s ⊕ ⊖ G)) hl (twice_bound W (⊖ (v ⊗ s ⊕ ⊖ G)) h_m (abs_neg_le O (v ⊗ s ⊕ ⊖ G) he)))

  -- 2s·(v·H − s·u) = (2·G·H − 2s·F) + 2s·(F − u·s) + 2·H·(v·s − G)
  pub residual_bound : (s F G H u v : A) {l B e e' : A} → ι (pos 0) ≼ s → abs (ι (pos 2) ⊗ G ⊗ H ⊕ ⊖ (ι (pos 2) ⊗ s ⊗ F)) ≼ l → abs H ≼ B
      → abs (u ⊗ s ⊕ ⊖ F) ≼ e → abs (v ⊗ s ⊕ ⊖ G) ≼ e'
      → abs (ι (pos 2) ⊗ s ⊗ (v ⊗ H ⊕ ⊖ (s ⊗ u))) ≼ l ⊕ ι (pos 2) ⊗ s ⊗ e ⊕ ι (pos 2) ⊗ B ⊗ e'
  residual_bound s F G H u v {l} {B} {e} {e'} hs hl h_b he he' =
      subst (λ z. abs z ≼ l ⊕ ι (pos 2) ⊗ s ⊗ e ⊕ ι (pos 2) ⊗ B ⊗ e') (solve ring (s ∷ F ∷ G ∷ H ∷ u ∷ v ∷ []) (search reify depth 20) (search reify depth 20) tt)
      (abs_add_le O (ι (pos 2) ⊗ G ⊗ H ⊕ ⊖ (ι (pos 2) ⊗ s ⊗ F) ⊕ ι (pos 2) ⊗ s ⊗ ⊖ (u ⊗ s ⊕ ⊖ F)) (ι (pos 2) ⊗ H ⊗ (v ⊗ s ⊕ ⊖ G))
      (abs_add_le O (ι (pos 2) ⊗ G ⊗ H ⊕ ⊖ (ι (pos 2) ⊗ s ⊗ F)) (ι (pos 2) ⊗ s ⊗ ⊖ (u ⊗ s ⊕ ⊖ F)) hl (twice_bound s (⊖ (u ⊗ s ⊕ ⊖ F)) (le_of_eq O (abs_of_nonneg O hs)) (abs_neg_le O (u ⊗ s ⊕ ⊖ F) he)))
      (twice_bound H (v ⊗ s ⊕ ⊖ G) h_b he'))

  -- S − m ≤ M·|v|
  pub divisor_away : (W v : A) {s m k M : A} → k ⊕ m ≡ s → abs (s ⊕ ⊖ (W ⊗ v)) ≼ m → abs W ≼ M → k ≼ M ⊗ abs v
  divisor_away W v {s} {m} {k} {M} e hm h_m =
      by_certificate O (◌⊞◌ O (gap O (abs_upper O hm)) (gap O (abs_upper O (abs_mul_le O W v h_m (le_refl O (abs v))))))
      (ap (λ z. M ⊗ abs v ⊕ ⊖ z) (solve ring (k ∷ m ∷ []) (search reify depth 20) (search reify depth 20) tt ∙ ap (λ z. z ⊕ ⊖ m) e)
      ∙ solve ring (s ∷ m ∷ M ∷ W ∷ v ∷ abs v ∷ []) (search reify depth 20) (search reify depth 20) tt)

  pub divisor_nonzero : (v : A) {k M : A} → ¬ (k ≼ ι (pos 0)) → k ≼ M ⊗ abs v → ¬ (v ≡ ι (pos 0))
  divisor_nonzero v {k} {M} positive away e =
      positive
      (◌⟨≼⟩◌ O away
      (le_of_eq O (ap (λ z. M ⊗ z) (ap abs e ∙ ι_abs O (pos 0)) ∙ solve ring (M ∷ []) (search reify depth 20) (search reify depth 20) tt)))

  -- k·|q·s − H| ≤ M·|v|·|q·s − H| = M·|v·H − s·u| ≤ M·N ≤ k·r, where q = u/v
  pub quotient_bound : (s u v q H : A) {M N r k : A} → q ⊗ v ≡ u → ι (pos 0) ≼ M → ¬ (k ≼ ι (pos 0))
      → abs (v ⊗ H ⊕ ⊖ (s ⊗ u)) ≼ N → k ≼ M ⊗ abs v → M ⊗ N ≼ k ⊗ r → abs (q ⊗ s ⊕ ⊖ H) ≼ r
  quotient_bound s u v q H {M} {N} {r} {k} e h_m hk h_n away hr =
      le_cancel k (abs (q ⊗ s ⊕ ⊖ H)) r hk
      (by_certificate O (◌⊞◌ O (◌⊞◌ O (gap O hr) (◌⊠◌ O h_m (gap O scaled))) (◌⊠◌ O (gap O away) (abs_nonneg (q ⊗ s ⊕ ⊖ H))))
      (solve ring (k ∷ r ∷ M ∷ N ∷ abs v ∷ abs (q ⊗ s ⊕ ⊖ H) ∷ []) (search reify depth 20) (search reify depth 20) tt))
    where
      numerator : v ⊗ (q ⊗ s ⊕ ⊖ H) ≡ ⊖ (v ⊗ H ⊕ ⊖ (s ⊗ u))
      numerator =
          solve ring (s ∷ v ∷ q ∷ H ∷ []) (search reify depth 20) (search reify depth 20) tt
          ∙ ap (λ z. ⊖ (v ⊗ H ⊕ ⊖ (s ⊗ z))) e

      scaled : abs v ⊗ abs (q ⊗ s ⊕ ⊖ H) ≼ N
      scaled = ◌⟨≼⟩◌ O (le_of_eq O (sym (abs-mul O v (q ⊗ s ⊕ ⊖ H)) ∙ ap abs numerator ∙ abs_neg O (v ⊗ H ⊕ ⊖ (s ⊗ u)))) h_n
