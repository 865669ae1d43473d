-- The algebra of the root tests, over any ordered commutative ring: from a test's two residuals and either rule, bounds of v by the
-- squares of y + ρ and y − ρ; and a number that lies both in a box of the root and between y − ρ and y + ρ.
use Rattle.std.specs.Prelude.{◌≡◌, ◌⊎◌, [], ◌∷◌, pos}
use Rattle.std.proofs.Common.{subst, inl, inr}
use Rattle.integer.proofs.laws.Embedding.{ι_nonneg}
use Rattle.ring.proofs.laws.Solver.{reify, solve}
use Rattle.ring.specs.definitions.OrderedRing.{OrderedRing}
use Rattle.ring.proofs.laws.OrderedRingLaws.{by_certificate, gap, ◌⊞◌, ◌⊠◌, ◌⟨≼⟩◌, le_refl, le_of_eq, lt-le, sq_nonneg, abs_upper, abs_lower, abs_of_nonneg, abs_mul_le, root_le, abs_add_le, abs_neg_le}

module _ (O : OrderedRing) where
  open O use {ring, le as ◌≼◌, le_total, le_cancel, abs, abs_nonneg}
  open ring use {A, add as ◌⊕◌, mul as ◌⊗◌, opp as ⊖◌, ι}

  infixl 6 ◌⊕◌
  infixl 7 ◌⊗◌
  infix 8 ⊖◌
  infix 4 ◌≼◌
  -- s·(s − 2·W·y) = s² − 2·W·H, where H = y·s
  pub helper_bound : (s W H y l : A) → y ⊗ s ≡ H → abs (s ⊗ s ⊕ ⊖ (ι (pos 2) ⊗ W ⊗ H)) ≼ l → abs (s ⊗ (s ⊕ ⊖ (ι (pos 2) ⊗ W ⊗ y))) ≼ l
  helper_bound s W H y l e h = rw regroup h
    where
      regroup : s ⊗ (s ⊕ ⊖ (ι (pos 2) ⊗ W ⊗ y)) ≡ s ⊗ s ⊕ ⊖ (ι (pos 2) ⊗ W ⊗ H)
      regroup = rw (← e) (solve ring (s ∷ W ∷ y ∷ []) (search reify depth 20) (search reify depth 20) tt)

  -- 2s·(s·(y² − v)) = (2·H² − 2s·F) + 2s·(F − v·s), where H = y·s
  pub residual_bound : (s F H y v l e : A) → ι (pos 0) ≼ s → y ⊗ s ≡ H → abs (ι (pos 2) ⊗ H ⊗ H ⊕ ⊖ (ι (pos 2) ⊗ s ⊗ F)) ≼ l → abs (v ⊗ s ⊕ ⊖ F) ≼ e
      → abs (ι (pos 2) ⊗ s ⊗ (s ⊗ (y ⊗ y ⊕ ⊖ v))) ≼ l ⊕ ι (pos 2) ⊗ s ⊗ e
  residual_bound s F H y v l e nonneg same h k =
      subst (λ z. abs z ≼ l ⊕ ι (pos 2) ⊗ s ⊗ e) regroup
      (abs_add_le O (ι (pos 2) ⊗ H ⊗ H ⊕ ⊖ (ι (pos 2) ⊗ s ⊗ F)) (ι (pos 2) ⊗ s ⊗ ⊖ (v ⊗ s ⊕ ⊖ F)) h
      (abs_mul_le O (ι (pos 2) ⊗ s) (⊖ (v ⊗ s ⊕ ⊖ F)) (le_of_eq O (abs_of_nonneg O (◌⊠◌ O (ι_nonneg O 2) nonneg))) (abs_neg_le O (v ⊗ s ⊕ ⊖ F) k)))
    where
      regroup : ι (pos 2) ⊗ H ⊗ H ⊕ ⊖ (ι (pos 2) ⊗ s ⊗ F) ⊕ ι (pos 2) ⊗ s ⊗ ⊖ (v ⊗ s ⊕ ⊖ F) ≡ ι (pos 2) ⊗ s ⊗ (s ⊗ (y ⊗ y ⊕ ⊖ v))
      regroup = rw (← same) (solve ring (s ∷ F ∷ y ∷ v ∷ []) (search reify depth 20) (search reify depth 20) tt)

  -- what the proofs of both rules use: s is the scale, m, n and b are the test's m, N and b, k = s − m, M is the weight of w and W its value,
  -- y is the value of h and ρ the radius, both over s, and v is allowed by f
  pub record RootFacts (s m n b k M W y ρ v : A) : Type 0 where
    pub scale_positive : ¬ (s ≼ ι (pos 0))
    pub split : k ⊕ m ≡ s
    pub contracting : ¬ (k ≼ ι (pos 0))
    pub ρ_nonneg : ι (pos 0) ≼ ρ
    pub helper_residual : abs (s ⊕ ⊖ (ι (pos 2) ⊗ W ⊗ y)) ≼ m
    pub root_residual_lem : abs (s ⊗ (y ⊗ y ⊕ ⊖ v)) ≼ n
    pub helper_positive : ¬ (W ≼ ι (pos 0))
    pub helper_weight : W ≼ M
    pub displaced : M ⊗ n ≼ b ⊗ s

  module _ {s m n b k M W y ρ v : A} (c : RootFacts s m n b k M W y ρ v) where
    s_nonneg : ι (pos 0) ≼ s
    s_nonneg = lt-le O c.scale_positive

    M_nonneg : ι (pos 0) ≼ M
    M_nonneg = ◌⟨≼⟩◌ O (lt-le O c.helper_positive) c.helper_weight

    two : ι (pos 0) ≼ ι (pos 2)
    two = ι_nonneg O 2

    -- k ≤ 2·W·y
    product_low : k ≼ ι (pos 2) ⊗ W ⊗ y
    product_low = by_certificate O (gap O (abs_upper O c.helper_residual)) (rw (← c.split) (solve ring (m ∷ k ∷ W ∷ y ∷ []) (search reify depth 20) (search reify depth 20) tt))

    root_positive : ¬ (y ≼ ι (pos 0))
    root_positive below = c.contracting (by_certificate O (◌⊞◌ O (gap O product_low) (◌⊠◌ O (◌⊠◌ O two (lt-le O c.helper_positive)) (gap O below))) (solve ring (k ∷ W ∷ y ∷ []) (search reify depth 20) (search reify depth 20) tt))

    y_nonneg : ι (pos 0) ≼ y
    y_nonneg = lt-le O root_positive

    reaches : ι (pos 0) ≼ y ⊕ ρ
    reaches = ◌⊞◌ O y_nonneg c.ρ_nonneg

    -- ---- by the discriminant, with its radius

    module _ (radius : ι (pos 2) ⊗ b ⊗ s ≼ ρ ⊗ s ⊗ k) where
      twice_positive : ¬ (ι (pos 2) ⊗ M ≼ ι (pos 0))
      twice_positive below = c.helper_positive (by_certificate O (◌⊞◌ O (◌⊞◌ O (gap O below) M_nonneg) (gap O c.helper_weight)) (solve ring (M ∷ W ∷ []) (search reify depth 20) (search reify depth 20) tt))

      -- 2·M·y·ρ·s ≥ 2·W·y·ρ·s ≥ k·ρ·s ≥ 2·b·s ≥ 2·M·n
      residual_low : n ≼ s ⊗ y ⊗ ρ
      residual_low =
          le_cancel (ι (pos 2) ⊗ M) n (s ⊗ y ⊗ ρ) twice_positive
          (by_certificate O
          (◌⊞◌ O (◌⊞◌ O (◌⊞◌ O (◌⊠◌ O (◌⊠◌ O (◌⊠◌ O (◌⊠◌ O two s_nonneg) c.ρ_nonneg) y_nonneg) (gap O c.helper_weight)) (◌⊠◌ O (◌⊠◌ O s_nonneg c.ρ_nonneg) (gap O product_low))) (gap O radius)) (◌⊠◌ O two (gap O c.displaced)))
          (solve ring (s ∷ n ∷ b ∷ k ∷ M ∷ W ∷ y ∷ ρ ∷ []) (search reify depth 20) (search reify depth 20) tt))

      above : v ≼ (y ⊕ ρ) ⊗ (y ⊕ ρ)
      above =
          le_cancel s v ((y ⊕ ρ) ⊗ (y ⊕ ρ)) c.scale_positive
          (by_certificate O (◌⊞◌ O (◌⊞◌ O (gap O (abs_lower O c.root_residual_lem)) (gap O residual_low)) (◌⊠◌ O (◌⊠◌ O s_nonneg reaches) c.ρ_nonneg))
          (solve ring (s ∷ n ∷ y ∷ ρ ∷ v ∷ []) (search reify depth 20) (search reify depth 20) tt))

      below : (y ⊕ ⊖ ρ ≼ ι (pos 0)) ⊎ ((y ⊕ ⊖ ρ) ⊗ (y ⊕ ⊖ ρ) ≼ v)
      below = pick (le_total y ρ)
        where
          pick : (y ≼ ρ) ⊎ (ρ ≼ y) → (y ⊕ ⊖ ρ ≼ ι (pos 0)) ⊎ ((y ⊕ ⊖ ρ) ⊗ (y ⊕ ⊖ ρ) ≼ v)
          pick (inl h) = inl (by_certificate O (gap O h) (solve ring (y ∷ ρ ∷ []) (search reify depth 20) (search reify depth 20) tt))
          pick (inr h) =
              inr
              (le_cancel s ((y ⊕ ⊖ ρ) ⊗ (y ⊕ ⊖ ρ)) v c.scale_positive
              (by_certificate O (◌⊞◌ O (◌⊞◌ O (gap O (abs_upper O c.root_residual_lem)) (gap O residual_low)) (◌⊠◌ O (◌⊠◌ O s_nonneg c.ρ_nonneg) (gap O h)))
              (solve ring (s ∷ n ∷ y ∷ ρ ∷ v ∷ []) (search reify depth 20) (search reify depth 20) tt)))

      module _ (discriminant : ι (pos 8) ⊗ b ⊗ M ≼ k ⊗ k) where
        -- k ≤ 2·M·y
        weight_low : k ≼ ι (pos 2) ⊗ M ⊗ y
        weight_low = by_certificate O (◌⊞◌ O (gap O product_low) (◌⊠◌ O (◌⊠◌ O two y_nonneg) (gap O c.helper_weight))) (solve ring (k ∷ M ∷ W ∷ y ∷ []) (search reify depth 20) (search reify depth 20) tt)

        -- 4·M²·y²·s ≥ k²·s ≥ 8·b·M·s ≥ 8·M²·n
        residual_half : ι (pos 2) ⊗ n ≼ s ⊗ (y ⊗ y)
        residual_half =
            le_cancel (ι (pos 2) ⊗ M) (ι (pos 2) ⊗ n) (s ⊗ (y ⊗ y)) twice_positive
            (le_cancel (ι (pos 2) ⊗ M) (ι (pos 2) ⊗ M ⊗ (ι (pos 2) ⊗ n)) (ι (pos 2) ⊗ M ⊗ (s ⊗ (y ⊗ y))) twice_positive
            (by_certificate O
            (◌⊞◌ O (◌⊞◌ O (◌⊠◌ O (◌⊠◌ O s_nonneg (gap O weight_low)) (◌⊞◌ O (◌⊠◌ O (◌⊠◌ O two M_nonneg) y_nonneg) (lt-le O c.contracting))) (◌⊠◌ O s_nonneg (gap O discriminant))) (◌⊠◌ O (◌⊠◌ O (ι_nonneg O 8) M_nonneg) (gap O c.displaced)))
            (solve ring (s ∷ n ∷ b ∷ k ∷ M ∷ y ∷ []) (search reify depth 20) (search reify depth 20) tt)))

        -- s·v ≥ s·y² − n ≥ s·y²/2
        positive : ¬ (v ≼ ι (pos 0))
        positive low =
            root_positive
            (le_cancel y y (ι (pos 0)) root_positive
            (le_cancel s (y ⊗ y) (y ⊗ ι (pos 0)) c.scale_positive
            (by_certificate O (◌⊞◌ O (◌⊞◌ O (◌⊠◌ O two (gap O (abs_upper O c.root_residual_lem))) (gap O residual_half)) (◌⊠◌ O (◌⊠◌ O two s_nonneg) (gap O low)))
            (solve ring (s ∷ n ∷ y ∷ v ∷ []) (search reify depth 20) (search reify depth 20) tt))))

        pub root_algebra : (ι (pos 0) ≼ y ⊕ ρ) × (v ≼ (y ⊕ ρ) ⊗ (y ⊕ ρ)) × ((y ⊕ ⊖ ρ ≼ ι (pos 0)) ⊎ ((y ⊕ ⊖ ρ) ⊗ (y ⊕ ⊖ ρ) ≼ v)) × ¬ (v ≼ ι (pos 0))
        root_algebra = (reaches, above, below, positive)

    -- ---- by the least radius: 2·M·ρ² + b ≤ k·ρ

    module _ (fits : ι (pos 2) ⊗ M ⊗ (ρ ⊗ ρ) ⊕ b ≼ k ⊗ ρ) where
      n_nonneg : ι (pos 0) ≼ n
      n_nonneg = ◌⟨≼⟩◌ O (abs_nonneg (s ⊗ (y ⊗ y ⊕ ⊖ v))) c.root_residual_lem

      -- n ≤ s·(2·y·ρ − 2·ρ²)
      residual_between : n ≼ s ⊗ (ι (pos 2) ⊗ y ⊗ ρ ⊕ ⊖ (ι (pos 2) ⊗ (ρ ⊗ ρ)))
      residual_between =
          le_cancel W n (s ⊗ (ι (pos 2) ⊗ y ⊗ ρ ⊕ ⊖ (ι (pos 2) ⊗ (ρ ⊗ ρ)))) c.helper_positive
          (by_certificate O
          (◌⊞◌ O (◌⊞◌ O (◌⊞◌ O (◌⊞◌ O (◌⊠◌ O (◌⊠◌ O s_nonneg c.ρ_nonneg) (gap O product_low)) (◌⊠◌ O s_nonneg (gap O fits))) (◌⊠◌ O (◌⊠◌ O (◌⊠◌ O s_nonneg two) (sq_nonneg O ρ)) (gap O c.helper_weight))) (gap O c.displaced)) (◌⊠◌ O (gap O c.helper_weight) n_nonneg))
          (solve ring (s ∷ n ∷ b ∷ k ∷ M ∷ W ∷ y ∷ ρ ∷ []) (search reify depth 24 fits 9000) (search reify depth 24 fits 9000) tt))

      least_above : v ≼ (y ⊕ ρ) ⊗ (y ⊕ ρ)
      least_above =
          le_cancel s v ((y ⊕ ρ) ⊗ (y ⊕ ρ)) c.scale_positive
          (by_certificate O (◌⊞◌ O (◌⊞◌ O (gap O (abs_lower O c.root_residual_lem)) (gap O residual_between)) (◌⊠◌ O (◌⊠◌ O s_nonneg (ι_nonneg O 3)) (sq_nonneg O ρ)))
          (solve ring (s ∷ n ∷ y ∷ ρ ∷ v ∷ []) (search reify depth 20) (search reify depth 20) tt))

      least_low : (y ⊕ ⊖ ρ) ⊗ (y ⊕ ⊖ ρ) ⊕ ρ ⊗ ρ ≼ v
      least_low =
          le_cancel s ((y ⊕ ⊖ ρ) ⊗ (y ⊕ ⊖ ρ) ⊕ ρ ⊗ ρ) v c.scale_positive
          (by_certificate O (◌⊞◌ O (gap O (abs_upper O c.root_residual_lem)) (gap O residual_between))
          (solve ring (s ∷ n ∷ y ∷ ρ ∷ v ∷ []) (search reify depth 20) (search reify depth 20) tt))

      least_below : (y ⊕ ⊖ ρ) ⊗ (y ⊕ ⊖ ρ) ≼ v
      least_below = by_certificate O (◌⊞◌ O (gap O least_low) (sq_nonneg O ρ)) (solve ring (y ∷ ρ ∷ v ∷ []) (search reify depth 20) (search reify depth 20) tt)

      -- 2·v ≥ y² + (y − 2·ρ)²
      half : y ⊗ y ≼ ι (pos 2) ⊗ v
      half =
          by_certificate O (◌⊞◌ O (◌⊠◌ O two (gap O least_low)) (sq_nonneg O (y ⊕ ⊖ (ι (pos 2) ⊗ ρ))))
          (solve ring (y ∷ ρ ∷ v ∷ []) (search reify depth 20) (search reify depth 20) tt)

      -- 0 < y² ≤ 2·v
      least_positive : ¬ (v ≼ ι (pos 0))
      least_positive low =
          root_positive
          (le_cancel y y (ι (pos 0)) root_positive
          (by_certificate O (◌⊞◌ O (gap O half) (◌⊠◌ O two (gap O low))) (solve ring (y ∷ v ∷ []) (search reify depth 20) (search reify depth 20) tt)))

      pub least_algebra : (ι (pos 0) ≼ y ⊕ ρ) × (v ≼ (y ⊕ ρ) ⊗ (y ⊕ ρ)) × ((y ⊕ ⊖ ρ) ⊗ (y ⊕ ⊖ ρ) ≼ v) × ¬ (v ≼ ι (pos 0))
      least_algebra = (reaches, least_above, least_below, least_positive)

  -- max(low, y − ρ) lies in the box from low to high, where low = 0 or low² ≤ v, and v ≤ high²
  pub root_choice : (y ρ v low high : A) → ι (pos 0) ≼ ρ → ι (pos 0) ≼ y ⊕ ρ → v ≼ (y ⊕ ρ) ⊗ (y ⊕ ρ) → (y ⊕ ⊖ ρ ≼ ι (pos 0)) ⊎ ((y ⊕ ⊖ ρ) ⊗ (y ⊕ ⊖ ρ) ≼ v)
      → (low ≡ ι (pos 0)) ⊎ (low ⊗ low ≼ v) → ι (pos 0) ≼ high → v ≼ high ⊗ high → low ≼ high
      → (r : A) × (low ≼ r) × (r ≼ high) × (r ≼ y ⊕ ρ) × (y ⊕ ⊖ ρ ≼ r)
  root_choice y ρ v low high ρ_nonneg reaches above below low_fits high_nonneg high_fits ordered = pick (le_total (y ⊕ ⊖ ρ) low)
    where
      low_reached : (low ≡ ι (pos 0)) ⊎ (low ⊗ low ≼ v) → low ≼ y ⊕ ρ
      low_reached (inl e) = ◌⟨≼⟩◌ O (le_of_eq O e) reaches
      low_reached (inr k) = root_le O low (y ⊕ ρ) reaches (◌⟨≼⟩◌ O k above)

      high_reached : (y ⊕ ⊖ ρ ≼ ι (pos 0)) ⊎ ((y ⊕ ⊖ ρ) ⊗ (y ⊕ ⊖ ρ) ≼ v) → y ⊕ ⊖ ρ ≼ high
      high_reached (inl k) = ◌⟨≼⟩◌ O k high_nonneg
      high_reached (inr k) = root_le O (y ⊕ ⊖ ρ) high high_nonneg (◌⟨≼⟩◌ O k high_fits)

      pick : (y ⊕ ⊖ ρ ≼ low) ⊎ (low ≼ y ⊕ ⊖ ρ) → (r : A) × (low ≼ r) × (r ≼ high) × (r ≼ y ⊕ ρ) × (y ⊕ ⊖ ρ ≼ r)
      pick (inl k) = (low, le_refl O low, ordered, low_reached low_fits, k)
      pick (inr k) = (y ⊕ ⊖ ρ, k, high_reached below, by_certificate O (◌⊞◌ O ρ_nonneg ρ_nonneg) (solve ring (y ∷ ρ ∷ []) (search reify depth 20) (search reify depth 20) tt), le_refl O (y ⊕ ⊖ ρ))
