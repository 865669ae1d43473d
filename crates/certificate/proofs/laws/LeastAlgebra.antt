-- The algebra of the least radius. Over any ordered commutative ring: its condition in units and in fractions, and at a smaller
-- number. Over ℕ: where some number satisfies it, the discriminant is not negative.
use Rattle.std.specs.Prelude.{◌≡◌, [], ◌∷◌, ℕ, ◌+◌, ◌*◌, ◌-◌, ◌≤◌, pos}
use Rattle.std.proofs.Common.{subst, arith, mul-le-mul_left}
use Rattle.std.proofs.Math.Decide.{dec_le}
use Rattle.integer.proofs.laws.Embedding.{ι_nonneg}
use Rattle.ring.proofs.laws.Solver.{reify, solve}
use Rattle.ring.specs.definitions.OrderedRing.{OrderedRing}
use Rattle.ring.proofs.laws.OrderedRingLaws.{by_certificate, gap, ◌⊞◌, ◌⊠◌, ◌⟨≼⟩◌, le_of_eq, lt-le, sq_nonneg}
use Rattle.model.specs.definitions.Models.{scale}

module _ (O : OrderedRing) where
  open O use {ring, le as ◌≼◌, le_cancel}
  open ring use {A, add as ◌⊕◌, mul as ◌⊗◌, opp as ⊖◌, ι}

  infixl 6 ◌⊕◌
  infixl 7 ◌⊗◌
  infix 8 ⊖◌
  infix 4 ◌≼◌
  -- the condition in units, 2·M·r² + b·s² ≤ k·s·r, where r = ρ·s
  pub from_units : (s M b k ρ r : A) → ¬ (s ≼ ι (pos 0)) → ρ ⊗ s ≡ r → ι (pos 2) ⊗ M ⊗ (r ⊗ r) ⊕ b ⊗ (s ⊗ s) ≼ k ⊗ s ⊗ r → ι (pos 2) ⊗ M ⊗ (ρ ⊗ ρ) ⊕ b ≼ k ⊗ ρ
  from_units s M b k ρ r scale_positive same h =
      le_cancel s (ι (pos 2) ⊗ M ⊗ (ρ ⊗ ρ) ⊕ b) (k ⊗ ρ) scale_positive
      (le_cancel s (s ⊗ (ι (pos 2) ⊗ M ⊗ (ρ ⊗ ρ) ⊕ b)) (s ⊗ (k ⊗ ρ)) scale_positive
      (by_certificate O (gap O h) (rw (← same) (solve ring (s ∷ M ∷ b ∷ k ∷ ρ ∷ []) (search reify depth 20) (search reify depth 20) tt))))

  -- Where r satisfies and the discriminant is not negative, every t from 2·b·s/k up to r satisfies (k = s − m). With
  -- q(x) = 2·M·x² − k·s·x + b·s² and z = 2·b·s/k: (r−z)·q(t) = (r−t)·q(z) + (t−z)·q(r) − 2·M·(r−t)·(t−z)·(r−z).
  module _ (s M b k r t : A)
      (M_nonneg : ι (pos 0) ≼ M) (b_nonneg : ι (pos 0) ≼ b) (k_positive : ¬ (k ≼ ι (pos 0)))
      (between : t ≼ r) (not_same : ¬ (r ≼ t)) (radius : ι (pos 2) ⊗ b ⊗ s ≼ t ⊗ k) (discriminant : ι (pos 8) ⊗ b ⊗ M ≼ k ⊗ k)
      (fits : ι (pos 2) ⊗ M ⊗ (r ⊗ r) ⊕ b ⊗ (s ⊗ s) ≼ k ⊗ s ⊗ r) where
    -- k·(r − z)
    beyond : ι (pos 0) ≼ r ⊗ k ⊕ ⊖ (ι (pos 2) ⊗ b ⊗ s)
    beyond = ◌⟨≼⟩◌ O (◌⊞◌ O (gap O radius) (◌⊠◌ O (lt-le O k_positive) (gap O between))) (le_of_eq O (solve ring (s ∷ b ∷ k ∷ r ∷ t ∷ []) (search reify depth 20) (search reify depth 20) tt))

    beyond_positive : ¬ (r ⊗ k ⊕ ⊖ (ι (pos 2) ⊗ b ⊗ s) ≼ ι (pos 0))
    beyond_positive low =
        not_same
        (le_cancel k r t k_positive
        (by_certificate O (◌⊞◌ O (gap O low) (gap O radius)) (solve ring (s ∷ b ∷ k ∷ r ∷ t ∷ []) (search reify depth 20) (search reify depth 20) tt)))

    pub smaller_fits : ι (pos 2) ⊗ M ⊗ (t ⊗ t) ⊕ b ⊗ (s ⊗ s) ≼ k ⊗ s ⊗ t
    smaller_fits =
        le_cancel k (ι (pos 2) ⊗ M ⊗ (t ⊗ t) ⊕ b ⊗ (s ⊗ s)) (k ⊗ s ⊗ t) k_positive
        (le_cancel (r ⊗ k ⊕ ⊖ (ι (pos 2) ⊗ b ⊗ s)) (k ⊗ (ι (pos 2) ⊗ M ⊗ (t ⊗ t) ⊕ b ⊗ (s ⊗ s))) (k ⊗ (k ⊗ s ⊗ t)) beyond_positive
        (by_certificate O
        (◌⊞◌ O (◌⊞◌ O (◌⊠◌ O (◌⊠◌ O (◌⊠◌ O (gap O between) b_nonneg) (sq_nonneg O s)) (gap O discriminant)) (◌⊠◌ O (◌⊠◌ O (gap O radius) (lt-le O k_positive)) (gap O fits))) (◌⊠◌ O (◌⊠◌ O (◌⊠◌ O (◌⊠◌ O (ι_nonneg O 2) M_nonneg) (gap O between)) (gap O radius)) beyond))
        (solve ring (s ∷ M ∷ b ∷ k ∷ r ∷ t ∷ []) (search reify depth 24 fits 9000) (search reify depth 24 fits 9000) tt)))

-- ---- the discriminant: (4·M·r − (S−m)·S)² ≥ 0, where k = S − m

twice_by : (x d : ℕ) → 2 * (x * (x + d)) ≤ x * x + (x + d) * (x + d)
twice_by x d = omega arith

twice_product : (x y : ℕ) → 2 * (x * y) ≤ x * x + y * y
twice_product x y = pick (dec_le x y)
  where
    pick : Dec (x ≤ y) → 2 * (x * y) ≤ x * x + y * y
    pick (yes l) = let e : x + (y - x) ≡ y = omega arith in subst (λ (z : ℕ). 2 * (x * z) ≤ x * x + z * z) e (twice_by x (y - x))
    pick (no l) =
        let e : y + (x - y) ≡ x = omega arith in
        let t : 2 * (y * x) ≤ y * y + x * x = subst (λ (z : ℕ). 2 * (y * z) ≤ y * y + z * z) e (twice_by y (x - y)) in
        omega arith

pub discriminant_by : (M k b r : ℕ) → 2 * M * (r * r) + b * (scale * scale) ≤ k * scale * r → 8 * b * M ≤ k * k
discriminant_by M k b r h = omega (arith, mul-le-mul_left (8 * M) h, twice_product (4 * M * r) (k * scale))
