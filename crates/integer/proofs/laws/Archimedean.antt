-- ℚ is Archimedean.
use Rattle.std.specs.Prelude.{◌⊎◌, [], ◌∷◌, ℕ, zero, suc, ◌*◌, ◌^◌, ◌≤◌, ℤ, pos, negsuc, ◌*ℤ◌}
use Rattle.std.proofs.Common.{inl, inr, arith}
use Rattle.std.proofs.Math.Logic.{∥∥₁_prop, ∥∥₁_elim}
use mathlib.Core.HLevel.{Π_prop}
use Rattle.ring.specs.laws.Parts.{◌⁺, product}
use Rattle.ring.specs.laws.Difference.{≤_parts}
use Rattle.ring.proofs.laws.Order.{pos-le}
use Rattle.ring.proofs.laws.OrderedRingLaws.{by_certificate, gap, ◌⊞◌, ◌⊠◌, ◌⟨≼⟩◌, lt-le}
use Rattle.fraction.specs.definitions.Fraction.{ℚ, ◌/1+◌, whole, ◌+ℚ◌, ◌-ℚ◌, ◌*ℚ◌, ◌≤ℚ◌, ◌<ℚ◌}
use Rattle.ring.proofs.laws.PairLaws.{den_is, den-mul}
use Rattle.fraction.proofs.laws.FractionLaws.{fraction_mul, whole_is}
use Rattle.integer.proofs.laws.FractionSolver.{reifyℚ, solveℚ}
use Rattle.integer.proofs.laws.FractionOrder.{fraction_le, represent2, ≤ℚ_prop, ≤ℚ_decide, ℚ_ordered}
use Rattle.integer.proofs.laws.FractionRounding.{natural_le}

-- r ≤ n·c for some natural n, where c > 0
pub archimedean : (r c : ℚ) → whole (pos 0) <ℚ c → ∥ ((n : ℕ) × (r ≤ℚ (whole (pos n) *ℚ c))) ∥₁
archimedean = represent2 _ (λ r c. Π_prop (λ _. ∥∥₁_prop)) (λ a b p d above. ∣ (a ⁺ * suc d, go a b p d above) ∣₁)
  where
    go : (a : ℤ) (b : ℕ) (p : ℤ) (d : ℕ) → whole (pos 0) <ℚ p /1+ d → a /1+ b ≤ℚ (whole (pos (a ⁺ * suc d)) *ℚ p /1+ d)
    go a b (pos zero) d above = absurd (above (simp (whole_is, fraction_le, den_is) (pos-le 0 (0 * suc d) (omega arith))))
    go a b (pos (suc k)) d above = simp (whole_is, fraction_mul, fraction_le, den-mul, den_is) ((≤_parts (a *ℤ pos (1 * suc d)) (pos (a ⁺ * suc d * suc k * suc b))).1 (omega (arith, product a (pos (1 * suc d)))))
    go a b (negsuc k) d above = absurd (above (simp (whole_is, fraction_le, den_is) ((≤_parts (negsuc k *ℤ pos 1) (pos (0 * suc d))).1 (omega (arith, product (negsuc k) (pos 1))))))

-- the same with a power of two
pub archimedean_power : (r c : ℚ) → whole (pos 0) <ℚ c → ∥ ((n : ℕ) × (r ≤ℚ (whole (pos (2 ^ n)) *ℚ c))) ∥₁
archimedean_power r c above =
    ∥∥₁_elim (archimedean r c above) ∥∥₁_prop
    (λ t. ∣ (t.0, ◌⟨≼⟩◌ ℚ_ordered t.1 (raise (whole (pos t.0)) (whole (pos (2 ^ t.0))) (natural_le (below_power t.0)))) ∣₁)
  where
    below_power : (n : ℕ) → n ≤ 2 ^ n
    below_power zero = omega arith
    below_power (suc zero) = omega arith
    below_power (suc (suc n)) = omega (arith, below_power (suc n))

    raise : (a b : ℚ) → a ≤ℚ b → (a *ℚ c) ≤ℚ (b *ℚ c)
    raise a b h =
        by_certificate ℚ_ordered (◌⊠◌ ℚ_ordered (gap ℚ_ordered h) (lt-le ℚ_ordered above))
        (solveℚ (a ∷ b ∷ c ∷ []) (search reifyℚ depth 9) (search reifyℚ depth 9) tt)

-- t·u ≤ t·v + c for every power t of two gives u ≤ v
pub limit_le : (u v c : ℚ) → ((n : ℕ) → (whole (pos (2 ^ n)) *ℚ u) ≤ℚ (whole (pos (2 ^ n)) *ℚ v +ℚ c)) → u ≤ℚ v
limit_le u v c h = pick (≤ℚ_decide u v)
  where
    clash : (t : ℚ) → (t *ℚ u) ≤ℚ (t *ℚ v +ℚ c) → (c +ℚ (u -ℚ v)) ≤ℚ (t *ℚ (u -ℚ v)) → u ≤ℚ v
    clash t k l =
        by_certificate ℚ_ordered (◌⊞◌ ℚ_ordered (gap ℚ_ordered k) (gap ℚ_ordered l))
        (solveℚ (t ∷ u ∷ v ∷ c ∷ []) (search reifyℚ depth 20) (search reifyℚ depth 20) tt)

    pick : (u ≤ℚ v) ⊎ ¬ (u ≤ℚ v) → u ≤ℚ v
    pick (inl k) = k
    pick (inr k) =
        ∥∥₁_elim (archimedean_power (c +ℚ (u -ℚ v)) (u -ℚ v) above) (≤ℚ_prop u v)
        (λ t. clash (whole (pos (2 ^ t.0))) (h t.0) t.1)
      where
        above : whole (pos 0) <ℚ (u -ℚ v)
        above l = k (by_certificate ℚ_ordered (gap ℚ_ordered l) (solveℚ (u ∷ v ∷ []) (search reifyℚ depth 12) (search reifyℚ depth 12) tt))
