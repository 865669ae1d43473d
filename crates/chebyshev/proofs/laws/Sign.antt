-- The sign of the root tests' helper w: from Σ w_k > 0, which is w(1) > 0, and |κ − 2·w(x)·h(x)| ≤ μ < κ at every fraction
-- x of [−1, 1] follows w(x) > 0 at every such x. No limits: |w| has a lower bound above 0 and w is Lipschitz, so it keeps its
-- sign on every interval that is short enough, and halving the interval from 1 to x often enough makes it short.
use Rattle.std.specs.Prelude.{◌≡◌, refl, List, [], ◌∷◌, map, ℕ, zero, suc, ◌^◌, ℤ, pos, ◌<ℤ◌}
use Rattle.std.proofs.Common.{sym, ◌∙◌, ap, ap₂}
use Rattle.std.proofs.Math.Logic.{∥∥₁_elim}
use mathlib.Core.HLevel.{¬_prop}
use Rattle.integer.proofs.laws.Archimedean.{archimedean_power}
use Rattle.integer.proofs.laws.FractionRounding.{natural_power}
use Rattle.integer.proofs.laws.Embedding.{ι_abs, ι_nonneg}
use Rattle.ring.proofs.laws.OrderedRingLaws.{by_certificate, gap, ◌⊞◌, ◌⊠◌, ◌⟨≼⟩◌, lt-le, le_refl, le_of_eq, mul_left, abs_upper, abs_neg, abs_mul_le, abs_of_nonneg}
use Rattle.ring.proofs.laws.Order.{lt→not_le}
use Rattle.fraction.specs.definitions.Fraction.{ℚ, whole, ◌+ℚ◌, ◌-ℚ◌, -ℚ◌, ◌*ℚ◌, ◌≤ℚ◌, ◌<ℚ◌, ∣◌∣ℚ}
use Rattle.fraction.proofs.laws.FractionLaws.{*ℚ_comm, *ℚ_assoc, one_*ℚ, whole-add}
use Rattle.integer.specs.definitions.FractionRing.{ℚ_ring}
use Rattle.integer.proofs.laws.FractionSolver.{reifyℚ, solveℚ}
use Rattle.integer.proofs.laws.FractionOrder.{ℚ_ordered, whole_le}
use Rattle.chebyshev.proofs.laws.RecurrenceLaws.{first_one}
use Rattle.chebyshev.specs.definitions.Coefficients.{coefficient_sum, value_from, value}
use Rattle.chebyshev.specs.definitions.Norms.{norm, lipschitz_from}
use Rattle.chebyshev.proofs.laws.NormLaws.{norm_nonneg, value_bound}
use Rattle.chebyshev.proofs.laws.Lipschitz.{value_lipschitz}
use Rattle.chebyshev.proofs.laws.Midpoint.{midpoint, midpoint_range, midpoint_left, midpoint_right, halve}

-- w(1) = Σ w_k
value_from_one : (k : ℕ) (a : List ℤ) → value_from ℚ_ring (whole (pos 1)) k (map whole a) ≡ whole (coefficient_sum a)
unfolding value_from coefficient_sum
value_from_one k [] = refl
value_from_one k (c ∷ a) =
    ap₂ (λ y z. whole c *ℚ y +ℚ z) (first_one ℚ_ring k) (value_from_one (suc k) a)
    ∙ ap (λ y. y +ℚ whole (coefficient_sum a)) (*ℚ_comm (whole c) (whole (pos 1)) ∙ one_*ℚ (whole c))
    ∙ sym (whole-add c (coefficient_sum a))

pub value_one : (a : List ℤ) → value ℚ_ring (whole (pos 1)) (map whole a) ≡ whole (coefficient_sum a)
unfolding value
value_one a = value_from_one 0 a

-- ---- a Lipschitz function that stays away from 0 keeps its sign

module _ (g : ℚ → ℚ) (l m c : ℚ) (above : whole (pos 0) <ℚ c) (nonneg : whole (pos 0) ≤ℚ m)
    (lipschitz : (x y : ℚ) → ∣ x ∣ℚ ≤ℚ whole (pos 1) → ∣ y ∣ℚ ≤ℚ whole (pos 1) → ∣ g x -ℚ g y ∣ℚ ≤ℚ (l *ℚ ∣ x -ℚ y ∣ℚ))
    (away : (x : ℚ) → ∣ x ∣ℚ ≤ℚ whole (pos 1) → c ≤ℚ (m *ℚ ∣ g x ∣ℚ)) where
  -- otherwise c ≤ m·g(x) and c ≤ −m·g(y), so 2·c ≤ m·(g(x) − g(y)) ≤ c
  one_step : (x y : ℚ) → ∣ x ∣ℚ ≤ℚ whole (pos 1) → ∣ y ∣ℚ ≤ℚ whole (pos 1) → (m *ℚ (l *ℚ ∣ x -ℚ y ∣ℚ)) ≤ℚ c → whole (pos 0) <ℚ g x → whole (pos 0) <ℚ g y
  one_step x y hx hy close px ny =
      above
      (by_certificate ℚ_ordered (◌⊞◌ ℚ_ordered (◌⊞◌ ℚ_ordered (gap ℚ_ordered at_x) (gap ℚ_ordered at_y)) (gap ℚ_ordered change))
      (solveℚ (m ∷ c ∷ g x ∷ g y ∷ []) (search reifyℚ depth 20) (search reifyℚ depth 20) tt))
    where
      at_x : c ≤ℚ (m *ℚ g x)
      at_x = rw (abs_of_nonneg ℚ_ordered (lt-le ℚ_ordered px)) at (away x hx)

      opposite : ∣ g y ∣ℚ ≡ -ℚ g y
      opposite = sym (abs_neg ℚ_ordered (g y)) ∙ abs_of_nonneg ℚ_ordered (by_certificate ℚ_ordered (gap ℚ_ordered ny) (solveℚ (g y ∷ []) (search reifyℚ depth 9) (search reifyℚ depth 9) tt))

      at_y : c ≤ℚ (m *ℚ -ℚ g y)
      at_y = rw opposite at (away y hy)

      change : (m *ℚ (g x -ℚ g y)) ≤ℚ c
      change = ◌⟨≼⟩◌ ℚ_ordered (mul_left ℚ_ordered m nonneg (abs_upper ℚ_ordered (lipschitz x y hx hy))) close

  -- half the distance, half the bound
  half-distance : (s : ℕ) (u d : ℚ) → whole (pos 2) *ℚ u ≡ d → (m *ℚ (l *ℚ d)) ≤ℚ (whole (pos (2 ^ suc s)) *ℚ c) → (m *ℚ (l *ℚ u)) ≤ℚ (whole (pos (2 ^ s)) *ℚ c)
  half-distance s u d e close =
      halve (m *ℚ (l *ℚ u)) (whole (pos (2 ^ s)) *ℚ c)
      (◌⟨≼⟩◌ ℚ_ordered (le_of_eq ℚ_ordered (solveℚ (m ∷ l ∷ u ∷ []) (search reifyℚ depth 12) (search reifyℚ depth 12) tt ∙ ap (λ t. m *ℚ (l *ℚ t)) e))
      (◌⟨≼⟩◌ ℚ_ordered close (le_of_eq ℚ_ordered (ap (λ t. t *ℚ c) (natural_power s) ∙ *ℚ_assoc (whole (pos 2)) (whole (pos (2 ^ s))) c))))

  -- on an interval that is short enough after s halvings
  halving : (s : ℕ) (x y : ℚ) → ∣ x ∣ℚ ≤ℚ whole (pos 1) → ∣ y ∣ℚ ≤ℚ whole (pos 1) → (m *ℚ (l *ℚ ∣ x -ℚ y ∣ℚ)) ≤ℚ (whole (pos (2 ^ s)) *ℚ c) → whole (pos 0) <ℚ g x → whole (pos 0) <ℚ g y
  halving zero x y hx hy close p = one_step x y hx hy (rw (one_*ℚ c) at close) p
  halving (suc s) x y hx hy close p =
      let z = midpoint x y in
      let hz = midpoint_range x y hx hy in
      halving s z y hz hy (half-distance s ∣ z -ℚ y ∣ℚ ∣ x -ℚ y ∣ℚ (midpoint_right x y) close)
      (halving s x z hx hz (half-distance s ∣ x -ℚ z ∣ℚ ∣ x -ℚ y ∣ℚ (midpoint_left x y) close) p)

  same_sign : (x y : ℚ) → ∣ x ∣ℚ ≤ℚ whole (pos 1) → ∣ y ∣ℚ ≤ℚ whole (pos 1) → whole (pos 0) <ℚ g x → whole (pos 0) <ℚ g y
  same_sign x y hx hy p =
      ∥∥₁_elim (archimedean_power (m *ℚ (l *ℚ ∣ x -ℚ y ∣ℚ)) c above) ¬_prop (λ t. halving t.0 x y hx hy t.1 p)

-- with w(x) and h(x) the values of lists of whole numbers; the root tests have κ = S²
pub helper_positive : (κ μ : ℚ) (w h : List ℤ) → pos 0 <ℤ coefficient_sum w → μ <ℚ κ
    → ((x : ℚ) → ∣ x ∣ℚ ≤ℚ whole (pos 1) → ∣ κ -ℚ whole (pos 2) *ℚ value ℚ_ring x (map whole w) *ℚ value ℚ_ring x (map whole h) ∣ℚ ≤ℚ μ)
    → (x : ℚ) → ∣ x ∣ℚ ≤ℚ whole (pos 1) → whole (pos 0) <ℚ value ℚ_ring x (map whole w)
helper_positive κ μ w h hw hκ close x hx =
    same_sign (λ y. value ℚ_ring y (map whole w)) (lipschitz_from ℚ_ordered 0 (map whole w)) (whole (pos 2) *ℚ norm ℚ_ordered (map whole h)) (κ -ℚ μ)
    (λ k. hκ (by_certificate ℚ_ordered (gap ℚ_ordered k) (solveℚ (κ ∷ μ ∷ []) (search reifyℚ depth 9) (search reifyℚ depth 9) tt)))
    (◌⊠◌ ℚ_ordered (ι_nonneg ℚ_ordered 2) (norm_nonneg ℚ_ordered (map whole h)))
    (λ y z hy hz. value_lipschitz ℚ_ordered y z hy hz (map whole w))
    (λ y hy. away (value ℚ_ring y (map whole w)) (value ℚ_ring y (map whole h)) (norm ℚ_ordered (map whole h)) (close y hy) (value_bound ℚ_ordered y (map whole h) hy))
    (whole (pos 1)) x (le_of_eq ℚ_ordered (ι_abs ℚ_ordered (pos 1))) hx
    (λ k. lt→not_le (pos 0) (coefficient_sum w) hw ((whole_le (coefficient_sum w) (pos 0)).0 (rw (value_one w) at k)))
  where
    away : (u v n : ℚ) → ∣ κ -ℚ whole (pos 2) *ℚ u *ℚ v ∣ℚ ≤ℚ μ → ∣ v ∣ℚ ≤ℚ n → (κ -ℚ μ) ≤ℚ (whole (pos 2) *ℚ n *ℚ ∣ u ∣ℚ)
    away u v n near bound =
        by_certificate ℚ_ordered
        (◌⊞◌ ℚ_ordered (gap ℚ_ordered (abs_upper ℚ_ordered near)) (◌⊠◌ ℚ_ordered (ι_nonneg ℚ_ordered 2) (gap ℚ_ordered (abs_upper ℚ_ordered (abs_mul_le ℚ_ordered u v (le_refl ℚ_ordered ∣ u ∣ℚ) bound)))))
        (solveℚ (κ ∷ μ ∷ u ∷ v ∷ n ∷ ∣ u ∣ℚ ∷ []) (search reifyℚ depth 20) (search reifyℚ depth 20) tt)
