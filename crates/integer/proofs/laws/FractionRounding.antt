-- Natural numbers among the fractions: sums, products, powers of two, the order, and rounding up as a bound.
use Rattle.std.specs.Prelude.{◌≡◌, ℕ, suc, ◌+◌, ◌*◌, ◌^◌, ◌<◌, ◌≤◌, pos}
use Rattle.std.proofs.Common.{◌∙◌, ap, arith}
use Rattle.ring.proofs.laws.OrderedRingLaws.{◌⟨≼⟩◌, le_of_eq, abs-scale}
use Rattle.ring.proofs.laws.Order.{pos-le, le-pos}
use Rattle.fraction.specs.definitions.Fraction.{ℚ, whole, ◌+ℚ◌, ◌*ℚ◌, ◌≤ℚ◌, ◌<ℚ◌, ∣◌∣ℚ}
use Rattle.fraction.proofs.laws.FractionLaws.{whole-add, whole-mul}
use Rattle.integer.proofs.laws.FractionOrder.{ℚ_ordered, whole_le}
use Rattle.integer.specs.definitions.Rounding.{upℕ}
use Rattle.integer.proofs.laws.RoundingLaws.{le-upℕ}

pub natural_add : (m n : ℕ) → whole (pos (m + n)) ≡ whole (pos m) +ℚ whole (pos n)
natural_add m n = whole-add (pos m) (pos n)

pub natural_mul : (m n : ℕ) → whole (pos (m * n)) ≡ whole (pos m) *ℚ whole (pos n)
natural_mul m n = whole-mul (pos m) (pos n)

pub natural_power : (n : ℕ) → whole (pos (2 ^ suc n)) ≡ whole (pos 2) *ℚ whole (pos (2 ^ n))
natural_power n = ap (λ (m : ℕ). whole (pos m)) (omega arith) ∙ natural_mul 2 (2 ^ n)

pub natural_le : {m n : ℕ} → m ≤ n → whole (pos m) ≤ℚ whole (pos n)
natural_le {m} {n} h = (whole_le (pos m) (pos n)).1 (pos-le m n h)

pub natural_positive : (n : ℕ) → 0 < n → whole (pos 0) <ℚ whole (pos n)
natural_positive n h k = omega (arith, le-pos n 0 ((whole_le (pos n) (pos 0)).0 k))

pub natural_nonzero : {n : ℕ} → 0 < n → ¬ (whole (pos n) ≡ whole (pos 0))
natural_nonzero {n} h e = natural_positive n h (le_of_eq ℚ_ordered e)

-- d·|z| ≤ n gives |z| ≤ up(n/d)
pub up_bound : (n d : ℕ) (z : ℚ) → 0 < d → ∣ whole (pos d) *ℚ z ∣ℚ ≤ℚ whole (pos n) → ∣ z ∣ℚ ≤ℚ whole (pos (upℕ n d))
up_bound n d z positive h =
    (abs-scale ℚ_ordered (whole (pos d)) z (whole (pos (upℕ n d))) (natural_positive d positive)).1
    (rw (← natural_mul d (upℕ n d)) (◌⟨≼⟩◌ ℚ_ordered h (natural_le (omega (arith, le-upℕ n d positive)))))
