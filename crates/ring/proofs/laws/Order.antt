-- ℤ is an ordered commutative ring: `ℤ_ordered`. Its order is lib.Signed's ≤ℤ and <ℤ, and |z| is `∣ z ∣`, a whole number
-- (lib.IntN's nat_abs is the same as a natural number). Laws for every ordered ring are in OrderedRingLaws.antt, as
-- `triangle ℤ_ordered x y`; linear facts are one line by Difference.antt.
use Rattle.std.specs.Prelude.{◌≡◌, refl, ◌⊎◌, ℕ, zero, suc, ◌+◌, ◌*◌, ◌≤◌, ℤ, pos, negsuc, neg_ℤ, nat_abs, ◌*ℤ◌, ◌≤ℤ◌, ◌<ℤ◌}
use Rattle.std.proofs.Common.{inl, inr, zero-le, arith, le→leb, leb→le}
use Rattle.std.proofs.Math.Nat.{le_of_mul-le-mul_left}
use Rattle.std.proofs.Math.Decide.{dec_le}
use Rattle.std.specs.Int.Signed.{le_z_yes}
use Rattle.ring.specs.laws.Parts.{◌⁺, ◌⁻}
use Rattle.ring.specs.laws.Difference.{D, D_lit, D_mul, D_≤, all2, all3, differences, ≤_parts, <_parts}
use Rattle.ring.specs.definitions.Integer.{ℤ_ring}
use Rattle.ring.specs.definitions.OrderedRing.{OrderedRing}

infix 9 ∣◌∣
pub ∣◌∣ : ℤ → ℤ
∣ z ∣ = pos (nat_abs z)

pub ∣∣_is : (z : ℤ) → ∣ z ∣ ≡ pos (nat_abs z)
unfolding ∣◌∣
∣∣_is z = refl

-- ---- natural numbers among the whole ones

pub pos-le : (m n : ℕ) → m ≤ n → pos m ≤ℤ pos n
pos-le m n h = le_z_yes (le→leb m n h)

pub le-pos : (m n : ℕ) → pos m ≤ℤ pos n → m ≤ n
le-pos m n h = leb→le m n h.le

-- ---- the strict order

pub lt→not_le : (x y : ℤ) → x <ℤ y → ¬ (y ≤ℤ x)
lt→not_le x y h k = omega (arith, (<_parts x y).0 h, (≤_parts y x).0 k)

pub not_le→lt : (x y : ℤ) → ¬ (y ≤ℤ x) → x <ℤ y
not_le→lt x y h = pick (dec_le (y ⁺ + x ⁻) (x ⁺ + y ⁻))
  where
    pick : Dec (y ⁺ + x ⁻ ≤ x ⁺ + y ⁻) → x <ℤ y
    pick (yes k) = absurd (h ((≤_parts y x).1 k))
    pick (no k) = (<_parts x y).1 (omega arith)

-- ---- the fields of the instance

pub decide : (x y : ℤ) → (x ≤ℤ y) ⊎ ¬ (x ≤ℤ y)
decide x y = pick (dec_le (x ⁺ + y ⁻) (y ⁺ + x ⁻))
  where
    pick : Dec (x ⁺ + y ⁻ ≤ y ⁺ + x ⁻) → (x ≤ℤ y) ⊎ ¬ (x ≤ℤ y)
    pick (yes k) = inl ((≤_parts x y).1 k)
    pick (no k) = inr (λ h. k ((≤_parts x y).0 h))

pub total : (x y : ℤ) → (x ≤ℤ y) ⊎ (y ≤ℤ x)
total x y = pick (dec_le (x ⁺ + y ⁻) (y ⁺ + x ⁻))
  where
    pick : Dec (x ⁺ + y ⁻ ≤ y ⁺ + x ⁻) → (x ≤ℤ y) ⊎ (y ≤ℤ x)
    pick (yes k) = inl ((≤_parts x y).1 k)
    pick (no k) = inr ((≤_parts y x).1 (omega arith))

pub mul_nonneg : (x y : ℤ) → pos 0 ≤ℤ x → pos 0 ≤ℤ y → pos 0 ≤ℤ (x *ℤ y)
mul_nonneg (pos a) (pos b) h k = pos-le 0 (a * b) zero-le
mul_nonneg (pos a) (negsuc b) h k = absurd k.le
mul_nonneg (negsuc a) y h k = absurd h.le

cancel_natural : (n a b c d : ℕ) → (D (suc n) 0 *ℤ D a b) ≤ℤ (D (suc n) 0 *ℤ D c d) → D a b ≤ℤ D c d
cancel_natural n a b c d = simp (D_mul, D_≤) (λ h. le_of_mul-le-mul_left {m = a + d} {n = c + b} {k = suc n} (omega arith) (omega arith))

-- c > 0 and c u ≤ c v give u ≤ v
pub cancel : (c u v : ℤ) → ¬ (c ≤ℤ pos 0) → (c *ℤ u) ≤ℤ (c *ℤ v) → u ≤ℤ v
cancel (pos zero) u v p h = absurd (p (le_z_yes tt))
cancel (pos (suc n)) u v p h =
    all2 (λ u v. (pos (suc n) *ℤ u) ≤ℤ (pos (suc n) *ℤ v) → u ≤ℤ v) (λ a b c d k. cancel_natural n a b c d (simp D_lit at k)) u v h
cancel (negsuc n) u v p h = absurd (p (le_z_yes tt))

pub abs_nonneg : (x : ℤ) → pos 0 ≤ℤ ∣ x ∣
unfolding ∣◌∣
abs_nonneg x = pos-le 0 (nat_abs x) zero-le

pub abs_cases : (x : ℤ) → (∣ x ∣ ≡ x) ⊎ (∣ x ∣ ≡ neg_ℤ x)
unfolding ∣◌∣
abs_cases (pos n) = inl refl
abs_cases (negsuc n) = inr refl

abbrev pub ℤ_ordered : OrderedRing
ℤ_ordered = record {
  ring = ℤ_ring;
  le = ◌≤ℤ◌;
  le_trans = all3 _ (simp differences (omega arith));
  le_antisym = all2 _ (simp differences (omega arith));
  le_total = total;
  le_decide = decide;
  le-add = all3 _ (simp differences (omega arith));
  le-mul = mul_nonneg;
  le_cancel = cancel;
  abs = ∣◌∣;
  abs_nonneg = abs_nonneg;
  abs_cases = abs_cases;
}
