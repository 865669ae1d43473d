-- From plain facts about whole numbers to what signed code asks: that a number fits a width, and what division leaves.
-- In a code proof every signed operand shows as `to_z w (of_z w z)`; `to_z-of_z` with `SFits w z` reads it back.
use Rattle.std.specs.Prelude.{◌≡◌, refl, Bool, true, false, ◌&&◌, ℕ, suc, ◌-◌, ◌*◌, ◌/◌, ◌%◌, ◌≤◌, ◌<◌, ◌^◌, T, ℤ, pos, negsuc, neg_ℤ, ◌+ℤ◌, ◌*ℤ◌, nat_abs, ◌<ℤ◌, ◌≤ℤ◌}
use Rattle.std.proofs.Common.{sym, ◌∙◌, ap, subst, zero-le, arith, div-le_self, mod-lt, lt_of_lt_of_le, lit≤, pow_pos, rules}
use Rattle.std.proofs.Math.Nat.{div-add-mod}
use Rattle.std.specs.Int.Signed.{quot_z, rem_z, le_z, lt_z, le_z_yes, lt_z_yes, mag, non_neg}
use Rattle.std.specs.Int.Bits.{bit_and}
use Rattle.std.proofs.lemmas.Nat.{and_mask}
use Rattle.std.specs.Int.{Width, w32, w64}
use mir.Val.{SFits, hbits, to_z, of_z}
use Rattle.std.proofs.Math.Facts.{to_z_pos}
use Rattle.ring.specs.laws.Parts.{◌⁺, ◌⁻, same, sum, product, opposite, abs, le_no, lt_no}
use Rattle.ring.specs.laws.Difference.{≤_parts, <_parts}
use Rattle.integer.specs.definitions.Rounding.{parity}

-- ---- ranges

pub fits : (w : Width) (z : ℤ) → z ⁺ < 2 ^ hbits w → z ⁻ ≤ 2 ^ hbits w → SFits w z
fits w (pos n) p q = record { sfits = p }
fits w (negsuc n) p q = record { sfits = q }

pub abs-fits : (w : Width) (z : ℤ) → nat_abs z < 2 ^ hbits w → SFits w z
abs-fits w z h = fits w z (omega (arith, abs z)) (omega (arith, abs z))

pub record Within (w : Width) (z : ℤ) : Type 0 where
  pub p : z ⁺ < 2 ^ hbits w
  pub n : z ⁻ ≤ 2 ^ hbits w

pub within : (w : Width) (z : ℤ) → SFits w z → Within w z
within w (pos a) h = record { p = h.sfits; n = zero-le }
within w (negsuc a) h = record { p = pow_pos (hbits w); n = h.sfits }

pub non_neg_lem : (z : ℤ) → z ⁻ ≡ 0 → T (non_neg z)
non_neg_lem (pos a) h = tt
non_neg_lem (negsuc a) h = absurd (omega arith)

-- a number that 32 bits hold, 64 bits hold: the first of its size, the second of the range
pub read_widens : {z : ℤ} → mag z < 2 ^ 31 → SFits w64 z
read_widens {z} h = record { sfits = lt_of_lt_of_le h (lit≤ tt) }

pub fits_widens : {z : ℤ} → SFits w32 z → SFits w64 z
fits_widens {z} h = record { sfits = lt_of_lt_of_le h.sfits (lit≤ tt) }

pub ruleset signed_needs = (read_widens, fits_widens, rules)

-- ---- the machine's tests of order, as the order

pub le_true : (a b : ℤ) → le_z a b ≡ true → a ≤ℤ b
le_true a b e = le_z_yes (subst T (sym e) tt)

pub le_false : (a b : ℤ) → le_z a b ≡ false → b <ℤ a
le_false a b e = (<_parts b a).1 (le_no a b e)

pub lt_true : (a b : ℤ) → lt_z a b ≡ true → a <ℤ b
lt_true a b e = lt_z_yes (subst T (sym e) tt)

pub lt_false : (a b : ℤ) → lt_z a b ≡ false → b ≤ℤ a
lt_false a b e = (≤_parts b a).1 (lt_no a b e)

pub both_true : (a b : Bool) → (a && b) ≡ true → (a ≡ true) × (b ≡ true)
both_true true b e = (refl, e)
both_true false b e = (e, cc)

-- ---- a positive divisor

pub is_positive : (d : ℤ) → pos 0 <ℤ d → 0 < d ⁺
is_positive d h = omega (arith, (<_parts (pos 0) d).0 h)

pub above_one : (d : ℤ) → pos 1 <ℤ d → (pos 0 <ℤ d) × (1 < nat_abs d)
above_one d h = let p = (<_parts (pos 1) d).0 h in ((<_parts (pos 0) d).1 (omega (arith, p)), omega (arith, p, abs d))

pub positive_is : (d : ℤ) → 0 < d ⁺ → d ≡ pos (nat_abs d)
positive_is (pos n) h = refl
positive_is (negsuc n) h = absurd (omega arith)

pub positive_bits : (w : Width) (d : ℤ) → 0 < d ⁺ → 0 < of_z w d
positive_bits w (pos n) h = h
positive_bits w (negsuc n) h = absurd (omega arith)

-- ---- the lowest bit

-- z & 1 is the parity of z, below zero too: 2^64 is even
pub lowest_bit : (z : ℤ) → SFits w64 z → to_z w64 (bit_and (of_z w64 z) 1) ≡ pos (parity z)
lowest_bit z f = ap (to_z w64) (and_mask (of_z w64 z) 1 ∙ even z f) ∙ to_z_pos w64 (omega (arith, mod-lt (nat_abs z) {m = 2} (omega arith)))
  where
    even : (z : ℤ) → SFits w64 z → of_z w64 z % 2 ≡ parity z
    even (pos n) f = refl
    even (negsuc n) f =
        let m = 2 ^ 64 - suc n in
        omega (arith, f.sfits, div-add-mod m 2, mod-lt m {m = 2} (omega arith), div-add-mod (suc n) 2, mod-lt (suc n) {m = 2} (omega arith))

-- ---- truncating division by d ≥ 1: n = q d + r, and q and r lie between 0 and n

pub record Truncated (n : ℤ) (d : ℕ) (q r : ℤ) : Type 0 where
  pub split : n ≡ q *ℤ pos d +ℤ r
  pub small : nat_abs r < d
  pub q_up : q ⁺ ≤ n ⁺
  pub q_down : q ⁻ ≤ n ⁻
  pub up_multiple : q ⁺ * d ≤ n ⁺
  pub down_multiple : q ⁻ * d ≤ n ⁻
  pub r_up : r ⁺ ≤ n ⁺
  pub r_down : r ⁻ ≤ n ⁻

truncated_natural : (n : ℤ) (d : ℕ) → 0 < d → Truncated n d (quot_z n (pos d)) (rem_z n (pos d))
truncated_natural (pos a) d h =
    let q = pos (a / d) in
    let r = pos (a % d) in record {
      split = same (pos a) (q *ℤ pos d +ℤ r) (omega (arith, product q (pos d), sum (q *ℤ pos d) r, div-add-mod a d));
      small = mod-lt a h;
      q_up = div-le_self a d;
      q_down = zero-le;
      up_multiple = omega (arith, div-add-mod a d);
      down_multiple = omega arith;
      r_up = omega (arith, div-add-mod a d);
      r_down = zero-le;
    }
truncated_natural (negsuc a) d h =
    let q = neg_ℤ (pos (suc a / d)) in
    let r = neg_ℤ (pos (suc a % d)) in
    let oq = opposite (pos (suc a / d)) in
    let or = opposite (pos (suc a % d)) in
    let t = div-add-mod (suc a) d in
    let l = div-le_self (suc a) d in record {
      split = same (negsuc a) (q *ℤ pos d +ℤ r) (omega (arith, product q (pos d), sum (q *ℤ pos d) r, ap (λ (k : ℕ). k * d) oq.p, ap (λ (k : ℕ). k * d) oq.n));
      small = omega (arith, abs r, mod-lt (suc a) h);
      q_up = omega arith;
      q_down = omega arith;
      up_multiple = omega (arith, ap (λ (k : ℕ). k * d) oq.p);
      down_multiple = omega (arith, ap (λ (k : ℕ). k * d) oq.n);
      r_up = omega arith;
      r_down = omega arith;
    }

pub truncated : (n d : ℤ) → 0 < d ⁺ → Truncated n (nat_abs d) (quot_z n d) (rem_z n d)
truncated n (pos d) h = truncated_natural n d h
truncated n (negsuc d) h = absurd (omega arith)
