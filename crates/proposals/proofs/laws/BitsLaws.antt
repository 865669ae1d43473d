-- The units of a finite f64 from its bits: by the field k of the exponent and the digits t below the leading one.
use Rattle.std.specs.Prelude.{◌≡◌, refl, Bool, true, false, cond, ℕ, zero, suc, ◌+◌, ◌-◌, ◌*◌, ◌/◌, ◌%◌, ◌^◌, ◌≤◌, ◌<◌, T, eqb, Float}
use Rattle.std.proofs.Math.Path.{sym, ap}
use Rattle.std.proofs.Common.{◌∙◌, subst, le_trans, le_of_eq, lt_of_lt_of_le, mul_comm, mul_assoc, mul-le-mul_right, mul-le-mul_left, mod-lt, one-mul, arith}
use Rattle.std.proofs.Math.IntN.{pos, nat_abs}
use lib.Pow.{pow-add, pow_pos, pow_mono, shl_lt, shl_exact}
use Rattle.std.specs.Float.{nan, inf}
use Rattle.std.specs.Float.Ieee.{binary64, odd, of_fields, of_bits, fits, to_bits}
use Rattle.std.specs.Float.Ieee.Bits.{of_bits-to_bits}
use Rattle.std.specs.Float.Ieee.Exact.{HasValue, odd_sign}
use Rattle.std.specs.Float.Ieee.Scale.{finite}
use Rattle.integer.specs.definitions.Rounding.{near}
use Rattle.integer.proofs.laws.NearLaws.{near_same, near_small, near_large, near_within}
use Rattle.proposals.specs.definitions.Units.{signed, units_of}
use Rattle.proposals.specs.definitions.Bits.{sign_bit, exponent_field, last_digits, all_digits, bits_size}
use Rattle.proposals.specs.definitions.InnerContracts.{limited_units}
use Rattle.proposals.proofs.laws.UnitsLaws.{signed_scaled, signed_size, near-signed, units_value, limited_same, limited_large}

-- 2^s as a shift of 1 has it
pub shifted_one : (s : ℕ) → s < 54 → 1 * 2 ^ s % 2 ^ 64 ≡ 2 ^ s
shifted_one s h =
    let l : 1 + s ≤ 64 = omega arith in
    shl_exact 1 s 64 (omega arith) l ∙ one-mul (2 ^ s)

-- what the fields stand for, in multiples of 2^-1074
fields_value : (s : Bool) (k t : ℕ) → T (finite (of_fields binary64 s k t)) → HasValue (of_fields binary64 s k t) s (all_digits k t * 2 ^ (k - 1)) (2 ^ 1074)
unfolding of_fields
fields_value s zero t h = odd_sign 53 s t 0 1074
fields_value s (suc k) t h =
    let e : suc k - 1 ≡ k = omega arith in
    subst (λ (n : ℕ). HasValue (cond (eqb (suc k) 2047) (cond (eqb t 0) (inf s) nan) (odd 53 s (2 ^ 52 + t) k 1074)) s ((2 ^ 52 + t) * 2 ^ n) (2 ^ 1074)) (sym e)
    (go (eqb (suc k) 2047) (eqb t 0) h)
  where
    go : (a b : Bool) → T (finite (cond a (cond b (inf s) nan) (odd 53 s (2 ^ 52 + t) k 1074))) → HasValue (cond a (cond b (inf s) nan) (odd 53 s (2 ^ 52 + t) k 1074)) s ((2 ^ 52 + t) * 2 ^ k) (2 ^ 1074)
    go true true h = absurd h
    go true false h = absurd h
    go false b h = odd_sign 53 s (2 ^ 52 + t) k 1074

digits_lt : (k t : ℕ) → t < 2 ^ 52 → all_digits k t < 2 ^ 53
digits_lt zero t h = omega arith
digits_lt (suc k) t h = omega arith

digits_normal : (k t : ℕ) → 0 < k → all_digits k t ≡ 2 ^ 52 + t
digits_normal zero t h = absurd (omega arith)
digits_normal (suc k) t h = refl

-- ---- from 512 on, below half a unit, and between

over : (k t : ℕ) → 1032 ≤ k → 2 ^ 29 * 2 ^ 1074 ≤ all_digits k t * 2 ^ (k - 1) * 2 ^ 20
over k t h =
    let j : 1031 ≤ k - 1 = omega arith in
    let d : 2 ^ 52 ≤ all_digits k t = rw (digits_normal k t (omega arith)) (omega arith) in
    mul-le-mul_right (2 ^ 20) (le_trans (mul-le-mul_right (2 ^ 1031) d) (mul-le-mul_left (all_digits k t) (pow_mono j)))

under : (k t : ℕ) → t < 2 ^ 52 → k < 1002 → 2 * (all_digits k t * 2 ^ (k - 1) * 2 ^ 20) < 2 ^ 1074
under k t h l =
    let e : 53 + (k - 1) + 20 + 1 ≤ 1074 = omega arith in
    let a = all_digits k t * 2 ^ (k - 1) * 2 ^ 20 in
    let c : a * 2 ^ 1 < 2 ^ (53 + (k - 1) + 20 + 1) = shl_lt (53 + (k - 1) + 20) 1 (shl_lt (53 + (k - 1)) 20 (shl_lt 53 (k - 1) (digits_lt k t h))) in
    subst (λ (n : ℕ). n < 2 ^ 1074) (mul_comm a 2) (lt_of_lt_of_le c (pow_mono e))

powers : (k : ℕ) → 1002 ≤ k → k < 1032 → 2 ^ (k - 1) * 2 ^ 20 * 2 ^ (1055 - k) ≡ 2 ^ 1074
powers k h l =
    let e : (k - 1) + 20 + (1055 - k) ≡ 1074 = omega arith in
    ap (λ (n : ℕ). n * 2 ^ (1055 - k)) (sym (pow-add 2 (k - 1) 20)) ∙ sym (pow-add 2 ((k - 1) + 20) (1055 - k)) ∙ ap (λ (n : ℕ). 2 ^ n) e

gathered : (d p q r l : ℕ) → p * q * r ≡ l → d * p * q * r ≡ d * l
gathered d p q r l h = ap (λ (n : ℕ). n * r) (mul_assoc d p q) ∙ mul_assoc d (p * q) r ∙ ap (λ (n : ℕ). d * n) h

between : (s : Bool) (k t : ℕ) → 1002 ≤ k → k < 1032 → near (signed s (all_digits k t * 2 ^ (k - 1) * 2 ^ 20)) (2 ^ 1074) ≡ near (signed s (2 ^ 52 + t)) (2 ^ (1055 - k))
between s k t h l =
    let a = (2 ^ 52 + t) * 2 ^ (k - 1) * 2 ^ 20 in
    rw (digits_normal k t (omega arith))
    (near_same (signed s a) (signed s (2 ^ 52 + t)) (2 ^ 1074) (2 ^ (1055 - k)) (pow_pos 1074) (pow_pos (1055 - k))
    (signed_scaled s a (2 ^ (1055 - k))
    ∙ ap (signed s) (gathered (2 ^ 52 + t) (2 ^ (k - 1)) (2 ^ 20) (2 ^ (1055 - k)) (2 ^ 1074) (powers k h l))
    ∙ sym (signed_scaled s (2 ^ 52 + t) (2 ^ 1074))))

pub between_size : (s : Bool) (k t : ℕ) → t < 2 ^ 52 → k < 1032 → nat_abs (near (signed s (2 ^ 52 + t)) (2 ^ (1055 - k))) ≤ 2 ^ 29
between_size s k t h l =
    let e : 53 ≤ 29 + (1055 - k) = omega arith in
    let n : 2 ^ 52 + t ≤ 2 ^ 53 = omega arith in
    near_within (signed s (2 ^ 52 + t)) (2 ^ (1055 - k)) (2 ^ 29) (pow_pos (1055 - k))
    (rw (signed_size s (2 ^ 52 + t)) (le_trans n (le_trans (pow_mono e) (le_of_eq (pow-add 2 29 (1055 - k))))))

-- ---- x from its bits b: the sign, the exponent's field and the digits

module _ (x : Float) (held : T (fits binary64 x)) (whole : T (finite x)) where
  abbrev b : ℕ
  b = to_bits binary64 x

  abbrev sign : Bool
  sign = sign_bit x

  abbrev field : ℕ
  field = exponent_field x

  abbrev rest : ℕ
  rest = last_digits x

  abbrev size : ℕ
  size = bits_size x

  read_back : x ≡ of_fields binary64 sign field rest
  unfolding of_bits
  read_back =
      let e : b % 2 ^ 63 / 2 ^ 52 ≡ b / 2 ^ 52 % 2048 = lib.Pow.field b 11 52 in
      sym (of_bits-to_bits binary64 x held) ∙ ap (λ (k : ℕ). of_fields binary64 sign k rest) e

  -- the exact value that the bits stand for
  pub bits_value : HasValue x (sign_bit x) (bits_size x) (2 ^ 1074)
  bits_value =
      subst (λ (y : Float). HasValue y sign size (2 ^ 1074)) (sym read_back)
      (fields_value sign field rest (subst (λ (y : Float). T (finite y)) read_back whole))

  units_are : units_of x ≡ near (signed sign (size * 2 ^ 20)) (2 ^ 1074)
  units_are = units_value x sign size (2 ^ 1074) (pow_pos 1074) bits_value

  rest_lt : rest < 2 ^ 52
  rest_lt = mod-lt b (pow_pos 52)

  pub units_none : field < 1002 → limited_units x ≡ pos 0
  unfolding limited_units
  units_none h =
      let z : units_of x ≡ pos 0 = units_are ∙ near_small (signed sign (size * 2 ^ 20)) (2 ^ 1074) (rw (signed_size sign (size * 2 ^ 20)) (under field rest rest_lt h)) in
      rw z (limited_same (pos 0) (omega arith))

  pub units_large : 1032 ≤ field → limited_units x ≡ signed sign (2 ^ 29)
  unfolding limited_units
  units_large h =
      let q = nat_abs (near (pos (size * 2 ^ 20)) (2 ^ 1074)) in
      let e : units_of x ≡ signed sign q = units_are ∙ near-signed sign (size * 2 ^ 20) (2 ^ 1074) (pow_pos 1074) in
      rw e (limited_large sign q (near_large (pos (size * 2 ^ 20)) (2 ^ 1074) (2 ^ 29) (pow_pos 1074) (over field rest h)))

  pub units_shifted : 1002 ≤ field → field < 1032 → limited_units x ≡ near (signed sign (2 ^ 52 + rest)) (2 ^ (1055 - field))
  unfolding limited_units
  units_shifted h l =
      let e : units_of x ≡ near (signed sign (2 ^ 52 + rest)) (2 ^ (1055 - field)) = units_are ∙ between sign field rest h l in
      rw e (limited_same (near (signed sign (2 ^ 52 + rest)) (2 ^ (1055 - field))) (between_size sign field rest rest_lt l))
