-- A number of units as a value is exact, for every 32-bit number and beyond, and comes back as the same number of units.
use Rattle.std.specs.Prelude.{◌≡◌, refl, Bool, true, false, ℕ, suc, ◌*◌, ◌+◌, ◌^◌, ◌≤◌, ◌<◌, ℤ, pos, negsuc, nat_abs, ◌*ℤ◌, Float}
use Rattle.std.proofs.Common.{sym, ◌∙◌, ap, subst, mul_assoc, mul_right_comm, mul-pos, one-mul, lt_of_lt_of_le, le_of_lt, lit≤, pow_pos, shl_lt, pow_mono}
use Rattle.std.proofs.Math.Nat.{eq_of_mul-eq-mul_right}
use Rattle.std.specs.Float.{nan, inf, fin, binary64}
use Rattle.std.specs.Float.Ieee.{up, down, round, div, of_int}
use Rattle.std.specs.Float.Ieee.Fits.{down_pos}
use Rattle.std.specs.Float.Ieee.Exact.{HasValue, round_exact}
use Rattle.std.specs.Float.Ieee.Back.{round_whole}
use Rattle.integer.specs.definitions.Rounding.{near}
use Rattle.integer.proofs.laws.NearLaws.{near-whole}
use Rattle.model.specs.definitions.Models.{scale}
use Rattle.proposals.specs.definitions.Values.{scale_value, value_of, negative}
use Rattle.proposals.specs.definitions.Units.{signed, units_of}
use Rattle.proposals.proofs.laws.UnitsLaws.{signed_scaled, units_value}

-- the same number as another fraction
pub restated : (x : Float) (s : Bool) (a c b d : ℕ) → 0 < c → a * d ≡ b * c → HasValue x s a c → HasValue x s b d
restated nan s a c b d p h v = v
restated (inf t) s a c b d p h v = v
restated (fin t m e) s a c b d p h v = (
  v.0,
  eq_of_mul-eq-mul_right c p (m * up e * d) (b * down e)
      (mul_right_comm (m * up e) d c
      ∙ ap (λ (x : ℕ). x * d) v.1
      ∙ mul_right_comm a (down e) d
      ∙ ap (λ (x : ℕ). x * down e) h
      ∙ mul_right_comm b c (down e)),
)

spread : (n d p q : ℕ) → n * p * (1 * q * d) ≡ n * d * (p * q)
spread n d p q =
    ap (λ (x : ℕ). n * p * (x * d)) (one-mul q)
    ∙ sym (mul_assoc (n * p) q d)
    ∙ ap (λ (x : ℕ). x * d) (mul_assoc n p q)
    ∙ mul_right_comm n (p * q) d

-- a / d is n: a / (S·d) is n / S, exactly
quotient_exact : (t : Bool) (a d n : ℕ) → 0 < d → n < 2 ^ 53 → a * 1 ≡ n * d → HasValue (round binary64 t (a * 1) (1 * 2 ^ 20 * d)) t n (2 ^ 20)
quotient_exact t a d n p h e =
    let q : 0 < 1 * 2 ^ 20 * d = mul-pos (pow_pos 20) p in
    let i : 53 + 1054 ≤ 2098 = lit≤ tt in
    let fine : n * 2 ^ 1054 < 2 ^ 2098 = lt_of_lt_of_le (shl_lt 53 1054 h) (pow_mono i) in
    let exact : a * 1 * 2 ^ 1074 ≡ n * 2 ^ 1054 * (1 * 2 ^ 20 * d) = ap (λ (x : ℕ). x * 2 ^ 1074) e ∙ sym (spread n d (2 ^ 1054) (2 ^ 20)) in
    restated (round binary64 t (a * 1) (1 * 2 ^ 20 * d)) t (a * 1) (1 * 2 ^ 20 * d) n (2 ^ 20) q
    (ap (λ (x : ℕ). x * 2 ^ 20) e ∙ mul_right_comm n d (2 ^ 20) ∙ mul_assoc n (2 ^ 20) d ∙ ap (λ (x : ℕ). n * (x * d)) (sym (one-mul (2 ^ 20))))
    (round_exact binary64 t (a * 1) (1 * 2 ^ 20 * d) n 1054 q h fine exact)

-- x is n in size: x / S is n / S
over_scale : (x : Float) (s : Bool) (n : ℕ) → n < 2 ^ 53 → HasValue x s n 1 → HasValue (div binary64 x scale_value) s n (2 ^ 20)
unfolding div
over_scale nan s n h v = absurd v
over_scale (inf t) s n h v = absurd v
over_scale (fin true m e) s n h v =
    subst (λ (b : Bool). HasValue (div binary64 (fin true m e) scale_value) b n (2 ^ 20)) v.0 (quotient_exact true (m * up e) (down e) n (down_pos e) h v.1)
over_scale (fin false m e) s n h v =
    subst (λ (b : Bool). HasValue (div binary64 (fin false m e) scale_value) b n (2 ^ 20)) v.0 (quotient_exact false (m * up e) (down e) n (down_pos e) h v.1)

-- z units are z / S, exactly
pub value_exact : (z : ℤ) → nat_abs z < 2 ^ 53 → HasValue (value_of z) (negative z) (nat_abs z) (2 ^ 20)
unfolding value_of of_int
value_exact (pos n) h = over_scale (round binary64 false n 1) false n h (round_whole binary64 false n (le_of_lt h))
value_exact (negsuc n) h = over_scale (round binary64 true (suc n) 1) true (suc n) h (round_whole binary64 true (suc n) (le_of_lt h))

signed-whole : (z : ℤ) → signed (negative z) (nat_abs z) ≡ z
signed-whole (pos n) = refl
signed-whole (negsuc n) = refl

-- z units, as a value, are z units again
pub units_back : (z : ℤ) → nat_abs z < 2 ^ 53 → units_of (value_of z) ≡ z
units_back z h =
    units_value (value_of z) (negative z) (nat_abs z) (2 ^ 20) (pow_pos 20) (value_exact z h)
    ∙ ap (λ (y : ℤ). near y (2 ^ 20)) (sym (signed_scaled (negative z) (nat_abs z) scale) ∙ ap (λ (y : ℤ). y *ℤ pos scale) (signed-whole z))
    ∙ near-whole z (2 ^ 20) (pow_pos 20)
