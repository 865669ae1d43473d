-- Units (Units.antt): the nearest whole number to the exact value times S, whichever fraction the value is written as; signs and
-- sizes; and that sizes cut at 2^29 tell whether a weight is above 2^28.
use Rattle.std.specs.Prelude.{◌≡◌, refl, Bool, true, false, List, [], ◌∷◌, map, ℕ, zero, suc, ◌*◌, ◌^◌, ◌≤◌, ◌<◌, min, T, ℤ, pos, negsuc, neg_ℤ, nat_abs, ◌-ℤ◌, ◌*ℤ◌, Float}
use Rattle.std.proofs.Common.{sym, ◌∙◌, ap, mul_right_comm, arith}
use Rattle.std.specs.Float.{nan, inf, fin}
use Rattle.std.specs.Float.Ieee.{up, down}
use Rattle.std.specs.Float.Ieee.Fits.{down_pos}
use Rattle.std.specs.Float.Ieee.Exact.{HasValue}
use Rattle.std.specs.Float.Ieee.Positive.{num, den, den_pos}
use Rattle.std.specs.Float.Ieee.Scale.{finite}
use Rattle.integer.specs.definitions.Rounding.{near, parity}
use Rattle.ring.specs.laws.Difference.{differences}
use Rattle.integer.proofs.laws.RoundingLaws.{near_error, near_even, near_unique, near_opposite}
use Rattle.integer.proofs.laws.NearLaws.{near_same, near_natural}
use Rattle.chebyshev.specs.definitions.Coefficients.{weight}
use Rattle.model.specs.definitions.Models.{scale}
use Rattle.proposals.specs.definitions.Units.{signed, units_of, sign_of}
use Rattle.proposals.specs.definitions.InnerContracts.{limited, limited_units}

-- ---- signs

minus_scaled : (n k : ℕ) → neg_ℤ (pos n) *ℤ pos k ≡ neg_ℤ (pos (n * k))
minus_scaled zero k = simp differences (omega arith)
minus_scaled (suc n) k = simp differences (omega arith)

pub signed_scaled : (s : Bool) (n k : ℕ) → signed s n *ℤ pos k ≡ signed s (n * k)
signed_scaled true n k = minus_scaled n k
signed_scaled false n k = simp differences (omega arith)

pub signed_size : (s : Bool) (n : ℕ) → nat_abs (signed s n) ≡ n
signed_size true zero = refl
signed_size true (suc n) = refl
signed_size false n = refl

-- near keeps the sign
pub near-signed : (s : Bool) (n d : ℕ) → 0 < d → near (signed s n) d ≡ signed s (nat_abs (near (pos n) d))
near-signed true n d p = near_opposite (pos n) d p ∙ ap neg_ℤ (near_natural n d)
near-signed false n d p = near_natural n d

-- ---- a finite f64 that is ±a / l

scaled : (x a d c u : ℕ) → x * c ≡ a * d → x * u * c ≡ a * u * d
scaled x a d c u h = mul_right_comm x u c ∙ ap (λ (y : ℕ). y * u) h ∙ mul_right_comm a d u

pub units_value : (x : Float) (s : Bool) (a l : ℕ) → 0 < l → HasValue x s a l → units_of x ≡ near (signed s (a * scale)) l
unfolding units_of
units_value nan s a l p v = absurd v
units_value (inf t) s a l p v = absurd v
units_value (fin t m e) s a l p v =
    ap (λ (b : Bool). near (signed b (m * up e * scale)) (down e)) v.0
    ∙ near_same (signed s (m * up e * scale)) (signed s (a * scale)) (down e) l (down_pos e) p
    (signed_scaled s (m * up e * scale) l ∙ ap (signed s) (scaled (m * up e) a (down e) l scale v.1) ∙ sym (signed_scaled s (a * scale) (down e)))

-- "nearest whole number to value times S": |2(units·l − ±a·S)| ≤ l
pub units_nearest : (x : Float) (s : Bool) (a l : ℕ) → 0 < l → HasValue x s a l → 2 * nat_abs (units_of x *ℤ pos l -ℤ signed s (a * scale)) ≤ l
units_nearest x s a l p v = rw (units_value x s a l p v) (near_error (signed s (a * scale)) l p)

-- "ties to even"
pub units_even : (x : Float) (s : Bool) (a l : ℕ) → 0 < l → HasValue x s a l → 2 * nat_abs (units_of x *ℤ pos l -ℤ signed s (a * scale)) ≡ l → parity (units_of x) ≡ 0
units_even x s a l p v t =
    let e : units_of x ≡ near (signed s (a * scale)) l = units_value x s a l p v in
    rw e (near_even (signed s (a * scale)) l p (rw e at t))

-- and no other number is nearest, and even at a tie
pub units_unique : (x : Float) (s : Bool) (a l : ℕ) (c : ℤ) → 0 < l → HasValue x s a l → 2 * nat_abs (c *ℤ pos l -ℤ signed s (a * scale)) ≤ l
    → (2 * nat_abs (c *ℤ pos l -ℤ signed s (a * scale)) ≡ l → parity c ≡ 0) → c ≡ units_of x
units_unique x s a l c p v h t = near_unique (signed s (a * scale)) c l p h t ∙ sym (units_value x s a l p v)

-- ---- any finite f64, by itself: it is ±num x / den x

finite_value : (x : Float) → T (finite x) → HasValue x (sign_of x) (num x) (den x)
finite_value nan h = absurd h
finite_value (inf s) h = absurd h
finite_value (fin s m e) h = (refl, refl)

module _ (x : Float) (h : T (finite x)) where
  pub units_of_finite_nearest : 2 * nat_abs (units_of x *ℤ pos (den x) -ℤ signed (sign_of x) (num x * scale)) ≤ den x
  units_of_finite_nearest = units_nearest x (sign_of x) (num x) (den x) (den_pos x) (finite_value x h)

  pub units_of_finite_even : 2 * nat_abs (units_of x *ℤ pos (den x) -ℤ signed (sign_of x) (num x * scale)) ≡ den x → parity (units_of x) ≡ 0
  units_of_finite_even = units_even x (sign_of x) (num x) (den x) (den_pos x) (finite_value x h)

  pub units_of_finite_unique : (c : ℤ) → 2 * nat_abs (c *ℤ pos (den x) -ℤ signed (sign_of x) (num x * scale)) ≤ den x
      → (2 * nat_abs (c *ℤ pos (den x) -ℤ signed (sign_of x) (num x * scale)) ≡ den x → parity c ≡ 0) → c ≡ units_of x
  units_of_finite_unique c = units_unique x (sign_of x) (num x) (den x) c (den_pos x) (finite_value x h)

-- ---- sizes cut at 2^29

pub limited_size : (z : ℤ) → nat_abs (limited z) ≡ min (nat_abs z) (2 ^ 29)
limited_size (pos n) = refl
limited_size (negsuc n) = omega arith

pub limited_same : (z : ℤ) → nat_abs z ≤ 2 ^ 29 → limited z ≡ z
limited_same (pos n) h = ap pos (omega arith)
limited_same (negsuc n) h = ap negsuc (omega arith)

pub limited_large : (s : Bool) (n : ℕ) → 2 ^ 29 ≤ n → limited (signed s n) ≡ signed s (2 ^ 29)
limited_large true zero h = absurd (omega arith)
limited_large true (suc n) h = ap negsuc (omega arith)
limited_large false n h = ap pos (omega arith)

units_limited : (x : Float) → nat_abs (limited_units x) ≡ min (nat_abs (units_of x)) (2 ^ 29)
unfolding limited_units
units_limited x = limited_size (units_of x)

weight_at_least : (v : List Float) → min (weight (map units_of v)) (2 ^ 29) ≤ weight (map limited_units v)
unfolding weight
weight_at_least [] = omega arith
weight_at_least (x ∷ v) = omega (arith, weight_at_least v, units_limited x)

weight_at_most : (v : List Float) → weight (map limited_units v) ≤ weight (map units_of v)
unfolding weight
weight_at_most [] = omega arith
weight_at_most (x ∷ v) = omega (arith, weight_at_most v, units_limited x)

pub limited_list : (v : List Float) → weight (map units_of v) ≤ 2 ^ 28 → map limited_units v ≡ map units_of v
unfolding weight limited_units
limited_list [] h = refl
limited_list (x ∷ v) h =
    let a : nat_abs (units_of x) ≤ 2 ^ 29 = omega arith in
    rw (limited_same (units_of x) a, limited_list v (omega arith))

-- the weight that code sees, t, is above 2^28 exactly where the weight in units is
pub weight_over : (v : List Float) (t : ℕ) → t ≡ weight (map limited_units v) → 2 ^ 28 < t → 2 ^ 28 < weight (map units_of v)
weight_over v t e h = omega (arith, weight_at_most v)

pub weight_within : (v : List Float) (t : ℕ) → t ≡ weight (map limited_units v) → t ≤ 2 ^ 28 → weight (map units_of v) ≤ 2 ^ 28
weight_within v t e h = omega (arith, weight_at_least v)
