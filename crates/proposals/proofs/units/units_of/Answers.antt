-- `units::units_of` meets its contract: by the field of the exponent, from the bits.
use mathlib.Core.Path.{◌≡◌, sym, ◌∙◌, ap, subst}
use mathlib.Core.Bool.{Bool}
use Prim.Native.Nat.{ℕ, ◌+◌, ◌-◌, ◌*◌, ◌/◌, ◌%◌, ◌^◌, ◌<◌, ◌≤◌}
use native.Mathlib.Nat.{mod-lt}
use native.Mathlib.Omega.{arith}
use lib.Dec.{T, leb}
use lib.Pow.{pow_pos, pow-lt}
use lib.IntN.{ℤ, pos, nat_abs}
use lib.Ieee.{binary64, fits, to_bits}
use mir.Syntax.{w32, w64}
use mir.Val.{SFits, to_z, of_z}
use mir.Facts.{to_z-of_z, to_z_pos}
use Rattle.integer.specs.definitions.Rounding.{near}
use Rattle.ring.specs.laws.Difference.{<_parts}
use Rattle.integer.proofs.laws.Machine.{abs-fits}
use Rattle.proposals.specs.definitions.Units.{signed}
use Rattle.proposals.proofs.laws.ValueLaws.{no_nan}
use Rattle.proposals.proofs.laws.UnitsLaws.{signed_size}
use Rattle.proposals.proofs.laws.BitsLaws.{shifted_one, between_size, units_none, units_large, units_shifted}
use Rattle.proposals.proofs.units.units_of.Goals as goal

-- what owning an f64 tells: the format holds it
held : (c : goal.Start) → T (fits binary64 c.args.x)
held c = subst T (sym c.well_formed.0.1) tt

pub returns-then-exponent-lt1002 : goal.returns-then-exponent-lt1002
returns-then-exponent-lt1002 c = let s = c.before in sym (units_none s.args.x (held s) s.requires (omega arith))

-- 2^29 with the sign
module _ (c : goal.After-signed) where
  abbrev z : ℤ
  z = c.signed.result

  z-size : nat_abs z ≡ 2 ^ 29
  z-size = rw c.signed.ensures (signed_size (leb (2 ^ 63) (to_bits binary64 c.args.x)) (2 ^ 29))

  z-64 : SFits w64 z
  z-64 = abs-fits w64 z (omega (arith, z-size))

  z-32 : SFits w32 z
  z-32 = abs-fits w32 z (omega (arith, z-size))

pub returns-then-exponent-ge1032 : goal.returns-then-exponent-ge1032
returns-then-exponent-ge1032 c =
    let s = c.before.before.before in
    rw (to_z-of_z (z-64 c), to_z-of_z (z-32 c)) (c.signed.ensures ∙ sym (units_large s.args.x (held s) s.requires (omega arith)))

-- the digits over 2^(1055 − k), k being the field of the exponent
module _ (c : goal.After-signed-2) where
  abbrev s : goal.Start
  s = c.before.before.before

  abbrev k : ℕ
  k = to_bits binary64 s.args.x / 4503599627370496 % 2048

  abbrev unit : ℕ
  unit = 2 ^ (1055 - k)

  unit-is : 1 * 2 ^ (1055 - k) % 2 ^ 64 ≡ unit
  unit-is = shifted_one (1055 - k) (omega arith)

  unit-lt : unit < 2 ^ 63
  unit-lt = let h : 1055 - k < 63 = omega arith in pow-lt h

  unit-signed : to_z w64 (1 * 2 ^ (1055 - k) % 2 ^ 64) ≡ pos unit
  unit-signed = rw unit-is (to_z_pos w64 unit-lt)

pub overflow_cast-unit-3 : goal.overflow_cast-unit-3
overflow_cast-unit-3 c = rw (unit-is c) (abs-fits w64 (pos (unit c)) (unit-lt c))

pub near-requires : goal.near-requires
near-requires c = rw (unit-signed c) ((<_parts (pos 0) (pos (unit c))).1 (omega (arith, pow_pos (1055 - k c))))

-- near the quotient
module _ (c : goal.After-near) where
  abbrev a : goal.After-signed-2
  a = c.before

  abbrev d : ℕ
  d = 2 ^ 52 + to_bits binary64 (s a).args.x % 2 ^ 52

  abbrev negative : Bool
  negative = leb (2 ^ 63) (to_bits binary64 (s a).args.x)

  abbrev y : ℤ
  y = c.near.result

  d-64 : SFits w64 (signed negative d)
  d-64 = abs-fits w64 (signed negative d) (rw (signed_size negative d) (omega (arith, mod-lt (to_bits binary64 (s a).args.x) (pow_pos 52))))

  y-is : y ≡ near (signed negative d) (unit a)
  y-is =
      let e : to_z w64 (of_z w64 a.signed-2.result) ≡ signed negative d = ap (λ (v : ℤ). to_z w64 (of_z w64 v)) a.signed-2.ensures ∙ to_z-of_z d-64 in
      c.near.ensures ∙ rw (e, unit-signed a)

  y-size : nat_abs y ≤ 2 ^ 29
  y-size = rw y-is (between_size negative (k a) (to_bits binary64 (s a).args.x % 2 ^ 52) (mod-lt (to_bits binary64 (s a).args.x) (pow_pos 52)) (omega arith))

  y-64 : SFits w64 y
  y-64 = abs-fits w64 y (omega (arith, y-size))

  y-32 : SFits w32 y
  y-32 = abs-fits w32 y (omega (arith, y-size))

pub returns : goal.returns
returns c =
    let i = s (a c) in
    rw (to_z-of_z (y-64 c), to_z-of_z (y-32 c)) (y-is c ∙ sym (units_shifted i.args.x (held i) i.requires (omega arith) (omega arith)))

pub float_to_bits-bits : goal.float_to_bits-bits
float_to_bits-bits c = no_nan c.args.x c.requires

pub overflow_cast-result-2 : goal.overflow_cast-result-2
overflow_cast-result-2 c = rw (to_z-of_z (y-64 c)) (y-32 c)
