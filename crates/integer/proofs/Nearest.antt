-- What near compares: c = floor(n/d) and what it leaves, x, as the calls give them; in 64 bits.
use mathlib.Core.Path.{◌≡◌, sym, ◌∙◌, ap, subst}
use mathlib.Core.Bool.{true, false}
use Prim.Native.Nat.{ℕ, ◌+◌, ◌*◌, ◌≤◌, ◌<◌}
use native.Mathlib.Omega.{arith}
use native.Mathlib.Nat.{mul-le-mul_left}
use lib.IntN.{ℤ, pos, negsuc, nat_abs, ◌+ℤ◌, ◌-ℤ◌, ◌*ℤ◌}
use lib.Signed.{◌≤ℤ◌, lt_z}
use mir.Syntax.{w64}
use mir.Val.{SFits}
use Rattle.ring.specs.laws.Parts.{◌⁺, ◌⁻, abs, apart, sum, difference, product, lt_yes, lt_no}
use Rattle.ring.specs.laws.Difference.{≤_parts}
use Rattle.integer.proofs.laws.Machine.{fits, within, is_positive}
use Rattle.integer.specs.definitions.Rounding.{floor, parity}
use Rattle.integer.proofs.laws.RoundingLaws.{floor-le, floor_rest, parity_small}
use Rattle.integer.proofs.Division.{Operands, divisor}

pub record FloorAndRest (o : Operands) : Type 0 where
  pub c : ℤ
  pub x : ℤ
  pub fits_c : SFits w64 c
  pub c_is : c ≡ floor o.n (nat_abs o.d)
  pub x_is : x ≡ o.n -ℤ floor o.n (nat_abs o.d) *ℤ o.d

module _ (o : Operands) (l : FloorAndRest o) where
  open o use {n, d, fits_n, fits_d}
  open l use {c, x}

  abbrev odd : ℕ
  odd = parity c

  positive : 0 < d ⁺
  positive = is_positive d o.positive

  at_least_one : 0 < nat_abs d
  at_least_one = omega (arith, positive, abs d)

  pub x_left : x ≡ n -ℤ floor n (nat_abs d) *ℤ pos (nat_abs d)
  x_left = l.x_is ∙ ap (λ z. n -ℤ floor n (nat_abs d) *ℤ z) (divisor o)

  small : (x ⁻ ≡ 0) × (x ⁺ < nat_abs d)
  small = subst (λ z. (z ⁻ ≡ 0) × (z ⁺ < nat_abs d)) (sym x_left) (floor_rest n (nat_abs d) at_least_one)

  pub missing_fits : SFits w64 (d -ℤ x)
  missing_fits =
      let z = d -ℤ x in
      fits w64 z (omega (arith, small, difference d x, within w64 d fits_d)) (omega (arith, small, difference d x, positive, abs d, apart d, apart z))

  pub sum_fits : SFits w64 (x +ℤ pos odd)
  sum_fits =
      let z = x +ℤ pos odd in
      fits w64 z (omega (arith, small, parity_small c, sum x (pos odd), positive, abs d, apart d, within w64 d fits_d))
      (omega (arith, small, sum x (pos odd)))

  -- the test: d − x < x + (1 if c is odd)
  pub passes : lt_z (d -ℤ x) (x +ℤ pos odd) ≡ true → nat_abs d < 2 * nat_abs x + odd
  passes e = omega (arith, lt_yes (d -ℤ x) (x +ℤ pos odd) e, difference d x, sum x (pos odd), abs x, abs d, positive, apart d, small)

  pub passes_not : lt_z (d -ℤ x) (x +ℤ pos odd) ≡ false → 2 * nat_abs x + odd ≤ nat_abs d
  passes_not e = omega (arith, lt_no (d -ℤ x) (x +ℤ pos odd) e, difference d x, sum x (pos odd), abs x, abs d, positive, apart d, small)

  -- c·d ≤ n, and d ≥ 2 where something is left
  pub next_fits : nat_abs d < 2 * nat_abs x + odd → SFits w64 (c +ℤ pos 1)
  next_fits h = go c l.fits_c (rw (sym l.c_is) at (floor-le n (nat_abs d) at_least_one))
    where
      two : 2 ≤ nat_abs d
      two = omega (arith, h, small, abs x, parity_small c)

      go : (c : ℤ) → SFits w64 c → (c *ℤ pos (nat_abs d)) ≤ℤ n → SFits w64 (c +ℤ pos 1)
      go (pos k) f e =
          fits w64 (pos k +ℤ pos 1)
          (omega (arith, mul-le-mul_left k two, (≤_parts (pos k *ℤ pos (nat_abs d)) n).0 e, product (pos k) (pos (nat_abs d)), within w64 n fits_n))
          (omega arith)
      go (negsuc k) f e =
          let z = negsuc k +ℤ pos 1 in
          fits w64 z (omega (arith, sum (negsuc k) (pos 1), apart z)) (omega (arith, sum (negsuc k) (pos 1), within w64 (negsuc k) f))
