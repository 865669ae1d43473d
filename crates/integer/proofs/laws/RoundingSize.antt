-- A rounded quotient is no larger than its numerator: |floor(n/d)| ≤ |n|, |up(n/d)| ≤ |n|, and |near(n/d)| ≤ |n| where 2 ≤ d.
use Rattle.std.specs.Prelude.{ℕ, ◌≤◌, ℤ, pos, negsuc, neg_ℤ, nat_abs, ◌-ℤ◌, ◌*ℤ◌}
use Rattle.std.proofs.Common.{arith, div-le_self, mul-le-mul_left}
use Rattle.ring.specs.laws.Parts.{abs, apart, difference, abs_neg, abs-mul}
use Rattle.integer.specs.definitions.Rounding.{floor, up, near}
use Rattle.integer.proofs.laws.RoundingLaws.{near_closer}

pub floor_size : (n : ℤ) (d : ℕ) → nat_abs (floor n d) ≤ nat_abs n
unfolding floor
floor_size (pos a) d = div-le_self a d
floor_size (negsuc a) d = omega (arith, div-le_self a d)

pub up_size : (n : ℤ) (d : ℕ) → nat_abs (up n d) ≤ nat_abs n
unfolding up
up_size n d = omega (arith, abs_neg (floor (neg_ℤ n) d), floor_size (neg_ℤ n) d, abs_neg n)

-- |c d| ≤ |c d − n| + |n| ≤ 2·|n|
pub near_size : (n : ℤ) (d : ℕ) → 2 ≤ d → nat_abs (near n d) ≤ nat_abs n
near_size n d h =
    let c = near n d in
    let m = c *ℤ pos d in
    omega (
      arith,
      near_closer n d (omega arith),
      difference m n,
      abs m,
      abs n,
      abs (m -ℤ n),
      apart m,
      abs-mul c (pos d),
      mul-le-mul_left (nat_abs c) h,
    )
