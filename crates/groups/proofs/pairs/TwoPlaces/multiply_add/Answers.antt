-- `pairs::TwoPlaces::multiply_add` meets its contract: a sum below 2^62 and a product of two 32-bit numbers fit 64 bits.
use Rattle.std.proofs.Common.{rules}
use mathlib.Core.Path.{◌≡◌}
use Prim.Native.Nat.{◌*◌, ◌≤◌, ◌<◌, ◌^◌}
use native.Mathlib.Omega.{arith}
use lib.IntN.{ℤ, nat_abs, ◌+ℤ◌, ◌*ℤ◌}
use mir.Syntax.{w32, w64}
use mir.Val.{SFits, to_z, of_z}
use mir.Facts.{to_z-of_z}
use Rattle.ring.specs.laws.Parts.{abs, apart, abs-add, mul_within}
use Rattle.integer.proofs.laws.Machine.{within, abs-fits, fits_widens}
use Rattle.groups.proofs.pairs.TwoPlaces.multiply_add.Goals as goal

small : (z : ℤ) → SFits w32 z → nat_abs z ≤ 2 ^ 31
small z f = omega (arith, abs z, apart z, within w32 z f)

module _ {x y : ℤ} (fx : SFits w32 x) (fy : SFits w32 y) where
  product_small : nat_abs (x *ℤ y) ≤ 2 ^ 31 * 2 ^ 31
  product_small = mul_within (2 ^ 31) (2 ^ 31) x y (small x fx) (small y fy)

  fits-product : SFits w64 (x *ℤ y)
  fits-product = abs-fits w64 (x *ℤ y) (omega (arith, product_small))

  fits_sum : (s : ℤ) → nat_abs s < 2 ^ 62 → SFits w64 (s +ℤ x *ℤ y)
  fits_sum s h = abs-fits w64 (s +ℤ x *ℤ y) (omega (arith, product_small, abs-add s (x *ℤ y), h))

-- as the machine forms them
module _ (s x y : ℤ) (fs : SFits w64 s) (fx : SFits w32 x) (fy : SFits w32 y) (h : nat_abs s < 2 ^ 62) where
  abbrev raw : ℤ
  raw = to_z w64 (of_z w64 (to_z w32 (of_z w32 x))) *ℤ to_z w64 (of_z w64 (to_z w32 (of_z w32 y)))

  raw-sum : SFits w64 (to_z w64 (of_z w64 s) +ℤ to_z w64 (of_z w64 raw))
  raw-sum =
      simp (to_z-of_z fs, to_z-of_z fx, to_z-of_z fy, to_z-of_z (fits_widens fx), to_z-of_z (fits_widens fy), to_z-of_z (fits-product fx fy)) (fits_sum fx fy s h)

  sum_is : to_z w64 (of_z w64 (to_z w64 (of_z w64 s) +ℤ to_z w64 (of_z w64 raw))) ≡ s +ℤ x *ℤ y
  sum_is =
      simp
      (to_z-of_z fs, to_z-of_z fx, to_z-of_z fy, to_z-of_z (fits_widens fx), to_z-of_z (fits_widens fy), to_z-of_z (fits-product fx fy), to_z-of_z (fits_sum fx fy s h))

pub overflow_add-result : goal.overflow_add-result
overflow_add-result c =
    let first : SFits w64 c.args.self.first = search rules in
    raw-sum c.args.self.first c.args.x c.args.y first c.ranges.x c.ranges.y c.requires.0

pub overflow_add-result-2 : goal.overflow_add-result-2
overflow_add-result-2 c =
    let second : SFits w64 c.args.self.second = search rules in
    raw-sum c.args.self.second c.args.x c.args.z second c.ranges.x c.ranges.z c.requires.1

pub returns : goal.returns
returns c =
    let first : SFits w64 c.args.self.first = search rules in
    let second : SFits w64 c.args.self.second = search rules in (
      sum_is c.args.self.first c.args.x c.args.y first c.ranges.x c.ranges.y c.requires.0,
      sum_is c.args.self.second c.args.x c.args.z second c.ranges.x c.ranges.z c.requires.1,
    )
