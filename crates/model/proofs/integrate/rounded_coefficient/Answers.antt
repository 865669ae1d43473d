-- `integrate::rounded_coefficient` meets its contract: the numerator is below 2^60.
use mathlib.Core.Path.{◌≡◌, ◌∙◌}
use Prim.Native.Nat.{◌*◌, ◌^◌, ◌≤◌}
use native.Mathlib.Omega.{arith}
use lib.IntN.{ℤ, pos, nat_abs, ◌-ℤ◌, ◌*ℤ◌}
use mir.Syntax.{w64}
use mir.Val.{SFits, to_z}
use mir.Facts.{to_z-of_z, to_z_pos}
use Rattle.integer.proofs.laws.Machine.{abs-fits}
use Rattle.ring.specs.laws.Parts.{abs-sub, mul_within}
use Rattle.model.specs.definitions.Models.{scale}
use Rattle.model.proofs.integrate.rounded_coefficient.Goals as goal

module _ (s : goal.Start) where
  abbrev difference : ℤ
  difference = s.args.below -ℤ s.args.above

  difference-size : nat_abs difference ≤ 2 ^ 30
  difference-size = omega (arith, abs-sub s.args.below s.args.above, s.requires)

  fits-difference : SFits w64 difference
  fits-difference = abs-fits w64 difference (omega (arith, difference-size))

  fits-numerator : SFits w64 (difference *ℤ pos s.args.extent)
  fits-numerator =
      abs-fits w64 (difference *ℤ pos s.args.extent)
      (omega (arith, mul_within (2 ^ 30) (2 ^ 29) difference (pos s.args.extent) difference-size s.requires.extent-fits))

  fits-divisor : SFits w64 (pos (4 * scale * s.args.k))
  fits-divisor = abs-fits w64 (pos (4 * scale * s.args.k)) (omega (arith, s.requires))

  extent_is : to_z w64 s.args.extent ≡ pos s.args.extent
  extent_is = to_z_pos w64 (omega (arith, s.requires))

  k-is : to_z w64 s.args.k ≡ pos s.args.k
  k-is = to_z_pos w64 (omega (arith, s.requires))

pub returns : goal.returns
returns c =
    let s = c.before in
    let fits : SFits w64 c.near.result = record { sfits = c.near.type_inv } in
    to_z-of_z fits
    ∙ (simp (to_z-of_z s.ranges.below, to_z-of_z s.ranges.above, to_z-of_z (fits-difference s), extent_is s, k-is s, to_z-of_z (fits-numerator s), to_z-of_z (fits-divisor s)) at c.near.ensures)

pub overflow_mul-below : goal.overflow_mul-below
overflow_mul-below s = simp (to_z-of_z s.ranges.below, to_z-of_z s.ranges.above, to_z-of_z (fits-difference s), extent_is s) (fits-numerator s)
