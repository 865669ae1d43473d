-- `rounding::floor` meets its contract: the truncated quotient, less one where the remainder is negative.
use Prim.Native.Nat.{◌<◌}
use native.Mathlib.Omega.{arith}
use lib.IntN.{pos, nat_abs}
use mir.Facts.{to_z-of_z}
use Rattle.ring.specs.laws.Parts.{◌⁻, apart, lt_yes, lt_no}
use Rattle.integer.proofs.Division.{Operands, q, r, t, asks, q_is, r_is, q_down_fits, floor_down, floor_at}
use Rattle.integer.proofs.rounding.floor.Goals as goal

abbrev operands : goal.Start → Operands
operands s = record { n = s.args.n; d = s.args.d; fits_n = s.ranges.n; fits_d = s.ranges.d; positive = s.requires }

module _ (c : goal.Then-r-lt0) where
  abbrev o : Operands
  o = operands c.before

  negative : 0 < r o ⁻
  negative = omega (arith, lt_yes (r o) (pos 0) (rw (r_is o) at c.if-r-lt0.true))

pub returns-then-r-lt0 : goal.returns-then-r-lt0
returns-then-r-lt0 c =
    let o = o c in
    rw (q_is o, to_z-of_z (q_down_fits o (negative c))) (floor_down o.n (nat_abs o.d) (q o) (r o) (t o) (negative c))

pub returns-else-r-lt0 : goal.returns-else-r-lt0
returns-else-r-lt0 c =
    let o = operands c.before in
    rw (q_is o) (floor_at o.n (nat_abs o.d) (q o) (r o) (t o) (omega (arith, apart (r o), lt_no (r o) (pos 0) (rw (r_is o) at c.if-r-lt0.false))))

pub nonzero_div-q : goal.nonzero_div-q
nonzero_div-q s = asks (operands s)

pub nonzero_rem-r : goal.nonzero_rem-r
nonzero_rem-r s = asks (operands s)

pub overflow_sub-result : goal.overflow_sub-result
overflow_sub-result c = rw (q_is (o c)) (q_down_fits (o c) (negative c))
