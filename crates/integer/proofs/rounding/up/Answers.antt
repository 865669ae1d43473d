-- `rounding::up` meets its contract: the truncated quotient, plus one where the remainder is positive.
use Prim.Native.Nat.{◌<◌}
use native.Mathlib.Omega.{arith}
use lib.IntN.{pos, nat_abs}
use mir.Facts.{to_z-of_z}
use Rattle.ring.specs.laws.Parts.{◌⁺, apart, lt_yes, lt_no}
use Rattle.integer.proofs.Division.{Operands, q, r, t, q_is, r_is, q_up_fits, up_above, up_at}
use Rattle.integer.proofs.rounding.up.Goals as goal

pub returns-then-r-gt0 : goal.returns-then-r-gt0
returns-then-r-gt0 c =
    let o : Operands = record { n = c.args.n; d = c.args.d; fits_n = c.ranges.n; fits_d = c.ranges.d; positive = c.requires } in
    let above : 0 < r o ⁺ = omega (arith, lt_yes (pos 0) (r o) (rw (r_is o) at c.if-r-gt0.true)) in
    rw (q_is o, to_z-of_z (q_up_fits o above)) (up_above o.n (nat_abs o.d) (q o) (r o) (t o) above)

pub returns-else-r-gt0 : goal.returns-else-r-gt0
returns-else-r-gt0 c =
    let o : Operands = record { n = c.args.n; d = c.args.d; fits_n = c.ranges.n; fits_d = c.ranges.d; positive = c.requires } in
    rw (q_is o) (up_at o.n (nat_abs o.d) (q o) (r o) (t o) (omega (arith, apart (r o), lt_no (pos 0) (r o) (rw (r_is o) at c.if-r-gt0.false))))
