-- `rounding::modulo` meets its contract: the remainder, and d more where it is negative.
use mathlib.Core.Path.{sym, ◌∙◌, ap}
use Prim.Native.Nat.{◌<◌}
use native.Mathlib.Omega.{arith}
use lib.IntN.{pos, nat_abs, ◌+ℤ◌, ◌-ℤ◌, ◌*ℤ◌}
use mir.Facts.{to_z-of_z}
use Rattle.integer.specs.definitions.Rounding.{floor}
use Rattle.ring.specs.laws.Parts.{◌⁻, apart, lt_yes, lt_no}
use Rattle.integer.proofs.Division.{Operands, q, r, t, asks, r_is, r_up_fits, divisor, rest_at, rest_down}
use Rattle.integer.proofs.rounding.modulo.Goals as goal

abbrev o : goal.Start → Operands
o s = record { n = s.args.n; d = s.args.d; fits_n = s.ranges.n; fits_d = s.ranges.d; positive = s.requires }

negative : (c : goal.Then-r-lt0) → 0 < r (o c.before) ⁻
negative c = omega (arith, lt_yes (r (o c.before)) (pos 0) (rw (r_is (o c.before)) at c.if-r-lt0.true))

pub returns-then-r-lt0 : goal.returns-then-r-lt0
returns-then-r-lt0 c =
    let o = o c.before in
    rw (r_is o, to_z-of_z o.fits_d, to_z-of_z (r_up_fits o (negative c)))
    (ap (λ z. r o +ℤ z) (divisor o)
    ∙ rest_down o.n (nat_abs o.d) (q o) (r o) (t o) (negative c)
    ∙ ap (λ z. o.n -ℤ floor o.n (nat_abs o.d) *ℤ z) (sym (divisor o)))

pub returns-else-r-lt0 : goal.returns-else-r-lt0
returns-else-r-lt0 c =
    let o = o c.before in
    rw (r_is o)
    (rest_at o.n (nat_abs o.d) (q o) (r o) (t o) (omega (arith, apart (r o), lt_no (r o) (pos 0) (rw (r_is o) at c.if-r-lt0.false)))
    ∙ ap (λ z. o.n -ℤ floor o.n (nat_abs o.d) *ℤ z) (sym (divisor o)))

pub nonzero_rem-r : goal.nonzero_rem-r
nonzero_rem-r s = asks (o s)

pub overflow_add-result : goal.overflow_add-result
overflow_add-result c = let o = o c.before in rw (r_is o, to_z-of_z o.fits_d) (r_up_fits o (negative c))
