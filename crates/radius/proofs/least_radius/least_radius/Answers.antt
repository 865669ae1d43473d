-- `least_radius::least_radius` meets its contract.
use mathlib.Core.Path.{sym, ◌∙◌}
use Prim.Native.Nat.{ℕ, ◌+◌, ◌*◌, ◌-◌, ◌/◌, ◌≤◌, ◌<◌}
use native.Mathlib.Omega.{arith}
use native.Mathlib.Nat.{mul-le-mul_left}
use Rattle.model.specs.definitions.Models.{scale}
use Rattle.radius.proofs.laws.LeastLaws.{test_holds, test_fails}
use Rattle.radius.proofs.laws.SearchLaws.{large_displacement, no_displacement, next_found, next_missing, scale_missing, quotient_below, quotient_beyond}
use Rattle.radius.proofs.least_radius.least_radius.Goals as goal

pub returns-then-b-gt-SCALE : goal.returns-then-b-gt-SCALE
returns-then-b-gt-SCALE c = sym (large_displacement c.args.weight c.args.m c.args.b (omega arith))

pub returns-then-b-eq0 : goal.returns-then-b-eq0
returns-then-b-eq0 c = sym (no_displacement c.args.weight c.args.m c.args.b (omega arith))

abbrev v_of : ℕ → ℕ → ℕ
v_of M m = (scale - m) * scale / (4 * M)

at_scale : (M m : ℕ) → 0 < M → scale ≤ v_of M m → 4 * M * scale ≤ (scale - m) * scale
at_scale M m g h = omega (arith, quotient_below M ((scale - m) * scale) g, mul-le-mul_left (4 * M) h)

pub returns-then-satisfies-2 : goal.returns-then-satisfies-2
returns-then-satisfies-2 c =
    let a = c.args in
    let v = v_of a.weight a.m in
    sym (next_found a.weight a.m a.b v (quotient_below a.weight ((scale - a.m) * scale) c.requires.0)
    (test_fails a.weight a.m a.b v (sym c.satisfies.ensures ∙ c.if-satisfies.false)) c.if-v-lt-SCALE.true
    (test_holds a.weight a.m a.b (v + 1) (sym c.satisfies-then-v-lt-SCALE.ensures ∙ c.if-satisfies-2.true)))

pub returns-then-v-lt-SCALE : goal.returns-then-v-lt-SCALE
returns-then-v-lt-SCALE c =
    let a = c.args in
    let v = v_of a.weight a.m in
    let of_gap = (scale - a.m) * scale in
    sym (next_missing a.weight a.m a.b v (quotient_below a.weight of_gap c.requires.0) (quotient_beyond a.weight of_gap c.requires.0)
    (test_fails a.weight a.m a.b v (sym c.satisfies.ensures ∙ c.if-satisfies.false))
    (test_fails a.weight a.m a.b (v + 1) (sym c.satisfies-then-v-lt-SCALE.ensures ∙ c.if-satisfies-2.false)))

pub returns : goal.returns
returns c =
    let a = c.args in
    sym (scale_missing a.weight a.m a.b (at_scale a.weight a.m c.requires.0 c.if-v-lt-SCALE.false)
    (test_fails a.weight a.m a.b scale (sym c.satisfies-2.ensures ∙ c.if-satisfies-3.false)))
