-- `measure::weigh` meets its contract.
use Rattle.std.proofs.Common.{rules, arith, ◌≡◌, ◌+◌, get_or, drop, nat_abs, pos, w64, FitsSigned}
use mir.Facts.{to_z-of_z}
use Rattle.chebyshev.specs.definitions.Coefficients.{weight}
use Rattle.chebyshev.proofs.laws.Weight.{weight_step, weight_end}
use Rattle.model.proofs.measure.weigh.Goals as goal

-- what a turn adds
turn : (c : goal.After-unsigned_abs-total) → weight (drop c.loop-x.x-index c.args.c.now) ≡ c.unsigned_abs-total.result + weight (drop (c.loop-x.x-index + 1) c.args.c.now)
turn c =
    let fits : FitsSigned w64 (get_or c.args.c.now c.loop-x.x-index (pos 0)) = search rules in
    let e : c.unsigned_abs-total.result ≡ nat_abs (get_or c.args.c.now c.loop-x.x-index (pos 0)) = simp (to_z-of_z fits) at c.unsigned_abs-total.ensures.value in
    omega (arith, weight_step c.args.c.now c.loop-x.x-index (omega arith))

pub overflow_add-total : goal.overflow_add-total
overflow_add-total c = omega (arith, turn c, c.requires)

pub loop-x-preserved : goal.loop-x-preserved
loop-x-preserved c = omega (arith, turn c)

pub returns : goal.returns
returns c = omega (arith, weight_end c.args.c.now c.loop-x.x-index (omega arith))
