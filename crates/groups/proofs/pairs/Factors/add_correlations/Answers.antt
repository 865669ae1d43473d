-- `pairs::Factors::add_correlations` meets its contract: a turn is that of the walk (CorrelationWalk.antt).
use Rattle.std.proofs.Common.{rules}
use Prim.Native.Nat.{◌+◌}
use native.Mathlib.Omega.{arith}
use lib.IntN.{pos}
use lib.ListN.{get_or}
use mir.Syntax.{w32}
use mir.Val.{SFits}
use mir.Facts.{to_z-of_z}
use Rattle.groups.proofs.CorrelationWalk.{correlation_none, correlation_below, correlation_turn, correlation_ends, correlation_last}
use Rattle.groups.proofs.pairs.Factors.add_correlations.Goals as goal

-- b ends before place k
pub returns-then-b-k : goal.returns-then-b-k
returns-then-b-k c = correlation_none c.args.self.a.now c.args.self.b.now c.args.k c.args.sums (omega arith)

pub multiply_add-total-requires : goal.multiply_add-total-requires
multiply_add-total-requires c = let f = c.args.self in correlation_below f.a.now f.b.now c.loop-i.invariant c.requires f.small

pub multiply_add-requires : goal.multiply_add-requires
multiply_add-requires c = let f = c.args.self in correlation_below f.a.now f.b.now c.loop-i.invariant c.requires f.small

pub loop-i-preserved : goal.loop-i-preserved
loop-i-preserved c =
    let a = c.args.self.a.now in
    let b = c.args.self.b.now in
    let i = c.loop-i.i in
    let fits-x : SFits w32 (get_or a i (pos 0)) = search rules in
    let fits-y : SFits w32 (get_or b (c.args.k + i) (pos 0)) = search rules in
    let fits-z : SFits w32 (get_or b (c.args.k + i + 1) (pos 0)) = search rules in
    correlation_turn a b c.loop-i.invariant c.multiply_add-total.result (omega (arith, c.min-end.ensures)) (omega (arith, c.min-end.ensures))
    (simp (to_z-of_z fits-x, to_z-of_z fits-y, to_z-of_z fits-z) at c.multiply_add-total.ensures)

-- where b ends before a, the loop stopped at `end`
pub returns-then-end-a : goal.returns-then-end-a
returns-then-end-a c =
    let a = c.args.self.a.now in
    let b = c.args.self.b.now in
    let e = c.min-end.result in
    let fits-x : SFits w32 (get_or a e (pos 0)) = search rules in
    let fits-y : SFits w32 (get_or b (c.args.k + e) (pos 0)) = search rules in
    correlation_last a b c.loop-i.invariant c.multiply_add.result e (omega arith) (omega (arith, c.min-end.ensures)) (omega arith)
    (simp (to_z-of_z fits-x, to_z-of_z fits-y) at c.multiply_add.ensures)

pub returns : goal.returns
returns c = correlation_ends c.args.self.a.now c.args.self.b.now c.loop-i.invariant (omega (arith, c.min-end.ensures))
