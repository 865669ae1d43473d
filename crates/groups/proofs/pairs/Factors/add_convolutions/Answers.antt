-- `pairs::Factors::add_convolutions` meets its contract: a turn is that of the walk (ConvolutionWalk.antt).
use Rattle.std.proofs.Common.{rules}
use Prim.Native.Nat.{◌+◌, ◌-◌}
use native.Mathlib.Omega.{arith}
use lib.IntN.{pos}
use lib.ListN.{get_or}
use mir.Syntax.{w32}
use mir.Val.{SFits}
use mir.Facts.{to_z-of_z}
use Rattle.groups.proofs.ConvolutionWalk.{convolution_below, convolution_turn, convolution_ends, convolution_last}
use Rattle.groups.proofs.pairs.Factors.add_convolutions.Goals as goal

pub multiply_add-total-requires : goal.multiply_add-total-requires
multiply_add-total-requires c = let f = c.args.self in convolution_below f.a.now f.b.now c.loop-i.invariant c.requires.below f.small

pub multiply_add-requires : goal.multiply_add-requires
multiply_add-requires c = let f = c.args.self in convolution_below f.a.now f.b.now c.loop-i.invariant c.requires.below f.small

pub loop-i-preserved : goal.loop-i-preserved
loop-i-preserved c =
    let a = c.args.self.a.now in
    let b = c.args.self.b.now in
    let i = c.loop-i.i in
    let fits-x : SFits w32 (get_or a i (pos 0)) = search rules in
    let fits-y : SFits w32 (get_or b (c.args.k - i) (pos 0)) = search rules in
    let fits-z : SFits w32 (get_or b (c.args.k + 1 - i) (pos 0)) = search rules in
    convolution_turn a b c.loop-i.invariant c.multiply_add-total.result (omega (arith, c.min-end.ensures)) (omega (arith, c.min-end.ensures))
    (simp (to_z-of_z fits-x, to_z-of_z fits-y, to_z-of_z fits-z) at c.multiply_add-total.ensures)

pub returns-then-k-a : goal.returns-then-k-a
returns-then-k-a c =
    let a = c.args.self.a.now in
    let b = c.args.self.b.now in
    let fits-x : SFits w32 (get_or a (c.args.k + 1) (pos 0)) = search rules in
    let fits-z : SFits w32 (get_or b 0 (pos 0)) = search rules in
    convolution_last a b c.loop-i.invariant c.multiply_add.result (omega (arith, c.min-end.ensures)) (omega arith)
    (simp (to_z-of_z fits-x, to_z-of_z fits-z) at c.multiply_add.ensures)

pub returns : goal.returns
returns c = convolution_ends c.args.self.a.now c.args.self.b.now c.loop-i.invariant (omega (arith, c.min-end.ensures))
