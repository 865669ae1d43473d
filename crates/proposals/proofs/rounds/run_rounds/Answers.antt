-- `rounds::run_rounds` meets its contract. The rounds that are left, from the record as it is, give what 12 rounds give.
use mathlib.Core.Path.{◌≡◌, sym, ◌∙◌, ap}
use Prim.Native.Nat.{◌+◌, ◌-◌}
use native.Mathlib.Omega.{arith}
use mathlib.Core.Bool.{Bool, true, false}
use lib.Ieee.{Float, binary64, of_bits, le}
use Rattle.proposals.specs.definitions.Values.{settled_limit}
use Rattle.proposals.specs.definitions.Rounds.{rounds, round_of, found_finite}
use Rattle.proposals.proofs.laws.ValueLaws.{nought_is, limit_is}
use Rattle.proposals.proofs.laws.RoundsLaws.{round_not_finite, round_settled, round_again, rounds_end}
use Rattle.proposals.proofs.rounds.run_rounds.Goals as goal

-- 2^-24 stands by its bits
limited : (d : Float) (b : Bool) → le d (of_bits binary64 0x3e70_0000_0000_0000) ≡ b → le d settled_limit ≡ b
limited d b e = rw limit_is at e

pub loop-init : goal.loop-init
loop-init c = ap (λ (x : Float). rounds 12 c.args.g (round_of c.args.w x)) nought_is

pub returns-then-not-is_finite_round : goal.returns-then-not-is_finite_round
returns-then-not-is_finite_round c =
    let l = c.loop in
    let s = c.next_round-round.result in
    let f = sym c.is_finite_round.ensures ∙ c.if-not-is_finite_round.true in
    ap found_finite (sym (round_not_finite c.args.g l.round s (12 - l.counter) (12 - (l.counter + 1)) c.next_round-round.ensures (omega arith) f) ∙ l.invariant)

pub returns-then-change : goal.returns-then-change
returns-then-change c =
    let l = c.loop in
    let s = c.next_round-round.result in
    let f = sym c.is_finite_round.ensures ∙ c.if-not-is_finite_round.false in
    ap found_finite
    (sym (round_settled c.args.g l.round s (12 - l.counter) (12 - (l.counter + 1)) c.next_round-round.ensures (omega arith) f (limited s.change true c.if-change.true)) ∙ l.invariant)

pub loop-preserved : goal.loop-preserved
loop-preserved c =
    let l = c.loop in
    let s = c.next_round-round.result in
    let f = sym c.is_finite_round.ensures ∙ c.if-not-is_finite_round.false in
    sym (round_again c.args.g l.round s (12 - l.counter) (12 - (l.counter + 1)) c.next_round-round.ensures (omega arith) f (limited s.change false c.if-change.false)) ∙ l.invariant

pub returns : goal.returns
returns c =
    let l = c.loop in
    ap found_finite (sym (rounds_end c.args.g l.round (12 - l.counter) (omega arith)) ∙ l.invariant)
