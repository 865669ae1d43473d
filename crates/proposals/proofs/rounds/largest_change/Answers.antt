-- `rounds::largest_change` meets its contract: the places that are left give the rest of the change.
use Rattle.std.proofs.Common.{rules}
use mathlib.Core.Path.{◌≡◌, sym, ◌∙◌, ap}
use native.Mathlib.Omega.{arith}
use lib.ListN.{length}
use lib.Ieee.{Float}
use mathlib.Core.List.{List}
use Rattle.std.proofs.lemmas.Iterator.{empty_from_Zip}
use Rattle.proposals.specs.definitions.Rounds.{change_from}
use Rattle.proposals.proofs.laws.ValueLaws.{nought_is}
use Rattle.proposals.proofs.laws.RoundsLaws.{change_turn, change_none}
use Rattle.proposals.proofs.rounds.largest_change.Goals as goal

-- the iterator begins with both lists
begins : (a b p q : List Float) → p ≡ a → q ≡ b → length a ≡ 33 → length b ≡ 33 → (length p ≡ length q) × (change_from (lib.Ieee.of_bits lib.Ieee.binary64 0) p q ≡ change_from Rattle.proposals.specs.definitions.Values.nought a b)
begins a b p q e f l m = (ap length e ∙ l ∙ sym m ∙ sym (ap length f), rw (e, f, nought_is))

pub loop-x-init : goal.loop-x-init
loop-x-init c = begins c.args.a c.args.b c.into_iter-x-iterator.result.a.rest.now c.into_iter-x-iterator.result.b.rest.now (cc) (cc) (search rules) (search rules)

pub loop-x-preserved : goal.loop-x-preserved
loop-x-preserved c =
    let l = c.loop-x in
    let s = c.in-Some.ensures.steps in (
      omega (arith, l.invariant.0, ap length s.0, ap length s.1),
      change_turn l.change c.difference.result c.greater-change.result s.0 s.1 c.difference.ensures c.greater-change.ensures ∙ l.invariant.1,
    )

pub returns : goal.returns
returns c =
    let l = c.loop-x in
    let e = empty_from_Zip l.x-iterator c.next.new.self c.next.result c.in-None.is c.next.ensures.steps l.invariant.0 in
    sym (change_none l.change l.x-iterator.a.rest.now l.x-iterator.b.rest.now e.0) ∙ l.invariant.1
