-- `product::add_multiple` meets its contract: what is left of b, added from place k on, gives the whole pass.
use mathlib.Core.Path.{sym, ◌∙◌, ap}
use mathlib.Core.Logic.{inl, inr}
use Prim.Native.Nat.{◌+◌, ◌<◌}
use native.Mathlib.Omega.{arith}
use lib.ListN.{length, get_or, drop, length-set}
use lib.Ieee.{nan, binary64, add, mul}
use Rattle.chebyshev.specs.definitions.Passes.{add_from_by}
use Rattle.chebyshev.proofs.laws.ProductLaws.{add_at_by_set}
use Rattle.proposals.proofs.Tests.{one_ends}
use Rattle.chebyshev.proofs.laws.PassLaws.{from_step, from_end, from_beyond}
use Rattle.proposals.proofs.product.add_multiple.Goals as goal

pub loop-k-preserved : goal.loop-k-preserved
loop-k-preserved c =
    let l = c.loop-k in
    let x = c.args.x in
    let b = c.args.b.now in
    let v = mul binary64 x (get_or b l.k nan) in
    let inside : l.k < length b = omega arith in (
      length-set l.c l.k (add binary64 (get_or l.c l.k nan) v) ∙ l.invariant.0,
      ap (λ d. add_from_by (add binary64) (mul binary64) d x (l.k + 1) (drop (l.k + 1) b)) (sym (add_at_by_set (add binary64) l.c l.k v nan))
          ∙ sym (from_step (add binary64) (mul binary64) l.c x b l.k nan inside)
          ∙ l.invariant.1,
    )

pub returns : goal.returns
returns c =
    let l = c.loop-k in
    let x = c.args.x in
    let b = c.args.b.now in
    elim (one_ends l.k (length l.c) (length b) (omega arith)) [
      | inl h ↦ sym (from_beyond (add binary64) (mul binary64) l.c x l.k (drop l.k b) h) ∙ l.invariant.1
      | inr h ↦ sym (from_end (add binary64) (mul binary64) l.c x l.k b l.k h) ∙ l.invariant.1
    ]
