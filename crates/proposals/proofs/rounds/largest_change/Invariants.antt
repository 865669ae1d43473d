-- `rounds::largest_change` meets its contract: the places that are left give the rest of the change.
use mathlib.Core.Path.{◌≡◌}
use lib.ListN.{length}
use Rattle.proposals.specs.definitions.Values.{nought}
use Rattle.proposals.specs.definitions.Rounds.{change_from}
use Rattle.proposals.proofs.rounds.largest_change.Given as goal

abbrev pub invariant-loop-x : goal.invariant-loop-x
invariant-loop-x l =
    (length l.x-iterator.a.rest.now ≡ length l.x-iterator.b.rest.now)
    × (change_from l.change l.x-iterator.a.rest.now l.x-iterator.b.rest.now ≡ change_from nought l.fn.a l.fn.b)
