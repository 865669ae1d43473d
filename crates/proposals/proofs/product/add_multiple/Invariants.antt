-- `product::add_multiple` meets its contract: what is left of b, added from place k on, gives the whole pass.
use mathlib.Core.Path.{◌≡◌}
use lib.ListN.{length, drop}
use lib.Ieee.{binary64, add, mul}
use Rattle.chebyshev.specs.definitions.Passes.{add_from_by}
use Rattle.proposals.proofs.product.add_multiple.Given as goal

abbrev pub invariant-loop-k : goal.invariant-loop-k
invariant-loop-k l =
    (length l.c ≡ length l.initial.c) × (add_from_by (add binary64) (mul binary64) l.c l.x l.k (drop l.k l.b) ≡ add_from_by (add binary64) (mul binary64) l.initial.c l.x 0 l.b)
