-- `values::each`: the elements before place k are made.
use Rattle.std.proofs.Common.{◌≡◌, ℕ, ◌<◌, length}
use lib.ListN.{get_or}
use Rattle.proposals.proofs.values.each.Given as goal

abbrev pub invariant-loop-k : goal.invariant-loop-k
invariant-loop-k g l = (length l.to ≡ length l.x-items) × ((j : ℕ) (d : _) (e : _) → j < l.k → goal.F-post g l.f (get_or l.x-items j d) (get_or l.to j e))
