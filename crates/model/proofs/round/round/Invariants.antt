-- `round::round` meets its contract: a turn is that of the walk (RoundingWalk.antt). A rounded number is written only where the
-- weight so far is within its limit, so it fits.
use lib.IntN.{nat_abs}
use lib.ListN.{take, drop}
use Rattle.chebyshev.specs.definitions.Coefficients.{weight}
use Rattle.model.proofs.RoundingWalk.{Walk}
use Rattle.model.proofs.round.round.Given as goal

abbrev pub invariant-loop-k : goal.invariant-loop-k
invariant-loop-k l = Walk (nat_abs l.unit) (take l.kept l.c) (weight (drop l.kept l.c)) l.coefficients l.weight l.loss l.k
