-- `pairs::Factors::add_correlations` meets its contract: a turn is that of the walk (CorrelationWalk.antt).
use Rattle.groups.proofs.CorrelationWalk.{CorrelationSoFar}
use Rattle.groups.proofs.pairs.Factors.add_correlations.Given as goal

abbrev pub invariant-loop-i : goal.invariant-loop-i
invariant-loop-i l = CorrelationSoFar l.fn.self.a.now l.fn.self.b.now l.k l.initial.total l.total l.i
