-- `pairs::Factors::add_convolutions` meets its contract: a turn is that of the walk (ConvolutionWalk.antt).
use Rattle.groups.proofs.ConvolutionWalk.{ConvolutionSoFar}
use Rattle.groups.proofs.pairs.Factors.add_convolutions.Given as goal

abbrev pub invariant-loop-i : goal.invariant-loop-i
invariant-loop-i l = ConvolutionSoFar l.fn.self.a.now l.fn.self.b.now l.k l.from l.initial.total l.total l.i
