-- `convert::add_multiple` meets its contract: a turn is that of the walk (MultipleWalk.antt).
use Rattle.series.proofs.MultipleWalk.{Walked}
use Rattle.series.proofs.convert.add_multiple.Given as goal

abbrev pub invariant-loop-j : goal.invariant-loop-j
invariant-loop-j l = Walked l.initial.sums l.p l.row l.sums l.j
