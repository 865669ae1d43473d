-- `evaluate::point_sums` meets its contract: a turn is that of the walk (EvaluationWalk.antt), whose sizes keep every number within
-- 64 bits.
use Prim.Native.Nat.{suc}
use lib.ListN.{take}
use Rattle.model.proofs.EvaluationWalk.{Walk}
use Rattle.model.proofs.evaluate.point_sums.Given as goal

abbrev pub invariant-loop-k : goal.invariant-loop-k
invariant-loop-k l = Walk l.exact l.p (take (suc l.degree) l.coefficients) l.value l.error l.t l.next l.k
