-- `run::run` meets its contract: each turn is one command, and what is left to run gives what the whole job gives.
use mathlib.Core.Path.{◌≡◌}
use Prim.Native.Nat.{◌-◌}
use lib.ListN.{length}
use Rattle.job.specs.definitions.InnerContracts.{Clear}
use Rattle.job.proofs.LoopStates.{Going}
use Rattle.job.proofs.run.run.Given as goal

abbrev pub invariant-loop-after : goal.invariant-loop-after
invariant-loop-after l =
    record {
      going : Going l.report l.job l.initial.work l.work l.initial.room l.room l.done.next l.k l.done.results;
      same : l.scratch ≡ l.initial.scratch;
      clear : Clear l.initial.scratch;
    }

abbrev pub decreases-loop-after : goal.decreases-loop-after
decreases-loop-after l = length l.job - l.done.next
