-- `walk::walk` meets its contract: each turn is one command, and what is left to read is the reading of the whole job.
use mathlib.Core.Path.{◌≡◌}
use Prim.Native.Nat.{◌-◌}
use lib.ListN.{length}
use Rattle.survey.proofs.laws.WalkLaws.{Walking}
use Rattle.survey.proofs.walk.walk.Given as goal

abbrev pub invariant-loop-read : goal.invariant-loop-read
invariant-loop-read l = Walking l.job l.initial.out l.out l.list l.count l.at l.command × (length l.out ≡ length l.initial.out)

abbrev pub decreases-loop-read : goal.decreases-loop-read
decreases-loop-read l = length l.job - l.at
