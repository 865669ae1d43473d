-- `rounds::run_rounds` meets its contract. The rounds that are left, from the record as it is, give what 12 rounds give.
use mathlib.Core.Path.{◌≡◌}
use Prim.Native.Nat.{◌-◌}
use Rattle.proposals.specs.definitions.Values.{nought}
use Rattle.proposals.specs.definitions.Rounds.{rounds, round_of}
use Rattle.proposals.proofs.rounds.run_rounds.Given as goal

abbrev pub invariant-loop : goal.invariant-loop
invariant-loop l = rounds (12 - l.counter) l.g l.round ≡ rounds 12 l.fn.g (round_of l.fn.w nought)
