-- `least_radius::Inequality::least_up_to` meets its contract. The invariant: high satisfies, and nothing below low does.
use Prim.Native.Nat.{◌-◌, ◌≤◌}
use Rattle.radius.proofs.laws.SearchLaws.{Bracket}
use Rattle.radius.proofs.Halvings.{halvings}
use Rattle.radius.proofs.least_radius.Inequality.least_up_to.Given as goal

abbrev pub invariant-loop-low : goal.invariant-loop-low
invariant-loop-low l = Bracket l.self.weight l.self.m l.self.b l.low l.high × (l.high ≤ l.top)

abbrev pub decreases-loop-low : goal.decreases-loop-low
decreases-loop-low l = halvings 21 (l.high - l.low)
