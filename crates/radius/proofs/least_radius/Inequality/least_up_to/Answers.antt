-- `least_radius::Inequality::least_up_to` meets its contract. The invariant: high satisfies, and nothing below low does.
use mathlib.Core.Path.{sym, ◌∙◌}
use Prim.Native.Nat.{ℕ, ◌+◌, ◌*◌, ◌-◌, ◌/◌, ◌^◌, ◌≤◌, ◌<◌}
use native.Mathlib.Omega.{arith}
use native.Mathlib.Nat.{mul-le-mul_left}
use Rattle.model.specs.definitions.Models.{scale}
use Rattle.radius.proofs.laws.LeastLaws.{test_fails}
use Rattle.radius.proofs.laws.SearchLaws.{bracket_up, bracket_end}
use Rattle.radius.proofs.Halvings.{halvings, halvings_fall}
use Rattle.radius.proofs.least_radius.Inequality.least_up_to.Goals as goal

module _ (c : goal.In-loop-low) where
  abbrev low : ℕ
  low = c.loop-low.low

  abbrev high : ℕ
  high = c.loop-low.high

  abbrev middle : ℕ
  middle = low + (high - low) / 2

  between : (low ≤ middle) × (middle < high) × (high ≤ scale)
  between = (omega arith, omega (arith, c.loop-low-test.true), omega (arith, c.loop-low.invariant.1, c.requires.small.0))

  shorter : (e : ℕ) → e ≤ (high - low) / 2 → halvings 21 e < halvings 21 (high - low)
  shorter e h = halvings_fall 21 (high - low) e (omega (arith, between)) (omega (arith, between)) h

  high_small : 4 * c.args.self.weight * high ≤ (scale - c.args.self.m) * scale
  high_small = omega (arith, mul-le-mul_left (4 * c.args.self.weight) c.loop-low.invariant.1, c.requires.small.1)

  middle-small : 2 * c.args.self.weight * middle ≤ 2 ^ 39
  middle-small = omega (arith, high_small, mul-le-mul_left (2 * c.args.self.weight) between.1)

pub satisfies-requires : goal.satisfies-requires
satisfies-requires c = (omega (arith, between c), omega (arith, middle-small c))

pub loop-low-preserved : goal.loop-low-preserved
loop-low-preserved c =
    let l = c.before.before in
    let i = c.args.self in (
      bracket_up i.weight i.m i.b (low l) (high l) (middle l) c.loop-low.invariant.0 (between l).1 (high_small l)
          (test_fails i.weight i.m i.b (middle l) (sym c.satisfies.ensures ∙ c.if-satisfies.false)),
      c.loop-low.invariant.1,
    )

pub returns : goal.returns
returns c =
    let i = c.args.self in
    bracket_end i.weight i.m i.b c.loop-low.low c.loop-low.high c.loop-low.invariant.0 c.loop-low-test.false
    (omega (arith, c.loop-low.invariant.1, c.requires.small.0))

pub loop-low-smaller-then-satisfies : goal.loop-low-smaller-then-satisfies
loop-low-smaller-then-satisfies c = let l = c.before.before in shorter l (middle l - low l) (omega (arith, between l))

pub loop-low-smaller : goal.loop-low-smaller
loop-low-smaller c = let l = c.before.before in shorter l (high l - (middle l + 1)) (omega (arith, between l))
