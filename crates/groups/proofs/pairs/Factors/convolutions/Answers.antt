-- `pairs::Factors::convolutions` meets its contract: the sums begin where b has an element.
use Rattle.std.proofs.Common.{rules}
use mathlib.Core.Path.{◌≡◌, ◌∙◌, ap}
use Prim.Native.Nat.{ℕ, ◌+◌, ◌-◌}
use native.Mathlib.Omega.{arith}
use native.Mathlib.Nat.{mul-le-mul}
use lib.IntN.{ℤ, pos, nat_abs, ◌+ℤ◌, ◌*ℤ◌}
use lib.ListN.{length, get_or}
use mir.Syntax.{w32}
use mir.Val.{SFits}
use mir.Facts.{to_z-of_z}
use Rattle.ring.specs.laws.Parts.{abs-add, abs-mul}
use Rattle.chebyshev.proofs.laws.Weight.{weight_at}
use Rattle.groups.specs.definitions.InnerContracts.{Holds}
use Rattle.groups.proofs.PairWalks.{no_pair}
use Rattle.groups.proofs.PlaceSums.{first_from, second_from, none_from}
use Rattle.groups.proofs.pairs.Factors.convolutions.Goals as goal

-- with the first pair
module _ (c : goal.After-multiply_add-pair) where
  abbrev from : ℕ
  from = c.args.k + 1 - length c.args.self.b.now

  abbrev x : ℤ
  x = get_or c.args.self.a.now from (pos 0)

  abbrev y : ℤ
  y = get_or c.args.self.b.now (length c.args.self.b.now - 1) (pos 0)

  pair_is : Holds c.multiply_add-pair.result (pos 0 +ℤ x *ℤ y) (pos 0 +ℤ x *ℤ pos 0)
  pair_is =
      let fits-x : SFits w32 x = search rules in
      let fits-y : SFits w32 y = search rules in
      simp (to_z-of_z fits-x, to_z-of_z fits-y) at c.multiply_add-pair.ensures

  meet : from + length c.args.self.b.now ≡ c.args.k + 1
  meet = omega arith

pub add_convolutions-requires-then-from-self-clause-below : goal.add_convolutions-requires-then-from-self-clause-below
add_convolutions-requires-then-from-self-clause-below c =
    let b = c.args.self.b.now in (
      omega (arith, ap nat_abs (pair_is c).0, abs-add (pos 0) (x c *ℤ y c), abs-mul (x c) (y c), mul-le-mul (weight_at c.args.self.a.now (from c)) (weight_at b (length b - 1)), c.args.self.small),
      omega (arith, ap nat_abs (no_pair (x c) (pos 0) c.multiply_add-pair.result.second (pair_is c).1)),
    )

pub returns-then-from-self : goal.returns-then-from-self
returns-then-from-self c =
    let d = c.before in
    let f = c.args.self in
    let r = c.add_convolutions-then-from-self.ensures in (
      r.0 ∙ first_from f.a.now f.b.now c.args.k (from d) (meet d) c.requires.0 (omega arith) c.multiply_add-pair.result.first (pair_is d).0,
      r.1 ∙ second_from f.a.now f.b.now c.args.k (from d) (meet d) (x d) c.multiply_add-pair.result.second (pair_is d).1,
    )

pub returns : goal.returns
returns c =
    let f = c.args.self in none_from f.a.now f.b.now c.args.k (c.args.k + 1 - length f.b.now) (omega arith) (omega arith)
