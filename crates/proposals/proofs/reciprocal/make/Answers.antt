-- `reciprocal::make` meets its contract. v are the values as code has them.
use mathlib.Core.Path.{◌≡◌, sym, ◌∙◌, ap}
use mathlib.Core.Bool.{Bool, true, false}
use mathlib.Core.List.{List, map}
use lib.ListN.{get_or}
use lib.Ieee.{Float, nan, binary64, of_bits, div, eq}
use Rattle.proposals.specs.definitions.Values.{nought, value_of}
use Rattle.proposals.specs.definitions.Rounds.{rounds, round_of, made_of, found_finite}
use Rattle.proposals.specs.definitions.Reciprocal.{constant_list, zero_round, reciprocal_rounds}
use Rattle.proposals.specs.declared.types.Ending.TheVariants.{GivenUp}
use Rattle.proposals.proofs.laws.ValueLaws.{nought_is, one_is}
use Rattle.proposals.proofs.reciprocal.make.Goals as goal

module _ (v g : List Float) (e : v ≡ g) where
  tested : (b : Bool) → eq (get_or v 0 nan) (of_bits binary64 0) ≡ b → eq (get_or g 0 nan) nought ≡ b
  tested b h = ap (λ (l : List Float). eq (get_or l 0 nan) nought) (sym e) ∙ (rw nought_is at h)

  of_zero : eq (get_or v 0 nan) (of_bits binary64 0) ≡ true → made_of false (GivenUp nought) zero_round ≡ reciprocal_rounds g
  unfolding reciprocal_rounds
  of_zero h = rw (tested true h)

  of-rounds : (w : List Float) → w ≡ constant_list (div binary64 (of_bits binary64 0x3ff0_0000_0000_0000) (get_or v 0 nan)) → eq (get_or v 0 nan) (of_bits binary64 0) ≡ false
      → rounds 12 v (round_of w nought) ≡ reciprocal_rounds g
  unfolding reciprocal_rounds
  of-rounds w ew h = rw (tested false h, ew, one_is, e)

pub returns-then-first : goal.returns-then-first
returns-then-first c = ap found_finite (of_zero c.values_of-values.result (map value_of c.args.g) c.values_of-values.ensures c.if-first.true)

pub returns : goal.returns
returns c =
    let v = c.values_of-values in
    c.run_rounds.ensures ∙ ap found_finite (of-rounds v.result (map value_of c.args.g) v.ensures c.constant.result c.constant.ensures c.if-first.false)
