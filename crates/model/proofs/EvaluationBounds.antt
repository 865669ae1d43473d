-- From V and W to the bounds of an evaluation: the numbers on the way fit 64 bits.
use mathlib.Core.Path.{◌≡◌, refl, ap}
use mathlib.Core.Bool.{true}
use Prim.Native.Nat.{ℕ, ◌+◌, ◌^◌, ◌≤◌}
use native.Mathlib.Omega.{arith}
use lib.IntN.{ℤ, pos, nat_abs, ◌+ℤ◌, ◌-ℤ◌, ◌*ℤ◌}
use mir.Syntax.{w64}
use mir.Val.{SFits, to_z}
use mir.Facts.{to_z_pos}
use Rattle.ring.specs.laws.Parts.{abs-add, abs-sub, abs-mul}
use Rattle.integer.proofs.laws.Machine.{abs-fits}
use Rattle.integer.specs.definitions.Rounding.{floor, up}
use Rattle.integer.proofs.laws.RoundingSize.{floor_size, up_size}
use Rattle.model.specs.definitions.InnerContracts.{Evaluable}
use Rattle.model.specs.definitions.Models.{scale, terms, good}
use Rattle.model.proofs.laws.ModelLaws.{Good, good_is}
use Rattle.model.proofs.laws.GoodLaws.{length-terms, weight-terms}
use Rattle.model.specs.definitions.Evaluate.{mapped_point, maps_exactly, value_sum, error_sum, low_bound, high_bound}
use Rattle.model.specs.definitions.Intervals.{contains}
use Rattle.model.proofs.laws.MappedPoint.{mapped_inside}
use Rattle.model.proofs.laws.EvaluationLaws.{sum_size, error_size, lipschitz_size, growth_size}
use Rattle.model.specs.declared.types.Model.{Model}

-- v is V of a good model at a point inside, and w is W, which is the sum of two numbers
pub record Sums (a : Model) (p v : ℤ) (w : ℕ) : Type 0 where
  pub passed : good a ≡ true
  pub inside : contains a.interval p ≡ true
  pub value_is : v ≡ value_sum a p
  pub error_is : w ≡ error_sum a p

module _ (a : Model) (passed : good a ≡ true) where
  -- where the point is taken to
  module _ (p q : ℤ) (inside : contains a.interval p ≡ true) (e : q ≡ mapped_point a.interval p) where
    pub mapped_small : nat_abs q ≤ scale
    mapped_small = omega (arith, ap nat_abs e, mapped_inside (good_is a passed).ends p inside)

    pub fits_mapped : SFits w64 q
    fits_mapped = abs-fits w64 q (omega (arith, mapped_small))

    pub evaluable : Evaluable a.degree a.coefficients q
    evaluable = record { degree_fits = (good_is a passed).degree_fits; light = (good_is a passed).weight-fits; inside = mapped_small }

module _ {a : Model} {p v : ℤ} {w : ℕ} (s : Sums a p v w) where
  is_good : Good a
  is_good = good_is a s.passed

  mapped : nat_abs (mapped_point a.interval p) ≤ scale
  mapped = mapped_small a s.passed p (mapped_point a.interval p) s.inside refl

  fourfold_size : nat_abs (pos 4 *ℤ v) ≤ 2 ^ 61
  fourfold_size =
      omega (arith, abs-mul (pos 4) v, ap nat_abs s.value_is, sum_size (mapped_point a.interval p) 0 32 (terms a) mapped (omega (arith, length-terms a s.passed)), weight-terms a s.passed)

  pub error_small : w ≤ 2 ^ 50
  error_small =
      omega (
        arith,
        s.error_is,
        error_size 0 32 (terms a) (omega (arith, length-terms a s.passed)),
        lipschitz_size 0 32 (terms a) (omega (arith, length-terms a s.passed)),
        growth_size (maps_exactly a.interval p) (terms a),
        weight-terms a s.passed,
      )

  below_size : nat_abs (pos 4 *ℤ v -ℤ pos w) ≤ 2 ^ 61 + 2 ^ 50
  below_size = omega (arith, abs-sub (pos 4 *ℤ v) (pos w), fourfold_size, error_small)

  above_size : nat_abs (pos 4 *ℤ v +ℤ pos w) ≤ 2 ^ 61 + 2 ^ 50
  above_size = omega (arith, abs-add (pos 4 *ℤ v) (pos w), fourfold_size, error_small)

  pub error_word : to_z w64 w ≡ pos w
  error_word = to_z_pos w64 (omega (arith, error_small))

  pub radius_word : to_z w64 a.radius ≡ pos a.radius
  radius_word = to_z_pos w64 (omega (arith, is_good))

  pub fits_value : SFits w64 v
  fits_value = abs-fits w64 v (omega (arith, abs-mul (pos 4) v, fourfold_size))

  pub fits_fourfold : SFits w64 (pos 4 *ℤ v)
  fits_fourfold = abs-fits w64 (pos 4 *ℤ v) (omega (arith, fourfold_size))

  pub fits_below : SFits w64 (pos 4 *ℤ v -ℤ pos w)
  fits_below = abs-fits w64 (pos 4 *ℤ v -ℤ pos w) (omega (arith, below_size))

  pub fits_above : SFits w64 (pos 4 *ℤ v +ℤ pos w)
  fits_above = abs-fits w64 (pos 4 *ℤ v +ℤ pos w) (omega (arith, above_size))

  -- the low bound, from q = floor((4V−W)/2^32)
  pub low : (q : ℤ) → q ≡ floor (pos 4 *ℤ v -ℤ pos w) (2 ^ 32) → SFits w64 (q -ℤ pos a.radius) × (q -ℤ pos a.radius ≡ low_bound a p)
  unfolding low_bound
  low q e = (
    abs-fits w64 (q -ℤ pos a.radius) (omega (arith, abs-sub q (pos a.radius), ap nat_abs e, floor_size (pos 4 *ℤ v -ℤ pos w) (2 ^ 32), below_size, is_good)),
    rw (e, s.value_is, s.error_is),
  )

  -- the high bound, from q = up((4V+W)/2^32)
  pub high : (q : ℤ) → q ≡ up (pos 4 *ℤ v +ℤ pos w) (2 ^ 32) → SFits w64 (q +ℤ pos a.radius) × (q +ℤ pos a.radius ≡ high_bound a p)
  unfolding high_bound
  high q e = (
    abs-fits w64 (q +ℤ pos a.radius) (omega (arith, abs-add q (pos a.radius), ap nat_abs e, up_size (pos 4 *ℤ v +ℤ pos w) (2 ^ 32), above_size, is_good)),
    rw (e, s.value_is, s.error_is),
  )
