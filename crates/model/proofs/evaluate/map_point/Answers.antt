-- `evaluate::map_point` meets its contract: every number fits 64 bits, for any point.
use Rattle.std.proofs.Common.{rules, arith, ◌≡◌, sym, ◌∙◌, ap, ap₂, ℕ, ◌^◌, ◌≤◌, ℤ, pos, nat_abs, ◌-ℤ◌, ◌*ℤ◌, ◌<ℤ◌, w32, w64, FitsSigned, to_z-of_z}
use lib.Dec.{eqb}
use Rattle.ring.specs.laws.Difference.{<_parts}
use Rattle.integer.proofs.laws.Machine.{abs-fits, fits_widens}
use Rattle.ring.specs.laws.Parts.{abs, apart, abs-sub, abs-mul, difference}
use Rattle.integer.proofs.laws.RoundingLaws.{near_error}
use Rattle.model.specs.definitions.Evaluate.{mapped_numerator, mapped_point, maps_exactly}
use Rattle.model.specs.definitions.Intervals.{extent}
use Rattle.model.proofs.laws.IntervalLaws.{ends_are, extent_positive, extent-fits, extent_is}
use Rattle.model.proofs.EndWords.{word_size, difference-fits, word_equal}
use Rattle.model.proofs.evaluate.map_point.Goals as goal
use Rattle.model.proofs.evaluate.map_point.Goals.{Start}

module _ (s : Start) where
  abbrev l : ℤ
  l = s.args.i.lower

  abbrev u : ℤ
  u = s.args.i.upper

  abbrev p : ℤ
  p = s.args.p

  abbrev numerator : ℤ
  numerator = mapped_numerator s.args.i p

  abbrev d : ℕ
  d = extent s.args.i

  fits-l : FitsSigned w32 l
  fits-l = search rules

  fits-u : FitsSigned w32 u
  fits-u = search rules

  fits-p : FitsSigned w32 p
  fits-p = s.ranges.p

  fits-extent : FitsSigned w64 (u -ℤ l)
  fits-extent = difference-fits u l fits-u fits-l

  twice-size : nat_abs (pos 2 *ℤ p) ≤ 2 ^ 33
  twice-size = omega (arith, abs-mul (pos 2) p, word_size p fits-p)

  first-size : nat_abs (pos 2 *ℤ p -ℤ l) ≤ 2 ^ 34
  first-size = omega (arith, abs-sub (pos 2 *ℤ p) l, twice-size, word_size l fits-l)

  second-size : nat_abs (pos 2 *ℤ p -ℤ l -ℤ u) ≤ 2 ^ 35
  second-size = omega (arith, abs-sub (pos 2 *ℤ p -ℤ l) u, first-size, word_size u fits-u)

  numerator-size : nat_abs numerator ≤ 2 ^ 55
  numerator-size = omega (arith, abs-mul (pos (2 ^ 20)) (pos 2 *ℤ p -ℤ l -ℤ u), second-size)

  fits-twice : FitsSigned w64 (pos 2 *ℤ p)
  fits-twice = abs-fits w64 (pos 2 *ℤ p) (omega (arith, twice-size))

  fits-first : FitsSigned w64 (pos 2 *ℤ p -ℤ l)
  fits-first = abs-fits w64 (pos 2 *ℤ p -ℤ l) (omega (arith, first-size))

  fits-second : FitsSigned w64 (pos 2 *ℤ p -ℤ l -ℤ u)
  fits-second = abs-fits w64 (pos 2 *ℤ p -ℤ l -ℤ u) (omega (arith, second-size))

  fits-numerator : FitsSigned w64 numerator
  fits-numerator = abs-fits w64 numerator (omega (arith, numerator-size))

  positive : pos 0 <ℤ (u -ℤ l)
  positive = rw (← (extent_is (ends_are s.args.i s.requires))) ((<_parts (pos 0) (pos d)).1 (omega (arith, extent_positive (ends_are s.args.i s.requires))))

  -- the point mapped
  module _ (q : ℤ) (q_is : q ≡ mapped_point s.args.i p) where
    product_is : q *ℤ (u -ℤ l) ≡ mapped_point s.args.i p *ℤ pos d
    product_is = ap₂ ◌*ℤ◌ q_is (sym (extent_is (ends_are s.args.i s.requires)))

    rest-size : nat_abs (mapped_point s.args.i p *ℤ pos d -ℤ numerator) ≤ 2 ^ 29
    unfolding mapped_point
    rest-size = let g = ends_are s.args.i s.requires in omega (arith, near_error numerator d (extent_positive g), extent-fits g)

    fits-product : FitsSigned w64 (q *ℤ (u -ℤ l))
    fits-product =
        let z = mapped_point s.args.i p *ℤ pos d in
        rw product_is (abs-fits w64 z (omega (arith, rest-size, numerator-size, difference z numerator, abs z, abs numerator, abs (z -ℤ numerator), apart z)))

pub overflow_mul-numerator-2 : goal.overflow_mul-numerator-2
overflow_mul-numerator-2 c =
    let s = (goal.at.overflow_mul-numerator-2 c).Start in
    simp (to_z-of_z (fits-p s), to_z-of_z (fits_widens (fits-p s)), to_z-of_z (fits-twice s), to_z-of_z (fits-l s), to_z-of_z (fits_widens (fits-l s)), to_z-of_z (fits-u s), to_z-of_z (fits_widens (fits-u s)), to_z-of_z (fits-first s), to_z-of_z (fits-second s)) (fits-numerator s)

pub near-point-requires : goal.near-point-requires
near-point-requires c =
    let s = (goal.at.near-point-requires c).Start in
    simp (to_z-of_z (fits-l s), to_z-of_z (fits-u s), to_z-of_z (fits_widens (fits-l s)), to_z-of_z (fits_widens (fits-u s)), to_z-of_z (fits-extent s)) (positive s)

pub overflow_mul-result : goal.overflow_mul-result
unfolding mapped_point extent
overflow_mul-result c =
    let s = (goal.at.overflow_mul-result c).Start in
    let fits-q : FitsSigned w64 c.near-point.result = record { sfits = c.near-point.type_inv } in
    let e : c.near-point.result ≡ mapped_point c.args.i c.args.p =
    simp (to_z-of_z (fits-l s), to_z-of_z (fits-u s), to_z-of_z (fits-p s), to_z-of_z (fits_widens (fits-l s)), to_z-of_z (fits_widens (fits-u s)), to_z-of_z (fits_widens (fits-p s)), to_z-of_z (fits-twice s), to_z-of_z (fits-first s), to_z-of_z (fits-second s), to_z-of_z (fits-numerator s), to_z-of_z (fits-extent s)) at
    c.near-point.ensures in
    simp (to_z-of_z (fits-l s), to_z-of_z (fits-u s), to_z-of_z (fits_widens (fits-l s)), to_z-of_z (fits_widens (fits-u s)), to_z-of_z (fits-extent s), to_z-of_z fits-q) (fits-product s c.near-point.result e)

pub returns : goal.returns
unfolding mapped_point extent maps_exactly
returns c =
    let s = (goal.at.returns c).Start in
    let q = c.near-point.result in
    let fits-q : FitsSigned w64 q = record { sfits = c.near-point.type_inv } in
    let e : q ≡ mapped_point c.args.i c.args.p =
    simp (to_z-of_z (fits-l s), to_z-of_z (fits-u s), to_z-of_z (fits-p s), to_z-of_z (fits_widens (fits-l s)), to_z-of_z (fits_widens (fits-u s)), to_z-of_z (fits_widens (fits-p s)), to_z-of_z (fits-twice s), to_z-of_z (fits-first s), to_z-of_z (fits-second s), to_z-of_z (fits-numerator s), to_z-of_z (fits-extent s)) at
    c.near-point.ensures in record {
      point_value = to_z-of_z fits-q ∙ e;
      exact_value =
          simp (to_z-of_z (fits-l s), to_z-of_z (fits-u s), to_z-of_z (fits-p s), to_z-of_z (fits_widens (fits-l s)), to_z-of_z (fits_widens (fits-u s)), to_z-of_z (fits_widens (fits-p s)), to_z-of_z (fits-twice s), to_z-of_z (fits-first s), to_z-of_z (fits-second s), to_z-of_z (fits-extent s), to_z-of_z fits-q)
          (word_equal (q *ℤ (u s -ℤ l s)) (numerator s) (fits-product s q e) (fits-numerator s) ∙ ap (λ z. eqb (nat_abs (z -ℤ numerator s)) 0) (product_is s q e));
    }
