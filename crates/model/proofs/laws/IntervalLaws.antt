-- Intervals (Intervals.antt): what the tests of the ends tell, and where a point of an interval is taken.
use borrow.Author.Tests.{not-true, not-false}
use Rattle.std.specs.Prelude.{◌≡◌, Bool, true, false, not, ◌&&◌, ℕ, [], ◌∷◌, ◌^◌, ◌≤◌, ◌<◌, eqb, ℤ, pos, neg_ℤ, nat_abs, ◌-ℤ◌, ◌<ℤ◌}
use Rattle.std.proofs.Common.{sym, ◌∙◌, ap, ap₂, arith, eqb-true}
use Rattle.std.specs.Int.Signed.{lt_z, le_z}
use Rattle.std.specs.Ordering.{int_eq}
use Rattle.std.proofs.lemmas.Bool.Decides.{Decides-int_eq, same_from_decides}
use Rattle.fraction.specs.definitions.Fraction.{ℚ, whole, ◌+ℚ◌, ◌-ℚ◌, -ℚ◌, ◌*ℚ◌, ◌≤ℚ◌, ∣◌∣ℚ}
use Rattle.ring.specs.laws.Difference.{≤_parts, <_parts}
use Rattle.integer.proofs.laws.FractionInverse.{quotient_mul, *ℚ_cancel}
use Rattle.fraction.proofs.laws.FractionLaws.{whole-add, *ℚ_comm}
use Rattle.integer.proofs.laws.FractionOrder.{ℚ_ordered, ≤ℚ_cancel, whole_neg}
use Rattle.integer.proofs.laws.FractionRounding.{natural_positive, natural_nonzero}
use Rattle.integer.proofs.laws.FractionSolver.{reifyℚ, solveℚ}
use Rattle.integer.proofs.laws.Machine.{le_true, lt_true, both_true}
use Rattle.ring.proofs.laws.OrderedRingLaws.{abs-le, by_certificate, gap, ◌⊞◌}
use Rattle.ring.specs.laws.Parts.{abs, apart, difference, opposite, same, abs-sub}
use Rattle.model.specs.definitions.Allowed.{position, start, OnInterval}
use Rattle.model.specs.definitions.Intervals.{max_end, make_interval, good_ends, extent, same_interval}
use Rattle.model.specs.definitions.Models.{scale}
use Rattle.model.specs.declared.types.Interval.{Interval}

-- ---- the ends

pub record GoodEnds (i : Interval) : Type 0 where
  pub ordered : i.lower <ℤ i.upper
  pub lower_fits : nat_abs i.lower ≤ max_end
  pub upper_fits : nat_abs i.upper ≤ max_end

pub ends_are : (i : Interval) → good_ends i ≡ true → GoodEnds i
unfolding good_ends
ends_are i e =
    let p = both_true (le_z (neg_ℤ (pos max_end)) i.lower && lt_z i.lower i.upper) _ e in
    let q = both_true (le_z (neg_ℤ (pos max_end)) i.lower) _ p.0 in
    let least = (≤_parts (neg_ℤ (pos max_end)) i.lower).0 (le_true (neg_ℤ (pos max_end)) i.lower q.0) in
    let ordered = lt_true i.lower i.upper q.1 in
    let between = (<_parts i.lower i.upper).0 ordered in
    let greatest = (≤_parts i.upper (pos max_end)).0 (le_true i.upper (pos max_end) p.1) in record {
      ordered = ordered;
      lower_fits = omega (arith, least, between, greatest, opposite (pos max_end), abs i.lower, apart i.lower);
      upper_fits = omega (arith, least, between, greatest, opposite (pos max_end), abs i.upper, apart i.upper);
    }

module _ {i : Interval} (g : GoodEnds i) where
  pub extent_positive : 0 < extent i
  unfolding extent
  extent_positive =
      let d = i.upper -ℤ i.lower in omega (arith, (<_parts i.lower i.upper).0 g.ordered, difference i.upper i.lower, abs d)

  pub extent-fits : extent i ≤ 2 ^ 29
  unfolding extent
  extent-fits = omega (arith, abs-sub i.upper i.lower, g)

  pub extent_is : pos (extent i) ≡ i.upper -ℤ i.lower
  unfolding extent
  extent_is =
      let d = i.upper -ℤ i.lower in
      same (pos (nat_abs d)) d (omega (arith, (<_parts i.lower i.upper).0 g.ordered, difference i.upper i.lower, abs d, apart d))

  pub extent-whole : whole (pos (extent i)) ≡ whole i.upper -ℚ whole i.lower
  extent-whole = ap whole extent_is ∙ whole-add i.upper (neg_ℤ i.lower) ∙ ap (λ z. whole i.upper +ℚ z) (sym (whole_neg i.lower))

-- two operands on one interval
pub same_is : (i j : Interval) → same_interval i j ≡ true → i ≡ j
unfolding same_interval
same_is i j e =
    let p = both_true (eqb (nat_abs (i.lower -ℤ j.lower)) 0) _ e in
    ap₂ make_interval
    (none i.lower j.lower (eqb-true (nat_abs (i.lower -ℤ j.lower)) 0 p.0))
    (none i.upper j.upper (eqb-true (nat_abs (i.upper -ℤ j.upper)) 0 p.1))
  where
    none : (a b : ℤ) → nat_abs (a -ℤ b) ≡ 0 → a ≡ b
    none a b h = same a b (omega (arith, difference a b, abs (a -ℤ b), h))

pub same_self : (i : Interval) → same_interval i i ≡ true
unfolding same_interval
same_self i = rw (self i.lower, self i.upper)
  where
    self : (z : ℤ) → nat_abs (z -ℤ z) ≡ 0
    self z = omega (arith, difference z z, abs (z -ℤ z), apart (z -ℤ z))

-- what the code's comparison of two intervals says
module _ (i j : Interval) {n : Bool} (e : n ≡ not (int_eq i.lower j.lower && int_eq i.upper j.upper)) where
  agree : (x y : ℤ) → int_eq x y ≡ eqb (nat_abs (x -ℤ y)) 0
  agree x y =
      same_from_decides (int_eq x y) (eqb (nat_abs (x -ℤ y)) 0) (Decides-int_eq x y) (
        λ h. same x y (omega (arith, difference x y, abs (x -ℤ y), eqb-true (nat_abs (x -ℤ y)) 0 h)),
        λ h. let z : nat_abs (x -ℤ y) ≡ 0 = rw h (omega (arith, difference y y, abs (y -ℤ y), apart (y -ℤ y))) in ap (λ (k : ℕ). eqb k 0) z,
      )

  compared : n ≡ not (same_interval i j)
  unfolding same_interval
  compared = e ∙ ap₂ (λ (a b : Bool). not (a && b)) (agree i.lower j.lower) (agree i.upper j.upper)

  pub differ : n ≡ true → same_interval i j ≡ false
  differ h = not-true (same_interval i j) (sym compared ∙ h)

  pub alike : n ≡ false → same_interval i j ≡ true
  alike h = not-false (same_interval i j) (sym compared ∙ h)

-- ---- where a point is taken

module _ {i : Interval} (g : GoodEnds i) (x : ℚ) where
  abbrev d : ℚ
  d = whole (pos (extent i))

  -- (u−l)·y = 2·S·x − l − u
  pub position_times : d *ℚ position i x ≡ whole (pos 2) *ℚ whole (pos scale) *ℚ x -ℚ whole i.lower -ℚ whole i.upper
  unfolding position
  position_times =
      rw (← (extent-whole g))
      (*ℚ_comm d _ ∙ quotient_mul (whole (pos 2) *ℚ whole (pos scale) *ℚ x -ℚ whole i.lower -ℚ whole i.upper) d (natural_nonzero (extent_positive g)))

  -- a point of the interval is taken between −1 and 1
  pub within : OnInterval i x → ∣ position i x ∣ℚ ≤ℚ whole (pos 1)
  within on =
      abs-le ℚ_ordered
      (≤ℚ_cancel d (position i x) (whole (pos 1)) (natural_positive (extent i) (extent_positive g)) upper)
      (≤ℚ_cancel d (-ℚ whole (pos 1)) (position i x) (natural_positive (extent i) (extent_positive g)) lower)
    where
      upper : (d *ℚ position i x) ≤ℚ (d *ℚ whole (pos 1))
      upper =
          rw (position_times, extent-whole g)
          (by_certificate ℚ_ordered (◌⊞◌ ℚ_ordered (gap ℚ_ordered on.below) (gap ℚ_ordered on.below))
          (solveℚ (whole i.lower ∷ whole i.upper ∷ x ∷ []) (search reifyℚ depth 20) (search reifyℚ depth 20) tt))

      lower : (d *ℚ -ℚ whole (pos 1)) ≤ℚ (d *ℚ position i x)
      lower =
          rw (position_times, extent-whole g)
          (by_certificate ℚ_ordered (◌⊞◌ ℚ_ordered (gap ℚ_ordered on.above) (gap ℚ_ordered on.above))
          (solveℚ (whole i.lower ∷ whole i.upper ∷ x ∷ []) (search reifyℚ depth 20) (search reifyℚ depth 20) tt))

-- the lower end l/S is taken at −1
pub position-start : {i : Interval} → GoodEnds i → position i (start i) ≡ -ℚ whole (pos 1)
position-start {i} g =
    *ℚ_cancel (whole (pos (extent i))) (position i (start i)) (-ℚ whole (pos 1)) (natural_nonzero (extent_positive g))
    (position_times g (start i)
    ∙ regroup (start i) (whole (pos scale)) (whole i.lower) (whole i.upper)
    ∙ ap (λ z. whole (pos 2) *ℚ z -ℚ whole i.lower -ℚ whole i.upper) (quotient_mul (whole i.lower) (whole (pos scale)) (natural_nonzero (omega arith)))
    ∙ opposite (whole i.lower) (whole i.upper)
    ∙ ap (λ z. z *ℚ -ℚ whole (pos 1)) (sym (extent-whole g)))
  where
    regroup : (p s l u : ℚ) → whole (pos 2) *ℚ s *ℚ p -ℚ l -ℚ u ≡ whole (pos 2) *ℚ (p *ℚ s) -ℚ l -ℚ u
    regroup p s l u = solveℚ (p ∷ s ∷ l ∷ u ∷ []) (search reifyℚ depth 20) (search reifyℚ depth 20) tt

    opposite : (l u : ℚ) → whole (pos 2) *ℚ l -ℚ l -ℚ u ≡ (u -ℚ l) *ℚ -ℚ whole (pos 1)
    opposite l u = solveℚ (l ∷ u ∷ []) (search reifyℚ depth 20) (search reifyℚ depth 20) tt
