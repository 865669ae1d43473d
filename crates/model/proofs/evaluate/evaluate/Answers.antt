-- `evaluate::evaluate` meets its contract: the tests are those of the definition, and V, W and the bounds fit 64 bits
-- (EvaluationBounds.antt).
use mathlib.Core.Path.{◌≡◌, refl, sym, ◌∙◌, ap}
use mathlib.Core.Bool.{true}
use Prim.Native.Nat.{ℕ, ◌+◌, ◌^◌}
use native.Mathlib.Omega.{arith}
use lib.IntN.{ℤ, pos, ◌+ℤ◌, ◌-ℤ◌, ◌*ℤ◌}
use mir.Syntax.{w64}
use mir.Val.{SFits}
use mir.Facts.{to_z-of_z}
use Rattle.integer.proofs.laws.Machine.{abs-fits}
use Rattle.integer.specs.definitions.Rounding.{floor, up}
use Rattle.model.specs.definitions.Intervals.{contains}
use Rattle.model.specs.definitions.Models.{terms, good}
use Rattle.model.specs.definitions.Outcomes.{accepted, passing}
use Rattle.model.proofs.Refusing.{passed_up}
use Rattle.model.proofs.laws.ModelLaws.{good_ends_lem}
use Rattle.model.specs.definitions.Evaluate.{mapped_point, maps_exactly, growth, point_sum, point_error, error_sum, zero_bounds, evaluation}
use Rattle.model.proofs.laws.EvaluationLaws.{evaluation_accepted, errors_are}
use Rattle.model.specs.declared.types.Model.{Model}
use Rattle.model.proofs.EvaluationBounds.{fits_mapped, evaluable, Sums, error_small, error_word, radius_word, fits_value, fits_fourfold, fits_below, fits_above, low, high}
use Rattle.model.proofs.evaluate.evaluate.Goals as goal
use Rattle.model.proofs.evaluate.evaluate.Lts
use Rattle.model.proofs.evaluate.evaluate.Reads
use Rattle.model.proofs.evaluate.evaluate.Tie

abbrev After-map_point-mapped : Type 0
After-map_point-mapped = Lts.After-map_point Tie.the-claims Reads.Pre Reads.Post Tie.handed_clauses

abbrev After-point_sums-sums : Type 0
After-point_sums-sums = Lts.After-point_sums Tie.the-claims Reads.Pre Reads.Post Tie.handed_clauses

-- after both tests, of the model and of the point
module _ (m : After-map_point-mapped) where
  abbrev a : Model
  a = m.args.a

  abbrev p : ℤ
  p = m.args.p

  passed : good a ≡ true
  passed = m.in_ok-checked_weight.ensures.ok.0

  inside : contains a.interval p ≡ true
  inside = sym (simp (to_z-of_z m.ranges.p) at m.contains.ensures) ∙ m.if-not-contains.false

  abbrev q : ℤ
  q = m.map_point-mapped.result.point

  point_is : q ≡ mapped_point a.interval p
  point_is = simp (to_z-of_z m.ranges.p) at m.map_point-mapped.ensures.point_value

  exact-is : m.map_point-mapped.result.exact ≡ maps_exactly a.interval p
  exact-is = simp (to_z-of_z m.ranges.p) at m.map_point-mapped.ensures.exact_value

  fits-q : SFits w64 q
  fits-q = fits_mapped a passed p q inside point_is

module _ (k : After-point_sums-sums) where
  abbrev m : After-map_point-mapped
  m = k.before.before.before

  abbrev v : ℤ
  v = k.point_sums-sums.result.value

  summed : (w : ℕ) → w ≡ error_sum (a m) (p m) → Sums (a m) (p m) v w
  summed w e = record {
    passed = passed m;
    inside = inside m;
    value_is = (simp (to_z-of_z (fits-q m)) at k.point_sums-sums.ensures.value_value) ∙ ap (λ z. point_sum z 0 (terms (a m))) (point_is m);
    error_is = e;
  }

  abbrev w : ℕ
  w = k.point_sums-sums.result.error

  sums : Sums (a m) (p m) v w
  sums = summed w (k.point_sums-sums.ensures.error_value ∙ errors_are m.map_point-mapped.result.exact (terms (a m)) ∙ ap (λ e. point_error 0 (terms (a m)) + growth e (terms (a m))) (exact-is m))

module _ (f : goal.After-floor) where
  abbrev k₁ : After-point_sums-sums
  k₁ = f.before.before.before.before

  fits-floor : SFits w64 f.floor.result
  fits-floor = record { sfits = f.floor.type_inv }

  floor-is : f.floor.result ≡ floor (pos 4 *ℤ v k₁ -ℤ pos (w k₁)) (2 ^ 32)
  floor-is = let n = sums k₁ in simp (to_z-of_z (fits_value n), to_z-of_z (fits_fourfold n), error_word n, to_z-of_z (fits_below n)) at f.floor.ensures

module _ (u : goal.After-up) where
  abbrev k₂ : After-point_sums-sums
  k₂ = k₁ u.before

  fits-up : SFits w64 u.up.result
  fits-up = record { sfits = u.up.type_inv }

  up_is : u.up.result ≡ up (pos 4 *ℤ v k₂ +ℤ pos (w k₂)) (2 ^ 32)
  up_is = let n = sums k₂ in simp (to_z-of_z (fits_value n), to_z-of_z (fits_fourfold n), error_word n, to_z-of_z (fits_above n)) at u.up.ensures

pub overflow_sub-low : goal.overflow_sub-low
overflow_sub-low c = let n = sums (k₁ c) in simp (to_z-of_z (fits-floor c), radius_word n) (low n _ (floor-is c)).0

pub overflow_add-high : goal.overflow_add-high
overflow_add-high c = let n = sums (k₂ c) in simp (to_z-of_z (fits-up c), radius_word n) (high n _ (up_is c)).0

pub returns : goal.returns
returns u =
    let n = sums (k₂ u) in
    let (Fits-low, low-is) = low n _ (floor-is u.before) in
    let (fits-high, high_is) = high n _ (up_is u) in
    let c = m (k₂ u) in
    simp (to_z-of_z (fits-floor u.before), to_z-of_z (fits-up u), radius_word n, to_z-of_z Fits-low, to_z-of_z fits-high, evaluation_accepted (a c) (p c) (passed c) n.inside)
    (λ i. accepted (record { low = low-is i; high = high_is i }))

pub returns-then-not-contains : goal.returns-then-not-contains
unfolding evaluation passing
returns-then-not-contains c =
    rw (c.in_ok-checked_weight.ensures.ok.0, sym (simp (to_z-of_z c.ranges.p) at c.contains.ensures) ∙ c.if-not-contains.true)

pub returns-in_err-checked_weight : goal.returns-in_err-checked_weight
unfolding evaluation passing
returns-in_err-checked_weight c =
    rw (passed_up zero_bounds c.from_residual.result c.in_err-checked_weight.field-0.0 c.from_residual.ensures, c.in_err-checked_weight.ensures.err.0, c.in_err-checked_weight.ensures.err.1)

pub map_point-mapped-requires : goal.map_point-mapped-requires
map_point-mapped-requires c = good_ends_lem c.args.a c.in_ok-checked_weight.ensures.ok.0

pub point_sums-sums-requires : goal.point_sums-sums-requires
point_sums-sums-requires k = let m = k.before.before.before in
    simp (to_z-of_z (fits-q m)) (evaluable (a m) (passed m) (p m) (q m) (inside m) (point_is m))

pub overflow_mul-value : goal.overflow_mul-value
overflow_mul-value d = let n = summed d.before.before.before _ refl in simp (to_z-of_z (fits_value n)) (fits_fourfold n)

pub overflow_cast-error : goal.overflow_cast-error
overflow_cast-error c = abs-fits w64 _ (omega (arith, error_small (sums c.before.before.before)))

pub overflow_sub-value : goal.overflow_sub-value
overflow_sub-value c = let n = sums c.before.before.before in simp (to_z-of_z (fits_value n), to_z-of_z (fits_fourfold n), error_word n) (fits_below n)

pub overflow_add-value : goal.overflow_add-value
overflow_add-value c = let n = sums (k₁ c) in simp (to_z-of_z (fits_value n), to_z-of_z (fits_fourfold n), error_word n) (fits_above n)
