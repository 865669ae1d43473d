-- Document 01, of the bounds of an evaluation: "Each allowed value lies between them."
use Rattle.std.specs.Prelude.{◌≡◌, true, ℕ, suc, ◌+◌, ◌*◌, ◌-◌, ◌^◌, ◌<◌, ◌≤◌, ℤ, pos, neg_ℤ, nat_abs, ◌+ℤ◌, ◌-ℤ◌, ◌*ℤ◌}
use Rattle.std.proofs.Common.{◌∙◌, ap, arith}
use mathlib.Core.List.{List, [], ◌∷◌, map}
use Rattle.std.proofs.lemmas.Bool.{not-false}
use Rattle.integer.proofs.laws.FractionRounding.{natural_positive, natural_add}
use Rattle.integer.proofs.laws.Embedding.{ι_abs}
use Rattle.ring.proofs.laws.OrderedRingLaws.{by_certificate, gap, ◌⊞◌, le_of_eq, ◌⟨≼⟩◌, ◌⟨+⟩◌, triangle, abs_mul_le, abs_add_le, abs_upper, abs_lower}
use Rattle.integer.specs.definitions.Rounding.{floor, up}
use Rattle.integer.proofs.laws.RoundingLaws.{floor-le, le_up}
use Rattle.fraction.specs.definitions.Fraction.{ℚ, whole, ◌+ℚ◌, ◌-ℚ◌, -ℚ◌, ◌*ℚ◌, ◌≤ℚ◌, ∣◌∣ℚ}
use Rattle.fraction.proofs.laws.FractionLaws.{*ℚ_comm, whole-add, whole-mul}
use Rattle.integer.specs.definitions.FractionRing.{ℚ_ring}
use Rattle.integer.proofs.laws.FractionSolver.{reifyℚ, solveℚ}
use Rattle.integer.proofs.laws.FractionOrder.{ℚ_ordered, ≤ℚ_cancel, whole_le, whole_neg}
use Rattle.chebyshev.specs.definitions.Recurrences.{first_kind}
use Rattle.chebyshev.specs.definitions.Coefficients.{value_from, value}
use Rattle.chebyshev.specs.definitions.Allows.{allows}
use Rattle.model.specs.definitions.Models.{scale, terms, good}
use Rattle.model.proofs.laws.GoodLaws.{value_terms}
use Rattle.model.specs.definitions.Evaluate.{point, mapped_point, maps_exactly, growth, point_term, point_sum, point_error, value_sum, error_sum, low_bound, high_bound, zero_bounds, evaluation_places, evaluation}
use Rattle.model.specs.declared.types.Bounds.{Bounds}
use Rattle.model.specs.definitions.Outcomes.{accepted}
use Rattle.model.specs.definitions.Allowed.{position, AllowsAt, Allows}
use Rattle.model.proofs.laws.PlaceLaws.{outcome_accepted}
use Rattle.model.proofs.laws.EvaluationError.{term_error}
use Rattle.model.proofs.laws.IntervalLaws.{GoodEnds}
use Rattle.model.proofs.laws.MappedPoint.{mapped_inside, mapped_value}
use Rattle.model.proofs.laws.ModelLaws.{good_is}
use Rattle.model.proofs.laws.ValueLaws.{value_at}
use Rattle.model.specs.definitions.Intervals.{contains}
use Rattle.model.specs.declared.types.Model.{Model}

-- ---- |x − y| ≤ w as two inequalities

minus_below : (x y w : ℚ) → ∣ x -ℚ y ∣ℚ ≤ℚ w → (x -ℚ w) ≤ℚ y
minus_below x y w h = by_certificate ℚ_ordered (gap ℚ_ordered (abs_upper ℚ_ordered h)) (solveℚ (x ∷ y ∷ w ∷ []) (search reifyℚ depth 20) (search reifyℚ depth 20) tt)

plus_above : (x y w : ℚ) → ∣ x -ℚ y ∣ℚ ≤ℚ w → y ≤ℚ (x +ℚ w)
plus_above x y w h = by_certificate ℚ_ordered (gap ℚ_ordered (abs_lower ℚ_ordered h)) (solveℚ (x ∷ y ∷ w ∷ []) (search reifyℚ depth 20) (search reifyℚ depth 20) tt)

-- ---- rounding outwards

floor_below : (n : ℤ) (d : ℕ) (y : ℚ) → 0 < d → whole n ≤ℚ (whole (pos d) *ℚ y) → whole (floor n d) ≤ℚ y
floor_below n d y h l = ≤ℚ_cancel (whole (pos d)) (whole (floor n d)) y (natural_positive d h) (◌⟨≼⟩◌ ℚ_ordered scaled l)
  where
    scaled : (whole (pos d) *ℚ whole (floor n d)) ≤ℚ whole n
    scaled = rw (*ℚ_comm (whole (pos d)) (whole (floor n d)), ← whole-mul) ((whole_le _ _).1 (floor-le n d h))

up_above : (n : ℤ) (d : ℕ) (y : ℚ) → 0 < d → (whole (pos d) *ℚ y) ≤ℚ whole n → y ≤ℚ whole (up n d)
up_above n d y h l = ≤ℚ_cancel (whole (pos d)) y (whole (up n d)) (natural_positive d h) (◌⟨≼⟩◌ ℚ_ordered l scaled)
  where
    scaled : whole n ≤ℚ (whole (pos d) *ℚ whole (up n d))
    scaled = rw (*ℚ_comm (whole (pos d)) (whole (up n d)), ← whole-mul) ((whole_le _ _).1 (le_up n d h))

-- ---- |4V − 2^32·Σ a_k·T_k(p/S)| ≤ W

module _ (p : ℤ) (h : nat_abs p ≤ scale) where
  sum_error : (k : ℕ) (a : List ℤ)
      → ∣ whole (pos 4 *ℤ point_sum p k a) -ℚ whole (pos (2 ^ 32)) *ℚ value_from ℚ_ring (point p) k (map whole a) ∣ℚ ≤ℚ whole (pos (point_error k a))
  unfolding point_sum point_error value_from
  sum_error k [] = le_of_eq ℚ_ordered (ap ∣◌∣ℚ (solveℚ [] (search reifyℚ depth 20) (search reifyℚ depth 20) tt) ∙ ι_abs ℚ_ordered (pos 0))
  sum_error k (c ∷ a) =
      rw (split, bound)
      (◌⟨≼⟩◌ ℚ_ordered (triangle ℚ_ordered (whole c *ℚ (t -ℚ d *ℚ u)) (s -ℚ d *ℚ v))
      (◌⟨+⟩◌ ℚ_ordered (abs_mul_le ℚ_ordered (whole c) (t -ℚ d *ℚ u) (le_of_eq ℚ_ordered (ι_abs ℚ_ordered c)) (term_error p h k)) (sum_error (suc k) a)))
    where
      t : ℚ
      t = whole (pos 4 *ℤ point_term p k)

      u : ℚ
      u = first_kind ℚ_ring (point p) k

      s : ℚ
      s = whole (pos 4 *ℤ point_sum p (suc k) a)

      v : ℚ
      v = value_from ℚ_ring (point p) (suc k) (map whole a)

      d : ℚ
      d = whole (pos (2 ^ 32))

      split : whole (pos 4 *ℤ (c *ℤ point_term p k +ℤ point_sum p (suc k) a)) -ℚ d *ℚ (whole c *ℚ u +ℚ v) ≡ whole c *ℚ (t -ℚ d *ℚ u) +ℚ (s -ℚ d *ℚ v)
      split =
          simp (whole-mul, whole-add)
          (solveℚ (whole c ∷ whole (point_term p k) ∷ whole (point_sum p (suc k) a) ∷ u ∷ v ∷ []) (search reifyℚ depth 20) (search reifyℚ depth 20) tt)

      bound : whole (pos (nat_abs c * (k * (k - 1)) + point_error (suc k) a)) ≡ whole (pos (nat_abs c)) *ℚ whole (pos (k * (k - 1))) +ℚ whole (pos (point_error (suc k) a))
      bound = whole-add (pos (nat_abs c * (k * (k - 1)))) (pos (point_error (suc k) a)) ∙ ap (λ z. z +ℚ whole (pos (point_error (suc k) a))) (whole-mul (pos (nat_abs c)) (pos (k * (k - 1))))

-- ---- the theorem

bounds_sound : (a : Model) (p : ℤ) (v : ℚ) → good a ≡ true → contains a.interval p ≡ true → Allows a (point p) v
    → (whole (low_bound a p) ≤ℚ (v *ℚ whole (pos scale))) × ((v *ℚ whole (pos scale)) ≤ℚ whole (high_bound a p))
unfolding AllowsAt allows low_bound high_bound value
bounds_sound a p v g h l = (
  rw (whole-add (floor (s -ℤ pos w) (2 ^ 32)) (neg_ℤ (pos a.radius)), ← whole_neg)
      (by_certificate ℚ_ordered (◌⊞◌ ℚ_ordered (gap ℚ_ordered below) (gap ℚ_ordered (plus_above u y e near)))
      (regroup (whole (floor (s -ℤ pos w) (2 ^ 32))) e y u)),
  rw (whole-add (up (s +ℤ pos w) (2 ^ 32)) (pos a.radius))
      (by_certificate ℚ_ordered (◌⊞◌ ℚ_ordered (gap ℚ_ordered above) (gap ℚ_ordered (minus_below u y e near)))
      (regroup_up (whole (up (s +ℤ pos w) (2 ^ 32))) e y u)),
)
  where
    ends : GoodEnds a.interval
    ends = (good_is a g).ends

    u : ℚ
    u = v *ℚ whole (pos scale)

    z : ℚ
    z = point (mapped_point a.interval p)

    y : ℚ
    y = value ℚ_ring (position a.interval (point p)) (map whole (terms a))

    e : ℚ
    e = whole (pos a.radius)

    s : ℤ
    s = pos 4 *ℤ value_sum a p

    w : ℕ
    w = error_sum a p

    near : ∣ u -ℚ y ∣ℚ ≤ℚ e
    near = rw (value_terms a g (position a.interval (point p))) at l

    error : ∣ whole s -ℚ whole (pos (2 ^ 32)) *ℚ y ∣ℚ ≤ℚ whole (pos w)
    error =
        rw (join (whole s) (whole (pos (2 ^ 32)) *ℚ value_at z (terms a)) (whole (pos (2 ^ 32)) *ℚ y), natural_add (point_error 0 (terms a)) (growth (maps_exactly a.interval p) (terms a)))
        (abs_add_le ℚ_ordered (whole s -ℚ whole (pos (2 ^ 32)) *ℚ value_at z (terms a)) (whole (pos (2 ^ 32)) *ℚ value_at z (terms a) -ℚ whole (pos (2 ^ 32)) *ℚ y)
        (sum_error (mapped_point a.interval p) (mapped_inside ends p h) 0 (terms a)) (mapped_value ends p h (terms a)))
      where
        join : (s a b : ℚ) → s -ℚ b ≡ (s -ℚ a) +ℚ (a -ℚ b)
        join s a b = solveℚ (s ∷ a ∷ b ∷ []) (search reifyℚ depth 20) (search reifyℚ depth 20) tt

    below : whole (floor (s -ℤ pos w) (2 ^ 32)) ≤ℚ y
    below = floor_below (s -ℤ pos w) (2 ^ 32) y (omega arith) (rw (whole-add s (neg_ℤ (pos w)), ← whole_neg) (minus_below _ _ _ error))

    above : y ≤ℚ whole (up (s +ℤ pos w) (2 ^ 32))
    above = up_above (s +ℤ pos w) (2 ^ 32) y (omega arith) (rw (whole-add s (pos w)) (plus_above _ _ _ error))

    regroup : (f e y u : ℚ) → u -ℚ (f -ℚ e) ≡ y -ℚ f +ℚ (u +ℚ e -ℚ y)
    regroup f e y u = solveℚ (f ∷ e ∷ y ∷ u ∷ []) (search reifyℚ depth 20) (search reifyℚ depth 20) tt

    regroup_up : (f e y u : ℚ) → f +ℚ e -ℚ u ≡ f -ℚ y +ℚ (y -ℚ (u -ℚ e))
    regroup_up f e y u = solveℚ (f ∷ e ∷ y ∷ u ∷ []) (search reifyℚ depth 20) (search reifyℚ depth 20) tt

-- ---- the same of the answer

-- "Each allowed value lies between them."
pub evaluation_sound : (a : Model) (p : ℤ) {b : Bounds} → evaluation a p ≡ accepted b
    → (v : ℚ) → Allows a (point p) v → (whole b.low ≤ℚ (v *ℚ whole (pos scale))) × ((v *ℚ whole (pos scale)) ≤ℚ whole b.high)
unfolding evaluation
evaluation_sound a p e v l =
    let (passed, result) = outcome_accepted (evaluation_places a p) _ zero_bounds e in
    rw result (bounds_sound a p v (not-false (good a) passed.0) (not-false (contains a.interval p) passed.1.0) l)
