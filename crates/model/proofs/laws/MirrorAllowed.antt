-- What negated and mirrored models allow: the negated values at the same point, and the same values at the opposite point of
-- the interval.
use Rattle.std.specs.Prelude.{◌≡◌, ◌↔◌, [], ◌∷◌, ℤ, pos}
use Rattle.std.proofs.Common.{sym, ◌∙◌, ap, subst}
use Rattle.fraction.specs.definitions.Fraction.{ℚ, whole, ◌+ℚ◌, ◌-ℚ◌, ◌*ℚ◌, ◌/ℚ◌, -ℚ◌, ◌≤ℚ◌, ∣◌∣ℚ, inverse}
use Rattle.integer.proofs.laws.FractionInverse.{quotient_mul, *ℚ_cancel}
use Rattle.integer.specs.definitions.FractionRing.{ℚ_ring}
use Rattle.fraction.proofs.laws.FractionLaws.{*ℚ_comm, whole-add}
use Rattle.integer.proofs.laws.FractionOrder.{ℚ_ordered, whole_neg}
use Rattle.integer.proofs.laws.FractionSolver.{solveℚ, reifyℚ}
use Rattle.ring.proofs.laws.OrderedRingLaws.{abs_neg, by_certificate, gap}
use Rattle.chebyshev.specs.definitions.Allows.{allows}
use Rattle.chebyshev.proofs.laws.NegationValues.{value_negated, value_mirrored}
use Rattle.model.specs.definitions.Allowed.{position, AllowsAt, Allows, OnInterval}
use Rattle.model.specs.definitions.Evaluate.{point}
use Rattle.model.specs.definitions.Mirror.{negated, mirrored, mirrored_point, mirrored_fraction}
use Rattle.model.specs.definitions.Models.{scale}
use Rattle.model.proofs.laws.EvaluationError.{point-scale}
use Rattle.model.proofs.laws.ValueLaws.{value_at, scale_nonzero}
use Rattle.model.specs.declared.types.Interval.{Interval}
use Rattle.model.specs.declared.types.Model.{Model}

negated_at : (m : Model) (y v : ℚ) → AllowsAt (negated m) y (-ℚ v) ↔ AllowsAt m y v
unfolding AllowsAt allows
negated_at m y v =
    let e : ∣ -ℚ v *ℚ whole (pos scale) -ℚ value_at y (negated m).coefficients ∣ℚ ≡ ∣ v *ℚ whole (pos scale) -ℚ value_at y m.coefficients ∣ℚ =
    ap (λ z. ∣ -ℚ v *ℚ whole (pos scale) -ℚ z ∣ℚ) (value_negated ℚ_ring y m.coefficients)
    ∙ ap ∣◌∣ℚ (turn v (whole (pos scale)) (value_at y m.coefficients))
    ∙ abs_neg ℚ_ordered (v *ℚ whole (pos scale) -ℚ value_at y m.coefficients) in
    (subst (λ z. z ≤ℚ whole (pos m.radius)) e, subst (λ z. z ≤ℚ whole (pos m.radius)) (sym e))
  where
    turn : (v s y : ℚ) → -ℚ v *ℚ s -ℚ (-ℚ y) ≡ -ℚ (v *ℚ s -ℚ y)
    turn v s y = solveℚ (v ∷ s ∷ y ∷ []) (search reifyℚ depth 20) (search reifyℚ depth 20) tt

pub allows-negated : (m : Model) (x v : ℚ) → Allows (negated m) x (-ℚ v) ↔ Allows m x v
allows-negated m x v = negated_at m (position m.interval x) v

mirrored_at : (m : Model) (y v : ℚ) → AllowsAt (mirrored m) (-ℚ y) v ↔ AllowsAt m y v
unfolding AllowsAt allows
mirrored_at m y v =
    let e = ap (λ z. ∣ v *ℚ whole (pos scale) -ℚ z ∣ℚ) (value_mirrored ℚ_ring y m.coefficients) in
    (subst (λ z. z ≤ℚ whole (pos m.radius)) e, subst (λ z. z ≤ℚ whole (pos m.radius)) (sym e))

-- ---- the mirrored point

-- S·((l+u)/S − x) = l + u − S·x
fraction_times : (i : Interval) (x : ℚ) → whole (pos scale) *ℚ mirrored_fraction i x ≡ whole i.lower +ℚ whole i.upper -ℚ whole (pos scale) *ℚ x
fraction_times i x =
    regroup (whole (pos scale)) ((whole i.lower +ℚ whole i.upper) /ℚ whole (pos scale)) x
    ∙ ap (λ z. z -ℚ whole (pos scale) *ℚ x) (quotient_mul (whole i.lower +ℚ whole i.upper) (whole (pos scale)) scale_nonzero)
  where
    regroup : (s m x : ℚ) → s *ℚ (m -ℚ x) ≡ m *ℚ s -ℚ s *ℚ x
    regroup s m x = solveℚ (s ∷ m ∷ x ∷ []) (search reifyℚ depth 20) (search reifyℚ depth 20) tt

-- the fraction of p mirrored is that of p, mirrored
pub mirrored_fraction_lem : (i : Interval) (p : ℤ) → mirrored_fraction i (point p) ≡ point (mirrored_point i p)
mirrored_fraction_lem i p =
    *ℚ_cancel (whole (pos scale)) (mirrored_fraction i (point p)) (point (mirrored_point i p)) scale_nonzero
    (fraction_times i (point p)
    ∙ ap (λ z. whole i.lower +ℚ whole i.upper -ℚ z) (*ℚ_comm _ _ ∙ point-scale p)
    ∙ together
    ∙ sym (*ℚ_comm _ _ ∙ point-scale (mirrored_point i p)))
  where
    together : whole i.lower +ℚ whole i.upper -ℚ whole p ≡ whole (mirrored_point i p)
    together = simp (whole-add, ← whole_neg)

-- and lies on the interval as x does
pub mirrored-on : (i : Interval) (x : ℚ) → OnInterval i x → OnInterval i (mirrored_fraction i x)
mirrored-on i x on = record {
  above = rw (fraction_times i x) (by_certificate ℚ_ordered (gap ℚ_ordered on.below) (left (whole i.lower) (whole i.upper) (whole (pos scale) *ℚ x)));
  below = rw (fraction_times i x) (by_certificate ℚ_ordered (gap ℚ_ordered on.above) (right (whole i.lower) (whole i.upper) (whole (pos scale) *ℚ x)));
}
  where
    left : (l u z : ℚ) → l +ℚ u -ℚ z -ℚ l ≡ u -ℚ z
    left l u z = solveℚ (l ∷ u ∷ z ∷ []) (search reifyℚ depth 20) (search reifyℚ depth 20) tt

    right : (l u z : ℚ) → u -ℚ (l +ℚ u -ℚ z) ≡ z -ℚ l
    right l u z = solveℚ (l ∷ u ∷ z ∷ []) (search reifyℚ depth 20) (search reifyℚ depth 20) tt

position-mirrored : (i : Interval) (x : ℚ) → position i (mirrored_fraction i x) ≡ -ℚ position i x
unfolding position
position-mirrored i x =
    turn (whole i.lower) (whole i.upper) (whole (pos scale)) (mirrored_fraction i x) x (inverse (whole i.upper -ℚ whole i.lower)) (fraction_times i x)
  where
    turn : (l u s m x d : ℚ) → s *ℚ m ≡ l +ℚ u -ℚ s *ℚ x → (whole (pos 2) *ℚ s *ℚ m -ℚ l -ℚ u) *ℚ d ≡ -ℚ ((whole (pos 2) *ℚ s *ℚ x -ℚ l -ℚ u) *ℚ d)
    turn l u s m x d e =
        solveℚ (l ∷ u ∷ s ∷ m ∷ d ∷ []) (search reifyℚ depth 20) (search reifyℚ depth 20) tt
        ∙ ap (λ z. (whole (pos 2) *ℚ z -ℚ l -ℚ u) *ℚ d) e
        ∙ solveℚ (l ∷ u ∷ s ∷ x ∷ d ∷ []) (search reifyℚ depth 20) (search reifyℚ depth 20) tt

pub allows-mirrored : (m : Model) (x v : ℚ) → Allows (mirrored m) (mirrored_fraction m.interval x) v ↔ Allows m x v
allows-mirrored m x v = rw (position-mirrored m.interval x) (mirrored_at m (position m.interval x) v)
