-- "At x = p/q with q ≥ 1 and |p| ≤ q everything is cross-multiplied into whole numbers": what a good model allows, with S-24 at
-- (2·S·p−(l+u)·q)/((u−l)·q).
use Rattle.std.specs.Prelude.{◌≡◌, ◌↔◌, true, [], ◌∷◌, ℕ, ◌*◌, ℤ, pos, ◌+ℤ◌, ◌-ℤ◌, ◌*ℤ◌}
use Rattle.std.proofs.Common.{◌∙◌, ap, mul-pos}
use Rattle.std.proofs.Math.Path.{subst⁻¹}
use Rattle.fraction.specs.definitions.Fraction.{ℚ, whole, ◌+ℚ◌, ◌-ℚ◌, ◌*ℚ◌}
use Rattle.fraction.proofs.laws.FractionLaws.{whole-add, whole-mul}
use Rattle.integer.proofs.laws.FractionOrder.{whole_neg}
use Rattle.integer.proofs.laws.FractionRounding.{natural_mul}
use Rattle.integer.proofs.laws.FractionSolver.{reifyℚ, solveℚ}
use Rattle.chebyshev.specs.definitions.Homogeneous.{IsFraction, allows_whole}
use Rattle.chebyshev.proofs.laws.AllowsLaws.{allows-whole}
use Rattle.model.specs.definitions.Intervals.{extent, standard_interval}
use Rattle.model.specs.definitions.Models.{scale, good}
use Rattle.model.proofs.laws.IntervalLaws.{GoodEnds, extent_positive, position_times}
use Rattle.model.proofs.laws.ModelLaws.{good_is}
use Rattle.model.proofs.laws.StandardInterval.{position_standard}
use Rattle.model.specs.definitions.Allowed.{position, AllowsAt, Allows}
use Rattle.model.specs.declared.types.Interval.{Interval}
use Rattle.model.specs.declared.types.Model.{Model}

module _ {i : Interval} (g : GoodEnds i) {x : ℚ} {p : ℤ} {q : ℕ} (fx : IsFraction x p q) where
  -- where T_k is taken at x = p/q
  abbrev place : ℤ
  place = pos 2 *ℤ pos scale *ℤ p -ℤ (i.lower +ℤ i.upper) *ℤ pos q

  position_fraction : IsFraction (position i x) place (extent i * q)
  position_fraction = record {
    positive = mul-pos (extent_positive g) fx.positive;
    equation =
        ap (λ z. position i x *ℚ z) (natural_mul (extent i) q)
        ∙ regroup (position i x) (whole (pos (extent i))) (whole (pos q))
        ∙ ap (λ z. z *ℚ whole (pos q)) (position_times g x)
        ∙ at x (whole (pos q)) (whole p) (whole i.lower) (whole i.upper) fx.equation
        ∙ simp (whole-mul, whole-add, ← whole_neg);
  }
    where
      regroup : (y d q : ℚ) → y *ℚ (d *ℚ q) ≡ d *ℚ y *ℚ q
      regroup y d q = solveℚ (y ∷ d ∷ q ∷ []) (search reifyℚ depth 20) (search reifyℚ depth 20) tt

      at : (x q p l u : ℚ) → x *ℚ q ≡ p → (whole (pos 2) *ℚ whole (pos scale) *ℚ x -ℚ l -ℚ u) *ℚ q ≡ whole (pos 2) *ℚ whole (pos scale) *ℚ p -ℚ (l +ℚ u) *ℚ q
      at x q p l u e = rw (← e) (solveℚ (x ∷ q ∷ l ∷ u ∷ []) (search reifyℚ depth 20) (search reifyℚ depth 20) tt)

-- at x = p/q, of the value v = u/d
pub allows-cross : (m : Model) {x v : ℚ} {p u : ℤ} {q d : ℕ} → good m ≡ true → IsFraction x p q → IsFraction v u d
    → Allows m x v ↔ allows_whole scale m.coefficients m.radius m.degree (pos 2 *ℤ pos scale *ℤ p -ℤ (m.interval.lower +ℤ m.interval.upper) *ℤ pos q) (extent m.interval * q) u d
unfolding AllowsAt
allows-cross m h fx fv = allows-whole scale m.coefficients m.radius m.degree (position_fraction (good_is m h).ends fx) fv (good_is m h).beyond-zero

-- on −S..S at p/q itself, as 01 says
pub allows_cross_standard : (m : Model) {x v : ℚ} {p u : ℤ} {q d : ℕ} → good m ≡ true → m.interval ≡ standard_interval → IsFraction x p q → IsFraction v u d
    → Allows m x v ↔ allows_whole scale m.coefficients m.radius m.degree p q u d
unfolding AllowsAt
allows_cross_standard m {x} {v} {p} {u} {q} h on fx fv =
    let at_x = subst⁻¹ (λ y. IsFraction y p q) (position_standard x) fx in
    allows-whole scale m.coefficients m.radius m.degree (subst⁻¹ (λ i. IsFraction (position i x) p q) on at_x) fv (good_is m h).beyond-zero
