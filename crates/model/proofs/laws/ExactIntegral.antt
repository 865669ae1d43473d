-- The exact integral (Integrate.antt) is the primitive in x of a list of fractions taken on an interval: it is 0 at l/S, and its
-- derivative in x is the list's value. Where x moves by h, the place where T_k is taken moves by h·2S/(u−l).
use Rattle.std.specs.Prelude.{◌≡◌, List, [], ◌∷◌, pos}
use Rattle.std.proofs.Common.{sym, ◌∙◌, ap, ap₂}
use Rattle.fraction.specs.definitions.Fraction.{ℚ, whole, ◌+ℚ◌, ◌-ℚ◌, ◌*ℚ◌, ◌/ℚ◌}
use Rattle.integer.specs.definitions.FractionRing.{ℚ_ring}
use Rattle.integer.proofs.laws.FractionInverse.{quotient_mul, *ℚ_cancel}
use Rattle.fraction.proofs.laws.FractionLaws.{*ℚ_one}
use Rattle.integer.proofs.laws.FractionRounding.{natural_nonzero}
use Rattle.integer.proofs.laws.FractionSolver.{reifyℚ, solveℚ}
use Rattle.chebyshev.specs.definitions.Coefficients.{value}
use Rattle.chebyshev.specs.definitions.Derivative.{sum_from, remainder}
use Rattle.chebyshev.specs.definitions.Primitive.{primitive}
use Rattle.chebyshev.proofs.laws.CoefficientLaws.{value_scale}
use Rattle.chebyshev.proofs.laws.PrimitiveLaws.{primitive_minus_one, primitive_increment}
use Rattle.model.specs.definitions.Allowed.{position, start}
use Rattle.model.specs.definitions.Integrate.{ratio, exact_integral}
use Rattle.model.specs.definitions.Intervals.{extent}
use Rattle.model.specs.definitions.Models.{scale}
use Rattle.model.proofs.laws.IntegralSound.{ratio_times}
use Rattle.model.proofs.laws.IntervalLaws.{GoodEnds, extent_positive, position_times, position-start}
use Rattle.model.specs.declared.types.Interval.{Interval}

module _ {i : Interval} (g : GoodEnds i) where
  abbrev d : ℚ
  d = whole (pos (extent i))

  abbrev s : ℚ
  s = whole (pos scale)

  nonzero : ¬ (d ≡ whole (pos 0))
  nonzero = natural_nonzero (extent_positive g)

  -- 2S/(u−l)
  abbrev rate : ℚ
  rate = (whole (pos 2) *ℚ s) /ℚ d

  rate_times : rate *ℚ d ≡ whole (pos 2) *ℚ s
  rate_times = quotient_mul (whole (pos 2) *ℚ s) d nonzero

  ratio_rate : ratio i *ℚ rate ≡ whole (pos 1)
  ratio_rate =
      *ℚ_cancel d (ratio i *ℚ rate) (whole (pos 1)) nonzero
      (regroup d (ratio i) rate ∙ ap (λ z. ratio i *ℚ z) rate_times ∙ ratio_times (extent i) ∙ sym (*ℚ_one d))
    where
      regroup : (e r k : ℚ) → e *ℚ (r *ℚ k) ≡ r *ℚ (k *ℚ e)
      regroup e r k = solveℚ (e ∷ r ∷ k ∷ []) (search reifyℚ depth 9) (search reifyℚ depth 9) tt

  position_moved : (x h : ℚ) → position i (x +ℚ h) ≡ position i x +ℚ h *ℚ rate
  position_moved x h =
      *ℚ_cancel d (position i (x +ℚ h)) (position i x +ℚ h *ℚ rate) nonzero
      (position_times g (x +ℚ h)
      ∙ apart x h s (whole i.lower) (whole i.upper)
      ∙ ap₂ (λ y z. y +ℚ h *ℚ z) (sym (position_times g x)) (sym rate_times)
      ∙ together d (position i x) h rate)
    where
      apart : (x h t l u : ℚ) → whole (pos 2) *ℚ t *ℚ (x +ℚ h) -ℚ l -ℚ u ≡ (whole (pos 2) *ℚ t *ℚ x -ℚ l -ℚ u) +ℚ h *ℚ (whole (pos 2) *ℚ t)
      apart x h t l u = solveℚ (x ∷ h ∷ t ∷ l ∷ u ∷ []) (search reifyℚ depth 20) (search reifyℚ depth 20) tt

      together : (e y h k : ℚ) → e *ℚ y +ℚ h *ℚ (k *ℚ e) ≡ e *ℚ (y +ℚ h *ℚ k)
      together e y h k = solveℚ (e ∷ y ∷ h ∷ k ∷ []) (search reifyℚ depth 20) (search reifyℚ depth 20) tt

  -- 0 at l/S
  pub exact_integral-start : (α : List ℚ) → value ℚ_ring (position i (start i)) (exact_integral i α) ≡ whole (pos 0)
  exact_integral-start α =
      ap (λ y. value ℚ_ring y (exact_integral i α)) (position-start g)
      ∙ value_scale ℚ_ring _ (ratio i) (primitive α)
      ∙ ap (λ z. ratio i *ℚ z) (primitive_minus_one α)
      ∙ solveℚ (ratio i ∷ []) (search reifyℚ depth 9) (search reifyℚ depth 9) tt

  -- F(x + h) = F(x) + h·α(x), up to a multiple of h², where F and α are taken on the interval
  pub exact_integral_derivative : (α : List ℚ) (x h : ℚ)
      → value ℚ_ring (position i (x +ℚ h)) (exact_integral i α)
      ≡ value ℚ_ring (position i x) (exact_integral i α) +ℚ h *ℚ value ℚ_ring (position i x) α
      +ℚ h *ℚ h *ℚ (rate *ℚ sum_from ℚ_ring (remainder ℚ_ring (position i x) (h *ℚ rate)) 0 (primitive α))
  exact_integral_derivative α x h =
      ap (λ z. value ℚ_ring z (exact_integral i α)) (position_moved x h)
      ∙ value_scale ℚ_ring (y +ℚ h *ℚ rate) (ratio i) (primitive α)
      ∙ ap (λ z. ratio i *ℚ z) (primitive_increment y (h *ℚ rate) α)
      ∙ apart (ratio i) rate h (value ℚ_ring y (primitive α)) (value ℚ_ring y α) rest
      ∙ ap (λ z. ratio i *ℚ value ℚ_ring y (primitive α) +ℚ z *ℚ (h *ℚ value ℚ_ring y α) +ℚ z *ℚ (h *ℚ h *ℚ (rate *ℚ rest))) ratio_rate
      ∙ ap (λ z. z +ℚ whole (pos 1) *ℚ (h *ℚ value ℚ_ring y α) +ℚ whole (pos 1) *ℚ (h *ℚ h *ℚ (rate *ℚ rest))) (sym (value_scale ℚ_ring y (ratio i) (primitive α)))
      ∙ once (value ℚ_ring y (exact_integral i α)) (h *ℚ value ℚ_ring y α) (h *ℚ h *ℚ (rate *ℚ rest))
    where
      y : ℚ
      y = position i x

      rest : ℚ
      rest = sum_from ℚ_ring (remainder ℚ_ring y (h *ℚ rate)) 0 (primitive α)

      apart : (r k h p a e : ℚ) → r *ℚ (p +ℚ h *ℚ k *ℚ a +ℚ h *ℚ k *ℚ (h *ℚ k) *ℚ e) ≡ r *ℚ p +ℚ r *ℚ k *ℚ (h *ℚ a) +ℚ r *ℚ k *ℚ (h *ℚ h *ℚ (k *ℚ e))
      apart r k h p a e = solveℚ (r ∷ k ∷ h ∷ p ∷ a ∷ e ∷ []) (search reifyℚ depth 20) (search reifyℚ depth 20) tt

      once : (u v w : ℚ) → u +ℚ whole (pos 1) *ℚ v +ℚ whole (pos 1) *ℚ w ≡ u +ℚ v +ℚ w
      once u v w = solveℚ (u ∷ v ∷ w ∷ []) (search reifyℚ depth 20) (search reifyℚ depth 20) tt
