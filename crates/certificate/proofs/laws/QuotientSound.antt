-- The quotient test is sound: where it passes, no value that g allows at x is 0, and the quotient of what f and g allow at x is
-- allowed at x by the test's result.
use Rattle.std.specs.Prelude.{◌≡◌, true, [], ◌∷◌, pos}
use Rattle.std.proofs.Common.{sym, ◌∙◌, subst, arith}
use Rattle.std.proofs.Math.Path.{ap}
use Prim.Native.Nat.{ℕ, ◌+◌, ◌*◌, ◌-◌, ◌≤◌, ◌<◌}
use Rattle.integer.proofs.laws.Embedding.{ι_nonneg}
use Rattle.ring.specs.definitions.Integer.{ℤ_ring}
use Rattle.fraction.specs.definitions.Fraction.{ℚ, whole, ◌+ℚ◌, ◌-ℚ◌, -ℚ◌, ◌*ℚ◌, ◌≤ℚ◌, ◌<ℚ◌, ∣◌∣ℚ, ◌/ℚ◌}
use Rattle.integer.specs.definitions.FractionRing.{ℚ_ring}
use Rattle.integer.proofs.laws.FractionOrder.{ℚ_ordered}
use Rattle.integer.proofs.laws.FractionInverse.{quotient_mul}
use Rattle.integer.proofs.laws.FractionRounding.{natural_add, natural_mul, natural_le, natural_positive, up_bound}
use Rattle.integer.specs.definitions.Rounding.{upℕ}
use Rattle.integer.proofs.laws.RoundingLaws.{le-upℕ}
use Rattle.chebyshev.specs.definitions.Coefficients.{weight, subtract_lists, scale_list}
use Rattle.chebyshev.proofs.laws.CoefficientLaws.{value_constant}
use Rattle.chebyshev.specs.definitions.Allows.{allows}
use Rattle.model.specs.definitions.Models.{scale, good}
use Rattle.model.specs.definitions.Multiply.{product_list}
use Rattle.model.proofs.laws.IntervalLaws.{same_is, within}
use Rattle.model.proofs.laws.ModelLaws.{good_is}
use Rattle.model.specs.definitions.Allowed.{position, AllowsAt, Allows, OnInterval}
use Rattle.model.proofs.laws.ValueLaws.{value_at, value_at_scale, value_at_weight, value_at_difference}
use Rattle.model.proofs.laws.GoodLaws.{value_product_list}
use Rattle.model.specs.declared.types.Candidate.{Candidate}
use Rattle.model.specs.declared.types.Model.{Model}
use Rattle.model.specs.definitions.Outcomes.{accepted}
use Rattle.certificate.specs.definitions.Tests.{Certificate, placed, displacement}
use Rattle.certificate.specs.definitions.Quotient.{quotient_test, quotient_contraction, quotient_residual, quotient_model}
use Rattle.certificate.proofs.laws.QuotientAlgebra.{contraction_bound, residual_bound, divisor_away, divisor_nonzero, quotient_bound}
use Rattle.certificate.proofs.laws.QuotientConditions.{QuotientConditions, quotient_displacement, quotient_passes}

-- w(x) and h(x) are in units: |S − w(x)·v| ≤ m
contraction_sound : (g w : Model) → good g ≡ true → good w ≡ true → (x v : ℚ) → ∣ x ∣ℚ ≤ℚ whole (pos 1) → AllowsAt g x v
    → ∣ whole (pos scale) -ℚ value_at x w.coefficients *ℚ v ∣ℚ ≤ℚ whole (pos (quotient_contraction g w))
unfolding quotient_contraction AllowsAt allows
contraction_sound g w gg gw x v on hv =
    up_bound (distance + 2 * weight w.coefficients * g.radius) (2 * scale) (whole (pos scale) -ℚ value_at x w.coefficients *ℚ v) (omega arith)
    (rw (natural_mul 2 scale, sum distance (weight w.coefficients) g.radius)
    (contraction_bound ℚ_ordered (whole (pos scale)) (value_at x w.coefficients) (value_at x g.coefficients) v
    (rw (twice_square, value_product_list w g gw gg x) (value_at_difference x on (pos (2 * scale * scale) ∷ []) (product_list w g)))
    (value_at_weight x on w.coefficients) hv))
  where
    distance : ℕ
    distance = weight (subtract_lists ℤ_ring (pos (2 * scale * scale) ∷ []) (product_list w g))

    sum : (l M e : ℕ) → whole (pos (l + 2 * M * e)) ≡ whole (pos l) +ℚ whole (pos 2) *ℚ whole (pos M) *ℚ whole (pos e)
    sum l M e = simp (natural_add, natural_mul)

    twice_square : whole (pos 2) *ℚ whole (pos scale) *ℚ whole (pos scale) ≡ value_at x (pos (2 * scale * scale) ∷ [])
    twice_square = sym (value_constant ℚ_ring x (whole (pos (2 * scale * scale))) ∙ natural_mul (2 * scale) scale ∙ ap (λ z. z *ℚ whole (pos scale)) (natural_mul 2 scale))

-- |v·h(x) − S·u| ≤ N
residual_sound : (f g h : Model) → good g ≡ true → good h ≡ true → (x u v : ℚ) → ∣ x ∣ℚ ≤ℚ whole (pos 1) → AllowsAt f x u → AllowsAt g x v
    → ∣ v *ℚ value_at x h.coefficients -ℚ whole (pos scale) *ℚ u ∣ℚ ≤ℚ whole (pos (quotient_residual f g h))
unfolding quotient_residual AllowsAt allows
residual_sound f g h gg gh x u v on hu hv =
    up_bound (distance + 2 * scale * f.radius + 2 * weight h.coefficients * g.radius) (2 * scale) (v *ℚ value_at x h.coefficients -ℚ whole (pos scale) *ℚ u) (omega arith)
    (rw (natural_mul 2 scale, sum distance scale f.radius (weight h.coefficients) g.radius)
    (residual_bound ℚ_ordered (whole (pos scale)) (value_at x f.coefficients) (value_at x g.coefficients) (value_at x h.coefficients) u v (ι_nonneg ℚ_ordered scale)
    (rw (value_product_list g h gg gh x, ← natural_mul 2 scale, ← value_at_scale x (pos (2 * scale)) f.coefficients) (value_at_difference x on (product_list g h) (scale_list ℤ_ring (pos (2 * scale)) f.coefficients)))
    (value_at_weight x on h.coefficients) hu hv))
  where
    distance : ℕ
    distance = weight (subtract_lists ℤ_ring (product_list g h) (scale_list ℤ_ring (pos (2 * scale)) f.coefficients))

    sum : (l s e B k : ℕ) → whole (pos (l + 2 * s * e + 2 * B * k)) ≡ whole (pos l) +ℚ whole (pos 2) *ℚ whole (pos s) *ℚ whole (pos e) +ℚ whole (pos 2) *ℚ whole (pos B) *ℚ whole (pos k)
    sum l s e B k = simp (natural_add, natural_mul)

-- M·N ≤ (S − m)·r, where b = up(M·N/S) and r = up(b·S/(S − m))
radius_bound : (w : Model) (n k : ℕ) → 0 < k → weight w.coefficients * n ≤ k * upℕ (displacement w n * scale) k
unfolding displacement
radius_bound w n k positive = chain _ _ _ (le-upℕ (weight w.coefficients * n) scale (omega arith)) (le-upℕ (displacement w n * scale) k positive)
  where
    chain : (p q r : ℕ) → p ≤ q → q ≤ r * k → p ≤ k * r
    chain p q r i j = omega arith

module _ (len : ℕ) (f g : Model) (h w : Candidate) {c : Certificate} (passes : quotient_test len f g h w ≡ accepted c) where
  -- what T_k is summed with: the candidates on f's interval
  abbrev h' : Model
  h' = placed f h

  abbrev w' : Model
  w' = placed f w

  conditions : QuotientConditions len f g h w
  conditions = (quotient_passes len f g h w passes).0

  -- the result is on the interval of both operands
  pub quotient_interval : (c.model.interval ≡ f.interval) × (c.model.interval ≡ g.interval)
  unfolding quotient_model
  quotient_interval =
      let e = ap (λ (t : Certificate). t.model.interval) (quotient_passes len f g h w passes).1 in
      (e, e ∙ same_is f.interval g.interval conditions.same_interval_lem)

  module _ (x : ℚ) (on : OnInterval f.interval x) where
    -- where T_k is taken, for both operands
    abbrev y : ℚ
    y = position f.interval x

    near : ∣ y ∣ℚ ≤ℚ whole (pos 1)
    near = within (good_is f conditions.good_f).ends x on

    of_divisor : (v : ℚ) → Allows g x v → AllowsAt g y v
    of_divisor v hv = subst (λ i. AllowsAt g (position i x) v) (sym (same_is f.interval g.interval conditions.same_interval_lem)) hv

    -- S − m ≤ M·|v|, where S − m > 0
    quotient_divisor : (v : ℚ) → AllowsAt g y v → whole (pos (scale - quotient_contraction g w')) ≤ℚ (whole (pos (weight w.coefficients)) *ℚ ∣ v ∣ℚ)
    quotient_divisor v hv =
        divisor_away ℚ_ordered (value_at y w.coefficients) v
        (sym (natural_add (scale - quotient_contraction g w') (quotient_contraction g w')) ∙ ap (λ (n : ℕ). whole (pos n)) (omega (arith, conditions.contraction)))
        (contraction_sound g w' conditions.good_g conditions.good_w y v near hv) (value_at_weight y near w.coefficients)

    positive : whole (pos 0) <ℚ whole (pos (scale - quotient_contraction g w'))
    positive = natural_positive (scale - quotient_contraction g w') (omega (arith, conditions.contraction))

    -- no value that the divisor's model allows is 0
    pub quotient_nonzero : (v : ℚ) → Allows g x v → ¬ (v ≡ whole (pos 0))
    quotient_nonzero v hv = divisor_nonzero ℚ_ordered v positive (quotient_divisor v (of_divisor v hv))

    sound_at : (u v : ℚ) → Allows f x u → Allows g x v → AllowsAt c.model y (u /ℚ v)
    unfolding AllowsAt allows quotient_model
    sound_at u v hu hv =
        rw (quotient_passes len f g h w passes).1
        (quotient_bound ℚ_ordered (whole (pos scale)) u v (u /ℚ v) (value_at y h.coefficients)
        (quotient_mul u v (quotient_nonzero v hv)) (ι_nonneg ℚ_ordered (weight w.coefficients)) positive
        (residual_sound f g h' conditions.good_g conditions.good_h y u v near hu (of_divisor v hv)) (quotient_divisor v (of_divisor v hv))
        (rw (← natural_mul (weight w.coefficients) (quotient_residual f g h'), ← natural_mul (scale - quotient_contraction g w') radius)
        (natural_le (radius_bound w' (quotient_residual f g h') (scale - quotient_contraction g w') (omega (arith, conditions.contraction))))))
      where
        radius : ℕ
        radius = upℕ (quotient_displacement f g h w * scale) (scale - quotient_contraction g w')

    pub quotient_sound : (u v : ℚ) → Allows f x u → Allows g x v → Allows c.model x (u /ℚ v)
    quotient_sound u v hu hv = subst (λ i. AllowsAt c.model (position i x) (u /ℚ v)) (sym quotient_interval.0) (sound_at u v hu hv)
