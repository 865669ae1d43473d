-- The root tests are sound, by either rule: where one passes, every value v that f allows at a fraction x of its interval is above
-- 0, and its root lies between y − ρ and y + ρ, where y is h(x) and ρ the radius. No square root is taken: squares are compared.
use Rattle.std.specs.Prelude.{◌≡◌, ◌⊎◌, List, [], ◌∷◌, ℕ, ◌+◌, ◌*◌, ◌-◌, ℤ, pos}
use Rattle.std.proofs.Math.Path.{sym, ap}
use Rattle.std.proofs.Common.{◌∙◌, subst, inl, arith}
use Rattle.std.proofs.Math.Logic.{inr}
use Rattle.integer.proofs.laws.Embedding.{ι_nonneg}
use Rattle.ring.specs.definitions.Integer.{ℤ_ring}
use Rattle.ring.proofs.laws.OrderedRingLaws.{◌⟨≼⟩◌, by_certificate, gap, abs-le, abs_upper, le_of_eq}
use Rattle.ring.proofs.laws.Order.{le-pos}
use Rattle.fraction.specs.definitions.Fraction.{ℚ, whole, ◌+ℚ◌, ◌-ℚ◌, -ℚ◌, ◌*ℚ◌, ◌≤ℚ◌, ◌<ℚ◌, ∣◌∣ℚ}
use Rattle.fraction.proofs.laws.FractionLaws.{*ℚ_comm}
use Rattle.integer.specs.definitions.FractionRing.{ℚ_ring}
use Rattle.integer.proofs.laws.FractionSolver.{reifyℚ, solveℚ}
use Rattle.integer.proofs.laws.FractionOrder.{ℚ_ordered, whole_le}
use Rattle.integer.proofs.laws.FractionInverse.{quotient_mul}
use Rattle.integer.proofs.laws.FractionRounding.{natural_add, natural_mul, natural_le, natural_positive, up_bound}
use Rattle.integer.proofs.laws.RoundingLaws.{le-upℕ}
use Rattle.chebyshev.specs.definitions.Coefficients.{weight, subtract_lists, scale_list}
use Rattle.chebyshev.proofs.laws.CoefficientLaws.{value_constant}
use Rattle.chebyshev.specs.definitions.Allows.{allows}
use Rattle.chebyshev.proofs.laws.AllowsLaws.{allows_quotient}
use Rattle.chebyshev.proofs.laws.Sign.{helper_positive}
use Rattle.model.specs.definitions.Models.{scale}
use Rattle.model.proofs.laws.IntervalLaws.{within}
use Rattle.model.proofs.laws.ModelLaws.{good_is}
use Rattle.model.specs.definitions.Allowed.{position, AllowsAt, Allows, OnInterval}
use Rattle.model.proofs.laws.ValueLaws.{value_at, value_at_scale, value_at_weight, value_at_difference}
use Rattle.model.proofs.laws.GoodLaws.{value_product_list}
use Rattle.model.specs.definitions.Multiply.{product_list}
use Rattle.model.specs.declared.types.Candidate.{Candidate}
use Rattle.model.specs.declared.types.Model.{Model}
use Rattle.model.specs.definitions.Outcomes.{accepted}
use Rattle.certificate.specs.definitions.Tests.{Certificate, placed, displacement}
use Rattle.certificate.specs.definitions.Root.{root_test, root_certificate, root_model, root_contraction, root_residual}
use Rattle.certificate.specs.declared.types.RootRule.{RootRule}
use Rattle.certificate.specs.declared.types.RootRule.TheVariants.{ByDiscriminant, ByLeastRadius}
use Rattle.certificate.specs.definitions.RootBounds.{RootBounds, of_units}
use Rattle.certificate.proofs.laws.RootAlgebra.{helper_bound, residual_bound, RootFacts, root_algebra, least_algebra, root_choice}
use Rattle.certificate.proofs.laws.LeastAlgebra.{from_units}
use Rattle.certificate.proofs.laws.RootConditions.{NumbersConditions, RuleHolds, root_displacement, root_result, root_passes}

-- ---- units

units_scale : (z : ℚ) → of_units z *ℚ whole (pos scale) ≡ z
units_scale z = quotient_mul z (whole (pos scale)) (λ e. natural_positive scale (omega arith) (le_of_eq ℚ_ordered e))

units_nonneg : (n : ℕ) → whole (pos 0) ≤ℚ of_units (whole (pos n))
units_nonneg n =
    ℚ_ordered.le_cancel (whole (pos scale)) (whole (pos 0)) (of_units (whole (pos n))) (natural_positive scale (omega arith))
    (rw (*ℚ_comm (whole (pos scale)) (of_units (whole (pos n))), units_scale (whole (pos n)), ← natural_mul scale 0) (natural_le (omega arith)))

-- what lies between y − ρ and y + ρ is allowed
between_allows : (m : Model) (cs : List ℤ) (x r : ℚ) → m.coefficients ≡ cs → r ≤ℚ of_units (value_at x cs) +ℚ of_units (whole (pos m.radius))
    → of_units (value_at x cs) -ℚ of_units (whole (pos m.radius)) ≤ℚ r → AllowsAt m x r
unfolding AllowsAt
between_allows m cs x r same above below =
    rw same ((allows_quotient scale cs m.radius x r (omega arith)).1 (distance (of_units (value_at x cs)) (of_units (whole (pos m.radius))) above below))
  where
    distance : (y ρ : ℚ) → r ≤ℚ y +ℚ ρ → y -ℚ ρ ≤ℚ r → ∣ r -ℚ y ∣ℚ ≤ℚ ρ
    distance y ρ k l =
        abs-le ℚ_ordered
        (by_certificate ℚ_ordered (gap ℚ_ordered k) (solveℚ (r ∷ y ∷ ρ ∷ []) (search reifyℚ depth 20) (search reifyℚ depth 20) tt))
        (by_certificate ℚ_ordered (gap ℚ_ordered l) (solveℚ (r ∷ y ∷ ρ ∷ []) (search reifyℚ depth 20) (search reifyℚ depth 20) tt))

-- ---- the two residuals at x

module _ (len : ℕ) (f : Model) (h w : Candidate) (c : NumbersConditions len f h w) where
  -- the candidates on f's interval
  abbrev h' : Model
  h' = placed f h

  abbrev w' : Model
  w' = placed f w

  -- weight(S² − C(w,h)) and weight(C(h,h) − 2S·f)
  abbrev contraction_weight : ℕ
  contraction_weight = weight (subtract_lists ℤ_ring (pos (scale * scale) ∷ []) (product_list w' h'))

  abbrev residual_weight : ℕ
  residual_weight = weight (subtract_lists ℤ_ring (product_list h' h') (scale_list ℤ_ring (pos (2 * scale)) f.coefficients))

  helper_distance : (x : ℚ) → ∣ x ∣ℚ ≤ℚ whole (pos 1)
      → ∣ whole (pos scale) *ℚ whole (pos scale) -ℚ whole (pos 2) *ℚ value_at x w.coefficients *ℚ value_at x h.coefficients ∣ℚ ≤ℚ whole (pos contraction_weight)
  helper_distance x on =
      rw (← natural_mul scale scale, value_product_list w' h' c.good_w c.good_h x)
      (rw (value_constant ℚ_ring x (whole (pos (scale * scale)))) at (value_at_difference x on (pos (scale * scale) ∷ []) (product_list w' h')))

  -- w(x) > 0
  pub helper_value : (x : ℚ) → ∣ x ∣ℚ ≤ℚ whole (pos 1) → whole (pos 0) <ℚ value_at x w.coefficients
  unfolding root_contraction
  helper_value x on =
      helper_positive (whole (pos scale) *ℚ whole (pos scale)) (whole (pos contraction_weight)) w.coefficients h.coefficients
      c.helper
      (λ k. omega (arith, le-pos (scale * scale) contraction_weight ((whole_le _ _).0 (rw (← natural_mul scale scale) at k)), le-upℕ contraction_weight scale (omega arith), c.contraction))
      helper_distance x on

  module _ (x v : ℚ) (on : ∣ x ∣ℚ ≤ℚ whole (pos 1)) (allowed : AllowsAt f x v) where
    abbrev y : ℚ
    y = of_units (value_at x h.coefficients)

    -- |S − 2·w(x)·y| ≤ m
    helper_residual : ∣ whole (pos scale) -ℚ whole (pos 2) *ℚ value_at x w.coefficients *ℚ y ∣ℚ ≤ℚ whole (pos (root_contraction h' w'))
    unfolding root_contraction
    helper_residual =
        up_bound contraction_weight scale (whole (pos scale) -ℚ whole (pos 2) *ℚ value_at x w.coefficients *ℚ y) (omega arith)
        (helper_bound ℚ_ordered (whole (pos scale)) (value_at x w.coefficients) (value_at x h.coefficients) y (whole (pos contraction_weight)) (units_scale (value_at x h.coefficients)) (helper_distance x on))

    -- S·|y² − v| ≤ N
    root_residual_lem : ∣ whole (pos scale) *ℚ (y *ℚ y -ℚ v) ∣ℚ ≤ℚ whole (pos (root_residual f h'))
    unfolding root_residual AllowsAt allows
    root_residual_lem =
        up_bound (residual_weight + 2 * scale * f.radius) (2 * scale) (whole (pos scale) *ℚ (y *ℚ y -ℚ v)) (omega arith)
        (rw (natural_add residual_weight (2 * scale * f.radius), natural_mul (2 * scale) f.radius, natural_mul 2 scale)
        (residual_bound ℚ_ordered (whole (pos scale)) (value_at x f.coefficients) (value_at x h.coefficients) y v (whole (pos residual_weight)) (whole (pos f.radius))
        (ι_nonneg ℚ_ordered scale) (units_scale (value_at x h.coefficients))
        (rw (value_product_list h' h' c.good_h c.good_h x, ← natural_mul 2 scale, ← value_at_scale x (pos (2 * scale)) f.coefficients) (value_at_difference x on (product_list h' h') (scale_list ℤ_ring (pos (2 * scale)) f.coefficients)))
        allowed))

    abbrev m : ℕ
    m = root_contraction h' w'

    abbrev n : ℕ
    n = root_residual f h'

    abbrev b : ℕ
    b = root_displacement f h w

    abbrev k : ℕ
    k = scale - m

    abbrev M : ℕ
    M = weight w.coefficients

    -- what the algebra asks, for any radius
    facts_of : (r : ℕ) → RootFacts ℚ_ordered (whole (pos scale)) (whole (pos m)) (whole (pos n)) (whole (pos b)) (whole (pos k)) (whole (pos M))
        (value_at x w.coefficients) y (of_units (whole (pos r))) v
    unfolding displacement
    facts_of r = record {
      scale_positive = natural_positive scale (omega arith);
      split = sym (natural_add k m) ∙ ap (λ (j : ℕ). whole (pos j)) (omega (arith, c.contraction));
      contracting = natural_positive k (omega (arith, c.contraction));
      ρ_nonneg = units_nonneg r;
      helper_residual = helper_residual;
      root_residual_lem = root_residual_lem;
      helper_positive = helper_value x on;
      helper_weight = abs_upper ℚ_ordered (value_at_weight x on w.coefficients);
      displaced = rw (← natural_mul M n, ← natural_mul b scale) (natural_le (le-upℕ (M * n) scale (omega arith)));
    }

    bounds : (rule : RootRule) → RuleHolds rule M m b → RootBounds y (of_units (whole (pos (root_result rule f h w).radius))) v
    unfolding root_model
    bounds ByDiscriminant discriminant =
        let r = (root_result ByDiscriminant f h w).radius in
        let facts =
        root_algebra ℚ_ordered (facts_of r)
        (rw (units_scale (whole (pos r)), ← natural_mul 2 b, ← natural_mul (2 * b) scale, ← natural_mul r k) (natural_le (le-upℕ (2 * b * scale) k (omega (arith, c.contraction)))))
        (rw (← natural_mul 8 b, ← natural_mul (8 * b) M, ← natural_mul k k) (natural_le discriminant)) in
        record { positive = facts.3; reaches = facts.0; above = facts.1; below = facts.2 }
    bounds ByLeastRadius least =
        let r = (root_result ByLeastRadius f h w).radius in
        let facts =
        least_algebra ℚ_ordered (facts_of r)
        (from_units ℚ_ordered (whole (pos scale)) (whole (pos M)) (whole (pos b)) (whole (pos k)) (of_units (whole (pos r))) (whole (pos r))
        (natural_positive scale (omega arith)) (units_scale (whole (pos r)))
        (rw (← natural_mul 2 M, ← natural_mul r r, ← natural_mul (2 * M) (r * r), ← natural_mul scale scale, ← natural_mul b (scale * scale), ← natural_add (2 * M * (r * r)) (b * (scale * scale)), ← natural_mul k scale, ← natural_mul (k * scale) r)
        (natural_le least.satisfies))) in
        record { positive = facts.3; reaches = facts.0; above = facts.1; below = inr facts.2 }

-- ---- the tests

module _ (rule : RootRule) (len : ℕ) (f : Model) (h w : Candidate) {c : Certificate} (passed : root_test rule len f h w ≡ accepted c) where
  result_is : c ≡ root_certificate rule f h w
  result_is = (root_passes rule len f h w passed).2

  -- the result is on f's interval
  pub root_interval : c.model.interval ≡ f.interval
  unfolding root_model
  root_interval = ap (λ (t : Certificate). t.model.interval) result_is

  -- and has h's coefficients
  pub root_coefficients : c.model.coefficients ≡ h.coefficients
  unfolding root_model
  root_coefficients = ap (λ (t : Certificate). t.model.coefficients) result_is

  module _ (x v : ℚ) (on : OnInterval f.interval x) (allowed : Allows f x v) where
    -- the bounds of the root, around h's value
    pub root_sound : RootBounds (of_units (value_at (position f.interval x) h.coefficients)) (of_units (whole (pos c.model.radius))) v
    unfolding root_model
    root_sound =
        let conditions = (root_passes rule len f h w passed).0 in
        let near = within (good_is f conditions.numbers.good_f).ends x on in
        rw result_is (bounds len f h w conditions.numbers (position f.interval x) v near allowed rule conditions.holds)

    -- Every box that 01 permits for the root, where v lies in the box from l to u under it, holds a value that the result allows
    pub root_overlap : (low high l u : ℚ) → (low ≡ whole (pos 0)) ⊎ ((whole (pos 0) <ℚ low) × (low *ℚ low ≤ℚ l)) → whole (pos 0) ≤ℚ high → u ≤ℚ high *ℚ high
        → low ≤ℚ high → l ≤ℚ v → v ≤ℚ u → (r : ℚ) × (low ≤ℚ r) × (r ≤ℚ high) × Allows c.model x r
    root_overlap low high l u low_fits high_nonneg high_fits ordered above below =
        let (r, low_r, r_high, r_above, r_below) =
        root_choice ℚ_ordered _ _ v low high (units_nonneg c.model.radius) root_sound.reaches root_sound.above root_sound.below
        (square low_fits) high_nonneg (◌⟨≼⟩◌ ℚ_ordered below high_fits) ordered in
        (r, low_r, r_high, subst (λ i. AllowsAt c.model (position i x) r) (sym root_interval) (between_allows c.model h.coefficients (position f.interval x) r root_coefficients r_above r_below))
      where
        square : (low ≡ whole (pos 0)) ⊎ ((whole (pos 0) <ℚ low) × (low *ℚ low ≤ℚ l)) → (low ≡ whole (pos 0)) ⊎ (low *ℚ low ≤ℚ v)
        square (inl e) = inl e
        square (inr k) = inr (◌⟨≼⟩◌ ℚ_ordered k.1 above)
