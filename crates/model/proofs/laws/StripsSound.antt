-- Document 02, request S-8: "For every k ≥ 1 the sum differs from the integral's polynomial at x by at most the radius plus 2·L/k
-- units", with S-24 L·(u−l)/(S·k). In y = (2·S·x−l−u)/(u−l) the sum over strips lies within 2·e + 2·L/k of the primitive of the
-- integrand's own list; in x both are (u−l)/(2S) times as large, and the integral lies within n + 1 of that.
use Rattle.std.specs.Prelude.{◌≡◌, true, List, [], ◌∷◌, map, pos}
use Rattle.std.proofs.Common.{sym, ◌∙◌, mul-pos, arith}
use Rattle.std.proofs.Math.Path.{ap, ap₂}
use Prim.Native.Nat.{ℕ, zero, suc, ◌+◌, ◌*◌, ◌<◌}
use Rattle.integer.proofs.laws.Embedding.{ι_nonneg}
use Rattle.ring.proofs.laws.OrderedRingLaws.{by_certificate, gap, ◌⊞◌, ◌⊠◌, ◌⟨≼⟩◌, le_refl, le_of_eq, abs_upper, abs_lower, abs_add_le, abs_neg_le, abs_mul_le, abs_of_nonneg}
use Rattle.fraction.specs.definitions.Fraction.{ℚ, whole, ◌+ℚ◌, ◌-ℚ◌, -ℚ◌, ◌*ℚ◌, ◌≤ℚ◌, ◌<ℚ◌, ∣◌∣ℚ, ◌/ℚ◌, inverse}
use Rattle.fraction.proofs.laws.FractionLaws.{*ℚ_comm}
use Rattle.integer.specs.definitions.FractionRing.{ℚ_ring}
use Rattle.integer.proofs.laws.FractionSolver.{reifyℚ, solveℚ}
use Rattle.integer.proofs.laws.FractionOrder.{ℚ_ordered, ≤ℚ_cancel}
use Rattle.integer.proofs.laws.FractionInverse.{quotient_mul, *ℚ_cancel}
use Rattle.integer.proofs.laws.FractionRounding.{natural_mul, natural_positive, natural_nonzero}
use Rattle.chebyshev.specs.definitions.Coefficients.{value}
use Rattle.chebyshev.specs.definitions.Primitive.{primitive}
use Rattle.chebyshev.proofs.laws.PrimitiveLaws.{primitive_minus_one}
use Rattle.chebyshev.proofs.laws.Lipschitz.{lipschitz-whole}
use Rattle.chebyshev.proofs.laws.Midpoint.{halve}
use Rattle.chebyshev.specs.definitions.Strips.{left_sum}
use Rattle.chebyshev.proofs.laws.StripLaws.{left_sum-scale, left_sum_bound}
use Rattle.chebyshev.specs.definitions.Allows.{allows}
use Rattle.model.specs.definitions.Models.{scale, good}
use Rattle.model.specs.definitions.Outcomes.{accepted}
use Rattle.model.specs.definitions.Allowed.{position, start, AllowsAt, OnInterval}
use Rattle.model.specs.definitions.Integrate.{integral_model, integration, ratio}
use Rattle.model.specs.definitions.Strips.{Chooses, strip_sum, lipschitz, StripsWithin}
use Rattle.model.proofs.laws.ValueLaws.{value_at, scale_nonzero}
use Rattle.model.proofs.laws.IntervalLaws.{GoodEnds, extent_positive, extent-whole, position_times, within}
use Rattle.model.proofs.laws.ModelLaws.{good_is}
use Rattle.model.specs.definitions.Intervals.{extent}
use Rattle.model.proofs.laws.IntegralSound.{two-scale, ratio_times, ratio_nonneg, integral_radius, integral_rounding, integration_accepted, integration_interval}
use Rattle.model.specs.declared.types.Model.{Model}

-- ---- numbers: n strips of width w from −1 to x

module _ (x n w : ℚ) (above : (-ℚ whole (pos 1)) ≤ℚ x) (below : x ≤ℚ whole (pos 1)) (positive : whole (pos 0) <ℚ n) (width : w *ℚ n ≡ x -ℚ -ℚ whole (pos 1)) where
  reaches : -ℚ whole (pos 1) +ℚ n *ℚ w ≡ x
  reaches =
      solveℚ (n ∷ w ∷ []) (search reifyℚ depth 9) (search reifyℚ depth 9) tt
      ∙ ap (λ v. -ℚ whole (pos 1) +ℚ v) width
      ∙ solveℚ (x ∷ []) (search reifyℚ depth 9) (search reifyℚ depth 9) tt

  width_nonneg : whole (pos 0) ≤ℚ w
  width_nonneg =
      ≤ℚ_cancel n (whole (pos 0)) w positive
      (by_certificate ℚ_ordered (gap ℚ_ordered above) (solveℚ (n ∷ w ∷ []) (search reifyℚ depth 9) (search reifyℚ depth 9) tt ∙ width))

  -- n·w ≤ 2
  length_below : (n *ℚ w) ≤ℚ whole (pos 2)
  length_below =
      by_certificate ℚ_ordered (gap ℚ_ordered below)
      (solveℚ (n ∷ w ∷ []) (search reifyℚ depth 9) (search reifyℚ depth 9) tt ∙ ap (λ v. whole (pos 2) -ℚ v) width
      ∙ solveℚ (x ∷ []) (search reifyℚ depth 9) (search reifyℚ depth 9) tt)

  -- with q = 2·l/n
  module _ (q l : ℚ) (term : q *ℚ n ≡ whole (pos 2) *ℚ l) (nonneg : whole (pos 0) ≤ℚ l) where
    term_below : (l *ℚ w) ≤ℚ q
    term_below =
        ≤ℚ_cancel n (l *ℚ w) q positive
        (by_certificate ℚ_ordered (◌⊠◌ ℚ_ordered nonneg (gap ℚ_ordered length_below))
        (solveℚ (n ∷ w ∷ q ∷ l ∷ []) (search reifyℚ depth 9) (search reifyℚ depth 9) tt ∙ ap (λ v. v -ℚ l *ℚ (n *ℚ w)) term
        ∙ solveℚ (n ∷ w ∷ l ∷ []) (search reifyℚ depth 9) (search reifyℚ depth 9) tt))

    -- n·w·(2·e + l·w) ≤ 2·(2·e + q)
    strips_below : (e : ℚ) → whole (pos 0) ≤ℚ e → (n *ℚ w *ℚ (whole (pos 2) *ℚ e +ℚ l *ℚ w)) ≤ℚ (whole (pos 2) *ℚ (whole (pos 2) *ℚ e +ℚ q))
    strips_below e he =
        by_certificate ℚ_ordered
        (◌⊞◌ ℚ_ordered
        (◌⊠◌ ℚ_ordered (gap ℚ_ordered length_below) (◌⊞◌ ℚ_ordered (◌⊠◌ ℚ_ordered (ι_nonneg ℚ_ordered 2) he) (◌⊠◌ ℚ_ordered nonneg width_nonneg)))
        (◌⊠◌ ℚ_ordered (ι_nonneg ℚ_ordered 2) (gap ℚ_ordered term_below)))
        (solveℚ (n ∷ w ∷ q ∷ l ∷ e ∷ []) (search reifyℚ depth 20) (search reifyℚ depth 20) tt)

-- ---- from x to y and back

module _ (a : Model) (g : GoodEnds a.interval) where
  abbrev l : ℚ
  l = whole a.interval.lower

  abbrev u : ℚ
  u = whole a.interval.upper

  abbrev s : ℚ
  s = whole (pos scale)

  abbrev d : ℚ
  d = whole (pos (extent a.interval))

  -- the x at which T_k is taken at y
  abbrev back : ℚ → ℚ
  back y = start a.interval +ℚ ratio a.interval *ℚ (y +ℚ whole (pos 1))

  start_times : start a.interval *ℚ s ≡ l
  start_times = quotient_mul l s scale_nonzero

  -- 2·S·x = 2·l + (u−l)·(y + 1)
  back_times : (y : ℚ) → whole (pos 2) *ℚ s *ℚ back y ≡ whole (pos 2) *ℚ l +ℚ d *ℚ (y +ℚ whole (pos 1))
  back_times y = regroup (start a.interval) (ratio a.interval) y s ∙ ap₂ (λ p q. whole (pos 2) *ℚ p +ℚ q *ℚ (y +ℚ whole (pos 1))) start_times (ratio_times (extent a.interval))
    where
      regroup : (p r y s : ℚ) → whole (pos 2) *ℚ s *ℚ (p +ℚ r *ℚ (y +ℚ whole (pos 1))) ≡ whole (pos 2) *ℚ (p *ℚ s) +ℚ r *ℚ (whole (pos 2) *ℚ s) *ℚ (y +ℚ whole (pos 1))
      regroup p r y s = solveℚ (p ∷ r ∷ y ∷ s ∷ []) (search reifyℚ depth 20) (search reifyℚ depth 20) tt

  position_back : (y : ℚ) → position a.interval (back y) ≡ y
  position_back y = *ℚ_cancel d (position a.interval (back y)) y (natural_nonzero (extent_positive g)) (position_times g (back y) ∙ ap (λ z. z -ℚ l -ℚ u) (back_times y) ∙ ap (λ z. whole (pos 2) *ℚ l +ℚ z *ℚ (y +ℚ whole (pos 1)) -ℚ l -ℚ u) (extent-whole g) ∙ regroup l u y ∙ ap (λ z. z *ℚ y) (sym (extent-whole g)))
    where
      regroup : (l u y : ℚ) → whole (pos 2) *ℚ l +ℚ (u -ℚ l) *ℚ (y +ℚ whole (pos 1)) -ℚ l -ℚ u ≡ (u -ℚ l) *ℚ y
      regroup l u y = solveℚ (l ∷ u ∷ y ∷ []) (search reifyℚ depth 20) (search reifyℚ depth 20) tt

  -- x − l/S = (u−l)/(2S)·(y + 1)
  from_start : (x : ℚ) → x -ℚ start a.interval ≡ ratio a.interval *ℚ (position a.interval x +ℚ whole (pos 1))
  from_start x =
      *ℚ_cancel (whole (pos 2) *ℚ s) (x -ℚ start a.interval) (ratio a.interval *ℚ (position a.interval x +ℚ whole (pos 1))) two-scale
      (left x (start a.interval) s
      ∙ ap (λ z. whole (pos 2) *ℚ s *ℚ x -ℚ whole (pos 2) *ℚ z) start_times
      ∙ middle l u (whole (pos 2) *ℚ s *ℚ x)
      ∙ ap₂ ◌+ℚ◌ (sym (position_times g x)) (sym (extent-whole g))
      ∙ right d (position a.interval x)
      ∙ ap (λ z. z *ℚ (position a.interval x +ℚ whole (pos 1))) (sym (ratio_times (extent a.interval)))
      ∙ swap (ratio a.interval) s (position a.interval x +ℚ whole (pos 1)))
    where
      left : (x p s : ℚ) → whole (pos 2) *ℚ s *ℚ (x -ℚ p) ≡ whole (pos 2) *ℚ s *ℚ x -ℚ whole (pos 2) *ℚ (p *ℚ s)
      left x p s = solveℚ (x ∷ p ∷ s ∷ []) (search reifyℚ depth 20) (search reifyℚ depth 20) tt

      middle : (l u z : ℚ) → z -ℚ whole (pos 2) *ℚ l ≡ (z -ℚ l -ℚ u) +ℚ (u -ℚ l)
      middle l u z = solveℚ (l ∷ u ∷ z ∷ []) (search reifyℚ depth 20) (search reifyℚ depth 20) tt

      right : (d y : ℚ) → d *ℚ y +ℚ d ≡ d *ℚ (y +ℚ whole (pos 1))
      right d y = solveℚ (d ∷ y ∷ []) (search reifyℚ depth 20) (search reifyℚ depth 20) tt

      swap : (r s y : ℚ) → r *ℚ (whole (pos 2) *ℚ s) *ℚ y ≡ whole (pos 2) *ℚ s *ℚ (r *ℚ y)
      swap r s y = solveℚ (r ∷ s ∷ y ∷ []) (search reifyℚ depth 20) (search reifyℚ depth 20) tt

  -- a y between −1 and 1 is that of a point of the interval
  on_back : (y : ℚ) → ∣ y ∣ℚ ≤ℚ whole (pos 1) → OnInterval a.interval (back y)
  on_back y h = record {
    above = ≤ℚ_cancel (whole (pos 2)) l (s *ℚ back y) two (by_certificate ℚ_ordered (◌⊠◌ ℚ_ordered (ι_nonneg ℚ_ordered (extent a.interval)) (gap ℚ_ordered (abs_lower ℚ_ordered h))) (ap (λ z. z -ℚ whole (pos 2) *ℚ l) (shape y) ∙ lower d l y));
    below = ≤ℚ_cancel (whole (pos 2)) (s *ℚ back y) u two (by_certificate ℚ_ordered (◌⊠◌ ℚ_ordered (ι_nonneg ℚ_ordered (extent a.interval)) (gap ℚ_ordered (abs_upper ℚ_ordered h))) (ap (λ z. whole (pos 2) *ℚ u -ℚ z) (shape y) ∙ upper d l u y (extent-whole g)));
  }
    where
      two : whole (pos 0) <ℚ whole (pos 2)
      two = natural_positive 2 (omega arith)

      shape : (y : ℚ) → whole (pos 2) *ℚ (s *ℚ back y) ≡ whole (pos 2) *ℚ l +ℚ d *ℚ (y +ℚ whole (pos 1))
      shape y = assoc (back y) s ∙ back_times y
        where
          assoc : (x s : ℚ) → whole (pos 2) *ℚ (s *ℚ x) ≡ whole (pos 2) *ℚ s *ℚ x
          assoc x s = solveℚ (x ∷ s ∷ []) (search reifyℚ depth 20) (search reifyℚ depth 20) tt

      lower : (d l y : ℚ) → whole (pos 2) *ℚ l +ℚ d *ℚ (y +ℚ whole (pos 1)) -ℚ whole (pos 2) *ℚ l ≡ d *ℚ (y -ℚ -ℚ whole (pos 1))
      lower d l y = solveℚ (d ∷ l ∷ y ∷ []) (search reifyℚ depth 20) (search reifyℚ depth 20) tt

      upper : (d l u y : ℚ) → d ≡ u -ℚ l → whole (pos 2) *ℚ u -ℚ (whole (pos 2) *ℚ l +ℚ d *ℚ (y +ℚ whole (pos 1))) ≡ d *ℚ (whole (pos 1) -ℚ y)
      upper d l u y e = rw e (solveℚ (l ∷ u ∷ y ∷ []) (search reifyℚ depth 20) (search reifyℚ depth 20) tt)

  -- a sum over strips in x is (u−l)/(2S) times that in y
  strips_back : (f : ℚ → ℚ) (k : ℕ) (y h : ℚ) → left_sum f (back y) (ratio a.interval *ℚ h) k ≡ ratio a.interval *ℚ left_sum (λ z. f (back z)) y h k
  unfolding left_sum
  strips_back f zero y h = solveℚ (ratio a.interval ∷ []) (search reifyℚ depth 20) (search reifyℚ depth 20) tt
  strips_back f (suc k) y h =
      ap (λ z. f (back y) *ℚ (ratio a.interval *ℚ h) +ℚ left_sum f z (ratio a.interval *ℚ h) k) (next (start a.interval) (ratio a.interval) y h)
      ∙ ap (λ z. f (back y) *ℚ (ratio a.interval *ℚ h) +ℚ z) (strips_back f k (y +ℚ h) h)
      ∙ solveℚ (ratio a.interval ∷ h ∷ f (back y) ∷ left_sum (λ z. f (back z)) (y +ℚ h) h k ∷ []) (search reifyℚ depth 20) (search reifyℚ depth 20) tt
    where
      next : (p r y h : ℚ) → p +ℚ r *ℚ (y +ℚ whole (pos 1)) +ℚ r *ℚ h ≡ p +ℚ r *ℚ (y +ℚ h +ℚ whole (pos 1))
      next p r y h = solveℚ (p ∷ r ∷ y ∷ h ∷ []) (search reifyℚ depth 20) (search reifyℚ depth 20) tt

-- ---- the theorem

module _ (a : Model) (g : good a ≡ true) (choice : ℚ → ℚ) (chosen : Chooses a choice) (x : ℚ) (on : OnInterval a.interval x) (k : ℕ) (positive : 0 < k) where
  abbrev ends : GoodEnds a.interval
  ends = (good_is a g).ends

  abbrev α : List ℚ
  α = map whole a.coefficients

  -- in y
  abbrev y : ℚ
  y = position a.interval x

  near : ∣ y ∣ℚ ≤ℚ whole (pos 1)
  near = within ends x on

  abbrev units : ℚ → ℚ
  units z = choice (back a ends z) *ℚ whole (pos scale)

  abbrev width : ℚ
  width = (y -ℚ -ℚ whole (pos 1)) /ℚ whole (pos k)

  abbrev sum : ℚ
  sum = left_sum (λ z. choice (back a ends z)) (-ℚ whole (pos 1)) width k

  abbrev term : ℚ
  term = whole (pos (2 * lipschitz a)) /ℚ whole (pos k)

  allowed : (z : ℚ) → ∣ z ∣ℚ ≤ℚ whole (pos 1) → ∣ units z -ℚ value ℚ_ring z α ∣ℚ ≤ℚ whole (pos a.radius)
  unfolding AllowsAt allows
  allowed z h = rw (position_back a ends z) at (chosen (back a ends z) (on_back a ends z h))

  -- of the primitive of the integrand's own list
  strips_primitive : ∣ value ℚ_ring y (primitive α) -ℚ sum *ℚ whole (pos scale) ∣ℚ ≤ℚ (whole (pos 2) *ℚ whole (pos a.radius) +ℚ term)
  strips_primitive =
      halve _ _
      (◌⟨≼⟩◌ ℚ_ordered bound
      (strips_below y n width above below strips equal term l twice (ι_nonneg ℚ_ordered (lipschitz a)) (whole (pos a.radius)) (ι_nonneg ℚ_ordered a.radius)))
    where
      n : ℚ
      n = whole (pos k)

      l : ℚ
      l = whole (pos (lipschitz a))

      above : (-ℚ whole (pos 1)) ≤ℚ y
      above = abs_lower ℚ_ordered near

      below : y ≤ℚ whole (pos 1)
      below = abs_upper ℚ_ordered near

      strips : whole (pos 0) <ℚ n
      strips = natural_positive k positive

      equal : width *ℚ n ≡ y -ℚ -ℚ whole (pos 1)
      equal = quotient_mul (y -ℚ -ℚ whole (pos 1)) n (natural_nonzero positive)

      twice : term *ℚ n ≡ whole (pos 2) *ℚ l
      twice = quotient_mul (whole (pos (2 * lipschitz a))) n (natural_nonzero positive) ∙ natural_mul 2 (lipschitz a)

      end : -ℚ whole (pos 1) +ℚ n *ℚ width ≡ y
      end = reaches y n width above below strips equal

      begin : value ℚ_ring y (primitive α) -ℚ value ℚ_ring (-ℚ whole (pos 1)) (primitive α) -ℚ left_sum units (-ℚ whole (pos 1)) width k
          ≡ value ℚ_ring y (primitive α) -ℚ sum *ℚ whole (pos scale)
      begin =
          ap₂ (λ u v. value ℚ_ring y (primitive α) -ℚ u -ℚ v) (primitive_minus_one α) (left_sum-scale (λ z. choice (back a ends z)) (whole (pos scale)) (-ℚ whole (pos 1)) width k)
          ∙ without (value ℚ_ring y (primitive α)) (sum *ℚ whole (pos scale))
        where
          without : (u v : ℚ) → u -ℚ whole (pos 0) -ℚ v ≡ u -ℚ v
          without u v = solveℚ (u ∷ v ∷ []) (search reifyℚ depth 9) (search reifyℚ depth 9) tt

      bound : (whole (pos 2) *ℚ ∣ value ℚ_ring y (primitive α) -ℚ sum *ℚ whole (pos scale) ∣ℚ)
          ≤ℚ (n *ℚ width *ℚ (whole (pos 2) *ℚ whole (pos a.radius) +ℚ l *ℚ width))
      bound =
          rw (end, begin, lipschitz-whole ℚ_ordered 0 a.coefficients) at
          (left_sum_bound α units (whole (pos a.radius)) allowed k (-ℚ whole (pos 1)) width
          (width_nonneg y n width above below strips equal) (le_refl ℚ_ordered (-ℚ whole (pos 1))) (rw end below))

  -- the strips in x
  strips_are : strip_sum a.interval choice x k ≡ ratio a.interval *ℚ sum
  unfolding strip_sum
  strips_are =
      ap₂ (λ p h. left_sum choice p h k) (begin (start a.interval) (ratio a.interval))
      (ap (λ z. z /ℚ whole (pos k)) (from_start a ends x) ∙ width_is (ratio a.interval) y (inverse (whole (pos k))))
      ∙ strips_back a ends choice k (-ℚ whole (pos 1)) width
    where
      begin : (p r : ℚ) → p ≡ p +ℚ r *ℚ (-ℚ whole (pos 1) +ℚ whole (pos 1))
      begin p r = solveℚ (p ∷ r ∷ []) (search reifyℚ depth 9) (search reifyℚ depth 9) tt

      width_is : (r y n : ℚ) → r *ℚ (y +ℚ whole (pos 1)) *ℚ n ≡ r *ℚ ((y -ℚ -ℚ whole (pos 1)) *ℚ n)
      width_is r y n = solveℚ (r ∷ y ∷ n ∷ []) (search reifyℚ depth 9) (search reifyℚ depth 9) tt

  -- L·(u−l)/(S·k) is (u−l)/(2S) times 2·L/k
  term_is : whole (pos (lipschitz a * extent a.interval)) /ℚ whole (pos (scale * k)) ≡ ratio a.interval *ℚ term
  term_is =
      *ℚ_cancel (whole (pos (scale * k))) _ _ (natural_nonzero (mul-pos (omega arith) positive))
      (*ℚ_comm _ _
      ∙ quotient_mul (whole (pos (lipschitz a * extent a.interval))) (whole (pos (scale * k))) (natural_nonzero (mul-pos (omega arith) positive))
      ∙ natural_mul (lipschitz a) (extent a.interval)
      ∙ ap (λ z. whole (pos (lipschitz a)) *ℚ z) (sym (ratio_times (extent a.interval)))
      ∙ regroup (whole (pos (lipschitz a))) (ratio a.interval) (whole (pos scale))
      ∙ ap (λ z. ratio a.interval *ℚ z *ℚ whole (pos scale)) (sym (natural_mul 2 (lipschitz a)) ∙ sym (quotient_mul (whole (pos (2 * lipschitz a))) (whole (pos k)) (natural_nonzero positive)))
      ∙ swap (ratio a.interval) term (whole (pos k)) (whole (pos scale))
      ∙ ap (λ z. z *ℚ (ratio a.interval *ℚ term)) (sym (natural_mul scale k)))
    where
      regroup : (l r s : ℚ) → l *ℚ (r *ℚ (whole (pos 2) *ℚ s)) ≡ r *ℚ (whole (pos 2) *ℚ l) *ℚ s
      regroup l r s = solveℚ (l ∷ r ∷ s ∷ []) (search reifyℚ depth 20) (search reifyℚ depth 20) tt

      swap : (r t k s : ℚ) → r *ℚ (t *ℚ k) *ℚ s ≡ s *ℚ k *ℚ (r *ℚ t)
      swap r t k s = solveℚ (r ∷ t ∷ k ∷ s ∷ []) (search reifyℚ depth 20) (search reifyℚ depth 20) tt

  -- of the integral
  integral_strips : ∣ strip_sum a.interval choice x k *ℚ whole (pos scale) -ℚ value_at y (integral_model a).coefficients ∣ℚ
      ≤ℚ (whole (pos (integral_model a).radius) +ℚ whole (pos (lipschitz a * extent a.interval)) /ℚ whole (pos (scale * k)))
  integral_strips =
      rw (strips_are, term_is)
      (join (ratio a.interval) (value ℚ_ring y (primitive α)) sum (whole (pos scale)) (value_at y (integral_model a).coefficients)
      (whole (pos 2) *ℚ whole (pos a.radius)) (whole (pos (a.degree + 1))) term (whole (pos (integral_model a).radius))
      (ratio_nonneg a.interval) strips_primitive (integral_rounding a y g near)
      (◌⟨≼⟩◌ ℚ_ordered (le_of_eq ℚ_ordered (swap (ratio a.interval) (whole (pos a.radius)) (whole (pos (a.degree + 1))))) (integral_radius a)))
    where
      swap : (r e d : ℚ) → r *ℚ (whole (pos 2) *ℚ e) +ℚ d ≡ whole (pos 2) *ℚ (r *ℚ e) +ℚ d
      swap r e d = solveℚ (r ∷ e ∷ d ∷ []) (search reifyℚ depth 9) (search reifyℚ depth 9) tt

      join : (r p m s c e d q R : ℚ) → whole (pos 0) ≤ℚ r → ∣ p -ℚ m *ℚ s ∣ℚ ≤ℚ (e +ℚ q) → ∣ r *ℚ p -ℚ c ∣ℚ ≤ℚ d → (r *ℚ e +ℚ d) ≤ℚ R
          → ∣ r *ℚ m *ℚ s -ℚ c ∣ℚ ≤ℚ (R +ℚ r *ℚ q)
      join r p m s c e d q R nonneg h l below =
          rw split
          (◌⟨≼⟩◌ ℚ_ordered
          (abs_add_le ℚ_ordered (r *ℚ p -ℚ c) (-ℚ (r *ℚ (p -ℚ m *ℚ s))) l (abs_neg_le ℚ_ordered (r *ℚ (p -ℚ m *ℚ s)) (abs_mul_le ℚ_ordered r (p -ℚ m *ℚ s) (le_of_eq ℚ_ordered (abs_of_nonneg ℚ_ordered nonneg)) h)))
          (by_certificate ℚ_ordered (gap ℚ_ordered below) (solveℚ (r ∷ e ∷ d ∷ q ∷ R ∷ []) (search reifyℚ depth 12) (search reifyℚ depth 12) tt)))
        where
          split : r *ℚ m *ℚ s -ℚ c ≡ r *ℚ p -ℚ c +ℚ -ℚ (r *ℚ (p -ℚ m *ℚ s))
          split = solveℚ (r ∷ p ∷ m ∷ s ∷ c ∷ []) (search reifyℚ depth 12) (search reifyℚ depth 12) tt

-- ---- the same of the answer

-- "For every k ≥ 1 the sum differs from the integral's polynomial at x by at most the radius plus …" L·(u−l)/(S·k) "units"
pub integration_strips : (a : Model) {c : Model} → integration a ≡ accepted c → (choice : ℚ → ℚ) → Chooses a choice
    → (x : ℚ) → OnInterval a.interval x → (k : ℕ) → 0 < k → StripsWithin a c choice x k
integration_strips a e choice chosen x on k positive =
    let (good_a, result) = integration_accepted a e in
    rw (integration_interval a e, result) (integral_strips a good_a choice chosen x on k positive)
