-- Document 01, of the integral: its radius "bounds the exact primitive of every list of fractions whose coefficients differ from
-- the model's by at most e units in total absolute difference, again summed over coefficients", and "c_0 makes the value at −1
-- exactly 0".
use Rattle.std.specs.Prelude.{◌≡◌, refl, true, List, [], ◌∷◌, ◌++◌, map, ℕ, zero, suc, ◌+◌, ◌*◌, ◌-◌, ◌<◌, ◌≤◌, ℤ, pos, ◌-ℤ◌, ◌*ℤ◌, length, get_or, replicate}
use Rattle.std.proofs.Common.{sym, ◌∙◌, ap₂, subst, arith, length-take}
use Rattle.std.proofs.Math.Path.{ap}
use Rattle.std.proofs.lemmas.Bool.{not-false}
use Rattle.std.proofs.Math.ListN.{get_or-map, get_or-eq_default}
use Rattle.integer.proofs.laws.Embedding.{ι_nonneg}
use Rattle.ring.specs.laws.Difference.{all1, differences}
use Rattle.ring.proofs.laws.OrderedRingLaws.{le_refl, le_of_eq, ◌⟨≼⟩◌, ◌⟨+⟩◌, ◌⊠◌, mul_left, abs-mul, abs_of_nonneg, by_certificate}
use Rattle.integer.proofs.laws.FractionRounding.{natural_add, natural_mul, natural_le, natural_positive}
use Rattle.integer.specs.definitions.Rounding.{near, upℕ}
use Rattle.integer.proofs.laws.RoundingLaws.{near_error_abs, le-upℕ}
use Rattle.fraction.specs.definitions.Fraction.{ℚ, whole, ◌+ℚ◌, ◌-ℚ◌, -ℚ◌, ◌*ℚ◌, ◌≤ℚ◌, ◌<ℚ◌, ∣◌∣ℚ, ◌/ℚ◌}
use Rattle.fraction.proofs.laws.FractionLaws.{*ℚ_comm, whole-add, whole-mul, zero_*ℚ, one_*ℚ}
use Rattle.integer.specs.definitions.FractionRing.{ℚ_ring}
use Rattle.integer.proofs.laws.FractionSolver.{reifyℚ, solveℚ}
use Rattle.integer.proofs.laws.FractionOrder.{ℚ_ordered, ≤ℚ_cancel, whole_le, whole_neg, whole-abs}
use Rattle.chebyshev.specs.definitions.Recurrences.{sign}
use Rattle.chebyshev.proofs.laws.RecurrenceLaws.{first_minus_one}
use Rattle.chebyshev.specs.definitions.Coefficients.{value_from, value, add_lists, scale_list, subtract_lists}
use Rattle.chebyshev.proofs.laws.CoefficientLaws.{get_d_scale, scale-add, value_scale}
use Rattle.chebyshev.specs.definitions.Norms.{norm}
use Rattle.chebyshev.proofs.laws.NormLaws.{norm_self, norm_scale, norm_total, value_distance}
use Rattle.chebyshev.specs.definitions.Primitive.{numerator, primitive}
use Rattle.chebyshev.proofs.laws.PrimitiveLaws.{numerator_first, numerator_next, primitive-scale}
use Rattle.chebyshev.proofs.laws.PrimitiveNorm.{Rounded, primitive-rounded}
use Rattle.integer.proofs.laws.FractionInverse.{quotient_mul}
use Rattle.chebyshev.specs.definitions.Allows.{allows}
use Rattle.model.specs.definitions.InnerContracts.{rounded_integral, rounded_tail}
use Rattle.model.specs.definitions.Models.{scale, coefficient_count, terms, good, zero_model}
use Rattle.model.specs.definitions.Outcomes.{accepted}
use Rattle.model.specs.definitions.Allowed.{position, start, AllowsAt, Allows, OnInterval}
use Rattle.model.proofs.laws.ValueLaws.{value_at, scale_nonzero}
use Rattle.model.proofs.laws.IntervalLaws.{within, position-start}
use Rattle.model.proofs.laws.ModelLaws.{good_is}
use Rattle.model.specs.definitions.Intervals.{extent}
use Rattle.model.proofs.laws.PlaceLaws.{outcome_accepted}
use Rattle.model.proofs.laws.GoodLaws.{get_d_append_zeros, get_d_terms}
use Rattle.model.specs.definitions.Integrate.{double_first, alternating, integral_model, integration_places, integration, ratio, exact_integral, Describes}
use Rattle.model.proofs.laws.IntegralLaws.{integral_is, length_doubled, length-rounded, get_d_rounded}
use Rattle.model.specs.declared.types.Interval.{Interval}
use Rattle.model.specs.declared.types.Model.{Model}

whole_sub : (x y : ℤ) → whole x -ℚ whole y ≡ whole (x -ℤ y)
whole_sub x y = rw (whole_neg, ← whole-add)

-- ---- the value at −1

-- Σ c_i·T_(k+i)(−1) = (−1)^k·(c_0 − c_1 + c_2 − …)
value_alternating : (k : ℕ) (cs : List ℤ) → value_from ℚ_ring (-ℚ whole (pos 1)) k (map whole cs) ≡ sign ℚ_ring k *ℚ whole (alternating cs)
unfolding value_from alternating sign
value_alternating k [] = solveℚ (sign ℚ_ring k ∷ []) (search reifyℚ depth 20) (search reifyℚ depth 20) tt
value_alternating k (c ∷ cs) =
    rw (first_minus_one ℚ_ring, value_alternating (suc k) cs, ← whole_sub)
    (solveℚ (sign ℚ_ring k ∷ whole c ∷ whole (alternating cs) ∷ []) (search reifyℚ depth 20) (search reifyℚ depth 20) tt)

alternating-zeros : (cs : List ℤ) (n : ℕ) → alternating (cs ++ replicate n (pos 0)) ≡ alternating cs
unfolding alternating
alternating-zeros [] zero = refl
alternating-zeros [] (suc n) = ap (λ z. pos 0 -ℤ z) (alternating-zeros [] n)
alternating-zeros (c ∷ cs) n = ap (λ z. c -ℤ z) (alternating-zeros cs n)

alternating_integral : (d : ℕ) (ds : List ℤ) → alternating (rounded_integral d ds) ≡ pos 0
unfolding alternating rounded_integral
alternating_integral d ds =
    ap (λ z. alternating (rounded_tail d ds) -ℤ z) (alternating-zeros (rounded_tail d ds) (coefficient_count - suc (length (rounded_tail d ds)))) ∙ self (alternating (rounded_tail d ds))
  where
    self : (z : ℤ) → z -ℤ z ≡ pos 0
    self = all1 _ (simp differences (omega arith))

value_integral : (d : ℕ) (ds : List ℤ) → value ℚ_ring (-ℚ whole (pos 1)) (map whole (rounded_integral d ds)) ≡ whole (pos 0)
unfolding value sign
value_integral d ds = rw (value_alternating 0 (rounded_integral d ds), alternating_integral d ds) (one_*ℚ (whole (pos 0)))

-- ---- the coefficients

doubled_first : (cs : List ℤ) → get_or (double_first cs) 0 (pos 0) ≡ pos 2 *ℤ get_or cs 0 (pos 0)
unfolding double_first
doubled_first [] = refl
doubled_first (c ∷ cs) = refl

doubled_next : (cs : List ℤ) (k : ℕ) → get_or (double_first cs) (suc k) (pos 0) ≡ get_or cs (suc k) (pos 0)
unfolding double_first
doubled_next [] k = refl
doubled_next (c ∷ cs) k = refl

number : (b cs : List ℤ) → ((i : ℕ) → get_or b i (pos 0) ≡ get_or cs i (pos 0)) → (i : ℕ) → get_or (map whole b) i (whole (pos 0)) ≡ whole (get_or cs i (pos 0))
number b cs same i = get_or-map whole b i (pos 0) ∙ ap whole (same i)

-- the numerators over ℚ are those over ℤ
numerator-whole : (b cs : List ℤ) (k : ℕ) → ((i : ℕ) → get_or b i (pos 0) ≡ get_or cs i (pos 0))
    → numerator (map whole b) k ≡ whole (get_or (double_first cs) k (pos 0) -ℤ get_or (double_first cs) (suc (suc k)) (pos 0))
numerator-whole b cs zero same =
    numerator_first (map whole b)
    ∙ ap₂ (λ x y. whole (pos 2) *ℚ x -ℚ y) (number b cs same 0) (number b cs same 2)
    ∙ rw (doubled_first cs, doubled_next cs 1, ← whole_sub, whole-mul)
numerator-whole b cs (suc k) same =
    numerator_next (map whole b) k
    ∙ ap₂ ◌-ℚ◌ (number b cs same (suc k)) (number b cs same (suc (suc (suc k))))
    ∙ rw (doubled_next cs k, doubled_next cs (suc (suc k)), ← whole_sub)

-- near(n/d)·d is within d/2 of n
near-whole : (n : ℤ) (d : ℕ) → 0 < d → (whole (pos 2) *ℚ ∣ whole (near n d) *ℚ whole (pos d) -ℚ whole n ∣ℚ) ≤ℚ whole (pos d)
near-whole n d h = rw (← whole-mul, whole_sub, whole-abs, ← whole-mul) ((whole_le _ _).1 (near_error_abs n d h))

-- ---- S-24: each numerator times (u−l)/(2S)

-- (u−l)/(2S)
abbrev ratio_of : ℕ → ℚ
ratio_of d = whole (pos d) /ℚ (whole (pos 2) *ℚ whole (pos scale))

pub two-scale : ¬ (whole (pos 2) *ℚ whole (pos scale) ≡ whole (pos 0))
two-scale e = natural_positive (2 * scale) (omega arith) (le_of_eq ℚ_ordered (natural_mul 2 scale ∙ e))

pub ratio_times : (d : ℕ) → ratio_of d *ℚ (whole (pos 2) *ℚ whole (pos scale)) ≡ whole (pos d)
ratio_times d = quotient_mul (whole (pos d)) (whole (pos 2) *ℚ whole (pos scale)) two-scale

numerator-scale : (s : ℚ) (a : List ℚ) (k : ℕ) → numerator (scale_list ℚ_ring s a) k ≡ s *ℚ numerator a k
numerator-scale s a zero =
    numerator_first (scale_list ℚ_ring s a)
    ∙ ap₂ (λ x y. whole (pos 2) *ℚ x -ℚ y) (get_d_scale ℚ_ring s a 0) (get_d_scale ℚ_ring s a 2)
    ∙ regroup s (get_or a 0 (whole (pos 0))) (get_or a 2 (whole (pos 0)))
    ∙ ap (λ x. s *ℚ x) (sym (numerator_first a))
  where
    regroup : (s x y : ℚ) → whole (pos 2) *ℚ (s *ℚ x) -ℚ s *ℚ y ≡ s *ℚ (whole (pos 2) *ℚ x -ℚ y)
    regroup s x y = solveℚ (s ∷ x ∷ y ∷ []) (search reifyℚ depth 20) (search reifyℚ depth 20) tt
numerator-scale s a (suc k) =
    numerator_next (scale_list ℚ_ring s a) k
    ∙ ap₂ ◌-ℚ◌ (get_d_scale ℚ_ring s a (suc k)) (get_d_scale ℚ_ring s a (suc (suc (suc k))))
    ∙ regroup s (get_or a (suc k) (whole (pos 0))) (get_or a (suc (suc (suc k))) (whole (pos 0)))
    ∙ ap (λ x. s *ℚ x) (sym (numerator_next a k))
  where
    regroup : (s x y : ℚ) → s *ℚ x -ℚ s *ℚ y ≡ s *ℚ (x -ℚ y)
    regroup s x y = solveℚ (s ∷ x ∷ y ∷ []) (search reifyℚ depth 20) (search reifyℚ depth 20) tt

-- near(n·(u−l)/(4S·k)) is within one half of n·(u−l)/(2S)/(2k)
near-ratio : (n : ℤ) (d k : ℕ)
    → (whole (pos 2) *ℚ ∣ whole (near (n *ℤ pos d) (4 * scale * suc k)) *ℚ whole (pos (2 * suc k)) -ℚ ratio_of d *ℚ whole n ∣ℚ) ≤ℚ whole (pos (2 * suc k))
near-ratio n d k =
    ≤ℚ_cancel t _ _ positive
    (rw (spread, ← divisor) (subst (λ z. (whole (pos 2) *ℚ ∣ c *ℚ whole (pos (4 * scale * suc k)) -ℚ z ∣ℚ) ≤ℚ whole (pos (4 * scale * suc k))) (whole-mul n (pos d)) (near-whole (n *ℤ pos d) (4 * scale * suc k) (omega arith))))
  where
    t : ℚ
    t = whole (pos 2) *ℚ whole (pos scale)

    c : ℚ
    c = whole (near (n *ℤ pos d) (4 * scale * suc k))

    positive : whole (pos 0) <ℚ t
    positive = rw (natural_mul 2 scale) at (natural_positive (2 * scale) (omega arith))

    divisor : whole (pos (4 * scale * suc k)) ≡ t *ℚ whole (pos (2 * suc k))
    divisor = let e : 4 * scale * suc k ≡ 2 * scale * (2 * suc k) = omega arith in ap (λ (m : ℕ). whole (pos m)) e ∙ natural_mul (2 * scale) (2 * suc k) ∙ ap (λ z. z *ℚ whole (pos (2 * suc k))) (natural_mul 2 scale)

    spread : t *ℚ (whole (pos 2) *ℚ ∣ c *ℚ whole (pos (2 * suc k)) -ℚ ratio_of d *ℚ whole n ∣ℚ) ≡ whole (pos 2) *ℚ ∣ c *ℚ whole (pos (4 * scale * suc k)) -ℚ whole n *ℚ whole (pos d) ∣ℚ
    spread =
        swap t (whole (pos 2)) ∣ c *ℚ whole (pos (2 * suc k)) -ℚ ratio_of d *ℚ whole n ∣ℚ
        ∙ ap (λ z. whole (pos 2) *ℚ z)
        (ap (λ z. z *ℚ ∣ c *ℚ whole (pos (2 * suc k)) -ℚ ratio_of d *ℚ whole n ∣ℚ) (sym (abs_of_nonneg ℚ_ordered (◌⊠◌ ℚ_ordered (ι_nonneg ℚ_ordered 2) (ι_nonneg ℚ_ordered scale))))
        ∙ sym (abs-mul ℚ_ordered t (c *ℚ whole (pos (2 * suc k)) -ℚ ratio_of d *ℚ whole n))
        ∙ ap ∣◌∣ℚ
        (regroup t c (whole (pos (2 * suc k))) (ratio_of d) (whole n)
        ∙ ap₂ (λ x y. c *ℚ x -ℚ whole n *ℚ y) (sym divisor) (ratio_times d)))
      where
        swap : (t w z : ℚ) → t *ℚ (w *ℚ z) ≡ w *ℚ (t *ℚ z)
        swap t w z = solveℚ (t ∷ w ∷ z ∷ []) (search reifyℚ depth 20) (search reifyℚ depth 20) tt

        regroup : (t c k r n : ℚ) → t *ℚ (c *ℚ k -ℚ r *ℚ n) ≡ c *ℚ (t *ℚ k) -ℚ n *ℚ (r *ℚ t)
        regroup t c k r n = solveℚ (t ∷ c ∷ k ∷ r ∷ n ∷ []) (search reifyℚ depth 20) (search reifyℚ depth 20) tt

-- the rounded coefficients c_1, c_2, … with zeros beyond them
rounded : (d : ℕ) (b cs : List ℤ) (z : ℕ) → ((i : ℕ) → get_or b i (pos 0) ≡ get_or cs i (pos 0))
    → Rounded (scale_list ℚ_ring (ratio_of d) (map whole b)) (map whole (rounded_tail d (double_first cs) ++ replicate z (pos 0))) (length cs)
rounded d b cs z same = record {
  near = λ k h. rw (tail k, scaled k, get_d_rounded d (double_first cs) k (rw length_doubled h)) (near-ratio (get_or (double_first cs) k (pos 0) -ℤ get_or (double_first cs) (suc (suc k)) (pos 0)) d k);
  exact = λ k h.
      ap (λ x. x *ℚ whole (pos (2 * suc k))) (tail k ∙ ap whole (get_or-eq_default (rounded_tail d (double_first cs)) (pos 0) {n = k} (omega (arith, length-rounded d (double_first cs), length_doubled cs))))
      ∙ zero_*ℚ (whole (pos (2 * suc k)))
      ∙ sym (scaled k ∙ ap (λ x. ratio_of d *ℚ x) (ap₂ (λ x y. whole (x -ℤ y)) (beyond k h) (beyond (suc (suc k)) (omega arith))) ∙ *ℚ_comm (ratio_of d) (whole (pos 0)) ∙ zero_*ℚ (ratio_of d));
}
  where
    scaled : (k : ℕ) → numerator (scale_list ℚ_ring (ratio_of d) (map whole b)) k ≡ ratio_of d *ℚ whole (get_or (double_first cs) k (pos 0) -ℤ get_or (double_first cs) (suc (suc k)) (pos 0))
    scaled k = numerator-scale (ratio_of d) (map whole b) k ∙ ap (λ x. ratio_of d *ℚ x) (numerator-whole b cs k same)

    beyond : (k : ℕ) → length cs ≤ k → get_or (double_first cs) k (pos 0) ≡ pos 0
    beyond k h = get_or-eq_default (double_first cs) (pos 0) {n = k} (omega (arith, length_doubled cs))

    tail : (k : ℕ) → get_or (map whole (rounded_tail d (double_first cs) ++ replicate z (pos 0))) k (whole (pos 0)) ≡ whole (get_or (rounded_tail d (double_first cs)) k (pos 0))
    tail = number (rounded_tail d (double_first cs) ++ replicate z (pos 0)) (rounded_tail d (double_first cs)) (get_d_append_zeros (rounded_tail d (double_first cs)) z)

-- ---- the theorems

-- "c_0 makes the value at −1 exactly 0"
pub integral_minus_one : (a : Model) → value ℚ_ring (-ℚ whole (pos 1)) (map whole (integral_model a).coefficients) ≡ whole (pos 0)
integral_minus_one a = rw (← integral_is a) (value_integral (extent a.interval) (double_first (terms a)))

pub ratio_nonneg : (i : Interval) → whole (pos 0) ≤ℚ ratio i
ratio_nonneg i =
    ≤ℚ_cancel t (whole (pos 0)) (ratio i) (rw (natural_mul 2 scale) at (natural_positive (2 * scale) (omega arith)))
    (by_certificate ℚ_ordered (ι_nonneg ℚ_ordered (extent i)) (regroup t (ratio i) ∙ ratio_times (extent i)))
  where
    t : ℚ
    t = whole (pos 2) *ℚ whole (pos scale)

    regroup : (t r : ℚ) → t *ℚ r -ℚ t *ℚ whole (pos 0) ≡ r *ℚ t
    regroup t r = solveℚ (t ∷ r ∷ []) (search reifyℚ depth 20) (search reifyℚ depth 20) tt

scale_opposite : (r : ℚ) (b : List ℚ) → map -ℚ◌ (scale_list ℚ_ring r b) ≡ scale_list ℚ_ring r (map -ℚ◌ b)
unfolding scale_list
scale_opposite r [] = refl
scale_opposite r (x ∷ b) = ap₂ ◌∷◌ (solveℚ (r ∷ x ∷ []) (search reifyℚ depth 20) (search reifyℚ depth 20) tt) (scale_opposite r b)

-- a list times r, less another times r
scaled_distance : (r : ℚ) (a b : List ℚ) → whole (pos 0) ≤ℚ r
    → norm ℚ_ordered (subtract_lists ℚ_ring (scale_list ℚ_ring r a) (scale_list ℚ_ring r b)) ≡ r *ℚ norm ℚ_ordered (subtract_lists ℚ_ring a b)
unfolding subtract_lists
scaled_distance r a b h =
    ap (λ l. norm ℚ_ordered (add_lists ℚ_ring (scale_list ℚ_ring r a) l)) (scale_opposite r b)
    ∙ ap (norm ℚ_ordered) (sym (scale-add ℚ_ring r a (map -ℚ◌ b)))
    ∙ norm_scale ℚ_ordered r (add_lists ℚ_ring a (map -ℚ◌ b))
    ∙ ap (λ s. s *ℚ norm ℚ_ordered (add_lists ℚ_ring a (map -ℚ◌ b))) (abs_of_nonneg ℚ_ordered h)

-- how far the primitive of α lies from the integral, coefficient by coefficient: (u−l)/S times as far as α from the integrand, and
-- the rounding of c_0, …, c_(n+1)
integral_distance : (a : Model) (α : List ℚ) → good a ≡ true
    → norm ℚ_ordered (subtract_lists ℚ_ring (exact_integral a.interval α) (map whole (integral_model a).coefficients))
    ≤ℚ (whole (pos 2) *ℚ (ratio a.interval *ℚ norm ℚ_ordered (subtract_lists ℚ_ring α (map whole a.coefficients))) +ℚ whole (pos (a.degree + 1)))
unfolding rounded_integral
integral_distance a α g =
    rw (← integral_is a, ← primitive-scale (ratio a.interval) α, ← scaled_distance (ratio a.interval) α (map whole a.coefficients) (ratio_nonneg a.interval))
    (◌⟨≼⟩◌ ℚ_ordered
    (primitive-rounded (scale_list ℚ_ring (ratio a.interval) α) (scale_list ℚ_ring (ratio a.interval) (map whole a.coefficients)) (map whole (tail ++ replicate zeros (pos 0))) (whole (alternating tail)) (length (terms a))
    (rounded d a.coefficients (terms a) zeros (get_d_terms a g)) (value_integral d (double_first (terms a))))
    (◌⟨+⟩◌ ℚ_ordered (le_refl ℚ_ordered _) (natural_le places_used)))
  where
    d : ℕ
    d = extent a.interval

    tail : List ℤ
    tail = rounded_tail d (double_first (terms a))

    zeros : ℕ
    zeros = coefficient_count - suc (length tail)

    places_used : length (terms a) ≤ a.degree + 1
    places_used = rw length-take (omega arith)

-- S-24: "radius up(e·(u−l)/S) + n + 1": (u−l)/S·e and n + 1 are below it
pub integral_radius : (a : Model) → (whole (pos 2) *ℚ (ratio a.interval *ℚ whole (pos a.radius)) +ℚ whole (pos (a.degree + 1))) ≤ℚ whole (pos (integral_model a).radius)
unfolding integral_model
integral_radius a =
    let e : upℕ (a.radius * d) scale + a.degree + 1 ≡ upℕ (a.radius * d) scale + (a.degree + 1) = omega arith in
    rw (e, natural_add (upℕ (a.radius * d) scale) (a.degree + 1)) (◌⟨+⟩◌ ℚ_ordered spread (le_refl ℚ_ordered _))
  where
    d : ℕ
    d = extent a.interval

    spread : (whole (pos 2) *ℚ (ratio a.interval *ℚ whole (pos a.radius))) ≤ℚ whole (pos (upℕ (a.radius * d) scale))
    spread =
        ≤ℚ_cancel (whole (pos scale)) _ _ (natural_positive scale (omega arith))
        (rw (regroup (ratio a.interval) (whole (pos a.radius)) (whole (pos scale)), ratio_times d, ← natural_mul, *ℚ_comm (whole (pos scale)) (whole (pos (upℕ (a.radius * d) scale))), ← natural_mul)
        (natural_le (le-upℕ (a.radius * d) scale (omega arith))))
      where
        regroup : (r e s : ℚ) → s *ℚ (whole (pos 2) *ℚ (r *ℚ e)) ≡ e *ℚ (r *ℚ (whole (pos 2) *ℚ s))
        regroup r e s = solveℚ (r ∷ e ∷ s ∷ []) (search reifyℚ depth 20) (search reifyℚ depth 20) tt

-- the radius bounds the exact primitive of α, coefficient by coefficient
pub integral_sound : (a : Model) (α : List ℚ) → good a ≡ true
    → norm ℚ_ordered (subtract_lists ℚ_ring α (map whole a.coefficients)) ≤ℚ whole (pos a.radius)
    → norm ℚ_ordered (subtract_lists ℚ_ring (exact_integral a.interval α) (map whole (integral_model a).coefficients)) ≤ℚ whole (pos (integral_model a).radius)
integral_sound a α g h =
    ◌⟨≼⟩◌ ℚ_ordered (integral_distance a α g)
    (◌⟨≼⟩◌ ℚ_ordered
    (◌⟨+⟩◌ ℚ_ordered (mul_left ℚ_ordered (whole (pos 2)) (ι_nonneg ℚ_ordered 2) (mul_left ℚ_ordered (ratio a.interval) (ratio_nonneg a.interval) h)) (le_refl ℚ_ordered (whole (pos (a.degree + 1)))))
    (integral_radius a))

-- and its value, wherever T_k is taken
pub integral_value : (a : Model) (α : List ℚ) (y : ℚ) → good a ≡ true → ∣ y ∣ℚ ≤ℚ whole (pos 1)
    → norm ℚ_ordered (subtract_lists ℚ_ring α (map whole a.coefficients)) ≤ℚ whole (pos a.radius)
    → ∣ value ℚ_ring y (exact_integral a.interval α) -ℚ value_at y (integral_model a).coefficients ∣ℚ ≤ℚ whole (pos (integral_model a).radius)
integral_value a α y g h l = ◌⟨≼⟩◌ ℚ_ordered (value_distance ℚ_ordered y (exact_integral a.interval α) (map whole (integral_model a).coefficients) h) (integral_sound a α g l)

-- the primitive of the integrand's own list: only the rounding is left
pub integral_rounding : (a : Model) (y : ℚ) → good a ≡ true → ∣ y ∣ℚ ≤ℚ whole (pos 1)
    → ∣ ratio a.interval *ℚ value ℚ_ring y (primitive (map whole a.coefficients)) -ℚ value_at y (integral_model a).coefficients ∣ℚ ≤ℚ whole (pos (a.degree + 1))
integral_rounding a y g h =
    rw (← value_scale ℚ_ring y (ratio a.interval) (primitive (map whole a.coefficients)))
    (◌⟨≼⟩◌ ℚ_ordered (value_distance ℚ_ordered y (exact_integral a.interval (map whole a.coefficients)) (map whole (integral_model a).coefficients) h)
    (◌⟨≼⟩◌ ℚ_ordered (integral_distance a (map whole a.coefficients) g) (le_of_eq ℚ_ordered (rw (norm_self ℚ_ordered (map whole a.coefficients)) (none (ratio a.interval) (whole (pos (a.degree + 1))))))))
  where
    none : (r d : ℚ) → whole (pos 2) *ℚ (r *ℚ whole (pos 0)) +ℚ d ≡ d
    none r d = solveℚ (r ∷ d ∷ []) (search reifyℚ depth 9) (search reifyℚ depth 9) tt

-- ---- the same of the answer

module _ (a : Model) {c : Model} (e : integration a ≡ accepted c) where
  pub integration_accepted : (good a ≡ true) × (c ≡ integral_model a)
  unfolding integration
  integration_accepted =
      let (passed, result) = outcome_accepted (integration_places a) (integral_model a) zero_model e in
      (not-false (good a) passed.0, result)

  -- on the integrand's interval
  pub integration_interval : c.interval ≡ a.interval
  unfolding integral_model
  integration_interval = ap (λ m. m.interval) integration_accepted.1

  -- "It bounds the exact primitive …, again summed over coefficients."
  pub integration_lists : (α : List ℚ) → Describes a α → Describes c (exact_integral a.interval α)
  integration_lists α h = rw (← norm_total, integration_accepted.1) (integral_sound a α integration_accepted.0 (rw norm_total h))

  -- so the integral's model allows the exact primitive's value, in units of 1/S, at every fraction of the interval
  pub integration_sound : (α : List ℚ) → Describes a α → (x : ℚ) → OnInterval a.interval x
      → Allows c x (value ℚ_ring (position a.interval x) (exact_integral a.interval α) /ℚ whole (pos scale))
  unfolding AllowsAt allows
  integration_sound α h x on =
      rw (integration_interval, quotient_mul (value ℚ_ring (position a.interval x) (exact_integral a.interval α)) (whole (pos scale)) scale_nonzero)
      (◌⟨≼⟩◌ ℚ_ordered (value_distance ℚ_ordered (position a.interval x) (exact_integral a.interval α) (map whole c.coefficients) (within (good_is a integration_accepted.0).ends x on)) (rw norm_total (integration_lists α h)))

  -- "c_0 makes the value at −1", where T_k is taken at the start l/S, "exactly 0."
  pub integration-start : value_at (position c.interval (start a.interval)) c.coefficients ≡ whole (pos 0)
  integration-start =
      ap (λ i. value_at (position i (start a.interval)) c.coefficients) integration_interval
      ∙ ap₂ (λ y m. value_at y m.coefficients) (position-start (good_is a integration_accepted.0).ends) integration_accepted.1
      ∙ integral_minus_one a
