-- The bound of request S-8 is attained: of the integrand S·T_1 with radius 0, whose only allowed value at x is x, the sum over k
-- strips from −1 to 1 lies 2·L/k units below the integral's polynomial, for every k. The radius is the rounding part alone. And a
-- choice that lies a radius off the polynomial.
use Rattle.std.specs.Prelude.{◌≡◌, refl, [], ◌∷◌, ℕ, zero, suc, ◌*◌, ◌<◌, pos, negsuc}
use Rattle.std.proofs.Common.{sym, ◌∙◌, ap, ap₂, subst}
use Rattle.integer.specs.definitions.Rounding.{floor, upℕ, near}
use Rattle.integer.proofs.laws.Embedding.{ι_suc, ι_abs}
use Rattle.ring.proofs.laws.OrderedRingLaws.{le_of_eq}
use Rattle.fraction.specs.definitions.Fraction.{ℚ, whole, ◌+ℚ◌, ◌-ℚ◌, -ℚ◌, ◌*ℚ◌, ∣◌∣ℚ, ◌/ℚ◌, inverse}
use Rattle.integer.specs.definitions.FractionRing.{ℚ_ring}
use Rattle.integer.proofs.laws.FractionSolver.{reifyℚ, solveℚ}
use Rattle.integer.proofs.laws.FractionOrder.{ℚ_ordered}
use Rattle.integer.proofs.laws.FractionInverse.{quotient_mul}
use Rattle.integer.proofs.laws.FractionRounding.{natural_nonzero}
use Rattle.chebyshev.specs.definitions.Recurrences.{first_kind}
use Rattle.chebyshev.specs.definitions.Coefficients.{weight, lipschitz_weight, coefficient_sum, value_from, value, add_lists, subtract_lists}
use Rattle.chebyshev.proofs.laws.PrimitiveLaws.{double_injective}
use Rattle.chebyshev.proofs.laws.Sign.{value_one}
use Rattle.chebyshev.specs.definitions.Strips.{left_sum}
use Rattle.chebyshev.specs.definitions.Allows.{allows}
use Rattle.model.specs.definitions.Models.{scale, parts_within_limits, good, too_large, standard_model}
use Rattle.model.specs.definitions.Intervals.{good_ends, extent, standard_interval}
use Rattle.model.proofs.laws.StandardInterval.{position_standard, start_standard}
use Rattle.model.specs.definitions.Outcomes.{accepted, passing}
use Rattle.model.specs.definitions.Allowed.{position, AllowsAt}
use Rattle.model.specs.definitions.Integrate.{integration, integral_model, integral_list, halved, numerators, double_first, alternating}
use Rattle.model.specs.definitions.Strips.{Chooses, strip_sum, lipschitz}
use Rattle.model.proofs.laws.ValueLaws.{value_at, value_at_append_zeros, scale_nonzero}
use Rattle.model.proofs.laws.Examples.{padded, linear}
use Rattle.model.specs.declared.types.Model.{Model}

abbrev pub linear_integral : Model
linear_integral = standard_model 2 (padded (negsuc 262143 ∷ pos 0 ∷ pos 262144 ∷ [])) 2

pub linear_integral_lem : integration linear ≡ accepted linear_integral
unfolding integration good_ends parts_within_limits extent upℕ integral_model integral_list halved numerators double_first alternating passing good too_large weight add_lists subtract_lists floor near
linear_integral_lem = refl

-- L is S
pub linear_lipschitz : lipschitz linear ≡ scale
unfolding lipschitz_weight
linear_lipschitz = refl

-- the choice of x at x
pub linear_chosen : Chooses linear (λ x. x)
unfolding AllowsAt allows value value_from first_kind
linear_chosen x on =
    subst (λ y. AllowsAt linear y x) (sym (position_standard x))
    (le_of_eq ℚ_ordered
    (ap (λ v. ∣ x *ℚ whole (pos scale) -ℚ v ∣ℚ) (value_at_append_zeros x (pos 0 ∷ pos 1048576 ∷ []) 31)
    ∙ ap ∣◌∣ℚ (solveℚ (x ∷ []) (search reifyℚ depth 20) (search reifyℚ depth 20) tt)
    ∙ ι_abs ℚ_ordered (pos 0)))

-- a choice off the polynomial: one unit everywhere, of the zero polynomial with radius 1
pub unit_chosen : Chooses (standard_model 0 (padded []) 1) (λ x. whole (pos 1) /ℚ whole (pos scale))
unfolding AllowsAt allows value value_from
unit_chosen x on =
    le_of_eq ℚ_ordered
    (ap₂ (λ u v. ∣ u -ℚ v ∣ℚ) (quotient_mul (whole (pos 1)) (whole (pos scale)) scale_nonzero) (value_at_append_zeros (position standard_interval x) [] 33)
    ∙ ap ∣◌∣ℚ one
    ∙ ι_abs ℚ_ordered (pos 1))
  where
    one : whole (pos 1) -ℚ whole (pos 0) ≡ whole (pos 1)
    one = solveℚ [] (search reifyℚ depth 9) (search reifyℚ depth 9) tt

-- 2·Σ (y + i·h)·h = k·h·(2·y + k·h − h)
sum_of_ends : (k : ℕ) (y h : ℚ) → whole (pos 2) *ℚ left_sum (λ x. x) y h k ≡ whole (pos k) *ℚ h *ℚ (whole (pos 2) *ℚ y +ℚ whole (pos k) *ℚ h -ℚ h)
unfolding left_sum
sum_of_ends zero y h = solveℚ (y ∷ h ∷ []) (search reifyℚ depth 20) (search reifyℚ depth 20) tt
sum_of_ends (suc k) y h =
    solveℚ (y ∷ h ∷ left_sum (λ x. x) (y +ℚ h) h k ∷ []) (search reifyℚ depth 20) (search reifyℚ depth 20) tt
    ∙ ap (λ v. whole (pos 2) *ℚ (y *ℚ h) +ℚ v) (sum_of_ends k (y +ℚ h) h)
    ∙ rw (ι_suc ℚ_ring k) (next (whole (pos k)))
  where
    next : (n : ℚ) → whole (pos 2) *ℚ (y *ℚ h) +ℚ n *ℚ h *ℚ (whole (pos 2) *ℚ (y +ℚ h) +ℚ n *ℚ h -ℚ h)
        ≡ (whole (pos 1) +ℚ n) *ℚ h *ℚ (whole (pos 2) *ℚ y +ℚ (whole (pos 1) +ℚ n) *ℚ h -ℚ h)
    next n = solveℚ (n ∷ y ∷ h ∷ []) (search reifyℚ depth 20) (search reifyℚ depth 20) tt

-- the sum is the polynomial's value less 2·L/k units
pub linear_attained : (k : ℕ) → 0 < k
    → strip_sum linear.interval (λ x. x) (whole (pos 1)) k *ℚ whole (pos scale) ≡ value_at (whole (pos 1)) linear_integral.coefficients -ℚ whole (pos (2 * lipschitz linear)) /ℚ whole (pos k)
unfolding strip_sum coefficient_sum lipschitz_weight
linear_attained k positive =
    ap (λ p. left_sum (λ x. x) p ((whole (pos 1) -ℚ p) /ℚ whole (pos k)) k *ℚ whole (pos scale)) start_standard
    ∙ ap (λ v. v *ℚ whole (pos scale)) (double_injective sum (-ℚ width) doubled)
    ∙ solveℚ (inverse (whole (pos k)) ∷ []) (search reifyℚ depth 20) (search reifyℚ depth 20) tt
    ∙ ap (λ v. v -ℚ whole (pos (2 * lipschitz linear)) /ℚ whole (pos k)) (sym (value_one linear_integral.coefficients))
  where
    width : ℚ
    width = (whole (pos 1) -ℚ -ℚ whole (pos 1)) /ℚ whole (pos k)

    sum : ℚ
    sum = left_sum (λ x. x) (-ℚ whole (pos 1)) width k

    doubled : whole (pos 2) *ℚ sum ≡ whole (pos 2) *ℚ -ℚ width
    doubled = sum_of_ends k (-ℚ whole (pos 1)) width ∙ go (whole (pos k)) width (quotient_mul (whole (pos 1) -ℚ -ℚ whole (pos 1)) (whole (pos k)) (natural_nonzero positive))
      where
        go : (n w : ℚ) → w *ℚ n ≡ whole (pos 1) -ℚ -ℚ whole (pos 1) → n *ℚ w *ℚ (whole (pos 2) *ℚ -ℚ whole (pos 1) +ℚ n *ℚ w -ℚ w) ≡ whole (pos 2) *ℚ -ℚ w
        go n w e =
            solveℚ (n ∷ w ∷ []) (search reifyℚ depth 20) (search reifyℚ depth 20) tt
            ∙ ap (λ v. v *ℚ (whole (pos 2) *ℚ -ℚ whole (pos 1) +ℚ v -ℚ w)) e
            ∙ solveℚ (w ∷ []) (search reifyℚ depth 20) (search reifyℚ depth 20) tt
