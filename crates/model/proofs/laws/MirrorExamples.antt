-- Ties and their mirrors at closed models, computed from the definitions: under the former rule, a tie towards plus infinity, each
-- pair would differ. A coefficient −2^31, whose negation 32 bits do not hold, is refused with 2 on both sides.
use Rattle.std.specs.Prelude.{◌≡◌, refl, [], ◌∷◌, pos, negsuc}
use Rattle.integer.specs.definitions.Rounding.{floor, up, upℕ, near}
use Rattle.chebyshev.specs.definitions.Coefficients.{weight, lipschitz_weight, add_lists, subtract_lists}
use Rattle.chebyshev.specs.definitions.Negation.{odd, negated_from}
use Rattle.chebyshev.specs.definitions.Product.{product, add_at_by, add_pair_by, add_term_by, add_terms_by}
use Rattle.model.specs.definitions.Evaluate.{mapped_point, maps_exactly, growth, evaluation, zero_bounds, low_bound, high_bound, point_term, point_sum, point_error}
use Rattle.model.specs.definitions.Integrate.{integration, integral_model, integral_list, halved, numerators, double_first, alternating}
use Rattle.model.specs.definitions.Mirror.{negated, mirrored}
use Rattle.model.specs.definitions.Models.{parts_within_limits, good, too_large, standard_model, constant_model, zero_model}
use Rattle.model.specs.definitions.Multiply.{multiplication, product_model, product_list, product_loss}
use Rattle.model.specs.definitions.Intervals.{good_ends, extent, same_interval, contains}
use Rattle.model.specs.definitions.Outcomes.{accepted, refused, passing}
use Rattle.model.specs.definitions.Round.{rounded, rounding_loss}
use Rattle.model.proofs.laws.Examples.{padded}
use Rattle.model.specs.declared.types.Model.{Model}

-- 6·T_1, and S + 2^24·T_3, whose mirror is not its negation
abbrev slope : Model
slope = standard_model 1 (padded (pos 0 ∷ pos 6 ∷ [])) 0

abbrev cubic : Model
cubic = standard_model 3 (padded (pos 1048576 ∷ pos 0 ∷ pos 0 ∷ pos 16777216 ∷ [])) 0

-- 3/2 and −3/2; the integral of 6·T_1, with 6/4 for T_2; a point at which t_3 is rounded at a tie
abbrev pub Ties : Type 0
Ties =
    (multiplication 32 (constant_model (pos 3)) (constant_model (pos 524288)) ≡ accepted (standard_model 0 (padded (pos 2 ∷ [])) 1))
    × (multiplication 32 (negated (constant_model (pos 3))) (constant_model (pos 524288)) ≡ accepted (standard_model 0 (padded (negsuc 1 ∷ [])) 1))
    × (integration slope ≡ accepted (standard_model 2 (padded (negsuc 1 ∷ pos 0 ∷ pos 2 ∷ [])) 2))
    × (integration (negated slope) ≡ accepted (standard_model 2 (padded (pos 2 ∷ pos 0 ∷ negsuc 1 ∷ [])) 2))
    × (evaluation cubic (pos 2560) ≡ accepted (record { low = pos 925696; high = pos 925697 }))
    × (evaluation (mirrored cubic) (negsuc 2559) ≡ accepted (record { low = pos 925696; high = pos 925697 }))

pub ties : Ties
unfolding multiplication same_interval extent mapped_point maps_exactly growth contains good_ends parts_within_limits lipschitz_weight product_model product_list product_loss rounded rounding_loss integration integral_model integral_list halved numerators double_first alternating evaluation low_bound high_bound point_term point_sum point_error passing good too_large constant_model zero_model weight add_lists subtract_lists add_at_by add_pair_by add_term_by add_terms_by product floor up upℕ near odd negated_from
ties = (refl, refl, refl, refl, refl, refl)

-- −2^31·T_1
abbrev lowest : Model
lowest = standard_model 1 (padded (pos 0 ∷ negsuc 2147483647 ∷ [])) 0

abbrev pub Lowest : Type 0
Lowest =
    (multiplication 32 lowest (constant_model (pos 1)) ≡ refused 2 zero_model)
    × (multiplication 32 (negated lowest) (constant_model (pos 1)) ≡ refused 2 zero_model)
    × (integration lowest ≡ refused 2 zero_model)
    × (integration (negated lowest) ≡ refused 2 zero_model)
    × (evaluation lowest (pos 1) ≡ refused 2 zero_bounds)
    × (evaluation (mirrored lowest) (negsuc 0) ≡ refused 2 zero_bounds)

pub lowest_refused : Lowest
unfolding multiplication integration evaluation parts_within_limits passing good weight odd negated_from good_ends
lowest_refused = (refl, refl, refl, refl, refl, refl)
