-- P1 to P6 of document 01, computed from the definitions: whole outcomes, with all 33 coefficients.
use Rattle.std.specs.Prelude.{◌≡◌, refl, List, [], ◌∷◌, ◌++◌, ◌-◌, ℤ, pos, negsuc, length, replicate}
use Rattle.std.proofs.Common.{◌∙◌}
use Rattle.integer.specs.definitions.Rounding.{floor, up, upℕ, near}
use Rattle.chebyshev.specs.definitions.Coefficients.{weight, lipschitz_weight, add_lists, subtract_lists}
use Rattle.chebyshev.specs.definitions.Product.{product, add_at_by, add_pair_by, add_term_by, add_terms_by}
use Rattle.model.proofs.laws.MultiplicationLaws.{larger_kept}
use Rattle.model.specs.definitions.Models.{coefficient_count, parts_within_limits, good, too_large, standard_model, constant_model, zero_model}
use Rattle.model.specs.definitions.Intervals.{good_ends, extent, same_interval, contains}
use Rattle.model.specs.definitions.Outcomes.{accepted, passing}
use Rattle.model.specs.definitions.Multiply.{multiplication, product_model, product_list, product_loss}
use Rattle.model.specs.definitions.Integrate.{integration, integral_model, integral_list, halved, numerators, double_first, alternating}
use Rattle.model.specs.definitions.Evaluate.{mapped_point, maps_exactly, growth, evaluation, low_bound, high_bound, point_term, point_sum, point_error}
use Rattle.model.specs.definitions.Round.{rounded, rounding_loss}
use Rattle.model.specs.declared.types.Model.{Model}

-- a list whose first coefficients are given, zeros behind them
abbrev pub padded : List ℤ → List ℤ
padded cs = cs ++ replicate (coefficient_count - length cs) (pos 0)

-- a_1 = S, and a_2 = S
abbrev pub linear : Model
linear = standard_model 1 (padded (pos 0 ∷ pos 1048576 ∷ [])) 0

abbrev pub quadratic : Model
quadratic = standard_model 2 (padded (pos 0 ∷ pos 0 ∷ pos 1048576 ∷ [])) 0

-- T_1 times T_1 whole, and cut at degree 1; a tie above zero, and one below; an integral; T_2 at 1/2
abbrev pub Benchmarks : Type 0
Benchmarks =
    (multiplication 2 linear linear ≡ accepted (standard_model 2 (padded (pos 524288 ∷ pos 0 ∷ pos 524288 ∷ [])) 0))
    × (multiplication 1 linear linear ≡ accepted (standard_model 1 (padded (pos 524288 ∷ [])) 524288))
    × (multiplication 32 (constant_model (pos 1)) (constant_model (pos 524288)) ≡ accepted (standard_model 0 (padded []) 1))
    × (multiplication 32 (constant_model (negsuc 0)) (constant_model (pos 524288)) ≡ accepted (standard_model 0 (padded []) 1))
    × (integration (constant_model (pos 1048576)) ≡ accepted (standard_model 1 (padded (pos 1048576 ∷ pos 1048576 ∷ [])) 1))
    × (evaluation quadratic (pos 524288) ≡ accepted (record { low = negsuc 524288; high = negsuc 524286 }))

pub benchmarks : Benchmarks
unfolding multiplication same_interval extent mapped_point maps_exactly growth contains good_ends parts_within_limits lipschitz_weight product_model product_list product_loss rounded rounding_loss integration integral_model integral_list halved numerators double_first alternating evaluation low_bound high_bound point_term point_sum point_error passing good too_large constant_model zero_model weight add_lists subtract_lists add_at_by add_pair_by add_term_by add_terms_by product floor up upℕ near
benchmarks = (refl, refl, refl, refl, refl, refl)

-- 02, S-27: 255 cuts T_1 times T_1 at degree 1, the larger of the two
pub larger_degree_example : multiplication 255 linear linear ≡ accepted (standard_model 1 (padded (pos 524288 ∷ [])) 524288)
larger_degree_example = larger_kept linear linear ∙ benchmarks.1
