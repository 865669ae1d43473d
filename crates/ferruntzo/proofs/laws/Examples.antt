-- Closed examples of the answers at the C boundary, computed from the definitions: one of each shape, with numbers behind the areas,
-- and areas that are too short.
use Rattle.std.specs.Prelude.{◌≡◌, refl, true, false, List, [], ◌∷◌, ◌++◌, ℕ, ◌-◌, ℤ, pos, negsuc, length, drop, replicate}
use Rattle.model.specs.definitions.Area.{area_out}
use Rattle.integer.specs.definitions.Lists.{zeros}
use Rattle.integer.specs.definitions.Rounding.{floor, up, upℕ, near}
use Rattle.chebyshev.specs.definitions.Coefficients.{lipschitz_weight, weight, add_lists, subtract_lists, scale_list, coefficient_sum}
use Rattle.chebyshev.specs.definitions.Neighbours.{neighbour_sums}
use Rattle.chebyshev.specs.definitions.Product.{product, add_at_by, add_pair_by, add_term_by, add_terms_by}
use Rattle.model.specs.definitions.Intervals.{good_ends, extent, same_interval, contains}
use Rattle.model.specs.definitions.Models.{parts_within_limits, good, too_large, zero_model}
use Rattle.model.specs.definitions.Outcomes.{passing}
use Rattle.model.specs.definitions.Add.{sum_model, addition}
use Rattle.model.specs.definitions.Multiply.{product_list}
use Rattle.model.specs.definitions.Round.{rounded, rounding_loss}
use Rattle.model.specs.definitions.Evaluate.{mapped_point, maps_exactly, growth, point_term, point_sum, point_error, low_bound, high_bound, evaluation}
use Rattle.certificate.specs.definitions.Tests.{scratch_after, displacement}
use Rattle.certificate.specs.definitions.Root.{root_needing, root_places, root_contraction, root_residual, root_model}
use Rattle.certificate.specs.declared.types.RootRule.TheVariants.{ByDiscriminant, ByLeastRadius}
use Rattle.radius.specs.definitions.LeastRadius.{least_radius, first_of}
use Rattle.certificate.specs.definitions.Quotient.{quotient_needing, quotient_contraction, quotient_residual, quotient_model}
use Rattle.selection.specs.definitions.Proposal.{proposal_needing}
use Rattle.selection.specs.definitions.Select.{tighter}
use Rattle.series.specs.definitions.Convert.{good_series, expanded_from, series_model, conversion}
use Rattle.series.specs.definitions.Table.{expansion_row}
use Rattle.job.specs.definitions.Bytes.{signeds_at}
use Rattle.job.specs.definitions.Operations.{maker_places, operation}
use Rattle.job.specs.definitions.Decode.{maker_at}
use Rattle.job.specs.definitions.Reading.{reading_places}
use Rattle.job.specs.definitions.Step.{command}
use Rattle.job.specs.definitions.Run.{run, job_outcome}
use Rattle.job.specs.definitions.Work.{check_needing, work_needing, work_with, result_words, scratch_after_job}
use Rattle.ferruntzo.specs.definitions.Operations.{operation_answer, outcome_in, binary_answer, evaluation_answer, bounds_in, evaluate_answer}
use Rattle.ferruntzo.specs.definitions.Certificates.{test_answer, test_in, quotient_answer, root_answer, test_fits}
use Rattle.ferruntzo.specs.definitions.Jobs.{job_answer, check_answer}
use Rattle.ferruntzo.specs.definitions.Conversions.{series_answer}
use Rattle.ferruntzo.specs.definitions.Selections.{selection_answer, selection_in, quotient_of_two_answer}

-- the numbers of a model, or of a candidate, from its degree, its first coefficients and how many numbers follow
abbrev pub area : ℕ → List ℤ → ℕ → List ℤ
area n cs size = pos n ∷ (cs ++ replicate (size - 1 - length cs) (pos 0))

-- −S and S
abbrev pub standard_ends : List ℤ
standard_ends = negsuc 1048575 ∷ pos 1048576 ∷ []

-- a model with radius 0 on them
abbrev pub model_area : ℕ → List ℤ → List ℤ
model_area n cs = area n cs 35 ++ standard_ends

abbrev pub nines : ℕ → List ℤ
nines n = replicate n (pos 9)

abbrev pub one : List ℤ
one = model_area 0 (pos 1048576 ∷ [])

-- 1 + 1 with a number behind the area; an area of 36 numbers for the result, and for an operand
pub additions :
    (binary_answer addition one (one ++ nines 1) (nines 38) ≡ operation_answer 0 (model_area 0 (pos 2097152 ∷ []) ++ nines 1))
    × (binary_answer addition one one (nines 36) ≡ operation_answer 1 (nines 36))
    × (binary_answer addition (drop 1 one) one (nines 38) ≡ operation_answer 1 (zeros 37 ++ nines 1))
    × (binary_answer addition one (model_area 33 []) (nines 38) ≡ operation_answer 2 (zeros 37 ++ nines 1))
unfolding outcome_in area_out addition sum_model passing same_interval good_ends parts_within_limits good too_large zero_model weight add_lists zeros
additions = (refl, refl, refl, refl)

-- T_2 at 1/2, the low bound first; a point outside; a model area that is too short
pub evaluations :
    (evaluate_answer (model_area 2 (pos 0 ∷ pos 0 ∷ pos 1048576 ∷ [])) (pos 524288) (nines 3)
    ≡ evaluation_answer 0 (negsuc 524288 ∷ negsuc 524286 ∷ nines 1))
    × (evaluate_answer one (pos 1048577) (nines 3) ≡ evaluation_answer 4 (zeros 2 ++ nines 1))
    × (evaluate_answer (drop 1 one) (pos 0) (nines 3) ≡ evaluation_answer 1 (zeros 2 ++ nines 1))
    × (evaluate_answer one (pos 0) (nines 1) ≡ evaluation_answer 1 (nines 1))
unfolding bounds_in area_out evaluation contains extent mapped_point maps_exactly growth lipschitz_weight low_bound high_bound point_term point_sum point_error passing same_interval good_ends parts_within_limits good weight floor up near zeros
evaluations = (refl, refl, refl, refl)

-- 2·x² + 3·x³ with a number behind the areas; a negative degree; an area of 33 numbers for the series, and of 36 for the result
pub conversions :
    (series_answer (area 3 (pos 0 ∷ pos 0 ∷ pos 2 ∷ pos 3 ∷ []) 34 ++ nines 1) (nines 38)
    ≡ operation_answer 0 (pos 3 ∷ pos 1 ∷ pos 2 ∷ pos 1 ∷ pos 1 ∷ (zeros 29 ++ (pos 1 ∷ (standard_ends ++ nines 1)))))
    × (series_answer (negsuc 0 ∷ zeros 33) (nines 38) ≡ operation_answer 14 (zeros 37 ++ nines 1))
    × (series_answer (zeros 33) (nines 38) ≡ operation_answer 1 (zeros 37 ++ nines 1))
    × (series_answer (zeros 34) (nines 36) ≡ operation_answer 1 (nines 36))
unfolding outcome_in area_out conversion good_series series_model expanded_from expansion_row neighbour_sums add_lists scale_list rounded rounding_loss near floor upℕ passing too_large weight zero_model zeros
conversions = (refl, refl, refl, refl)

-- the root whose discriminant is 0: m, N and b; the root of 1 with the same candidates, refused with 8; an area of 36 numbers for the
-- result; a scratch of 15; the root of 4 + 4 units, with radius 4, by its least radius; a scratch of 64, where 65 were needed
abbrev h : List ℤ
h = area 0 (pos 2097152 ∷ []) 34

abbrev w : List ℤ
w = area 0 (pos 262144 ∷ []) 34

pub tests :
    (root_answer ByDiscriminant (model_area 0 (pos 2097152 ∷ [])) h w (nines 66) (nines 38) (9 ∷ 9 ∷ 9 ∷ 9 ∷ [])
    ≡ test_answer 0 (zeros 16 ++ nines 50) (pos 0 ∷ pos 2097152 ∷ (zeros 32 ++ (pos 1048576 ∷ (standard_ends ++ nines 1)))) (0 ∷ 2097152 ∷ 524288 ∷ 9 ∷ []))
    × (root_answer ByDiscriminant one h w (nines 17) (nines 38) (9 ∷ 9 ∷ 9 ∷ 9 ∷ []) ≡ test_answer 8 (zeros 16 ++ nines 1) (zeros 37 ++ nines 1) (0 ∷ 0 ∷ 0 ∷ 9 ∷ []))
    × (root_answer ByDiscriminant (model_area 0 (pos 2097152 ∷ [])) h w (nines 17) (nines 36) (9 ∷ 9 ∷ 9 ∷ 9 ∷ [])
    ≡ test_answer 1 (zeros 16 ++ nines 1) (nines 36) (0 ∷ 0 ∷ 0 ∷ 9 ∷ []))
    × (root_answer ByDiscriminant (model_area 0 (pos 2097152 ∷ [])) h w (nines 15) (nines 38) (9 ∷ 9 ∷ 9 ∷ 9 ∷ [])
    ≡ test_answer 1 (nines 15) (zeros 37 ++ nines 1) (0 ∷ 0 ∷ 0 ∷ 9 ∷ []))
    × (root_answer ByLeastRadius (area 0 (pos 4194308 ∷ []) 34 ++ (pos 4 ∷ standard_ends)) h w (nines 17) (nines 38) (9 ∷ 9 ∷ 9 ∷ 9 ∷ [])
    ≡ test_answer 0 (zeros 16 ++ nines 1) (pos 0 ∷ pos 2097152 ∷ (zeros 32 ++ (pos 3 ∷ (standard_ends ++ nines 1)))) (0 ∷ 8 ∷ 2 ∷ 9 ∷ []))
    × (test_fits 65 true h w (nines 64) (nines 37) (9 ∷ 9 ∷ 9 ∷ []) ≡ false)
unfolding test_in area_out scratch_after root_needing root_places root_contraction root_residual root_model least_radius first_of displacement coefficient_sum product_list passing same_interval good_ends parts_within_limits good too_large zero_model weight add_lists subtract_lists scale_list add_at_by add_pair_by add_term_by add_terms_by product upℕ zeros
tests = (refl, refl, refl, refl, refl, refl)

-- what would show if two areas or numbers were exchanged in definition and code alike: 1/3 with f, g, h, w, m, N, b and the radii all
-- different; the root of 4 + 40 units by each rule, with radius 17 and with the least one, 9
pub accepted_tests :
    (quotient_answer (area 0 (pos 1048576 ∷ []) 34 ++ (pos 5 ∷ standard_ends)) (area 0 (pos 3145728 ∷ []) 34 ++ (pos 2 ∷ standard_ends)) (area 0 (pos 349530 ∷ []) 34) (area 0 (pos 349500 ∷ []) 34)
    (nines 17) (nines 38) (9 ∷ 9 ∷ 9 ∷ 9 ∷ [])
    ≡ test_answer 0 (zeros 16 ++ nines 1) (pos 0 ∷ pos 349530 ∷ (zeros 32 ++ (pos 8 ∷ (standard_ends ++ nines 1)))) (77 ∷ 20 ∷ 7 ∷ 9 ∷ []))
    × (root_answer ByDiscriminant (area 0 (pos 4194344 ∷ []) 34 ++ (pos 4 ∷ standard_ends)) (area 0 (pos 2097155 ∷ []) 34) (area 0 (pos 262137 ∷ []) 34) (nines 17) (nines 38) (9 ∷ 9 ∷ 9 ∷ 9 ∷ [])
    ≡ test_answer 0 (zeros 16 ++ nines 1) (pos 0 ∷ pos 2097155 ∷ (zeros 32 ++ (pos 17 ∷ (standard_ends ++ nines 1)))) (27 ∷ 32 ∷ 8 ∷ 9 ∷ []))
    × (root_answer ByLeastRadius (area 0 (pos 4194344 ∷ []) 34 ++ (pos 4 ∷ standard_ends)) (area 0 (pos 2097155 ∷ []) 34) (area 0 (pos 262137 ∷ []) 34) (nines 17) (nines 38) (9 ∷ 9 ∷ 9 ∷ 9 ∷ [])
    ≡ test_answer 0 (zeros 16 ++ nines 1) (pos 0 ∷ pos 2097155 ∷ (zeros 32 ++ (pos 9 ∷ (standard_ends ++ nines 1)))) (27 ∷ 32 ∷ 8 ∷ 9 ∷ []))
unfolding test_in area_out scratch_after quotient_needing quotient_contraction quotient_residual quotient_model root_needing root_places root_contraction root_residual root_model least_radius first_of displacement coefficient_sum product_list passing same_interval good_ends parts_within_limits good too_large zero_model weight add_lists subtract_lists scale_list add_at_by add_pair_by add_term_by add_terms_by product upℕ zeros
accepted_tests = (refl, refl, refl)

-- two proposals for 1/3 with the helper 1/3: the first has 67 numbers, the second is chosen with radius 2; the second of radii 9 and 5;
-- neither passes; a model area of 36 numbers; a scratch of 15 and short proposals; an answer of 1
abbrev third : List ℤ
third = area 0 (pos 349525 ∷ []) 34

pub selections :
    (quotient_of_two_answer one (model_area 0 (pos 3145728 ∷ []) ++ nines 1) (third ++ drop 1 third) (third ++ (third ++ nines 1)) (nines 66) (9 ∷ 9 ∷ 9 ∷ [])
    ≡ selection_answer 0 (zeros 16 ++ nines 50) (2 ∷ 2 ∷ 9 ∷ []))
    × (quotient_of_two_answer one (model_area 0 (pos 3145728 ∷ [])) (area 0 (pos 349533 ∷ []) 34 ++ third) (area 0 (pos 349529 ∷ []) 34 ++ third) (nines 17) (9 ∷ 9 ∷ 9 ∷ [])
    ≡ selection_answer 0 (zeros 16 ++ nines 1) (2 ∷ 5 ∷ 9 ∷ []))
    × (quotient_of_two_answer one (model_area 0 (pos 3145728 ∷ [])) (third ++ zeros 34) third (nines 17) (9 ∷ 9 ∷ 9 ∷ [])
    ≡ selection_answer 5 (zeros 16 ++ nines 1) (0 ∷ 0 ∷ 9 ∷ []))
    × (quotient_of_two_answer (drop 1 one) one (third ++ third) (third ++ third) (nines 17) (9 ∷ 9 ∷ 9 ∷ [])
    ≡ selection_answer 1 (zeros 16 ++ nines 1) (0 ∷ 0 ∷ 9 ∷ []))
    × (quotient_of_two_answer one one [] third (nines 15) (9 ∷ 9 ∷ 9 ∷ []) ≡ selection_answer 1 (nines 15) (0 ∷ 0 ∷ 9 ∷ []))
    × (quotient_of_two_answer one one (third ++ third) (third ++ third) (nines 16) (9 ∷ []) ≡ selection_answer 1 (zeros 16) (9 ∷ []))
unfolding selection_in area_out scratch_after tighter proposal_needing quotient_needing quotient_contraction quotient_residual quotient_model displacement product_list passing same_interval good_ends parts_within_limits good too_large zero_model weight add_lists subtract_lists scale_list add_at_by add_pair_by add_term_by add_terms_by product upℕ zeros
selections = (refl, refl, refl, refl, refl, refl)

-- a job refused at command 1, the count before the command; a job accepted with one result; and areas that are too short
pub checks :
    (check_answer (0x01 ∷ 1 ∷ []) (nines 1185) (nines 17) (9 ∷ 9 ∷ 9 ∷ [])
    ≡ job_answer 10 (zeros 1184 ++ nines 1) (zeros 16 ++ nines 1) (0 ∷ 1 ∷ 9 ∷ []))
    × (check_answer (0x01 ∷ 1 ∷ 0x10 ∷ 1 ∷ (replicate 132 0 ++ (5 ∷ 0 ∷ 0 ∷ 0 ∷ 0x00 ∷ []))) (nines 1185) (nines 66) (9 ∷ 9 ∷ 9 ∷ [])
    ≡ job_answer 0 (pos 1 ∷ (zeros 33 ++ (pos 5 ∷ (standard_ends ++ (zeros 1147 ++ nines 1))))) (zeros 16 ++ nines 50) (1 ∷ 0 ∷ 9 ∷ []))
    × (check_answer (0x01 ∷ 1 ∷ []) (nines 1183) (nines 17) (9 ∷ 9 ∷ 9 ∷ []) ≡ job_answer 1 (nines 1183) (nines 17) (0 ∷ 0 ∷ 9 ∷ []))
    × (check_answer (0x01 ∷ 1 ∷ []) (nines 1184) (nines 16) (9 ∷ []) ≡ job_answer 1 (nines 1184) (nines 16) (9 ∷ []))
unfolding check_answer area_out check_needing work_needing work_with result_words scratch_after_job job_outcome run command operation maker_places reading_places maker_at signeds_at good_ends parts_within_limits good weight passing zeros
checks = (refl, refl, refl, refl)
