-- Document 02, S-24, at the C boundary, computed from the definitions: 18, 19, and the ends in the numbers of a result.
use Rattle.std.specs.Prelude.{◌≡◌, refl, List, [], ◌∷◌, ◌++◌, ℤ, pos, negsuc, replicate}
use Rattle.integer.specs.definitions.Lists.{zeros}
use Rattle.integer.specs.definitions.Rounding.{floor, upℕ, near}
use Rattle.chebyshev.specs.definitions.Coefficients.{weight, add_lists, subtract_lists, scale_list}
use Rattle.chebyshev.specs.definitions.Product.{product, add_at_by, add_pair_by, add_term_by, add_terms_by}
use Rattle.model.specs.definitions.Add.{sum_model, addition}
use Rattle.model.specs.definitions.Area.{area_out}
use Rattle.model.specs.definitions.Integrate.{integration, integral_model, integral_list, halved, numerators, double_first, alternating}
use Rattle.model.specs.definitions.Intervals.{good_ends, extent, same_interval}
use Rattle.model.specs.definitions.Models.{parts_within_limits, good, too_large, zero_model}
use Rattle.model.specs.definitions.Multiply.{product_list}
use Rattle.model.specs.definitions.Outcomes.{passing}
use Rattle.certificate.specs.definitions.Quotient.{quotient_needing, quotient_contraction, quotient_residual, quotient_model}
use Rattle.certificate.specs.definitions.Tests.{scratch_after, displacement}
use Rattle.job.specs.definitions.Bytes.{signeds_at}
use Rattle.job.specs.definitions.Decode.{maker_at}
use Rattle.job.specs.definitions.Operations.{maker_places, operation}
use Rattle.job.specs.definitions.Reading.{reading_places}
use Rattle.job.specs.definitions.Run.{run, job_outcome}
use Rattle.job.specs.definitions.Step.{command}
use Rattle.job.specs.definitions.Work.{check_needing, work_needing, work_with, result_words, scratch_after_job}
use Rattle.ferruntzo.specs.definitions.Certificates.{test_answer, test_in, quotient_answer}
use Rattle.ferruntzo.specs.definitions.Jobs.{job_answer, check_answer}
use Rattle.ferruntzo.specs.definitions.Operations.{operation_answer, outcome_in, binary_answer, unary_answer}
use Rattle.ferruntzo.proofs.laws.Examples.{area, nines, one}

-- a constant with radius 0 on ends
abbrev constant_on : ℤ → ℤ → ℤ → List ℤ
constant_on c l u = area 0 (c ∷ []) 35 ++ (l ∷ u ∷ [])

-- 1 + 1 on −1 and 7, the ends last; equal ends; the ends of a refused result, 0 and 0, fed on; −S and S beside −1 and 7; 1 from 0 to 1
pub operations :
    (binary_answer addition (constant_on (pos 1048576) (negsuc 0) (pos 7)) (constant_on (pos 1048576) (negsuc 0) (pos 7)) (nines 38)
    ≡ operation_answer 0 (constant_on (pos 2097152) (negsuc 0) (pos 7) ++ nines 1))
    × (binary_answer addition (constant_on (pos 1048576) (pos 5) (pos 5)) one (nines 38) ≡ operation_answer 18 (zeros 37 ++ nines 1))
    × (binary_answer addition one (zeros 37) (nines 38) ≡ operation_answer 18 (zeros 37 ++ nines 1))
    × (binary_answer addition one (constant_on (pos 1048576) (negsuc 0) (pos 7)) (nines 38) ≡ operation_answer 19 (zeros 37 ++ nines 1))
    × (unary_answer integration (constant_on (pos 1048576) (pos 0) (pos 1048576)) (nines 38)
    ≡ operation_answer 0 (area 1 (pos 524288 ∷ pos 524288 ∷ []) 34 ++ (pos 1 ∷ pos 0 ∷ pos 1048576 ∷ nines 1)))
unfolding outcome_in area_out addition sum_model integration integral_model integral_list halved numerators double_first alternating passing extent same_interval good_ends parts_within_limits good too_large zero_model weight add_lists subtract_lists floor near upℕ zeros
operations = (refl, refl, refl, refl, refl)

-- 1/3 on −1 and 7, with a helper one unit above it; then a divisor on −S and S
abbrev h : List ℤ
h = area 0 (pos 349525 ∷ []) 34

abbrev w : List ℤ
w = area 0 (pos 349526 ∷ []) 34

pub tests :
    (quotient_answer (constant_on (pos 1048576) (negsuc 0) (pos 7)) (constant_on (pos 3145728) (negsuc 0) (pos 7)) h w (nines 17) (nines 38) (9 ∷ 9 ∷ 9 ∷ 9 ∷ [])
    ≡ test_answer 0 (zeros 16 ++ nines 1) (pos 0 ∷ pos 349525 ∷ (zeros 32 ++ (pos 2 ∷ negsuc 0 ∷ pos 7 ∷ nines 1))) (2 ∷ 1 ∷ 1 ∷ 9 ∷ []))
    × (quotient_answer (constant_on (pos 1048576) (negsuc 0) (pos 7)) one h w (nines 17) (nines 38) (9 ∷ 9 ∷ 9 ∷ 9 ∷ [])
    ≡ test_answer 19 (zeros 16 ++ nines 1) (zeros 37 ++ nines 1) (0 ∷ 0 ∷ 0 ∷ 9 ∷ []))
unfolding test_in area_out scratch_after quotient_needing quotient_contraction quotient_residual quotient_model displacement product_list passing same_interval good_ends parts_within_limits good too_large zero_model weight add_lists subtract_lists scale_list add_at_by add_pair_by add_term_by add_terms_by product upℕ zeros
tests = (refl, refl)

-- 0x14: degree 1, radius 5, ends −1 and 7, which stand last in the result's numbers; then ends 7 and −1
pub checks :
    (check_answer
    (0x01 ∷ 1 ∷ 0x14 ∷ 1 ∷ (replicate 132 0 ++ (5 ∷ 0 ∷ 0 ∷ 0 ∷ 0xFF ∷ 0xFF ∷ 0xFF ∷ 0xFF ∷ 7 ∷ 0 ∷ 0 ∷ 0 ∷ 0x00 ∷ [])))
    (nines 1185) (nines 16) (9 ∷ 9 ∷ [])
    ≡ job_answer 0 (pos 1 ∷ (zeros 33 ++ (pos 5 ∷ negsuc 0 ∷ pos 7 ∷ (zeros 1147 ++ nines 1)))) (zeros 16) (1 ∷ 0 ∷ []))
    × (check_answer
    (0x01 ∷ 1 ∷ 0x14 ∷ 1 ∷ (replicate 132 0 ++ (5 ∷ 0 ∷ 0 ∷ 0 ∷ 7 ∷ 0 ∷ 0 ∷ 0 ∷ 0xFF ∷ 0xFF ∷ 0xFF ∷ 0xFF ∷ 0x00 ∷ [])))
    (nines 1185) (nines 16) (9 ∷ 9 ∷ [])
    ≡ job_answer 18 (zeros 1184 ++ nines 1) (zeros 16) (0 ∷ 1 ∷ []))
unfolding check_answer area_out check_needing work_needing work_with result_words scratch_after_job job_outcome run command operation maker_places reading_places maker_at signeds_at good_ends parts_within_limits good weight passing zeros
checks = (refl, refl)
