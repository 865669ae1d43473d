-- Closed examples of the format, continued: the bytes of operands, kept degrees, areas, and 01's job of the root of 4 with its whole
-- work area.
use Rattle.std.specs.Prelude.{◌≡◌, refl, List, [], ◌∷◌, ◌++◌, map, ℕ, ℤ, pos, negsuc, replicate, get_or}
use Rattle.std.proofs.Common.{ap}
use Rattle.integer.specs.definitions.Lists.{zeros}
use Rattle.integer.specs.definitions.Rounding.{upℕ, near, floor}
use Rattle.chebyshev.specs.definitions.Coefficients.{weight, add_lists, subtract_lists, scale_list, coefficient_sum}
use Rattle.chebyshev.specs.definitions.Product.{product, add_at_by, add_pair_by, add_term_by, add_terms_by}
use Rattle.model.specs.definitions.Intervals.{good_ends, same_interval}
use Rattle.model.specs.definitions.Models.{parts_within_limits, standard_model, good, too_large, zero_model}
use Rattle.model.specs.definitions.Outcomes.{passing}
use Rattle.model.specs.definitions.Add.{sum_model, difference_model}
use Rattle.model.specs.definitions.Multiply.{product_model, product_list, product_loss}
use Rattle.model.specs.definitions.Round.{rounded, rounding_loss}
use Rattle.model.specs.declared.types.Model.{Model}
use Rattle.certificate.specs.definitions.Root.{root_places, root_contraction, root_residual, root_model}
use Rattle.certificate.specs.definitions.Quotient.{quotient_contraction, quotient_residual, quotient_model}
use Rattle.certificate.specs.definitions.Tests.{displacement}
use Rattle.job.specs.definitions.Bytes.{signeds_at}
use Rattle.job.specs.definitions.Operations.{maker_places, operation}
use Rattle.job.specs.definitions.Decode.{maker_at}
use Rattle.job.specs.definitions.Reading.{reading_places}
use Rattle.job.specs.definitions.Outcomes.{JobOutcome, accepted, refused}
use Rattle.job.specs.definitions.Step.{command}
use Rattle.job.specs.definitions.Run.{run, job_outcome}
use Rattle.job.specs.definitions.Work.{check_outcome, check_needing, work_with, result_words, work_after, work_needing, scratch_after_job}
use Rattle.job.proofs.laws.ExampleBytes.{block, model_by, job, load_bytes, one, two}

-- 01: "A job of edition 1, load of constant 4·S with radius 0, root with h = 2·S and w = S/4, end"
abbrev pub root_of_four : List ℕ
root_of_four = job (load_bytes 0 (4194304 ∷ []) 0 ++ ((0x21 ∷ 0 ∷ block 0 (2097152 ∷ [])) ++ block 0 (262144 ∷ [])))

abbrev one_model : Model
one_model = model_by 0 (1048576 ∷ []) 0

abbrev two_model : Model
two_model = model_by 0 (2097152 ∷ []) 0

abbrev four_model : Model
four_model = model_by 0 (4194304 ∷ []) 0

-- T_1², that is 1/2 + T_2/2
abbrev square : Model
square = model_by 2 (524288 ∷ 0 ∷ 524288 ∷ []) 0

abbrev pub operands : List (List ℕ × JobOutcome (List Model))
operands =
    -- −1 and 0x030201, the lowest byte first; radius 0x0201
    (
      job (0x10 ∷ 1 ∷ 0xFF ∷ 0xFF ∷ 0xFF ∷ 0xFF ∷ 0x01 ∷ 0x02 ∷ 0x03 ∷ 0x00 ∷ (replicate 124 0 ++ (0x01 ∷ 0x02 ∷ 0x00 ∷ 0x00 ∷ []))),
      accepted (standard_model 1 (negsuc 0 ∷ pos 197121 ∷ replicate 31 (pos 0)) 513 ∷ []),
    )
    -- 1 − 2
    ∷ (
      job (one ++ (two ++ (0x12 ∷ 0 ∷ 1 ∷ []))),
      accepted (one_model ∷ two_model ∷ standard_model 0 (negsuc 1048575 ∷ replicate 32 (pos 0)) 0 ∷ []),
    )
    -- T_1 times T_1: d = 1, 32, and 255, which means 32
    ∷ (
      job (load_bytes 1 (0 ∷ 1048576 ∷ []) 0 ++ (0x13 ∷ 0 ∷ 0 ∷ 1 ∷ 0x13 ∷ 0 ∷ 0 ∷ 32 ∷ 0x13 ∷ 0 ∷ 0 ∷ 255 ∷ [])),
      accepted (model_by 1 (0 ∷ 1048576 ∷ []) 0 ∷ model_by 1 (524288 ∷ []) 524288 ∷ square ∷ square ∷ []),
    )
    -- 1 over 2: f before g, h before w
    ∷ (
      job (one ++ (two ++ ((0x20 ∷ 0 ∷ 1 ∷ block 0 (524288 ∷ [])) ++ block 1 (524288 ∷ [])))),
      accepted (one_model ∷ two_model ∷ model_by 0 (524288 ∷ []) 0 ∷ []),
    )
    ∷ (root_of_four, accepted (four_model ∷ two_model ∷ []))
    ∷ []

pub operands_are : map (λ c. job_outcome c.0) operands ≡ map (λ c. c.1) operands
unfolding job_outcome run command operation maker_places reading_places maker_at signeds_at root_places quotient_contraction quotient_residual quotient_model root_contraction root_residual root_model displacement coefficient_sum sum_model difference_model product_model product_list product_loss rounded rounding_loss same_interval good_ends parts_within_limits good too_large zero_model weight add_lists subtract_lists scale_list add_at_by add_pair_by add_term_by add_terms_by product upℕ near floor passing
operands_are = refl

-- ---- areas

-- −S and S
abbrev standard_ends : List ℤ
standard_ends = negsuc 1048575 ∷ pos 1048576 ∷ []

-- an area of so many sevens
abbrev sevens : ℕ → List ℤ
sevens n = replicate n (pos 7)

-- an area too short: 1, with command 0, whatever the job
pub short_areas :
    (check_outcome [] (sevens 1183) (sevens 16) ≡ refused 1 0)
    × (check_outcome [] (sevens 1184) (sevens 15) ≡ refused 1 0)
    × (check_needing 65 [] (sevens 1184) (sevens 64) ≡ refused 1 0)
    × (work_needing 65 [] (sevens 1184) (sevens 64) ≡ sevens 1184)
unfolding check_needing work_needing
short_areas = (refl, refl, refl, refl)

-- its results, and its work area, one number longer than asked: degree, 33 coefficients, radius and ends of both results, zeros, and the
-- number behind; a scratch of 66 numbers, of which the last 50 stay
root_run : job_outcome root_of_four ≡ accepted (four_model ∷ two_model ∷ [])
root_run = ap (λ l. get_or l 4 (accepted [])) operands_are

pub root_work : work_after root_of_four (sevens 1185) (sevens 16)
    ≡ (pos 0 ∷ pos 4194304 ∷ replicate 33 (pos 0))
    ++ (standard_ends
    ++ ((pos 0 ∷ pos 2097152 ∷ replicate 33 (pos 0)) ++ (standard_ends ++ (replicate 1110 (pos 0) ++ (pos 7 ∷ [])))))
unfolding work_needing work_with result_words zeros
root_work = rw root_run

pub root_scratch : scratch_after_job (sevens 1185) (sevens 66) ≡ replicate 16 (pos 0) ++ sevens 50
unfolding scratch_after_job zeros
root_scratch = refl
