-- One job with every command that makes a result, as bytes; its commands, and its results as 01 gives them.
use Rattle.std.specs.Prelude.{◌≡◌, refl, List, [], ◌∷◌, ◌++◌, ℕ}
use Rattle.integer.specs.definitions.Rounding.{upℕ, near, floor}
use Rattle.chebyshev.specs.definitions.Coefficients.{weight, add_lists, subtract_lists, scale_list, coefficient_sum}
use Rattle.chebyshev.specs.definitions.Product.{product, add_at_by, add_pair_by, add_term_by, add_terms_by}
use Rattle.model.specs.definitions.Intervals.{good_ends, same_interval}
use Rattle.model.specs.definitions.Models.{parts_within_limits, good, too_large, zero_model}
use Rattle.model.specs.definitions.Outcomes.{passing}
use Rattle.model.specs.definitions.Add.{sum_model, difference_model}
use Rattle.model.specs.definitions.Multiply.{product_model, product_list, product_loss}
use Rattle.model.specs.definitions.Round.{rounded, rounding_loss}
use Rattle.model.specs.declared.types.Model.{Model}
use Rattle.certificate.specs.definitions.Root.{root_places, root_contraction, root_residual, root_model}
use Rattle.radius.specs.definitions.LeastRadius.{least_radius, first_of}
use Rattle.certificate.specs.declared.types.RootRule.TheVariants.{ByDiscriminant, ByLeastRadius}
use Rattle.certificate.specs.definitions.Quotient.{quotient_contraction, quotient_residual, quotient_model}
use Rattle.certificate.specs.definitions.Tests.{displacement}
use Rattle.job.specs.definitions.Bytes.{signeds_at}
use Rattle.job.specs.definitions.Operations.{load, add, subtract, multiply, quotient, root, maker_places, operation}
use Rattle.job.specs.definitions.Decode.{Command, result, maker_at}
use Rattle.job.specs.definitions.Reading.{reading_places}
use Rattle.job.specs.definitions.Reader.{read_from, job_reading, well}
use Rattle.job.specs.definitions.Outcomes.{accepted}
use Rattle.job.specs.definitions.Step.{command}
use Rattle.job.specs.definitions.Run.{run, job_outcome}
use Rattle.job.proofs.laws.ExampleBytes.{candidate_by, words_for, block, model_by}

-- edition 1; the commands below; end
abbrev pub example_job : List ℕ
example_job =
    (0x01 ∷ 1 ∷ [])
    ++ ((0x10 ∷ block 0 (2097152 ∷ [])) ++ words_for (16384 ∷ [])
    ++ ((0x10 ∷ block 1 (0 ∷ 1048576 ∷ [])) ++ words_for (16384 ∷ [])
    ++ ((0x13 ∷ 0 ∷ 0 ∷ 0 ∷ [])
    ++ ((0x21 ∷ 2 ∷ block 0 (2097152 ∷ [])) ++ block 0 (262144 ∷ [])
    ++ ((0x11 ∷ 3 ∷ 1 ∷ [])
    ++ ((0x12 ∷ 4 ∷ 3 ∷ [])
    ++ ((0x13 ∷ 4 ∷ 4 ∷ 0xFF ∷ [])
    ++ ((0x20 ∷ 6 ∷ 3 ∷ block 2 (2359296 ∷ 2097152 ∷ 262144 ∷ [])) ++ block 0 (524288 ∷ [])
    ++ ((0x21 ∷ 6 ∷ block 1 (2097152 ∷ 1048576 ∷ [])) ++ block 0 (262144 ∷ [])
    ++ ((0x11 ∷ 8 ∷ 3 ∷ [])
    ++ ((0x13 ∷ 8 ∷ 3 ∷ 0xFF ∷ [])
    ++ ((0x10 ∷ block 0 (4194308 ∷ [])) ++ words_for (4 ∷ [])
    ++ ((0x22 ∷ 11 ∷ block 0 (2097152 ∷ [])) ++ block 0 (262144 ∷ [])
    ++ (0x00 ∷ []))))))))))))))

-- a, about 2; b, about T_1; a·a; its root, a; a + b; b; (a + b)·(a + b); that over a; its root, a + b; (a + b) + a; (a + b)·a; c,
-- about 4; its root by 0x22, with radius 3 where 0x21 gives 4
abbrev pub example_commands : List Command
example_commands =
    result (load (model_by 0 (2097152 ∷ []) 16384))
    ∷ result (load (model_by 1 (0 ∷ 1048576 ∷ []) 16384))
    ∷ result (multiply 0 0 0)
    ∷ result (root ByDiscriminant 2 (candidate_by 0 (2097152 ∷ [])) (candidate_by 0 (262144 ∷ [])))
    ∷ result (add 3 1)
    ∷ result (subtract 4 3)
    ∷ result (multiply 4 4 32)
    ∷ result (quotient 6 3 (candidate_by 2 (2359296 ∷ 2097152 ∷ 262144 ∷ [])) (candidate_by 0 (524288 ∷ [])))
    ∷ result (root ByDiscriminant 6 (candidate_by 1 (2097152 ∷ 1048576 ∷ [])) (candidate_by 0 (262144 ∷ [])))
    ∷ result (add 8 3)
    ∷ result (multiply 8 3 32)
    ∷ result (load (model_by 0 (4194308 ∷ []) 4))
    ∷ result (root ByLeastRadius 11 (candidate_by 0 (2097152 ∷ [])) (candidate_by 0 (262144 ∷ [])))
    ∷ []

abbrev pub example_results : List Model
example_results =
    model_by 0 (2097152 ∷ []) 16384
    ∷ model_by 1 (0 ∷ 1048576 ∷ []) 16384
    ∷ model_by 0 (4194304 ∷ []) 65792
    ∷ model_by 0 (2097152 ∷ []) 32896
    ∷ model_by 1 (2097152 ∷ 1048576 ∷ []) 49280
    ∷ model_by 1 (0 ∷ 1048576 ∷ []) 82176
    ∷ model_by 2 (4718592 ∷ 4194304 ∷ 524288 ∷ []) 297997
    ∷ model_by 2 (2359296 ∷ 2097152 ∷ 262144 ∷ []) 226569
    ∷ model_by 1 (2097152 ∷ 1048576 ∷ []) 298000
    ∷ model_by 1 (4194304 ∷ 1048576 ∷ []) 330896
    ∷ model_by 1 (4194304 ∷ 2097152 ∷ []) 704037
    ∷ model_by 0 (4194308 ∷ []) 4
    ∷ model_by 0 (2097152 ∷ []) 3
    ∷ []

pub example_read : job_reading example_job ≡ well example_commands
unfolding job_reading read_from reading_places maker_at signeds_at passing
example_read = refl

pub example_run : job_outcome example_job ≡ accepted example_results
unfolding job_outcome run command operation maker_places reading_places maker_at signeds_at root_places quotient_contraction quotient_residual quotient_model root_contraction root_residual root_model least_radius first_of displacement coefficient_sum sum_model difference_model product_model product_list product_loss rounded rounding_loss same_interval good_ends parts_within_limits good too_large zero_model weight add_lists subtract_lists scale_list add_at_by add_pair_by add_term_by add_terms_by product upℕ near floor passing
example_run = refl
