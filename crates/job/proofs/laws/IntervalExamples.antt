-- Document 02, S-24, in jobs: 0x14 with its ends, quotients and roots on them, 18 of a load, 19 of two results.
use Rattle.std.specs.Prelude.{◌≡◌, refl, List, [], ◌∷◌, ◌++◌, ℕ, pos, negsuc, replicate}
use Rattle.integer.specs.definitions.Rounding.{upℕ}
use Rattle.chebyshev.specs.definitions.Coefficients.{weight, add_lists, subtract_lists, scale_list, coefficient_sum}
use Rattle.chebyshev.specs.definitions.Product.{product, add_at_by, add_pair_by, add_term_by, add_terms_by}
use Rattle.model.specs.definitions.Add.{sum_model}
use Rattle.model.specs.definitions.Intervals.{make_interval, good_ends, same_interval}
use Rattle.model.specs.definitions.Models.{make_model, parts_within_limits, good, too_large, zero_model}
use Rattle.model.specs.definitions.Multiply.{product_list}
use Rattle.model.specs.definitions.Outcomes.{passing}
use Rattle.model.specs.declared.types.Model.{Model}
use Rattle.radius.specs.definitions.LeastRadius.{least_radius, first_of}
use Rattle.certificate.specs.definitions.Quotient.{quotient_contraction, quotient_residual, quotient_model}
use Rattle.certificate.specs.definitions.Root.{root_places, root_contraction, root_residual, root_model}
use Rattle.certificate.specs.definitions.Tests.{displacement}
use Rattle.job.specs.definitions.Bytes.{signeds_at}
use Rattle.job.specs.definitions.Decode.{maker_at}
use Rattle.job.specs.definitions.Operations.{maker_places, operation}
use Rattle.job.specs.definitions.Outcomes.{accepted, refused}
use Rattle.job.specs.definitions.Reading.{reading_places}
use Rattle.job.specs.definitions.Run.{run, job_outcome}
use Rattle.job.specs.definitions.Step.{command}
use Rattle.job.proofs.laws.ExampleBytes.{words_for, block, job, one}

-- a load of a block with radius 0 on ends given as unsigned numbers, and of the constant c
abbrev load_on : List ℕ → ℕ → ℕ → List ℕ
load_on b l u = (0x14 ∷ b) ++ words_for (0 ∷ l ∷ u ∷ [])

abbrev constant_on : ℕ → ℕ → ℕ → List ℕ
constant_on c l u = load_on (block 0 (c ∷ [])) l u

-- a constant on −1 and 7
abbrev stretched : ℕ → Model
stretched c = make_model 0 (pos c ∷ replicate 32 (pos 0)) 0 (make_interval (negsuc 0) (pos 7))

-- a sum on −1 and 7; 18 of equal ends, and of −2^28 − 1, where −2^28 passes; 2 before 18; 19
pub intervals :
    (job_outcome (job (constant_on 5 4294967295 7 ++ (constant_on 6 4294967295 7 ++ (0x11 ∷ 0 ∷ 1 ∷ []))))
    ≡ accepted (stretched 5 ∷ stretched 6 ∷ stretched 11 ∷ []))
    × (job_outcome (job (one ++ constant_on 5 7 7)) ≡ refused 18 2)
    × (job_outcome (job (constant_on 5 4026531839 7)) ≡ refused 18 1)
    × (job_outcome (job (constant_on 5 4026531840 7))
    ≡ accepted (make_model 0 (pos 5 ∷ replicate 32 (pos 0)) 0 (make_interval (negsuc 268435455) (pos 7)) ∷ []))
    × (job_outcome (job (load_on (block 33 []) 7 7)) ≡ refused 2 1)
    × (job_outcome (job (one ++ (constant_on 5 0 1048576 ++ (0x11 ∷ 0 ∷ 1 ∷ [])))) ≡ refused 19 3)
unfolding job_outcome run command operation maker_places reading_places maker_at signeds_at sum_model same_interval good_ends parts_within_limits good too_large zero_model weight add_lists passing
intervals = (refl, refl, refl, refl, refl, refl)

-- 4 on −1 and 7, divided by itself, and its root by both rules: the results have its ends. Divided by 1, which is on −S and S: 19.
pub tests_on_intervals :
    (job_outcome
    (job
    (constant_on 4194304 4294967295 7
    ++ ((0x20 ∷ 0 ∷ 0 ∷ block 0 (1048576 ∷ []))
    ++ (block 0 (262144 ∷ [])
    ++ ((0x21 ∷ 0 ∷ block 0 (2097152 ∷ []))
    ++ (block 0 (262144 ∷ []) ++ ((0x22 ∷ 0 ∷ block 0 (2097152 ∷ [])) ++ block 0 (262144 ∷ []))))))))
    ≡ accepted (stretched 4194304 ∷ stretched 1048576 ∷ stretched 2097152 ∷ stretched 2097152 ∷ []))
    × (job_outcome (job (constant_on 4194304 4294967295 7 ++ (one ++ ((0x20 ∷ 0 ∷ 1 ∷ block 0 (4194304 ∷ [])) ++ block 0 (1048576 ∷ [])))))
    ≡ refused 19 3)
unfolding job_outcome run command operation maker_places reading_places maker_at signeds_at root_places quotient_contraction quotient_residual quotient_model root_contraction root_residual root_model least_radius first_of displacement coefficient_sum product_list same_interval good_ends parts_within_limits good too_large zero_model weight add_lists subtract_lists scale_list add_at_by add_pair_by add_term_by add_terms_by product upℕ passing
tests_on_intervals = (refl, refl)
