-- Closed examples of the format, computed from the definitions: the shortest jobs with their answers, for each refusal that a job
-- can meet.
use Rattle.std.specs.Prelude.{◌≡◌, refl, List, [], ◌∷◌, ◌++◌, map, ℕ, ◌-◌, length, Option}
use Rattle.std.proofs.Common.{ap, arith}
use Rattle.integer.specs.definitions.Rounding.{upℕ, near, floor}
use Rattle.chebyshev.specs.definitions.Coefficients.{weight, add_lists, subtract_lists, scale_list, coefficient_sum}
use Rattle.chebyshev.specs.definitions.Product.{product, add_at_by, add_pair_by, add_term_by, add_terms_by}
use Rattle.model.specs.definitions.Intervals.{good_ends, same_interval}
use Rattle.model.specs.definitions.Models.{parts_within_limits, good, too_large, zero_model, large_place}
use Rattle.model.specs.definitions.Outcomes.{passing, outcome}
use Rattle.model.specs.definitions.Add.{sum_model, difference_model}
use Rattle.model.specs.definitions.Multiply.{product_model, product_list, product_loss}
use Rattle.certificate.specs.definitions.Root.{root_places, root_places_for, root_contraction, root_residual, root_model}
use Rattle.radius.specs.definitions.LeastRadius.{is_missing, radius_of}
use Rattle.radius.proofs.laws.SearchLaws.{scale_missing}
use Rattle.certificate.specs.definitions.Quotient.{quotient_contraction, quotient_residual, quotient_model}
use Rattle.certificate.specs.definitions.Tests.{with_radius, make_certificate, zero_certificate, displacement}
use Rattle.model.specs.definitions.Round.{rounded, rounding_loss}
use Rattle.job.specs.definitions.Bytes.{signeds_at}
use Rattle.job.specs.definitions.Operations.{maker_places, operation}
use Rattle.job.specs.definitions.Decode.{maker_at}
use Rattle.job.specs.definitions.Reading.{reading_places}
use Rattle.job.specs.definitions.Outcomes.{JobOutcome, accepted, refused, counted}
use Rattle.job.specs.definitions.Step.{resulting, command}
use Rattle.job.specs.definitions.Run.{onward, run, job_outcome}
use Rattle.job.proofs.laws.ExampleBytes.{block, model_by, job, load_bytes, one, lowest, repeated}

-- ---- refusals of reading, 9 to 13

abbrev pub readings : List (List ℕ × JobOutcome ℕ)
readings =
    -- the shortest jobs, of both editions
    (job [], accepted 0)
    ∷ (0x01 ∷ 2 ∷ 0x00 ∷ [], accepted 0)
    -- the job ends: before a command, inside one, before an end
    ∷ ([], refused 10 0)
    ∷ (0x01 ∷ [], refused 10 0)
    ∷ (0x01 ∷ 1 ∷ [], refused 10 1)
    ∷ (0x01 ∷ 1 ∷ 0x11 ∷ 0 ∷ [], refused 10 1)
    -- unknown bytes; no edition first; an edition again, also without its operand; an edition that is neither 1 nor 2
    ∷ (0x02 ∷ [], refused 9 0)
    ∷ (job (0xFF ∷ []), refused 9 1)
    ∷ (0x00 ∷ [], refused 9 0)
    ∷ (0x01 ∷ 1 ∷ 0x01 ∷ [], refused 9 1)
    ∷ (0x01 ∷ 0 ∷ 0x00 ∷ [], refused 9 0)
    ∷ (0x01 ∷ 3 ∷ 0x00 ∷ [], refused 9 0)
    -- d from 33 to 254, before its results are looked at
    ∷ (job (0x13 ∷ 0 ∷ 0 ∷ 33 ∷ []), refused 9 1)
    ∷ (job (0x13 ∷ 0 ∷ 0 ∷ 254 ∷ []), refused 9 1)
    ∷ (job (0x13 ∷ 0 ∷ 0 ∷ 32 ∷ []), refused 12 1)
    ∷ (job (0x13 ∷ 0 ∷ 0 ∷ 255 ∷ []), refused 12 1)
    -- not yet a result
    ∷ (job (0x11 ∷ 0 ∷ 0 ∷ []), refused 12 1)
    -- bytes after the end
    ∷ (job (0x00 ∷ []), refused 11 1)
    ∷ []

pub readings_are : map (λ c. counted (job_outcome c.0)) readings ≡ map (λ c. c.1) readings
unfolding job_outcome run command reading_places maker_at passing
readings_are = refl

-- ---- refusals of models and tests, 2 to 8

abbrev pub operations : List (List ℕ × JobOutcome ℕ)
operations =
    -- a degree, a weight, a radius beyond its limit; a nonzero beyond the degree; each at its limit
    (job (load_bytes 33 [] 0), refused 2 1)
    ∷ (job (load_bytes 1 (268435456 ∷ 1 ∷ []) 0), refused 2 1)
    ∷ (job (load_bytes 0 [] 268435457), refused 2 1)
    ∷ (job (load_bytes 0 (0 ∷ 1 ∷ []) 0), refused 2 1)
    ∷ (job (load_bytes 32 (268435456 ∷ []) 268435456), accepted 1)
    -- a result too large
    ∷ (job (load_bytes 0 (268435456 ∷ []) 0 ++ (0x11 ∷ 0 ∷ 0 ∷ [])), refused 3 2)
    -- quotients: 1 by 1 with w = 0; −2^28 by 1 with h = 2^28; a bad candidate
    ∷ (job (one ++ ((0x20 ∷ 0 ∷ 0 ∷ block 0 (1048576 ∷ [])) ++ block 0 [])), refused 5 2)
    ∷ (job (one ++ (lowest ++ ((0x20 ∷ 1 ∷ 0 ∷ block 0 (268435456 ∷ [])) ++ block 0 (1048576 ∷ [])))), refused 6 3)
    ∷ (job (one ++ ((0x20 ∷ 0 ∷ 0 ∷ block 33 []) ++ block 0 (1048576 ∷ []))), refused 2 2)
    -- roots of 1: w = 0; P10's h = 2 with w = 1/4
    ∷ (job (one ++ ((0x21 ∷ 0 ∷ block 0 (1048576 ∷ [])) ++ block 0 [])), refused 7 2)
    ∷ (job (one ++ ((0x21 ∷ 0 ∷ block 0 (2097152 ∷ [])) ++ block 0 (262144 ∷ []))), refused 8 2)
    -- 32 results, and a 33rd; one that names result 32 meets 12 before 13
    ∷ (job (load_bytes 0 [] 0 ++ repeated 31 (0x12 ∷ 0 ∷ 0 ∷ [])), accepted 32)
    ∷ (job (load_bytes 0 [] 0 ++ repeated 32 (0x12 ∷ 0 ∷ 0 ∷ [])), refused 13 33)
    ∷ (job (load_bytes 0 [] 0 ++ (repeated 31 (0x12 ∷ 0 ∷ 0 ∷ []) ++ (0x12 ∷ 0 ∷ 32 ∷ []))), refused 12 33)
    ∷ []

pub operations_are : map (λ c. counted (job_outcome c.0)) operations ≡ map (λ c. c.1) operations
unfolding job_outcome run command operation maker_places reading_places maker_at signeds_at root_places quotient_contraction quotient_residual quotient_model root_contraction root_residual root_model displacement coefficient_sum sum_model difference_model product_model product_list product_loss rounded rounding_loss same_interval good_ends parts_within_limits good too_large zero_model weight add_lists subtract_lists scale_list add_at_by add_pair_by add_term_by add_terms_by product upℕ near floor passing
operations_are = refl

-- ---- refusal 17: by 0x22, the root of 1 with P10's candidates. Laws of radius give the least radius, so that the definition's
-- search is not computed.

abbrev pub without_radius : List ℕ
without_radius = job (one ++ ((0x22 ∷ 0 ∷ block 0 (2097152 ∷ [])) ++ block 0 (262144 ∷ [])))

-- the job where the search answers e, from its last command but one on
abbrev answering : Option ℕ → JobOutcome ℕ
answering e =
    let f = model_by 0 (1048576 ∷ []) 0 in
    let h = model_by 0 (2097152 ∷ []) 0 in
    let w = model_by 0 (262144 ∷ []) 0 in
    let m = root_contraction h w in
    let n = root_residual f h in
    let r = with_radius h (radius_of e) in
    let test = outcome (root_places_for m n f h w ++ ((is_missing e, 17) ∷ large_place r ∷ [])) (make_certificate r m n (displacement w n)) zero_certificate in
    counted (onward (run (length without_radius - 2) without_radius) 2 (f ∷ []) (resulting (f ∷ []) 408 test))

pub without_radius_lem : counted (job_outcome without_radius) ≡ refused 17 2
unfolding job_outcome run command operation maker_places reading_places maker_at signeds_at root_places quotient_contraction quotient_residual quotient_model root_contraction root_residual root_model displacement coefficient_sum sum_model difference_model product_model product_list product_loss rounded rounding_loss same_interval good_ends parts_within_limits good too_large zero_model weight add_lists subtract_lists scale_list add_at_by add_pair_by add_term_by add_terms_by product upℕ near floor passing
without_radius_lem = ap answering (scale_missing 262144 0 786432 (omega arith) (λ f. absurd (omega arith)))
