-- P7 to P10 of document 01, computed from the definitions: whole outcomes, with all 33 coefficients.
use Rattle.std.specs.Prelude.{◌≡◌, refl, ◌∷◌, ℕ, pos, replicate}
use Rattle.integer.specs.definitions.Rounding.{upℕ}
use Rattle.chebyshev.specs.definitions.Coefficients.{weight, add_lists, subtract_lists, scale_list, coefficient_sum}
use Rattle.chebyshev.specs.definitions.Product.{product, add_at_by, add_pair_by, add_term_by, add_terms_by}
use Rattle.model.specs.definitions.Intervals.{good_ends, same_interval}
use Rattle.model.specs.definitions.Models.{parts_within_limits, good, too_large, standard_model, constant_model, zero_model}
use Rattle.model.specs.definitions.Outcomes.{accepted, refused, passing}
use Rattle.model.specs.declared.types.Candidate.{Candidate}
use Rattle.model.specs.definitions.Multiply.{product_list}
use Rattle.certificate.specs.definitions.Tests.{make_certificate, zero_certificate, displacement}
use Rattle.certificate.specs.definitions.Root.{root_test, root_needing, root_places, root_contraction, root_residual, root_model}
use Rattle.certificate.specs.declared.types.RootRule.TheVariants.{ByDiscriminant}
use Rattle.certificate.specs.definitions.Quotient.{quotient_test, quotient_needing, quotient_contraction, quotient_residual, quotient_model}

-- a constant candidate
abbrev pub candidate : ℕ → Candidate
candidate n = record { degree = 0; coefficients = pos n ∷ replicate 32 (pos 0) }

abbrev h : Candidate
h = candidate 2097152

abbrev w : Candidate
w = candidate 262144

-- a quotient; a root whose discriminant is 0; one less under the root; S under the root
abbrev pub Benchmarks : Type 0
Benchmarks =
    (quotient_test 16 (constant_model (pos 1048576)) (constant_model (pos 3145728)) (candidate 349525) (candidate 349525)
    ≡ accepted (make_certificate (standard_model 0 (pos 349525 ∷ replicate 32 (pos 0)) 2) 1 1 1))
    × (root_test ByDiscriminant 16 (constant_model (pos 2097152)) h w
    ≡ accepted (make_certificate (standard_model 0 (pos 2097152 ∷ replicate 32 (pos 0)) 1048576) 0 2097152 524288))
    × (root_test ByDiscriminant 16 (constant_model (pos 2097151)) h w ≡ refused 8 zero_certificate)
    × (root_test ByDiscriminant 16 (constant_model (pos 1048576)) h w ≡ refused 8 zero_certificate)

pub benchmarks : Benchmarks
unfolding quotient_needing root_needing root_places quotient_contraction quotient_residual quotient_model root_contraction root_residual root_model displacement coefficient_sum product_list passing same_interval good_ends parts_within_limits good too_large constant_model zero_model weight add_lists subtract_lists scale_list add_at_by add_pair_by add_term_by add_terms_by product upℕ
benchmarks = (refl, refl, refl, refl)
