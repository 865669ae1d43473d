-- Document 02, S-24, in the tests, computed from the definitions: 18 and 19 among the other numbers, and results with their operand's
-- ends.
use Rattle.std.specs.Prelude.{◌≡◌, refl, ◌∷◌, ℕ, pos, replicate}
use Rattle.std.proofs.Common.{ap}
use Rattle.integer.specs.definitions.Rounding.{upℕ}
use Rattle.chebyshev.specs.definitions.Coefficients.{weight, add_lists, subtract_lists, scale_list, coefficient_sum}
use Rattle.chebyshev.specs.definitions.Product.{product, add_at_by, add_pair_by, add_term_by, add_terms_by}
use Rattle.model.specs.definitions.Intervals.{good_ends, same_interval}
use Rattle.model.specs.definitions.Models.{parts_within_limits, good, too_large, make_model, zero_model}
use Rattle.model.specs.definitions.Multiply.{product_list}
use Rattle.model.specs.definitions.Outcomes.{accepted, refused, passing}
use Rattle.radius.proofs.laws.SearchLaws.{no_displacement}
use Rattle.model.specs.declared.types.Candidate.{Candidate}
use Rattle.model.specs.declared.types.Interval.{Interval}
use Rattle.model.specs.declared.types.Model.{Model}
use Rattle.model.proofs.laws.IntervalExamples.{stretch, shifted, one_point}
use Rattle.certificate.specs.definitions.Tests.{make_certificate, zero_certificate, displacement}
use Rattle.certificate.specs.definitions.Root.{root_test, root_needing, root_places, root_contraction, root_residual, root_model}
use Rattle.certificate.specs.definitions.Quotient.{quotient_test, quotient_needing, quotient_contraction, quotient_residual, quotient_model}
use Rattle.certificate.specs.declared.types.RootRule.TheVariants.{ByDiscriminant, ByLeastRadius}
use Rattle.certificate.proofs.laws.Examples.{candidate}
use Rattle.certificate.proofs.laws.TightExamples.{answering}

-- a constant with a radius on an interval
abbrev constant_on : ℕ → ℕ → Interval → Model
constant_on c e i = make_model 0 (pos c ∷ replicate 32 (pos 0)) e i

-- of degree 33
abbrev bad : Candidate
bad = record { degree = 33; coefficients = replicate 33 (pos 0) }

abbrev third : Candidate
third = candidate 349525

abbrev f : Interval → Model
f i = constant_on 1048576 0 i

abbrev g : Interval → Model
g i = constant_on 3145728 0 i

-- 18 of f before g's 2, and of g before h's 2; 2 of h and of w before 19; 19 before 5; P7 on −1 and 7
abbrev pub Quotients : Type 0
Quotients =
    (quotient_test 16 (f one_point) (make_model 33 (replicate 33 (pos 0)) 0 stretch) third third ≡ refused 18 zero_certificate)
    × (quotient_test 16 (f stretch) (g one_point) bad third ≡ refused 18 zero_certificate)
    × (quotient_test 16 (f stretch) (g shifted) bad third ≡ refused 2 zero_certificate)
    × (quotient_test 16 (f stretch) (g shifted) third bad ≡ refused 2 zero_certificate)
    × (quotient_test 16 (f stretch) (g shifted) third (candidate 0) ≡ refused 19 zero_certificate)
    × (quotient_test 16 (f stretch) (g stretch) third (candidate 0) ≡ refused 5 zero_certificate)
    × (quotient_test 16 (f stretch) (g stretch) third third ≡ accepted (make_certificate (constant_on 349525 2 stretch) 1 1 1))

pub quotients : Quotients
unfolding quotient_needing quotient_contraction quotient_residual quotient_model displacement product_list passing same_interval good_ends parts_within_limits good too_large zero_model weight add_lists subtract_lists scale_list add_at_by add_pair_by add_term_by add_terms_by product upℕ
quotients = (refl, refl, refl, refl, refl, refl, refl)

-- 18 of f before h's 2; P8 on −1 and 7; the root of 4 by the least radius on −1 and 7
abbrev pub Roots : Type 0
Roots =
    (root_test ByDiscriminant 16 (f one_point) bad third ≡ refused 18 zero_certificate)
    × (root_test ByDiscriminant 16 (constant_on 2097152 0 stretch) (candidate 2097152) (candidate 262144)
    ≡ accepted (make_certificate (constant_on 2097152 1048576 stretch) 0 2097152 524288))
    × (root_test ByLeastRadius 16 (constant_on 4194304 0 stretch) (candidate 2097152) (candidate 262144)
    ≡ accepted (make_certificate (constant_on 2097152 0 stretch) 0 0 0))

pub roots : Roots
unfolding root_needing root_places root_contraction root_residual root_model displacement coefficient_sum product_list passing same_interval good_ends parts_within_limits good too_large zero_model weight add_lists subtract_lists scale_list add_at_by add_pair_by add_term_by add_terms_by product upℕ
roots = (refl, refl, ap (answering (constant_on 4194304 0 stretch) (candidate 2097152) (candidate 262144)) (no_displacement 262144 0 0 refl))
