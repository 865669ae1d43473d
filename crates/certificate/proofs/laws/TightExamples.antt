-- Whole tests by the least radius, of constants, beside 01's root test on the same candidates. The million steps of the
-- definition's search are not computed: laws of radius give the least radius of the test's numbers.
use Rattle.std.specs.Prelude.{◌≡◌, refl, [], ◌∷◌, ◌++◌, ℕ, pos, replicate, Option}
use Rattle.std.proofs.Common.{ap}
use Rattle.integer.specs.definitions.Rounding.{upℕ}
use Rattle.chebyshev.specs.definitions.Coefficients.{weight, add_lists, subtract_lists, scale_list, coefficient_sum}
use Rattle.chebyshev.specs.definitions.Product.{product, add_at_by, add_pair_by, add_term_by, add_terms_by}
use Rattle.model.specs.definitions.Intervals.{good_ends, same_interval}
use Rattle.model.specs.definitions.Models.{parts_within_limits, good, too_large, standard_model, zero_model, large_place}
use Rattle.model.specs.definitions.Outcomes.{Outcome, accepted, refused, passing, outcome}
use Rattle.model.specs.definitions.Multiply.{product_list}
use Rattle.radius.specs.definitions.LeastRadius.{is_missing, radius_of}
use Rattle.radius.proofs.laws.SearchLaws.{no_displacement}
use Rattle.radius.proofs.laws.Examples.{next_one, next_two, whole-scale, beyond-scale, missing_small, missing_large, wrapped}
use Rattle.model.specs.declared.types.Candidate.{Candidate}
use Rattle.model.specs.declared.types.Model.{Model}
use Rattle.certificate.specs.definitions.Tests.{with_radius, Certificate, make_certificate, zero_certificate, displacement, placed}
use Rattle.certificate.specs.definitions.Root.{root_test, root_needing, root_places, root_contraction, root_residual, root_model}
use Rattle.certificate.specs.declared.types.RootRule.TheVariants.{ByDiscriminant, ByLeastRadius}
use Rattle.certificate.proofs.laws.Examples.{candidate}

-- the test where the search answers e
abbrev pub answering : Model → Candidate → Candidate → Option ℕ → Outcome Certificate
answering f h w e =
    let r = with_radius (placed f h) (radius_of e) in
    let n = root_residual f (placed f h) in
    outcome (root_places 16 f h w ++ ((is_missing e, 17) ∷ large_place r ∷ [])) (make_certificate r (root_contraction (placed f h) (placed f w)) n (displacement (placed f w) n))
    zero_certificate

-- a constant with radius e
abbrev constant : ℕ → ℕ → Model
constant n e = standard_model 0 (pos n ∷ replicate 32 (pos 0)) e

-- the least radius is v + 1, so a search that ends at v would refuse; it is S; b is 0
pub accepted_tight :
    (root_test ByLeastRadius 16 (constant 15783 0) (candidate 133844) (candidate 5908123)
    ≡ accepted (make_certificate (constant 133844 26129) 459693 1302 7337))
    × (root_test ByLeastRadius 16 (constant 6366 3182) (candidate 81708) (candidate 716408)
    ≡ accepted (make_certificate (constant 81708 40854) 936927 3183 2175))
    × (root_test ByLeastRadius 16 (constant 3407872 0) (candidate 2621440) (candidate 1)
    ≡ accepted (make_certificate (constant 2621440 1048576) 1048571 3145728 3))
    × (root_test ByLeastRadius 16 (constant 4194304 0) (candidate 2097152) (candidate 262144)
    ≡ accepted (make_certificate (constant 2097152 0) 0 0 0))
unfolding root_needing root_places root_contraction root_residual root_model displacement coefficient_sum product_list passing same_interval good_ends parts_within_limits good too_large zero_model weight add_lists subtract_lists scale_list add_at_by add_pair_by add_term_by add_terms_by product upℕ
accepted_tight = (
  ap (answering (constant 15783 0) (candidate 133844) (candidate 5908123)) next_one,
  ap (answering (constant 6366 3182) (candidate 81708) (candidate 716408)) next_two,
  ap (answering (constant 3407872 0) (candidate 2621440) (candidate 1)) whole-scale,
  ap (answering (constant 4194304 0) (candidate 2097152) (candidate 262144)) (no_displacement 262144 0 0 refl),
)

-- 01's root test accepts, and no radius satisfies: both real roots of the inequality are S/6, which is not whole; the smaller is
-- above S (f = 224·S, h = 16·S, w = S/32). Then b one more than where the radius is S, and b·S² a multiple of 2^64.
pub refused_17 :
    (root_test ByDiscriminant 16 (constant 116509 0) (candidate 349526) (candidate 18)
    ≡ accepted (make_certificate (constant 349526 174763) 1048564 1 1))
    × (root_test ByLeastRadius 16 (constant 116509 0) (candidate 349526) (candidate 18) ≡ refused 17 zero_certificate)
    × (root_test ByDiscriminant 16 (constant 234881024 0) (candidate 16777216) (candidate 32768)
    ≡ accepted (make_certificate (constant 16777216 2097152) 0 33554432 1048576))
    × (root_test ByLeastRadius 16 (constant 234881024 0) (candidate 16777216) (candidate 32768) ≡ refused 17 zero_certificate)
    × (root_test ByLeastRadius 16 (constant 3407871 0) (candidate 2621440) (candidate 1) ≡ refused 17 zero_certificate)
    × (root_test ByLeastRadius 16 (constant 4 65536) (candidate 2048) (candidate 268435456) ≡ refused 17 zero_certificate)
unfolding root_needing root_places root_contraction root_residual root_model displacement coefficient_sum product_list passing same_interval good_ends parts_within_limits good too_large zero_model weight add_lists subtract_lists scale_list add_at_by add_pair_by add_term_by add_terms_by product upℕ
refused_17 = (
  refl,
  ap (answering (constant 116509 0) (candidate 349526) (candidate 18)) missing_small,
  refl,
  ap (answering (constant 234881024 0) (candidate 16777216) (candidate 32768)) missing_large,
  ap (answering (constant 3407871 0) (candidate 2621440) (candidate 1)) beyond-scale,
  ap (answering (constant 4 65536) (candidate 2048) (candidate 268435456)) wrapped,
)
