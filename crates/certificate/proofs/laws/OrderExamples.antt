-- 01, "Refused, and where": 5, m ≥ S, before 6, N > 2^28, in each of the three tests. Both hold of the first helper, only 6 of the second.
use Rattle.std.specs.Prelude.{◌≡◌, refl, pos}
use Rattle.std.proofs.Common.{ap, arith}
use Rattle.integer.specs.definitions.Rounding.{upℕ}
use Rattle.chebyshev.specs.definitions.Coefficients.{weight, add_lists, subtract_lists, scale_list, coefficient_sum}
use Rattle.chebyshev.specs.definitions.Product.{product, add_at_by, add_pair_by, add_term_by, add_terms_by}
use Rattle.model.specs.definitions.Intervals.{good_ends, same_interval}
use Rattle.model.specs.definitions.Models.{parts_within_limits, good, too_large, constant_model, zero_model}
use Rattle.model.specs.definitions.Outcomes.{refused, passing}
use Rattle.model.specs.definitions.Multiply.{product_list}
use Rattle.model.specs.declared.types.Model.{Model}
use Rattle.radius.proofs.laws.SearchLaws.{large_displacement}
use Rattle.certificate.specs.definitions.Tests.{zero_certificate, displacement}
use Rattle.certificate.specs.definitions.Root.{root_test, root_needing, root_places, root_contraction, root_residual, root_model}
use Rattle.certificate.specs.declared.types.RootRule.TheVariants.{ByDiscriminant, ByLeastRadius}
use Rattle.certificate.specs.definitions.Quotient.{quotient_test, quotient_needing, quotient_contraction, quotient_residual, quotient_model}
use Rattle.certificate.proofs.laws.Examples.{candidate}
use Rattle.certificate.proofs.laws.TightExamples.{answering}

abbrev one : Model
one = constant_model (pos 1048576)

-- 1 by 2 with h = 256; the root of 1 with h = 128 (the least radius by a law, not by a search)
pub five_before_six :
    (quotient_test 16 one (constant_model (pos 2097152)) (candidate 268435456) (candidate 0) ≡ refused 5 zero_certificate)
    × (quotient_test 16 one (constant_model (pos 2097152)) (candidate 268435456) (candidate 524288) ≡ refused 6 zero_certificate)
    × (root_test ByDiscriminant 16 one (candidate 134217728) (candidate 1048576) ≡ refused 5 zero_certificate)
    × (root_test ByDiscriminant 16 one (candidate 134217728) (candidate 4096) ≡ refused 6 zero_certificate)
    × (root_test ByLeastRadius 16 one (candidate 134217728) (candidate 1048576) ≡ refused 5 zero_certificate)
    × (root_test ByLeastRadius 16 one (candidate 134217728) (candidate 4096) ≡ refused 6 zero_certificate)
unfolding quotient_needing root_needing root_places quotient_contraction quotient_residual quotient_model root_contraction root_residual root_model displacement coefficient_sum product_list passing same_interval good_ends parts_within_limits good too_large constant_model zero_model weight add_lists subtract_lists scale_list add_at_by add_pair_by add_term_by add_terms_by product upℕ
five_before_six = (
  refl,
  refl,
  refl,
  refl,
  ap (answering one (candidate 134217728) (candidate 1048576)) (large_displacement 1048576 267386880 17178820608 (omega arith)),
  ap (answering one (candidate 134217728) (candidate 4096)) (large_displacement 4096 0 67104768 (omega arith)),
)
