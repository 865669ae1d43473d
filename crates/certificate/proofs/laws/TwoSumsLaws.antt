-- The list C of good models by the two sums of 01.
use Rattle.std.specs.Prelude.{◌≡◌, true}
use Rattle.std.proofs.Common.{◌∙◌}
use Rattle.ring.specs.definitions.Integer.{ℤ_ring}
use Rattle.chebyshev.proofs.laws.Tabulated.{product_tabulated}
use Rattle.model.specs.definitions.Models.{product_size, good}
use Rattle.model.proofs.laws.GoodLaws.{product_coefficients}
use Rattle.model.specs.definitions.Multiply.{product_list}
use Rattle.model.specs.declared.types.Model.{Model}
use Rattle.certificate.specs.definitions.TwoSums.{two_sums_list}

-- over all coefficients
pub product_list-good : (a b : Model) → good a ≡ true → good b ≡ true → product_list a b ≡ two_sums_list a.coefficients b.coefficients
unfolding two_sums_list
product_list-good a b ga gb = product_coefficients a b ga gb ∙ product_tabulated ℤ_ring product_size a.coefficients b.coefficients
