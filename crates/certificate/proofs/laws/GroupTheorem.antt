-- Document 02, S-17: "With 16 or more, answers agree with those that 65 gave on the same other input, which is to be shown for any
-- group length of one or more. Number 1 is now given below 16".
use Rattle.std.specs.Prelude.{◌≡◌, ℕ, ◌+◌, ◌*◌, ◌≤◌, ◌<◌, pos}
use Rattle.std.proofs.Common.{◌∙◌, lt-ltb}
use Rattle.std.proofs.Math.Path.{ap₂}
use Rattle.ring.specs.definitions.Integer.{ℤ_ring}
use Rattle.integer.specs.definitions.Rounding.{upℕ}
use Rattle.chebyshev.specs.definitions.Coefficients.{weight, scale_list}
use Rattle.model.specs.definitions.Models.{scale, product_size, terms}
use Rattle.model.specs.definitions.Outcomes.{passing}
use Rattle.model.specs.definitions.Multiply.{product_list}
use Rattle.model.specs.declared.types.Candidate.{Candidate}
use Rattle.model.specs.declared.types.Model.{Model}
use Rattle.certificate.specs.definitions.Tests.{scratch_size, placed, refused_test}
use Rattle.certificate.specs.definitions.Quotient.{quotient_contraction, quotient_residual, quotient_needing, quotient_test}
use Rattle.certificate.specs.definitions.Root.{root_contraction, root_residual, root_needing, root_test}
use Rattle.certificate.specs.declared.types.RootRule.{RootRule}
use Rattle.certificate.specs.definitions.Groups.{quotient_for, quotient_in_groups, root_for, root_in_groups}
use Rattle.certificate.proofs.laws.Stages.{quotient_needs, root_needs}
use Rattle.certificate.proofs.laws.QuotientStages.{quotient_short}
use Rattle.certificate.proofs.laws.GroupLaws.{constant_groups, difference_groups}

-- ---- the quotient test

module _ (f g : Model) (h w : Candidate) where
  pub quotient_below_16 : (len : ℕ) → len < scratch_size → quotient_test len f g h w ≡ refused_test 1
  quotient_below_16 len e = quotient_short len f g h w e

  -- groups of any size are the whole list, refusals included, whatever the scratch
  pub quotient_groups : (size : ℕ) → 0 < size → (need len : ℕ) → quotient_in_groups size need len f g h w ≡ quotient_needing need len f g h w
  unfolding quotient_in_groups quotient_needing quotient_contraction quotient_residual product_list
  quotient_groups size some need len =
      ap₂ (λ (d e : ℕ). quotient_for need len
      (upℕ (d + 2 * weight w.coefficients * g.radius) (2 * scale))
      (upℕ (e + 2 * scale * f.radius + 2 * weight h.coefficients * g.radius) (2 * scale)) f g (placed f h) (placed f w))
      (constant_groups size some (pos (2 * scale * scale)) (terms (placed f w)) (terms g))
      (difference_groups size some (terms g) (terms (placed f h)) (scale_list ℤ_ring (pos (2 * scale)) f.coefficients))

  module _ {len former : ℕ} (room : scratch_size ≤ len) (room' : product_size ≤ former) where
    -- what 65 gave
    pub quotient_as_65 : quotient_test len f g h w ≡ quotient_needing product_size former f g h w
    quotient_as_65 = quotient_needs room room' f g h w

    pub quotient_groups_as_65 : (size : ℕ) → 0 < size → quotient_in_groups size scratch_size len f g h w ≡ quotient_needing product_size former f g h w
    quotient_groups_as_65 size some = quotient_groups size some scratch_size len ∙ quotient_as_65

-- ---- the root tests

module _ (rule : RootRule) (f : Model) (h w : Candidate) where
  pub root_below_16 : (len : ℕ) → len < scratch_size → root_test rule len f h w ≡ refused_test 1
  unfolding root_needing passing
  root_below_16 len e = rw (lt-ltb len scratch_size e)

  pub root_groups : (size : ℕ) → 0 < size → (need len : ℕ) → root_in_groups rule size need len f h w ≡ root_needing rule need len f h w
  unfolding root_in_groups root_needing root_contraction root_residual product_list
  root_groups size some need len =
      ap₂ (λ (d e : ℕ). root_for rule need len (upℕ d scale) (upℕ (e + 2 * scale * f.radius) (2 * scale)) f (placed f h) (placed f w))
      (constant_groups size some (pos (scale * scale)) (terms (placed f w)) (terms (placed f h)))
      (difference_groups size some (terms (placed f h)) (terms (placed f h)) (scale_list ℤ_ring (pos (2 * scale)) f.coefficients))

  module _ {len former : ℕ} (room : scratch_size ≤ len) (room' : product_size ≤ former) where
    pub root_as_65 : root_test rule len f h w ≡ root_needing rule product_size former f h w
    root_as_65 = root_needs room room' rule f h w

    pub root_groups_as_65 : (size : ℕ) → 0 < size → root_in_groups rule size scratch_size len f h w ≡ root_needing rule product_size former f h w
    root_groups_as_65 size some = root_groups size some scratch_size len ∙ root_as_65
