-- Document 02, S-17: "Let quotient and root tests do with a scratch of 16, forming the list C in groups." The tests once
-- more, for any group length.
use Rattle.std.specs.Prelude.{List, [], ◌∷◌, ◌++◌, ℕ, zero, suc, ◌+◌, ◌*◌, ◌-◌, min, max, ℤ, pos, length, take, drop}
use Rattle.ring.specs.definitions.Integer.{ℤ_ring}
use Rattle.integer.specs.definitions.Rounding.{upℕ}
use Rattle.chebyshev.specs.definitions.Coefficients.{weight, subtract_lists, scale_list}
use Rattle.chebyshev.specs.definitions.TwoSums.{places_from}
use Rattle.model.specs.definitions.Models.{scale, product_size, terms}
use Rattle.model.specs.definitions.Outcomes.{Outcome, outcome}
use Rattle.model.specs.declared.types.Candidate.{Candidate}
use Rattle.model.specs.declared.types.Model.{Model}
use Rattle.certificate.specs.definitions.Tests.{scratch_place, placed, Certificate, zero_certificate}
use Rattle.certificate.specs.definitions.Quotient.{quotient_places_for, quotient_certificate_for}
use Rattle.certificate.specs.definitions.Root.{root_places_for, root_rule_places, root_certificate_for}
use Rattle.certificate.specs.declared.types.RootRule.{RootRule}

-- ---- groups

-- a group of `size` places from place `start` on, or as many as the list has there
abbrev pub group : ℕ → ℕ → List ℤ → List ℤ
group size start l = take size (drop start l)

-- the same of C(a, b), which ends at place 64, by 01's two sums at these places alone
unfoldable pub product_group : ℕ → ℕ → List ℤ → List ℤ → List ℤ
product_group size start a b = places_from ℤ_ring (min size (product_size - start)) start a b

-- the weights of `count` groups, the first of them at `start`, summed
unfoldable pub weight_in_groups : ℕ → ℕ → ℕ → (ℕ → List ℤ) → ℕ
weight_in_groups size zero start group_at = 0
weight_in_groups size (suc count) start group_at = weight (group_at start) + weight_in_groups size count (start + size) group_at

-- so many groups reach the ends of C and of l; code stops where the degrees end
abbrev pub group_count : ℕ → List ℤ → ℕ
group_count size l = upℕ (max product_size (length l)) size

-- weight(z − C(a, b)), in groups of that size; the number z stands at place 0, so it is in the group at 0 only
unfoldable pub constant_in_groups : ℕ → ℤ → List ℤ → List ℤ → ℕ
constant_in_groups size z a b =
    weight_in_groups size (group_count size (z ∷ [])) 0 (λ s. subtract_lists ℤ_ring (group size s (z ∷ [])) (product_group size s a b))

-- weight(C(a, b) − d), in groups of that size; d counts in the groups where it has places
unfoldable pub difference_in_groups : ℕ → List ℤ → List ℤ → List ℤ → ℕ
difference_in_groups size a b d =
    weight_in_groups size (group_count size d) 0 (λ s. subtract_lists ℤ_ring (product_group size s a b) (group size s d))

-- ---- the quotient test

-- for m and N, with a scratch of len numbers, of which `need` are needed
abbrev pub quotient_for : ℕ → ℕ → ℕ → ℕ → Model → Model → Model → Model → Outcome Certificate
quotient_for need len m n f g h w =
    outcome (scratch_place need len ∷ quotient_places_for m n f g h w) (quotient_certificate_for m n h w) zero_certificate

-- "m = up((weight(2S² − C(w,g)) + 2·M·e_g)/(2S))"
abbrev pub quotient_contraction_in : ℕ → Model → Model → ℕ
quotient_contraction_in size g w =
    upℕ
    (constant_in_groups size (pos (2 * scale * scale)) (terms w) (terms g) + 2 * weight w.coefficients * g.radius)
    (2 * scale)

-- "N = up((weight(C(g,h) − 2S·f) + 2S·e_f + 2·H·e_g)/(2S))"
abbrev pub quotient_residual_in : ℕ → Model → Model → Model → ℕ
quotient_residual_in size f g h =
    upℕ
    (difference_in_groups size (terms g) (terms h) (scale_list ℤ_ring (pos (2 * scale)) f.coefficients)
    + 2 * scale * f.radius
    + 2 * weight h.coefficients * g.radius)
    (2 * scale)

unfoldable pub quotient_in_groups : ℕ → ℕ → ℕ → Model → Model → Candidate → Candidate → Outcome Certificate
quotient_in_groups size need len f g h w =
    quotient_for need len (quotient_contraction_in size g (placed f w)) (quotient_residual_in size f g (placed f h)) f g (placed f h)
    (placed f w)

-- ---- the root tests

abbrev pub root_for : RootRule → ℕ → ℕ → ℕ → ℕ → Model → Model → Model → Outcome Certificate
root_for rule need len m n f h w =
    outcome (scratch_place need len ∷ (root_places_for m n f h w ++ root_rule_places rule m n h w)) (root_certificate_for rule m n h w)
    zero_certificate

-- "m = up(weight(S² − C(w,h))/S)"
abbrev pub root_contraction_in : ℕ → Model → Model → ℕ
root_contraction_in size h w = upℕ (constant_in_groups size (pos (scale * scale)) (terms w) (terms h)) scale

-- "N = up((weight(C(h,h) − 2S·f) + 2S·e_f)/(2S))"
abbrev pub root_residual_in : ℕ → Model → Model → ℕ
root_residual_in size f h =
    upℕ
    (difference_in_groups size (terms h) (terms h) (scale_list ℤ_ring (pos (2 * scale)) f.coefficients) + 2 * scale * f.radius)
    (2 * scale)

unfoldable pub root_in_groups : RootRule → ℕ → ℕ → ℕ → Model → Candidate → Candidate → Outcome Certificate
root_in_groups rule size need len f h w =
    root_for rule need len (root_contraction_in size (placed f h) (placed f w)) (root_residual_in size f (placed f h)) f (placed f h)
    (placed f w)
