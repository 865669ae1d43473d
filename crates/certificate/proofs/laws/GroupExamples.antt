-- Document 02, S-17, computed from the definitions: groups of C, tests in groups of several sizes, and the scratch that is needed.
use Rattle.std.specs.Prelude.{◌≡◌, refl, [], ◌∷◌, pos, length, replicate, ℕ}
use Rattle.integer.specs.definitions.Rounding.{upℕ}
use Rattle.chebyshev.specs.definitions.Coefficients.{weight, add_lists, subtract_lists, scale_list, coefficient_sum}
use Rattle.chebyshev.specs.definitions.TwoSums.{tabulate, sum, sum_where, two_sums}
use Rattle.model.specs.definitions.Intervals.{good_ends, same_interval}
use Rattle.model.specs.definitions.Models.{parts_within_limits, good, too_large, standard_model, constant_model, zero_model}
use Rattle.model.specs.definitions.Outcomes.{Outcome, accepted, refused, passing}
use Rattle.model.specs.declared.types.Model.{Model}
use Rattle.certificate.specs.definitions.Tests.{Certificate, make_certificate, zero_certificate, displacement}
use Rattle.certificate.specs.definitions.Quotient.{quotient_needing, quotient_model}
use Rattle.certificate.specs.definitions.Root.{root_needing, root_model}
use Rattle.certificate.specs.declared.types.RootRule.TheVariants.{ByDiscriminant}
use Rattle.certificate.specs.definitions.Groups.{product_group, weight_in_groups, group_count, constant_in_groups, difference_in_groups, quotient_in_groups, root_in_groups}
use Rattle.certificate.proofs.laws.Examples.{candidate}

-- (1 + 2·T_1)·(3 + 4·T_1), twice, is 14 + 20·T_1 + 8·T_2; the last group of 16 has one place, and five reach it
pub groups :
    (product_group 2 0 (pos 1 ∷ pos 2 ∷ []) (pos 3 ∷ pos 4 ∷ []) ≡ pos 14 ∷ pos 20 ∷ [])
    × (product_group 2 1 (pos 1 ∷ pos 2 ∷ []) (pos 3 ∷ pos 4 ∷ []) ≡ pos 20 ∷ pos 8 ∷ [])
    × (length (product_group 16 64 [] []) ≡ 1)
    × (group_count 16 [] ≡ 5)
unfolding product_group tabulate two_sums sum_where sum upℕ
groups = (refl, refl, refl, refl)

-- (S + S·T_5) over S with h = w = S, in groups of the given size: T_5 lies beyond the end of C(g, h) and counts
abbrev beyond : ℕ → Outcome Certificate
beyond size =
    let one = constant_model (pos 1048576) in
    let f = standard_model 5 (pos 1048576 ∷ pos 0 ∷ pos 0 ∷ pos 0 ∷ pos 0 ∷ pos 1048576 ∷ replicate 27 (pos 0)) 0 in
    quotient_in_groups size 16 16 f one (candidate 1048576) (candidate 1048576)

abbrev beyond_gives : Outcome Certificate
beyond_gives = accepted (make_certificate (standard_model 0 (pos 1048576 ∷ replicate 32 (pos 0)) 1048576) 0 1048576 1048576)

pub in_groups : (beyond 1 ≡ beyond_gives) × (beyond 16 ≡ beyond_gives) × (beyond 65 ≡ beyond_gives)
unfolding quotient_in_groups constant_in_groups difference_in_groups weight_in_groups product_group tabulate two_sums sum_where sum quotient_model displacement passing same_interval good_ends parts_within_limits good too_large constant_model zero_model weight add_lists subtract_lists scale_list upℕ
in_groups = (refl, refl, refl)

-- the root of 2 with h = 2 and w = 1/4, whose discriminant is 0, in groups
abbrev root_by : ℕ → Outcome Certificate
root_by size = root_in_groups ByDiscriminant size 16 16 (constant_model (pos 2097152)) (candidate 2097152) (candidate 262144)

abbrev root_gives : Outcome Certificate
root_gives = accepted (make_certificate (standard_model 0 (pos 2097152 ∷ replicate 32 (pos 0)) 1048576) 0 2097152 524288)

pub root_in_groups_lem : (root_by 1 ≡ root_gives) × (root_by 16 ≡ root_gives) × (root_by 65 ≡ root_gives)
unfolding root_in_groups constant_in_groups difference_in_groups weight_in_groups product_group tabulate two_sums sum_where sum root_model displacement coefficient_sum passing same_interval good_ends parts_within_limits good too_large constant_model zero_model weight add_lists subtract_lists scale_list upℕ
root_in_groups_lem = (refl, refl, refl)

-- the scratch of 01
abbrev bad : Model
bad = constant_model (pos 268435457)

pub needed :
    (quotient_needing 65 64 bad bad (candidate 268435457) (candidate 268435457) ≡ refused 1 zero_certificate)
    × (quotient_needing 65 65 bad bad (candidate 268435457) (candidate 268435457) ≡ refused 2 zero_certificate)
    × (root_needing ByDiscriminant 65 64 bad (candidate 268435457) (candidate 268435457) ≡ refused 1 zero_certificate)
    × (root_needing ByDiscriminant 65 65 bad (candidate 268435457) (candidate 268435457) ≡ refused 2 zero_certificate)
unfolding quotient_needing root_needing passing same_interval good_ends parts_within_limits good constant_model weight
needed = (refl, refl, refl, refl)
