-- Closed pairs of proposals for 2/3, in units: each order, equal radii, one that passes, each kind of refusal; and their parts.
use Rattle.std.specs.Prelude.{◌≡◌, refl, List, [], ◌∷◌, ◌++◌, ℕ, ℤ, pos, negsuc, replicate, take}
use Rattle.integer.specs.definitions.Rounding.{upℕ}
use Rattle.chebyshev.specs.definitions.Coefficients.{weight, add_lists, subtract_lists, scale_list}
use Rattle.chebyshev.specs.definitions.Product.{product, add_at_by, add_pair_by, add_term_by, add_terms_by}
use Rattle.model.specs.definitions.Intervals.{good_ends, same_interval}
use Rattle.model.specs.definitions.Models.{parts_within_limits, good, too_large, constant_model, zero_model}
use Rattle.model.specs.definitions.Outcomes.{Outcome, accepted, refused, passing}
use Rattle.model.specs.definitions.Multiply.{product_list}
use Rattle.model.specs.declared.types.Model.{Model}
use Rattle.certificate.specs.definitions.Tests.{displacement}
use Rattle.certificate.specs.definitions.Quotient.{quotient_needing, quotient_contraction, quotient_residual, quotient_model}
use Rattle.selection.specs.definitions.Proposal.{proposal_needing}
use Rattle.selection.specs.definitions.Select.{selection_needing, Selected, make_selected, tighter, selection, part_numbers, part_pointer}

-- a constant, as a candidate's 34 numbers
abbrev pub constant_candidate : ℤ → List ℤ
constant_candidate c = pos 0 ∷ c ∷ replicate 32 (pos 0)

abbrev pub proposal : ℕ → ℕ → List ℤ
proposal h w = constant_candidate (pos h) ++ constant_candidate (pos w)

abbrev f : Model
f = constant_model (pos 2097152)

abbrev g : Model
g = constant_model (pos 3145728)

-- a third of S
abbrev pub w : ℕ
w = 349525

abbrev pair : List ℤ → List ℤ → Outcome Selected
pair first second = selection 16 f g first second

-- Radii of 699051, 699052 and 699050: 2, 3 and 2. A helper 0 does not contract; 134916779 leaves a residual above 2^28, 90177536 with the helper
-- 600000 a radius above 2^28, which is no pass; a degree −1 is bad; 67 numbers are short.
abbrev pub Selections : Type 0
Selections =
    (pair (proposal 699051 w) (proposal 699052 w) ≡ accepted (make_selected 1 2))
    × (pair (proposal 699052 w) (proposal 699051 w) ≡ accepted (make_selected 2 2))
    × (pair (proposal 699050 w) (proposal 699051 w) ≡ accepted (make_selected 1 2))
    × (pair (proposal 699052 w) (proposal 699051 0) ≡ accepted (make_selected 1 3))
    × (pair (take 67 (proposal 699051 w)) (proposal 699052 w ++ (pos 7 ∷ [])) ≡ accepted (make_selected 2 3))
    × (pair (proposal 699051 0) (take 67 (proposal 699051 w)) ≡ refused 5 (make_selected 0 0))
    × (pair (take 67 (proposal 699051 w)) (proposal 699051 0) ≡ refused 1 (make_selected 0 0))
    × (pair (proposal 134916779 w) [] ≡ refused 6 (make_selected 0 0))
    × (pair (proposal 90177536 600000) [] ≡ refused 3 (make_selected 0 0))
    × (pair (proposal 90177536 600000) (proposal 699052 w) ≡ accepted (make_selected 2 3))
    × (pair (negsuc 0 ∷ []) (negsuc 0 ∷ proposal 699051 w) ≡ refused 1 (make_selected 0 0))
    × (pair (negsuc 0 ∷ proposal 699051 w) [] ≡ refused 2 (make_selected 0 0))
    × (selection 16 (constant_model (pos 268435457)) g (take 67 (proposal 699051 w)) (proposal 699051 w) ≡ refused 1 (make_selected 0 0))
    × (selection 16 f (constant_model (pos 268435457)) (proposal 699051 w) (take 67 (proposal 699051 w)) ≡ refused 2 (make_selected 0 0))
    × (selection 15 f g (proposal 699051 w) (proposal 699051 w) ≡ refused 1 (make_selected 0 0))
    × (selection_needing 65 64 f g (proposal 699051 w) (proposal 699051 w) ≡ refused 1 (make_selected 0 0))

pub selections : Selections
unfolding tighter proposal_needing quotient_needing quotient_contraction quotient_residual quotient_model displacement product_list passing same_interval good_ends parts_within_limits good too_large constant_model zero_model weight add_lists subtract_lists scale_list add_at_by add_pair_by add_term_by add_terms_by product upℕ
selections = (refl, refl, refl, refl, refl, refl, refl, refl, refl, refl, refl, refl, refl, refl, refl, refl)

-- chosen and radius are different numbers, by their names: of 699056 and 699054, with radii 7 and 5
pub chosen_and_radius :
    (pair (proposal 699056 w) (proposal 699054 w) ≡ accepted (record { chosen = 2; radius = 5 }))
    × (pair (proposal 699054 w) (proposal 699056 w) ≡ accepted (record { chosen = 1; radius = 5 }))
unfolding tighter proposal_needing quotient_needing quotient_contraction quotient_residual quotient_model displacement product_list passing same_interval good_ends parts_within_limits good too_large constant_model zero_model weight add_lists subtract_lists scale_list add_at_by add_pair_by add_term_by add_terms_by product upℕ
chosen_and_radius = (refl, refl)

-- h's coefficients behind the degree, in the chosen slice; of none an empty part where the first begins
abbrev pub Parts : Type 0
Parts =
    (part_numbers 1 (proposal 5 6) (proposal 7 8) ≡ pos 5 ∷ replicate 32 (pos 0))
    × (part_numbers 2 (proposal 5 6) (proposal 7 8) ≡ pos 7 ∷ replicate 32 (pos 0))
    × (part_numbers 0 (proposal 5 6) (proposal 7 8) ≡ [])
    × (part_pointer 1 (3, 40) (9, 80) ≡ (3, 44))
    × (part_pointer 2 (3, 40) (9, 80) ≡ (9, 84))
    × (part_pointer 0 (3, 40) (9, 80) ≡ (3, 40))

pub parts : Parts
parts = (refl, refl, refl, refl, refl, refl)
