-- Document 02, S-24, in selections, computed from the definitions: one on its own interval, 18, 19, and 1 by itself before both.
use Rattle.std.specs.Prelude.{◌≡◌, refl, [], ◌∷◌, pos, negsuc, replicate, take}
use Rattle.integer.specs.definitions.Rounding.{upℕ}
use Rattle.chebyshev.specs.definitions.Coefficients.{weight, add_lists, subtract_lists, scale_list}
use Rattle.chebyshev.specs.definitions.Product.{product, add_at_by, add_pair_by, add_term_by, add_terms_by}
use Rattle.model.specs.definitions.Intervals.{good_ends, same_interval}
use Rattle.model.specs.definitions.Models.{parts_within_limits, good, too_large, make_model, zero_model}
use Rattle.model.specs.definitions.Multiply.{product_list}
use Rattle.model.specs.definitions.Outcomes.{accepted, refused, passing}
use Rattle.model.specs.declared.types.Interval.{Interval}
use Rattle.model.specs.declared.types.Model.{Model}
use Rattle.certificate.specs.definitions.Tests.{displacement}
use Rattle.certificate.specs.definitions.Quotient.{quotient_needing, quotient_contraction, quotient_residual, quotient_model}
use Rattle.model.proofs.laws.IntervalExamples.{stretch, shifted, one_point}
use Rattle.selection.specs.definitions.Proposal.{proposal_needing}
use Rattle.selection.specs.definitions.Select.{make_selected, tighter, selection}
use Rattle.selection.proofs.laws.Examples.{proposal, w}

-- 2 and 3 on an interval
abbrev f : Interval → Model
f i = make_model 0 (pos 2097152 ∷ replicate 32 (pos 0)) 0 i

abbrev g : Interval → Model
g i = make_model 0 (pos 3145728 ∷ replicate 32 (pos 0)) 0 i

-- The second is tighter, on −1 and 7. 18 of f, and of g. 19, before a helper 0 does not contract; a proposal of degree −1 is 2 before
-- that. A short first proposal is 1, though the second is refused with 19; a short second one does not hide the first's 19.
abbrev pub Selections : Type 0
Selections =
    (selection 16 (f stretch) (g stretch) (proposal 699052 w) (proposal 699051 w) ≡ accepted (make_selected 2 2))
    × (selection 16 (f one_point) (g stretch) (proposal 699052 w) (proposal 699051 w) ≡ refused 18 (make_selected 0 0))
    × (selection 16 (f stretch) (g one_point) (proposal 699052 w) (proposal 699051 w) ≡ refused 18 (make_selected 0 0))
    × (selection 16 (f stretch) (g shifted) (proposal 699052 0) (proposal 699051 w) ≡ refused 19 (make_selected 0 0))
    × (selection 16 (f stretch) (g shifted) (negsuc 0 ∷ proposal 699051 w) (proposal 699051 w) ≡ refused 2 (make_selected 0 0))
    × (selection 16 (f stretch) (g shifted) (take 67 (proposal 699052 w)) (proposal 699051 w) ≡ refused 1 (make_selected 0 0))
    × (selection 16 (f stretch) (g shifted) (proposal 699052 w) [] ≡ refused 19 (make_selected 0 0))
    × (selection 16 (f one_point) (g one_point) [] (proposal 699051 w) ≡ refused 1 (make_selected 0 0))

pub selections : Selections
unfolding tighter proposal_needing quotient_needing quotient_contraction quotient_residual quotient_model displacement product_list passing same_interval good_ends parts_within_limits good too_large zero_model weight add_lists subtract_lists scale_list add_at_by add_pair_by add_term_by add_terms_by product upℕ
selections = (refl, refl, refl, refl, refl, refl, refl, refl)
