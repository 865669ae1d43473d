-- Document 02, S-24: of f and g on the interval −S..S the selection is the former one, whatever the scratch and the proposals.
use Rattle.std.specs.Prelude.{◌≡◌, cond, List, ℕ, ltb, ℤ, length}
use Rattle.std.proofs.Math.Path.{ap}
use Rattle.std.proofs.Common.{ap₂}
use Rattle.model.specs.definitions.Intervals.{standard_interval}
use Rattle.model.specs.definitions.Outcomes.{Outcome, refused, map_outcome}
use Rattle.model.specs.declared.types.Model.{Model}
use Rattle.certificate.specs.definitions.Tests.{zero_certificate}
use Rattle.certificate.proofs.laws.FormerTests.{quotient_former}
use Rattle.selection.proofs.laws.FormerProposal.{former_proposal}
use Rattle.selection.specs.definitions.Proposal.{proposed_answer, proposed_helper, result_radius, proposal_needing}
use Rattle.selection.specs.definitions.Select.{Selected, tighter, selection}

-- "an entry that tests both"
abbrev pub former_selection : ℕ → Model → Model → List ℤ → List ℤ → Outcome Selected
former_selection len f g first second =
    tighter (map_outcome result_radius (former_proposal len f g first)) (map_outcome result_radius (former_proposal len f g second))

module _ (len : ℕ) (f g : Model) (on_f : f.interval ≡ standard_interval) (on_g : g.interval ≡ standard_interval) where
  pub proposal_former : (s : List ℤ) → proposal_needing 16 len f g s ≡ former_proposal len f g s
  unfolding proposal_needing former_proposal
  proposal_former s =
      ap (cond (ltb (length s) 68) (refused 1 zero_certificate)) (quotient_former 16 len f g (proposed_answer s) (proposed_helper s) on_f on_g)

  pub selection_former : (first second : List ℤ) → selection len f g first second ≡ former_selection len f g first second
  selection_former first second =
      ap₂ (λ a b. tighter (map_outcome result_radius a) (map_outcome result_radius b)) (proposal_former first) (proposal_former second)
