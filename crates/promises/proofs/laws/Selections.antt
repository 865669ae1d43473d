-- The promises about two proposals are kept.
use Rattle.std.specs.Prelude.{◌≡◌, refl, Bool, true, false, cond, List, ◌⊎◌, ℕ, ltb, ℤ}
use Rattle.std.proofs.Common.{sym, ◌∙◌, ap, inl, inr, arith, ltb-true}
use Rattle.model.specs.definitions.Allowed.{AllowsAt}
use Rattle.model.specs.definitions.Outcomes.{Outcome, accepted, refused, payload}
use Rattle.model.proofs.laws.PlaceLaws.{refused_not_accepted, mapped_accepted}
use Rattle.model.specs.declared.types.Model.{Model}
use Rattle.certificate.specs.definitions.Tests.{Certificate}
use Rattle.selection.specs.definitions.Proposal.{proposal_test, proposal_radius, result_radius}
use Rattle.selection.specs.definitions.Select.{Selected, make_selected, tighter, selection}
use Rattle.selection.proofs.laws.ProposalLaws as proposals
use Rattle.selection.proofs.laws.SelectLaws as selections
use Rattle.selection.proofs.laws.SelectSound as sound
use Rattle.promises.specs.definitions.Selections.{PassesWith, SelectionPromises}

-- "Equal radii favour the first."
first_favoured : (a b : Outcome ℕ) (c : Selected) → tighter a b ≡ accepted c → a ≡ accepted c.radius → c.chosen ≡ 1
unfolding tighter
first_favoured (refused n z) b c h i = absurd (refused_not_accepted i)
first_favoured (accepted e) (refused m z) c h i = ap (λ (s : Outcome Selected). (payload s).chosen) (sym h)
first_favoured (accepted e) (accepted d) c h i = go (ltb d e) refl h
  where
    go : (t : Bool) → ltb d e ≡ t → accepted (cond t (make_selected 2 d) (make_selected 1 e)) ≡ accepted c → c.chosen ≡ 1
    go true l k = absurd (omega (arith, ltb-true d e l, ap payload i, ap (λ (s : Outcome Selected). (payload s).radius) k))
    go false l k = ap (λ (s : Outcome Selected). (payload s).chosen) (sym k)

module _ (len : ℕ) (f g : Model) (first second : List ℤ) (c : Selected) (e : selection len f g first second ≡ accepted c) where
  -- a proposal's radius is that of its test
  radius_of : (s : List ℤ) (t : Certificate) → proposal_test len f g s ≡ accepted t → proposal_radius len f g s ≡ accepted t.model.radius
  radius_of s t h = rw h

  test_of : (s : List ℤ) → proposal_radius len f g s ≡ accepted c.radius → PassesWith len f g s c.radius
  test_of s h = let (t, p) = mapped_accepted result_radius (proposal_test len f g s) h in (t, p.0, p.1)

  passes : ((c.chosen ≡ 1) × PassesWith len f g first c.radius) ⊎ ((c.chosen ≡ 2) × PassesWith len f g second c.radius)
  passes = elim (selections.tighter_is_least (proposal_radius len f g first) (proposal_radius len f g second) e).passes [
    | inl p ↦ inl (p.0, test_of first p.1)
    | inr p ↦ inr (p.0, test_of second p.1)
  ]

pub selections_kept : SelectionPromises
unfolding AllowsAt
selections_kept = record {
  selection_nonzero = λ len f g first second c e x v on a. (sound.selection_allowed len f g first second e).divisor x v on a;
  selection_allowed = λ len f g first second c e n x u v on a b. (sound.selection_allowed len f g first second e).quotient x u v on a b;
  selection_passes = passes;
  least_of_first = λ len f g first second c t e p.
      (selections.tighter_is_least (proposal_radius len f g first) (proposal_radius len f g second) e).least_first _ (radius_of len f g first second c e first t p);
  least_of_second = λ len f g first second c t e p.
      (selections.tighter_is_least (proposal_radius len f g first) (proposal_radius len f g second) e).least_second _ (radius_of len f g first second c e second t p);
  equal_favours_first = λ len f g first second c t e p r.
      first_favoured (proposal_radius len f g first) (proposal_radius len f g second) c e (radius_of len f g first second c e first t p ∙ ap (λ (n : ℕ). accepted n) r);
  part_length = λ len f g first second c e. sound.part_length len f g first second e;
  proposal_result = λ len f g s t p. proposals.proposal_result len f g s p;
  selection_as_65 = λ len former l k f g first second. selections.selection_as_65 f g first second l k;
  selection_below_16 = λ len l f g first second. selections.selection_below_16 f g first second len l;
}
