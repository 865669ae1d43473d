-- The claim of S-14: where a proposal is accepted, no value that g allows is 0, and the quotient of what f and g allow is allowed by
-- the part with its radius.
use Rattle.std.specs.Prelude.{◌≡◌, List, [], ℕ, ◌≤◌, ℤ, pos, length, drop}
use Rattle.std.proofs.Common.{sym, subst, ⊎_elim, arith, length-drop, length-take-le}
use Rattle.fraction.specs.definitions.Fraction.{ℚ, whole, ◌/ℚ◌}
use Rattle.model.specs.definitions.Models.{coefficient_count, make_model}
use Rattle.model.specs.definitions.Allowed.{AllowsAt, Allows, OnInterval}
use Rattle.model.specs.definitions.Outcomes.{accepted}
use Rattle.model.proofs.laws.PlaceLaws.{mapped_accepted}
use Rattle.model.specs.declared.types.Model.{Model}
use Rattle.certificate.specs.definitions.Promise.{QuotientAllowed}
use Rattle.selection.specs.definitions.Proposal.{proposal_size, proposed_answer, proposal_test, result_radius, proposal_radius}
use Rattle.selection.specs.definitions.Select.{Selected, selection, by_chosen, part_numbers}
use Rattle.selection.specs.definitions.Promise.{part_model}
use Rattle.selection.proofs.laws.ProposalLaws.{passes_long, proposal_allowed}
use Rattle.selection.proofs.laws.SelectLaws.{tighter_is_least}

module _ (len : ℕ) (f g : Model) (s : List ℤ) {e : ℕ} (passes : proposal_radius len f g s ≡ accepted e) where
  radius_long : proposal_size ≤ length s
  radius_long = passes_long len f g s (mapped_accepted result_radius (proposal_test len f g s) passes).1.0

  radius_allowed : QuotientAllowed f g (part_model (proposed_answer s).coefficients e f.interval)
  radius_allowed =
      let m = mapped_accepted result_radius (proposal_test len f g s) passes in
      rw (sym m.1.1) (proposal_allowed len f g s m.1.0)

module _ (len : ℕ) (f g : Model) (first second : List ℤ) {c : Selected} (accepts : selection len f g first second ≡ accepted c) where
  -- what holds where the first passes with the radius, and where the second does, holds of the chosen one
  of_chosen : (P : ℕ → Type 0) → (proposal_radius len f g first ≡ accepted c.radius → P 1)
      → (proposal_radius len f g second ≡ accepted c.radius → P 2) → P c.chosen
  of_chosen P one two =
      ⊎_elim (λ p. subst P (sym p.0) (one p.1)) (λ p. subst P (sym p.0) (two p.1))
      (tighter_is_least (proposal_radius len f g first) (proposal_radius len f g second) accepts).passes

  pub selection_allowed : QuotientAllowed f g (part_model (part_numbers c.chosen first second) c.radius f.interval)
  selection_allowed =
      of_chosen (λ (k : ℕ). QuotientAllowed f g (part_model (part_numbers k first second) c.radius f.interval)) (radius_allowed len f g first) (radius_allowed len f g second)

  -- the chosen proposal has all its numbers
  pub chosen_long : proposal_size ≤ length (by_chosen c.chosen [] first second)
  chosen_long = of_chosen (λ (k : ℕ). proposal_size ≤ length (by_chosen k [] first second)) (radius_long len f g first) (radius_long len f g second)

  pub part_length : length (part_numbers c.chosen first second) ≡ coefficient_count
  part_length =
      of_chosen (λ (k : ℕ). length (part_numbers k first second) ≡ coefficient_count)
      (λ h. count first (radius_long len f g first h)) (λ h. count second (radius_long len f g second h))
    where
      count : (s : List ℤ) → proposal_size ≤ length s → length (proposed_answer s).coefficients ≡ coefficient_count
      count s h = length-take-le coefficient_count (drop 1 s) (omega (arith, h, length-drop 1 s))

-- the claim put to use, of a part with any degree
pub allowed_part : {f g : Model} {cs : List ℤ} {e : ℕ} → QuotientAllowed f g (part_model cs e f.interval) → (n : ℕ) (x u v : ℚ) → OnInterval f.interval x
    → Allows f x u → Allows g x v → (¬ (v ≡ whole (pos 0))) × Allows (make_model n cs e f.interval) x (u /ℚ v)
unfolding AllowsAt
allowed_part q n x u v on hu hv = (q.divisor x v on hv, q.quotient x u v on hu hv)
