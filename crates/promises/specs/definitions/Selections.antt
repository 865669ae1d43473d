-- 02, S-14: two proposals for one quotient.
use Rattle.std.specs.Prelude.{◌≡◌, List, ◌⊎◌, ℕ, ◌≤◌, ◌<◌, ℤ, pos, length}
use Rattle.fraction.specs.definitions.Fraction.{ℚ, whole, ◌/ℚ◌}
use Rattle.model.specs.definitions.Models.{make_model}
use Rattle.model.specs.definitions.Outcomes.{accepted, refused}
use Rattle.model.specs.definitions.Allowed.{Allows, OnInterval}
use Rattle.model.specs.declared.types.Model.{Model}
use Rattle.certificate.specs.definitions.Tests.{Certificate}
use Rattle.selection.specs.definitions.Proposal.{proposal_test, proposed_answer}
use Rattle.selection.specs.definitions.Select.{Selected, make_selected, selection, selection_needing, part_numbers}

-- a proposal passes, with this radius
abbrev pub PassesWith : ℕ → Model → Model → List ℤ → ℕ → Type 0
PassesWith len f g s e = (t : Certificate) × (proposal_test len f g s ≡ accepted t) × (t.model.radius ≡ e)

pub record SelectionPromises : Type 0 where
  -- "Where one is accepted, at every fraction …" of the own interval (S-24) "no value that g allows is zero"
  pub selection_nonzero : (len : ℕ) (f g : Model) (first second : List ℤ) (c : Selected)
      → selection len f g first second ≡ accepted c
      → (x v : ℚ) → OnInterval f.interval x → Allows g x v → ¬ (v ≡ whole (pos 0))
  -- "and each allowed value of f over one of g is allowed by it with its radius": by the part, whatever degree it is read with
  pub selection_allowed : (len : ℕ) (f g : Model) (first second : List ℤ) (c : Selected)
      → selection len f g first second ≡ accepted c
      → (n : ℕ) (x u v : ℚ) → OnInterval f.interval x → Allows f x u → Allows g x v
      → Allows (make_model n (part_numbers c.chosen first second) c.radius f.interval) x (u /ℚ v)
  -- "returns the tighter proposal's coefficients": the chosen one passes with this radius,
  pub selection_passes : (len : ℕ) (f g : Model) (first second : List ℤ) (c : Selected)
      → selection len f g first second ≡ accepted c
      → ((c.chosen ≡ 1) × PassesWith len f g first c.radius) ⊎ ((c.chosen ≡ 2) × PassesWith len f g second c.radius)
  -- and neither that passes has a smaller one; "Equal radii favour the first."
  pub least_of_first : (len : ℕ) (f g : Model) (first second : List ℤ) (c : Selected) (t : Certificate)
      → selection len f g first second ≡ accepted c → proposal_test len f g first ≡ accepted t → c.radius ≤ t.model.radius
  pub least_of_second : (len : ℕ) (f g : Model) (first second : List ℤ) (c : Selected) (t : Certificate)
      → selection len f g first second ≡ accepted c → proposal_test len f g second ≡ accepted t → c.radius ≤ t.model.radius
  pub equal_favours_first : (len : ℕ) (f g : Model) (first second : List ℤ) (c : Selected) (t : Certificate)
      → selection len f g first second ≡ accepted c → proposal_test len f g first ≡ accepted t → t.model.radius ≡ c.radius
      → c.chosen ≡ 1
  -- "h's 33 are the part"
  pub part_length : (len : ℕ) (f g : Model) (first second : List ℤ) (c : Selected)
      → selection len f g first second ≡ accepted c → length (part_numbers c.chosen first second) ≡ 33
  -- the part with the proposal's degree and the radius is the test's own result
  pub proposal_result : (len : ℕ) (f g : Model) (s : List ℤ) (t : Certificate) → proposal_test len f g s ≡ accepted t
      → t.model ≡ make_model (proposed_answer s).degree (proposed_answer s).coefficients t.model.radius f.interval
  -- 02, S-17
  pub selection_as_65 : (len former : ℕ) → 16 ≤ len → 65 ≤ former → (f g : Model) (first second : List ℤ)
      → selection len f g first second ≡ selection_needing 65 former f g first second
  pub selection_below_16 : (len : ℕ) → len < 16 → (f g : Model) (first second : List ℤ)
      → selection len f g first second ≡ refused 1 (make_selected 0 0)
