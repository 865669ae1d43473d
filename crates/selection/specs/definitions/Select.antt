-- Document 02, S-14: the tighter of two proposals, and "the tighter proposal's coefficients as that part of the caller's own
-- numbers, with its radius".
use Rattle.std.specs.Prelude.{◌≡◌, cond, List, [], ℕ, ◌+◌, eqb, ltb, ℤ, Result, Ok, Err}
use Rattle.std.specs.Borrow.{Bor}
use Rattle.model.specs.definitions.Outcomes.{Outcome, accepted, refused, number_of}
use Rattle.model.specs.declared.types.Model.{Model}
use Rattle.model.specs.declared.types.Refusal.{Refusal}
use Rattle.certificate.specs.definitions.Tests.{scratch_size}
use Rattle.selection.specs.definitions.Proposal.{proposed_answer, radius_needing}
use Rattle.selection.specs.declared.types.Chosen.{Chosen}
use Rattle.selection.specs.declared.types.Chosen.TheVariants.{First, Second}

-- ---- the selection

-- which proposal is chosen, 1 or 2, and its radius; 0 and 0 where neither is
pub record Selected : Type 0 where
  pub chosen : ℕ
  pub radius : ℕ

abbrev pub make_selected : ℕ → ℕ → Selected
make_selected c e = record { chosen = c; radius = e }

-- of the radii, or refusals, of the first and of the second: "Equal radii favour the first. If just one passes, it wins. If
-- neither does, the first proposal's refusal is given with … radius 0."
unfoldable pub tighter : Outcome ℕ → Outcome ℕ → Outcome Selected
tighter (accepted e) (accepted d) = accepted (cond (ltb d e) (make_selected 2 d) (make_selected 1 e))
tighter (accepted e) (refused m z) = accepted (make_selected 1 e)
tighter (refused n z) (accepted d) = accepted (make_selected 2 d)
tighter (refused n z) (refused m y) = refused n (make_selected 0 0)

-- "an entry that tests both", with a scratch of len numbers, of which a test needs `need`
abbrev pub selection_needing : ℕ → ℕ → Model → Model → List ℤ → List ℤ → Outcome Selected
selection_needing need len f g first second = tighter (radius_needing need len f g first) (radius_needing need len f g second)

abbrev pub selection : ℕ → Model → Model → List ℤ → List ℤ → Outcome Selected
selection len f g first second = selection_needing scratch_size len f g first second

-- what the code's answer means
abbrev pub selected_by : Chosen → Selected
selected_by (First e) = make_selected 1 e
selected_by (Second d) = make_selected 2 d

abbrev pub selection_of : Result Chosen Refusal → Outcome Selected
selection_of (Ok c) = accepted (selected_by c)
selection_of (Err v) = refused (number_of v) (make_selected 0 0)

-- what the lent numbers mean: 0 beside the chosen proposal and its radius, or a refusal's number beside both
abbrev pub selected_of : ℕ → ℕ → ℕ → Outcome Selected
selected_of n c e = cond (eqb n 0) (accepted (make_selected c e)) (refused n (make_selected c e))

-- ---- the part

-- what goes with no proposal, with the first, with the second
abbrev pub by_chosen : {A : Type 0} → ℕ → A → A → A → A
by_chosen c none first second = cond (eqb c 1) first (cond (eqb c 2) second none)

-- "h's 33 are the part", and of none "an empty part"
abbrev pub part_numbers : ℕ → List ℤ → List ℤ → List ℤ
part_numbers c first second = by_chosen c [] (proposed_answer first).coefficients (proposed_answer second).coefficients

-- a pointer is a block of memory and a byte in it; the coefficients begin behind the degree, which takes 4 bytes
abbrev pub behind_degree : ℕ × ℕ → ℕ × ℕ
behind_degree p = (p.0, 4 + p.1)

-- the pointer of the part; the empty part is one "of the first"
abbrev pub part_pointer : ℕ → ℕ × ℕ → ℕ × ℕ → ℕ × ℕ
part_pointer c first second = by_chosen c first (behind_degree first) (behind_degree second)

-- "that part of the caller's own numbers": its pointer, and its numbers
abbrev pub IsPart : ℕ → Bor (List ℤ) → Bor (List ℤ) → Bor (List ℤ) → Type 0
IsPart c first second r = (r.ref_ptr ≡ part_pointer c first.ref_ptr second.ref_ptr) × (r.now ≡ part_numbers c first.now second.now)
