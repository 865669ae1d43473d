-- What the exported selection of one of two proposals answers and leaves in its areas (document 02, S-14).
use Rattle.std.specs.Prelude.{Bool, cond, ◌&&◌, List, [], ◌∷◌, ℕ, ℤ, length}
use Rattle.model.specs.definitions.Outcomes.{Outcome, refused, number, payload}
use Rattle.model.specs.definitions.Area.{model_size, area_model, fits, area_out}
use Rattle.certificate.specs.definitions.Tests.{scratch_size, scratch_after}
use Rattle.selection.specs.definitions.Select.{selection_needing, Selected, make_selected}
use Rattle.ferruntzo.specs.definitions.Areas.{selection_size}

-- refusal 1, where an area other than a proposal is too short
abbrev pub short_selection : Outcome Selected
short_selection = refused 1 (make_selected 0 0)

-- the number, and what the scratch and the area of the answer hold afterwards
pub record SelectionAnswer : Type 0 where
  pub number : ℕ
  pub scratch : List ℤ
  pub answer : List ℕ

abbrev pub selection_answer : ℕ → List ℤ → List ℕ → SelectionAnswer
selection_answer n s a = record { number = n; scratch = s; answer = a }

-- a selection, answered over its areas: "a long enough scratch is zero even then"
unfoldable pub selection_in : Outcome Selected → List ℤ → List ℕ → SelectionAnswer
selection_in o scratch answer =
    selection_answer
    (number o)
    (scratch_after scratch)
    (area_out selection_size ((payload o).chosen ∷ (payload o).radius ∷ []) answer)

-- whether the models, the scratch, of which `need` numbers are needed, and the answer have their numbers. A short proposal
-- "fails with 1, by itself", and is not among them.
abbrev pub selection_fits : ℕ → List ℤ → List ℤ → List ℤ → List ℕ → Bool
selection_fits need f g scratch answer =
    fits model_size f && fits model_size g && fits need scratch && fits selection_size answer

-- a call's outcome, by which its number and answer go
abbrev pub selection_call : ℕ → List ℤ → List ℤ → List ℤ → List ℤ → List ℤ → List ℕ → Outcome Selected
selection_call need f g first second scratch answer =
    cond (selection_fits need f g scratch answer)
    (selection_needing need (length scratch) (area_model f) (area_model g) first second)
    short_selection

abbrev pub quotient_of_two_answer : List ℤ → List ℤ → List ℤ → List ℤ → List ℤ → List ℕ → SelectionAnswer
quotient_of_two_answer f g first second scratch answer =
    selection_in (selection_call scratch_size f g first second scratch answer) scratch answer
