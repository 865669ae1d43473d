-- What is promised of the numbers of a selection is promised of those in its area.
use Rattle.std.specs.Prelude.{◌≡◌, List, [], ◌∷◌, ℕ, ◌≤◌, length, get_or, ℤ, true}
use Rattle.std.proofs.Common.{sym, ◌∙◌, ap}
use Rattle.model.specs.definitions.Area.{area_model, area_out}
use Rattle.model.proofs.laws.AreaLaws.{filled}
use Rattle.model.specs.definitions.Outcomes.{Outcome}
use Rattle.model.specs.declared.types.Model.{Model}
use Rattle.certificate.specs.definitions.Tests.{scratch_size, scratch_after}
use Rattle.selection.specs.definitions.Select.{Selected, selection, selected_of}
use Rattle.selection.proofs.laws.SelectLaws.{selected_number, selected_payload}
use Rattle.ferruntzo.specs.definitions.Areas.{selection_size}
use Rattle.ferruntzo.specs.definitions.Selections.{SelectionAnswer, selection_answer, selection_fits, short_selection, selection_in, quotient_of_two_answer}

pub selection_in_area : (P : ℕ → ℕ → Type 0) {c e : ℕ} {l : List ℕ} (answer : List ℕ) → selection_size ≤ length answer
    → l ≡ area_out selection_size (c ∷ e ∷ []) answer → P c e → P (get_or l 0 0) (get_or l 1 0)
selection_in_area P {c} {e} answer long stored h = rw (stored ∙ sym (filled selection_size (c ∷ e ∷ []) answer long)) h

-- ---- the whole answer, of which the code's search needs none

-- f and g are read from their areas; n, c and e are the lent numbers, s and l the scratch and the area of the answer afterwards
module _ (f g first second scratch : List ℤ) (answer : List ℕ) (fit : selection_fits scratch_size f g scratch answer ≡ true) where
  module _ {a b : Model} (is_f : a ≡ area_model f) (is_g : b ≡ area_model g) (n c e : ℕ) {l : List ℕ}
      (stored : l ≡ area_out selection_size (c ∷ e ∷ []) answer) where
    pub selection_answered : {s : List ℤ} → selected_of n c e ≡ selection (length scratch) a b first second → s ≡ scratch_after scratch
        → selection_answer n s l ≡ quotient_of_two_answer f g first second scratch answer
    unfolding selection_in
    selection_answered selects cleared =
        let same : selected_of n c e ≡ selection (length scratch) (area_model f) (area_model g) first second =
        selects ∙ (λ k. selection (length scratch) (is_f k) (is_g k) first second) in
        let number = sym (selected_number n c e) in
        let numbers = stored ∙ ap (λ (x : Selected). area_out selection_size (x.chosen ∷ x.radius ∷ []) answer) (sym (selected_payload n c e)) in
        rw fit ((λ k. selection_answer (number k) (cleared k) (numbers k)) ∙ ap (λ (o : Outcome Selected). selection_in o scratch answer) same)

-- refusal 1 has its number
pub short_number : (scratch : List ℤ) (answer : List ℕ) {n : ℕ} {s : List ℤ} {l : List ℕ}
    → selection_answer n s l ≡ selection_in short_selection scratch answer → n ≡ 1
unfolding selection_in
short_number scratch answer e = ap (λ (x : SelectionAnswer). x.number) e
