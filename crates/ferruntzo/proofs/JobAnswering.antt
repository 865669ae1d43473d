-- The step from what the check of a job and its conversion answer to their claims over one more lent area.
use mathlib.Core.Path.{◌≡◌, refl, ap, sym, subst, ◌∙◌}
use mathlib.Core.Bool.{Bool, not}
use mathlib.Core.List.{List, [], ◌∷◌, ◌++◌}
use mathlib.Core.Logic.{inl}
use Rattle.std.specs.Prelude.{Result, Ok, Err}
use Prim.Native.Nat.{ℕ, ◌≤◌, ◌<◌}
use native.Mathlib.Omega.{arith}
use borrow.Author.Tests.{le-leb, lt-leb, ne_eqb}
use lib.IntN.{ℤ}
use lib.ListN.{length, drop, take, replicate}
use Rattle.model.specs.definitions.Area.{area_out}
use Rattle.model.specs.definitions.Outcomes.{number_of, here}
use Rattle.model.proofs.laws.OutcomeLaws.{number_of_positive}
use Rattle.job.specs.definitions.Outcomes.{JobOutcome, accepted, job_outcome_of, refusal_number, refused_command, result_count}
use Rattle.job.specs.definitions.Work.{area_place}
use Rattle.job.specs.definitions.Requirement.{Requirement3}
use Rattle.job.proofs.laws.AnswerBounds.{Small}
use Rattle.job.proofs.laws.RequirementLaws.{refused_required, required_behind}
use Rattle.job.specs.declared.types.RefusedCommand.{RefusedCommand}
use Rattle.ferruntzo.specs.definitions.Jobs.{answer_size, answer_numbers, Answerable, answer_in}
use Rattle.ferruntzo.specs.definitions.Jobs.{job_answer, answered_by, edition_answer, convert_answer}
use Rattle.survey.specs.definitions.Editions.{ConvertedJob, edition_conversion, output_after}

-- its numbers fit
pub answerable : (r : Result ℕ RefusedCommand) {o : JobOutcome ℕ} → job_outcome_of r ≡ o → Small o → Answerable (job_outcome_of r)
answerable r same small =
    record { count_fits = omega (arith, ap result_count same, small.results); command-fits = omega (arith, ap refused_command same, small.number) }

-- the area of an answer
abbrev pub answer_over : Result ℕ RefusedCommand → List ℕ → List ℕ
answer_over r answer = area_out answer_size (answer_numbers (job_outcome_of r)) answer

-- what its numbers mean is what was answered, whatever stands behind them
pub answer_means : (r : Result ℕ RefusedCommand) (answer : List ℕ)
    → answer_in (refusal_number (job_outcome_of r)) (answer_numbers (job_outcome_of r) ++ drop answer_size answer) ≡ job_outcome_of r
answer_means (Ok count) answer = refl
answer_means (Err r) answer = rw (ne_eqb (number_of r.refusal) 0 (omega (arith, number_of_positive r.refusal)))

area_means : (r : Result ℕ RefusedCommand) (answer : List ℕ) → answer_size ≤ length answer
    → answer_in (refusal_number (job_outcome_of r)) (answer_over r answer) ≡ job_outcome_of r
unfolding area_out
area_means r answer long = rw (le-leb answer_size (length answer) long) (answer_means r answer)

-- requirement 3, with the area of the answer before the other places
module _ (places : List (Bool × ℕ)) (job answer : List ℕ) (w : List ℤ) where
  pub required : (r : Result ℕ RefusedCommand) {n : ℕ} {m : List ℕ} → answer_size ≤ length answer
      → n ≡ refusal_number (job_outcome_of r) → m ≡ answer_over r answer → Requirement3 places job (job_outcome_of r) w
      → Requirement3 (area_place answer_size (length answer) ∷ places) job (answer_in n m) w
  required r long number_is answer_is claim =
      subst (λ (x : JobOutcome ℕ). Requirement3 (area_place answer_size (length answer) ∷ places) job x w)
      (sym ((λ k. answer_in (number_is k) (answer_is k)) ∙ area_means r answer long))
      (required_behind (_ ∷ []) (ap not (le-leb answer_size (length answer) long), tt) claim)

  -- it is too short
  pub unrequired : length answer < answer_size → Requirement3 (area_place answer_size (length answer) ∷ places) job (answer_in 1 answer) w
  unrequired short = refused_required (inl (here (ap not (lt-leb answer_size (length answer) short)) refl, refl)) 1 _ w

-- ---- the whole answers, of which the code's search needs none

-- of a check whose definitions give the outcome o
module _ (work scratch : List ℤ) (answer : List ℕ) (o : JobOutcome ℕ) (work'' scratch'' : List ℤ) where
  pub answered : (r : Result ℕ RefusedCommand) {n : ℕ} {m : List ℕ} {w s : List ℤ} → answer_size ≤ length answer
      → n ≡ refusal_number (job_outcome_of r) → m ≡ answer_over r answer → job_outcome_of r ≡ o → w ≡ work'' → s ≡ scratch''
      → job_answer n w s m ≡ answered_by o work'' work scratch'' scratch answer
  answered r long number_is answer_is same ew es =
      let f = number_is ∙ ap refusal_number same in
      let g = answer_is ∙ ap (λ (x : JobOutcome ℕ). area_out answer_size (answer_numbers x) answer) same in
      rw (le-leb answer_size (length answer) long) (λ k. job_answer (f k) (ew k) (es k) (g k))

  pub unanswered : length answer < answer_size → job_answer 1 work scratch answer ≡ answered_by o work'' work scratch'' scratch answer
  unfolding area_out
  unanswered short = rw (lt-leb answer_size (length answer) short)

-- of a conversion
module _ (job out answer : List ℕ) where
  module _ (r : Result ℕ RefusedCommand) {n : ℕ} {m : List ℕ} (long : answer_size ≤ length answer)
      (number_is : n ≡ refusal_number (job_outcome_of r)) (answer_is : m ≡ answer_over r answer) where
    pub converts : {left : List ℕ} → job_outcome_of r ≡ edition_conversion job (length out) → left ≡ output_after job out
        → edition_answer n left m ≡ convert_answer job out answer
    unfolding convert_answer
    converts same el =
        let f = number_is ∙ ap refusal_number same in
        let g = answer_is ∙ ap (λ (x : JobOutcome ℕ). area_out answer_size (answer_numbers x) answer) same in
        rw (le-leb answer_size (length answer) long) (λ k. edition_answer (f k) (el k) (g k))

    pub converts_so : {left : List ℕ} → ((count : ℕ) → job_outcome_of r ≡ accepted count → ConvertedJob job (take count left))
        → (count : ℕ) → answer_in n m ≡ accepted count → ConvertedJob job (take count left)
    converts_so claim count e = claim count (sym ((λ k. answer_in (number_is k) (answer_is k)) ∙ area_means r answer long) ∙ e)

  pub unconverted : length answer < answer_size → {left : List ℕ} → left ≡ replicate (length out) 0
      → edition_answer 1 left answer ≡ convert_answer job out answer
  unfolding convert_answer area_out
  unconverted short e = rw (lt-leb answer_size (length answer) short) (λ k. edition_answer 1 (e k) answer)
