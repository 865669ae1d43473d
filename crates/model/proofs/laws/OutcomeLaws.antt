-- Two answers of the code with one meaning are the same answer.
use Rattle.std.specs.Prelude.{◌≡◌, refl, cond, ℕ, ◌<◌, eqb, Result, Ok, Err, IsOk, IfOk}
use Rattle.std.specs.Result.{result_map_both}
use Rattle.std.proofs.Common.{sym, ◌∙◌, ap, subst, arith, rules}
use Rattle.model.specs.definitions.Outcomes.{Outcome, accepted, refused, number, payload, map_outcome, number_of, verdict_number, judged, outcome_of}
use Rattle.model.specs.definitions.Models.{zero_model}
use Rattle.model.specs.definitions.Evaluate.{bounds_of, zero_bounds}
use Rattle.model.specs.declared.types.Model.{Model}
use Rattle.model.specs.declared.types.Bounds.{Bounds}
use Rattle.model.specs.declared.types.Refusal.{Refusal}
use Rattle.model.specs.declared.types.Refusal.TheVariants.{ShortArea, BadModel, LargeResult, PointOutside, NotContracting, LargeResidual, HelperNotPositive, NegativeDiscriminant, BadValue, JobEnds, BytesAfterEnd, NotAResult, TooManyResults, BadSeries, NotFinite, LargeProposal, NoRadius, BadEnds, DifferentIntervals, ShortOutput}

-- the refusal with a number
abbrev named : ℕ → Refusal
named n =
    cond (eqb n 1) ShortArea
    (cond (eqb n 2) BadModel
    (cond (eqb n 3) LargeResult
    (cond (eqb n 4) PointOutside
    (cond (eqb n 5) NotContracting
    (cond (eqb n 6) LargeResidual
    (cond (eqb n 7) HelperNotPositive
    (cond (eqb n 8) NegativeDiscriminant
    (cond (eqb n 9) BadValue
    (cond (eqb n 10) JobEnds
    (cond (eqb n 11) BytesAfterEnd
    (cond (eqb n 12) NotAResult
    (cond (eqb n 13) TooManyResults
    (cond (eqb n 14) BadSeries
    (cond (eqb n 15) NotFinite
    (cond (eqb n 16) LargeProposal
    (cond (eqb n 17) NoRadius
    (cond (eqb n 18) BadEnds
    (cond (eqb n 19) DifferentIntervals ShortOutput))))))))))))))))))

named_number : (r : Refusal) → named (number_of r) ≡ r
named_number ShortArea = refl
named_number BadModel = refl
named_number LargeResult = refl
named_number PointOutside = refl
named_number NotContracting = refl
named_number LargeResidual = refl
named_number HelperNotPositive = refl
named_number NegativeDiscriminant = refl
named_number BadValue = refl
named_number JobEnds = refl
named_number BytesAfterEnd = refl
named_number NotAResult = refl
named_number TooManyResults = refl
named_number BadSeries = refl
named_number NotFinite = refl
named_number LargeProposal = refl
named_number NoRadius = refl
named_number BadEnds = refl
named_number DifferentIntervals = refl
named_number ShortOutput = refl

-- no refusal has the number of an acceptance
pub number_of_positive : (r : Refusal) → 0 < number_of r
number_of_positive ShortArea = omega arith
number_of_positive BadModel = omega arith
number_of_positive LargeResult = omega arith
number_of_positive PointOutside = omega arith
number_of_positive NotContracting = omega arith
number_of_positive LargeResidual = omega arith
number_of_positive HelperNotPositive = omega arith
number_of_positive NegativeDiscriminant = omega arith
number_of_positive BadValue = omega arith
number_of_positive JobEnds = omega arith
number_of_positive BytesAfterEnd = omega arith
number_of_positive NotAResult = omega arith
number_of_positive TooManyResults = omega arith
number_of_positive BadSeries = omega arith
number_of_positive NotFinite = omega arith
number_of_positive LargeProposal = omega arith
number_of_positive NoRadius = omega arith
number_of_positive BadEnds = omega arith
number_of_positive DifferentIntervals = omega arith
number_of_positive ShortOutput = omega arith

-- only an acceptance has the number 0
pub zero_accepted : {A : Type 0} (r : Result A Refusal) → verdict_number r ≡ 0 → IsOk r
zero_accepted (Ok a) e = search rules
zero_accepted (Err r) e = absurd (omega (arith, e, number_of_positive r))

pub number_of_injective : (r s : Refusal) → number_of r ≡ number_of s → r ≡ s
number_of_injective r s e = sym (named_number r) ∙ ap named e ∙ named_number s

module _ {A : Type 0} where
  -- the code's answer with a meaning
  abbrev answer_in : Outcome A → Result A Refusal
  answer_in (accepted a) = Ok a
  answer_in (refused n a) = Err (named n)

  answer_judged : (z : A) (r : Result A Refusal) → answer_in (judged z r) ≡ r
  answer_judged z (Ok a) = refl
  answer_judged z (Err r) = ap Err (named_number r)

  -- the values of an answer, or z
  abbrev pub values_or : A → Result A Refusal → A
  values_or z (Ok a) = a
  values_or z (Err r) = z

  pub payload-judged : (z : A) (r : Result A Refusal) → payload (judged z r) ≡ values_or z r
  payload-judged z (Ok a) = refl
  payload-judged z (Err r) = refl

  -- what holds of an outcome's values holds of the values that it was made of
  pub held_judged : (P : A → Type 0) (z : A) (r : Result A Refusal) {o : Outcome A} → judged z r ≡ o → P (payload o) → IfOk r P
  held_judged P z (Ok a) e h = subst P (ap payload (sym e)) h
  held_judged P z (Err r) e h = search rules

  -- an outcome made of an acceptance has its values, and nothing else makes an accepted outcome
  pub accepted_judged : (z a : A) {r : Result A Refusal} {o : Outcome A} → judged z r ≡ o → r ≡ Ok a → o ≡ accepted a
  accepted_judged z a e h = sym e ∙ ap (λ (u : Result A Refusal). judged z u) h

  pub judged_accepted : (z : A) (r : Result A Refusal) {b : A} → judged z r ≡ accepted b → r ≡ Ok b
  judged_accepted z r e = sym (answer_judged z r) ∙ ap answer_in e

  pub number-judged : (z : A) (r : Result A Refusal) → number (judged z r) ≡ verdict_number r
  number-judged z (Ok a) = refl
  number-judged z (Err r) = refl

  pub judged_injective : (z : A) (r s : Result A Refusal) → judged z r ≡ judged z s → r ≡ s
  judged_injective z r s e = sym (answer_judged z r) ∙ ap answer_in e ∙ answer_judged z s

-- a verdict beside a part of some values
pub judged_mapped : {A B : Type 0} (f : A → B) (z : A) (r : Result A Refusal) → judged (f z) (result_map_both f (λ e. e) r) ≡ map_outcome f (judged z r)
judged_mapped f z (Ok a) = refl
judged_mapped f z (Err r) = refl

pub outcome_of_injective : (r s : Result Model Refusal) → outcome_of r ≡ outcome_of s → r ≡ s
outcome_of_injective r s e = judged_injective zero_model r s e

pub bounds_of_injective : (r s : Result Bounds Refusal) → bounds_of r ≡ bounds_of s → r ≡ s
bounds_of_injective r s e = judged_injective zero_bounds r s e
