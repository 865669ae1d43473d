-- Document 02, S-24, at the exported functions: where the areas are long enough for both and the models in them are on −S..S, each
-- call's outcome is the former one, which read 35 numbers of a model; and a model that is written is its former 35 numbers, then
-- its ends.
use Rattle.std.specs.Prelude.{◌≡◌, refl, cond, ◌&&◌, List, [], ◌∷◌, ◌++◌, ℕ, ◌≤◌, ℤ, pos, neg_ℤ, length, get_or, drop, Float}
use Rattle.std.proofs.Common.{sym, ◌∙◌, ap, append_assoc, arith, le-leb}
use Rattle.model.specs.definitions.Add.{addition, subtraction}
use Rattle.model.specs.definitions.Area.{model_size, candidate_size, words, area_model, area_candidate, fits, area_out}
use Rattle.model.specs.definitions.Evaluate.{evaluation}
use Rattle.model.specs.definitions.Integrate.{integration}
use Rattle.model.specs.definitions.Intervals.{standard_interval}
use Rattle.model.specs.definitions.Models.{scale}
use Rattle.model.specs.definitions.Multiply.{multiplication}
use Rattle.model.specs.definitions.Outcomes.{Outcome, refused}
use Rattle.model.proofs.laws.FormerNumbers.{former_kept, former_addition, former_subtraction, former_multiplication, former_integration, former_evaluation, addition_former, subtraction_former, multiplication_former, integration_former, evaluation_former, former_words, words_ends, former_area_model, area_former}
use Rattle.model.specs.declared.types.Model.{Model}
use Rattle.certificate.specs.definitions.Tests.{scratch_size}
use Rattle.certificate.proofs.laws.FormerTests.{former_quotient, former_root, quotient_former, root_former}
use Rattle.certificate.specs.declared.types.RootRule.{RootRule}
use Rattle.series.specs.definitions.Convert.{conversion}
use Rattle.series.proofs.laws.FormerConversion.{former_conversion, conversion_former}
use Rattle.selection.proofs.laws.FormerSelection.{former_selection, selection_former}
use Rattle.proposals.specs.definitions.Areas.{round_size, outcome_size, quotient_size, reciprocal_in, quotient_in, make_reciprocal_answer, make_quotient_answer}
use Rattle.proposals.specs.definitions.Quotient.{refused_quotient}
use Rattle.proposals.specs.definitions.Reciprocal.{refused_reciprocal}
use Rattle.proposals.proofs.laws.FormerProposals.{former_reciprocal, former_quotient_proposal, reciprocal_former, quotient_proposal_former}
use Rattle.job.specs.definitions.Outcomes.{counted, refusal_number, refused_command, result_count}
use Rattle.job.specs.definitions.Work.{work_size, work_after}
use Rattle.job.proofs.laws.FormerJob.{FormerFormat}
use Rattle.job.proofs.laws.FormerWork.{former_check, former_scratch, check_former, scratch_former}
use Rattle.ferruntzo.specs.definitions.Areas.{bounds_size, numbers_size, selection_size}
use Rattle.ferruntzo.specs.definitions.Certificates.{short_test, quotient_call, root_call}
use Rattle.ferruntzo.specs.definitions.Conversions.{series_size, area_series}
use Rattle.ferruntzo.specs.definitions.Jobs.{answer_size, job_answer, check_answer}
use Rattle.ferruntzo.specs.definitions.Operations.{short_outcome, short_bounds}
use Rattle.ferruntzo.specs.definitions.Selections.{short_selection, selection_call}

-- an area with a model on −S..S
pub record StandardArea (s : List ℤ) : Type 0 where
  pub long : model_size ≤ length s
  pub lower : get_or s 35 (pos 0) ≡ neg_ℤ (pos scale)
  pub upper : get_or s 36 (pos 0) ≡ pos scale

standard : (s : List ℤ) → StandardArea s → area_model s ≡ former_area_model s
standard s a = area_former s a.lower a.upper

-- ---- what is written

pub out_former : (m : Model) (out : List ℤ) → model_size ≤ length out
    → area_out model_size (words m) out ≡ former_words m ++ (m.interval.lower ∷ m.interval.upper ∷ drop model_size out)
unfolding area_out
out_former m out long =
    rw (le-leb model_size (length out) long)
    (ap (λ x. x ++ drop model_size out) (words_ends m) ∙ append_assoc (former_words m) (m.interval.lower ∷ m.interval.upper ∷ []) (drop model_size out))

-- ---- the calls

-- "lent areas: 1, too short" asked 35 numbers for a model
fits_former : (s : List ℤ) → model_size ≤ length s → fits model_size s ≡ fits 35 s
fits_former s long = le-leb model_size (length s) long ∙ sym (le-leb 35 (length s) (omega arith))

-- the exported operations on two models, and multiply's kept degree
pub data Operation : Type 0 where
  Add : Operation
  Subtract : Operation
  Multiply : ℕ → Operation

abbrev pub operation_for : Operation → Model → Model → Outcome Model
operation_for Add a b = addition a b
operation_for Subtract a b = subtraction a b
operation_for (Multiply kept) a b = multiplication kept a b

abbrev pub former_for : Operation → Model → Model → Outcome Model
former_for Add a b = former_addition a b
former_for Subtract a b = former_subtraction a b
former_for (Multiply kept) a b = former_multiplication kept a b

-- 02, S-27: "callers who left the choice open must state 32 to get former results"
abbrev pub stated_in : Operation → Operation
stated_in Add = Add
stated_in Subtract = Subtract
stated_in (Multiply kept) = Multiply (former_kept kept)

operation_former : (op : Operation) (a b : Model) → a.interval ≡ standard_interval → b.interval ≡ standard_interval
    → operation_for (stated_in op) a b ≡ former_for op a b
operation_former Add a b on_a on_b = addition_former a b on_a on_b
operation_former Subtract a b on_a on_b = subtraction_former a b on_a on_b
operation_former (Multiply kept) a b on_a on_b = multiplication_former a b on_a on_b kept

module _ (a : List ℤ) (sa : StandardArea a) where
  module _ (out : List ℤ) (long : model_size ≤ length out) where
    pub integrate_call : cond (fits model_size a && fits model_size out) (integration (area_model a)) short_outcome
        ≡ cond (fits 35 a && fits 35 out) (former_integration (former_area_model a)) short_outcome
    integrate_call = rw (fits_former a sa.long, fits_former out long, standard a sa, integration_former (former_area_model a) refl)

    pub root_call_lem : (rule : RootRule) (need : ℕ) (h w scratch : List ℤ) (numbers : List ℕ)
        → root_call rule need a h w scratch out numbers
        ≡ cond
        (fits 35 a && fits candidate_size h && fits candidate_size w && fits need scratch && fits 35 out && fits numbers_size numbers)
        (former_root rule need (length scratch) (former_area_model a) (area_candidate h) (area_candidate w))
        short_test
    root_call_lem rule need h w scratch numbers =
        rw (fits_former a sa.long, fits_former out long, standard a sa, root_former rule need (length scratch) (former_area_model a) (area_candidate h) (area_candidate w) refl)

  pub evaluate_call : (p : ℤ) (bounds : List ℤ)
      → cond (fits model_size a && fits bounds_size bounds) (evaluation (area_model a) p) short_bounds
      ≡ cond (fits 35 a && fits bounds_size bounds) (former_evaluation (former_area_model a) p) short_bounds
  evaluate_call p bounds = rw (fits_former a sa.long, standard a sa, evaluation_former (former_area_model a) p refl)

  pub reciprocal_call : (recorded : List Float) (w : List ℤ) (o : List ℕ)
      → make_reciprocal_answer a recorded w o
      ≡ reciprocal_in
      (cond (fits 35 a && fits round_size recorded && fits candidate_size w && fits outcome_size o) (former_reciprocal (former_area_model a)) (refused 1 refused_reciprocal))
      recorded w o
  reciprocal_call recorded w o = rw (fits_former a sa.long, standard a sa, reciprocal_former (former_area_model a) refl)

  module _ (b : List ℤ) (sb : StandardArea b) where
    pub operation_call : (op : Operation) (out : List ℤ) → model_size ≤ length out
        → cond (fits model_size a && fits model_size b && fits model_size out) (operation_for (stated_in op) (area_model a) (area_model b)) short_outcome
        ≡ cond (fits 35 a && fits 35 b && fits 35 out) (former_for op (former_area_model a) (former_area_model b)) short_outcome
    operation_call op out long =
        rw (fits_former a sa.long, fits_former b sb.long, fits_former out long, standard a sa, standard b sb, operation_former op (former_area_model a) (former_area_model b) refl refl)

    pub quotient_call_lem : (need : ℕ) (h w scratch out : List ℤ) (numbers : List ℕ) → model_size ≤ length out
        → quotient_call need a b h w scratch out numbers
        ≡ cond
        ((fits 35 a && fits 35 b) && fits candidate_size h && fits candidate_size w && fits need scratch && fits 35 out && fits numbers_size numbers)
        (former_quotient need (length scratch) (former_area_model a) (former_area_model b) (area_candidate h) (area_candidate w))
        short_test
    quotient_call_lem need h w scratch out numbers long =
        rw (fits_former a sa.long, fits_former b sb.long, fits_former out long, standard a sa, standard b sb, quotient_former need (length scratch) (former_area_model a) (former_area_model b) (area_candidate h) (area_candidate w) refl refl)

    pub selection_call_lem : (first second scratch : List ℤ) (answer : List ℕ)
        → selection_call scratch_size a b first second scratch answer
        ≡ cond (fits 35 a && fits 35 b && fits scratch_size scratch && fits selection_size answer)
        (former_selection (length scratch) (former_area_model a) (former_area_model b) first second)
        short_selection
    selection_call_lem first second scratch answer =
        rw (fits_former a sa.long, fits_former b sb.long, standard a sa, standard b sb, selection_former (length scratch) (former_area_model a) (former_area_model b) refl refl first second)

    pub quotient_made_call : (recorded : List Float) (h w : List ℤ) (o : List ℕ)
        → make_quotient_answer a b recorded h w o
        ≡ quotient_in
        (cond
        (fits 35 a && fits 35 b && fits quotient_size recorded && fits candidate_size h && fits candidate_size w && fits outcome_size o)
        (former_quotient_proposal (former_area_model a) (former_area_model b))
        (refused 1 refused_quotient))
        recorded h w o
    quotient_made_call recorded h w o =
        rw (fits_former a sa.long, fits_former b sb.long, standard a sa, standard b sb, quotient_proposal_former (former_area_model a) (former_area_model b) refl refl)

-- ---- the converter and the check, which take no model

pub series_call : (series out : List ℤ) → model_size ≤ length out
    → cond (fits series_size series && fits model_size out) (conversion (area_series series)) short_outcome
    ≡ cond (fits series_size series && fits 35 out) (former_conversion (area_series series)) short_outcome
series_call series out long = rw (fits_former out long, conversion_former (area_series series))

-- of the work area `work_former` tells (job's FormerWork)
pub check_call : (job : List ℕ) → FormerFormat job → (work scratch : List ℤ) (answer : List ℕ)
    → work_size ≤ length work → scratch_size ≤ length scratch
    → let o = counted (former_check job work scratch) in
    check_answer job work scratch answer
    ≡ job_answer
    (cond (fits answer_size answer) (refusal_number o) 1)
    (cond (fits answer_size answer) (work_after job work scratch) work)
    (cond (fits answer_size answer) (former_scratch work scratch) scratch)
    (area_out answer_size (result_count o ∷ refused_command o ∷ []) answer)
unfolding check_answer
check_call job format work scratch answer room lent = rw (check_former job format work scratch room lent, scratch_former job format work scratch room lent)
