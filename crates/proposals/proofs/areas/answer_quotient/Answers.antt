-- `areas::answer_quotient` meets its contract.
use native.Mathlib.Omega.{arith}
use Rattle.std.specs.Prelude.{Result, IfOk}
use Rattle.std.specs.Result.{result_unwrap_or}
use Rattle.model.specs.declared.types.Refusal.{Refusal}
use mathlib.Core.Path.{◌≡◌, sym, ap, ◌∙◌}
use mathlib.Core.List.{[], ◌∷◌}
use Rattle.model.specs.definitions.Area.{candidate_size, area_out}
use Rattle.model.proofs.laws.OutcomeLaws.{number-judged}
use Rattle.proposals.specs.definitions.Areas.{quotient_size, outcome_size, quotient_numbers, candidate_numbers, ending_number, quotient_answer, quotient_in}
use Rattle.proposals.specs.definitions.Quotient.{Quotient, refused_quotient}
use Rattle.proposals.proofs.Answering.{of_quotient, stored, stored_holds, zero_quotient}
use Rattle.proposals.proofs.areas.answer_quotient.Goals as goal

-- what is stored has degrees that 32-bit numbers hold
module _ {q d : Quotient} (r : Result Quotient Refusal) where
  degrees : q ≡ result_unwrap_or r d → d ≡ refused_quotient → IfOk r of_quotient → of_quotient q
  degrees e f h = stored_holds refused_quotient of_quotient r e f h zero_quotient

pub candidate_numbers-requires : goal.candidate_numbers-requires
candidate_numbers-requires c = omega (arith, degrees c.args.made c.unwrap_or-values.ensures c.zero.ensures c.requires)

pub candidate_numbers-requires-2 : goal.candidate_numbers-requires-2
candidate_numbers-requires-2 c = omega (arith, degrees c.args.made c.unwrap_or-values.ensures c.zero.ensures c.requires)

pub returns : goal.returns
unfolding quotient_in
returns c =
    let a = c.args in
    let p = stored refused_quotient a.made c.unwrap_or-values.ensures c.zero.ensures in
    let number = c.number.ensures ∙ sym (number-judged refused_quotient a.made) in
    let recorded = c.store.ensures ∙ ap (λ n. area_out quotient_size n a.recorded.now) c.quotient_numbers.ensures ∙ ap (λ (x : Quotient). area_out quotient_size (quotient_numbers x.recorded) a.recorded.now) p in
    let first = c.store-2.ensures ∙ ap (λ n. area_out candidate_size n a.h.now) c.candidate_numbers.ensures ∙ ap (λ (x : Quotient). area_out candidate_size (candidate_numbers x.h) a.h.now) p in
    let second = c.store-3.ensures ∙ ap (λ n. area_out candidate_size n a.w.now) c.candidate_numbers-2.ensures ∙ ap (λ (x : Quotient). area_out candidate_size (candidate_numbers x.w) a.w.now) p in
    let ending = c.store-4.ensures ∙ ap (λ n. area_out outcome_size (n ∷ []) a.outcome.now) c.from.ensures ∙ ap (λ (x : Quotient). area_out outcome_size (ending_number x.ending ∷ []) a.outcome.now) p in
    λ k. quotient_answer (number k) (recorded k) (first k) (second k) (ending k)
