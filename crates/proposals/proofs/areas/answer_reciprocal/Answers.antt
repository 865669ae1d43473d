-- `areas::answer_reciprocal` meets its contract.
use mathlib.Core.Path.{sym, ap, ◌∙◌}
use mathlib.Core.List.{[], ◌∷◌}
use Rattle.model.specs.definitions.Area.{candidate_size, area_out}
use Rattle.model.proofs.laws.OutcomeLaws.{number-judged}
use Rattle.proposals.specs.definitions.Areas.{round_size, outcome_size, round_numbers, candidate_numbers, ending_number, reciprocal_answer, reciprocal_in}
use Rattle.proposals.specs.definitions.Reciprocal.{Reciprocal, refused_reciprocal}
use Rattle.proposals.proofs.Answering.{of_reciprocal, stored, stored_holds, zero_reciprocal}
use Rattle.proposals.proofs.areas.answer_reciprocal.Goals as goal

pub candidate_numbers-requires : goal.candidate_numbers-requires
candidate_numbers-requires c = stored_holds refused_reciprocal of_reciprocal c.args.made c.unwrap_or-values.ensures c.zero.ensures c.requires zero_reciprocal

pub returns : goal.returns
unfolding reciprocal_in
returns c =
    let a = c.args in
    let p = stored refused_reciprocal a.made c.unwrap_or-values.ensures c.zero.ensures in
    let number = c.number.ensures ∙ sym (number-judged refused_reciprocal a.made) in
    let recorded = c.store.ensures ∙ ap (λ n. area_out round_size n a.recorded.now) c.round_numbers.ensures ∙ ap (λ (x : Reciprocal). area_out round_size (round_numbers x.round) a.recorded.now) p in
    let list = c.store-2.ensures ∙ ap (λ n. area_out candidate_size n a.w.now) c.candidate_numbers.ensures ∙ ap (λ (x : Reciprocal). area_out candidate_size (candidate_numbers x.w) a.w.now) p in
    let ending = c.store-3.ensures ∙ ap (λ n. area_out outcome_size (n ∷ []) a.outcome.now) c.from.ensures ∙ ap (λ (x : Reciprocal). area_out outcome_size (ending_number x.ending ∷ []) a.outcome.now) p in
    λ k. reciprocal_answer (number k) (recorded k) (list k) (ending k)
