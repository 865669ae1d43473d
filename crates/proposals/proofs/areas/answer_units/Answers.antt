-- `areas::answer_units` meets its contract.
use mathlib.Core.Path.{sym, ap, ◌∙◌}
use Rattle.model.specs.definitions.Area.{candidate_size, area_out}
use Rattle.model.specs.declared.types.Candidate.{Candidate}
use Rattle.model.proofs.laws.OutcomeLaws.{number-judged}
use Rattle.proposals.specs.definitions.Areas.{candidate_numbers, units_answer, units_in}
use Rattle.proposals.specs.definitions.Units.{zero_candidate}
use Rattle.proposals.proofs.Answering.{of_units, stored, stored_holds, zero_list}
use Rattle.proposals.proofs.areas.answer_units.Goals as goal

pub candidate_numbers-requires : goal.candidate_numbers-requires
candidate_numbers-requires c = stored_holds zero_candidate of_units c.args.list c.unwrap_or.ensures c.zero_candidate.ensures c.requires zero_list

pub returns : goal.returns
unfolding units_in
returns c =
    let a = c.args in
    let p = stored zero_candidate a.list c.unwrap_or.ensures c.zero_candidate.ensures in
    let number = c.number.ensures ∙ sym (number-judged zero_candidate a.list) in
    let stored = c.store.ensures ∙ ap (λ n. area_out candidate_size n a.units.now) c.candidate_numbers.ensures ∙ ap (λ (x : Candidate). area_out candidate_size (candidate_numbers x) a.units.now) p in
    λ k. units_answer (number k) (stored k)
