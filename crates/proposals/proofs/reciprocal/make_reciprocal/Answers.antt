-- `reciprocal::make_reciprocal` meets its contract.
use mathlib.Core.Path.{refl, ◌∙◌, ap}
use mathlib.Core.Bool.{true}
use Rattle.model.specs.definitions.Outcomes.{Outcome, accepted, refused}
use Rattle.model.specs.declared.types.Candidate.{Candidate}
use Rattle.model.proofs.Refusing.{passed_up}
use Rattle.proposals.specs.declared.types.FiniteRounds.{FiniteRounds}
use Rattle.proposals.specs.definitions.Rounds.{made_of}
use Rattle.proposals.specs.definitions.Units.{zero_candidate, in_units}
use Rattle.proposals.specs.definitions.Reciprocal.{Reciprocal, make_reciprocal, values_of, reciprocal_rounds, refused_reciprocal}
use Rattle.proposals.proofs.laws.MakerLaws.{reciprocal_of_bad, reciprocal_not_finite, reciprocal_in_units, found, not_found, units_stop, units_go_on}
use Rattle.proposals.proofs.laws.ExactQuotient.{with_exact_reciprocal}
use Rattle.proposals.proofs.reciprocal.make_reciprocal.Goals as goal

pub returns-in_err-checked_weight : goal.returns-in_err-checked_weight
returns-in_err-checked_weight c =
    let g = c.args.g in
    let e = c.in_err-checked_weight in
    let it = with_exact_reciprocal g
    (passed_up refused_reciprocal c.from_residual.result e.field-0.0 c.from_residual.ensures
    ∙ ap (λ n. refused n refused_reciprocal) e.ensures.err.1 ∙ reciprocal_of_bad g e.ensures.err.0) in
    record { result_value = it.0; exact_reciprocal = it.1 }

pub returns-in_err-ending : goal.returns-in_err-ending
returns-in_err-ending c =
    let g = c.args.g in
    let m = reciprocal_rounds (values_of g) in
    let e = c.in_err-ending in
    let n = not_found m e.field-0.0 e.ensures in
    let it = with_exact_reciprocal g
    (passed_up refused_reciprocal c.from_residual-in_err-ending.result e.field-0.0 c.from_residual-in_err-ending.ensures
    ∙ ap (λ n. refused n refused_reciprocal) n.1 ∙ reciprocal_not_finite g m c.in_ok-checked_weight.ensures.ok.0 refl n.0) in
    record { result_value = it.0; exact_reciprocal = it.1 }

-- what is kept of the rounds with the list in units
abbrev kept : FiniteRounds → Candidate → Outcome Reciprocal
kept r w = accepted (make_reciprocal r.ending r.round w)

pub returns-in_err-w : goal.returns-in_err-w
returns-in_err-w c =
    let g = c.args.g in
    let r = c.in_ok-ending.field-0 in
    let e = c.in_err-w in
    let it = with_exact_reciprocal g
    (passed_up refused_reciprocal c.from_residual-in_err-w.result e.field-0.0 c.from_residual-in_err-w.ensures
    ∙ units_stop (kept r) refused_reciprocal (in_units r.round.coefficients) zero_candidate e.field-0.0 e.ensures
    ∙ reciprocal_in_units g (made_of true r.ending r.round) c.in_ok-checked_weight.ensures.ok.0 (found (reciprocal_rounds (values_of g)) r c.in_ok-ending.ensures) refl) in
    record { result_value = it.0; exact_reciprocal = it.1 }

pub returns : goal.returns
returns c =
    let g = c.args.g in
    let r = c.in_ok-ending.field-0 in
    let it = with_exact_reciprocal g
    (units_go_on (kept r) refused_reciprocal (in_units r.round.coefficients) c.in_ok-w.w c.in_ok-w.ensures
    ∙ reciprocal_in_units g (made_of true r.ending r.round) c.in_ok-checked_weight.ensures.ok.0 (found (reciprocal_rounds (values_of g)) r c.in_ok-ending.ensures) refl) in
    record { result_value = it.0; exact_reciprocal = it.1 }
