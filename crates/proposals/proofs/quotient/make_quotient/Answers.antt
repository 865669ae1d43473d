-- `quotient::make_quotient` meets its contract.
use mathlib.Core.Path.{◌≡◌, refl, ◌∙◌, ap}
use mathlib.Core.Bool.{true}
use mathlib.Core.List.{List}
use lib.Ieee.{Float}
use Rattle.std.specs.Prelude.{Ok}
use Rattle.model.specs.definitions.Models.{good}
use Rattle.model.specs.definitions.Intervals.{same_interval}
use Rattle.model.specs.definitions.Outcomes.{Outcome, accepted, refused}
use Rattle.model.specs.declared.types.Model.{Model}
use Rattle.model.specs.declared.types.Candidate.{Candidate}
use Rattle.model.proofs.Refusing.{passed_up}
use Rattle.model.proofs.laws.IntervalLaws.{differ, alike}
use Rattle.proposals.specs.declared.types.FiniteRounds.{FiniteRounds}
use Rattle.proposals.specs.definitions.Rounds.{made_of, found_finite}
use Rattle.proposals.specs.definitions.Product.{product}
use Rattle.proposals.specs.definitions.Units.{zero_candidate, in_units}
use Rattle.proposals.specs.definitions.Reciprocal.{values_of, reciprocal_rounds}
use Rattle.proposals.specs.definitions.Quotient.{Quotient, quotient_record, make_quotient, refused_quotient, quotient_proposal}
use Rattle.proposals.proofs.laws.MakerLaws.{quotient_of_bad, quotient_by_bad, quotient_different, quotient_not_finite, quotient_in_units, found, not_found, then_units, units_stop, units_go_on}
use Rattle.proposals.proofs.laws.ExactQuotient.{with_exact_quotient}
use Rattle.proposals.proofs.quotient.make_quotient.Goals as goal

pub returns-in_err-checked_weight-clause-result_value : goal.returns-in_err-checked_weight-clause-result_value
returns-in_err-checked_weight-clause-result_value c =
    let e = c.in_err-checked_weight in
    passed_up refused_quotient c.from_residual.result e.field-0.0 c.from_residual.ensures
    ∙ ap (λ n. refused n refused_quotient) e.ensures.err.1 ∙ quotient_of_bad c.args.f c.args.g e.ensures.err.0

pub returns-in_err-checked_weight-2-clause-result_value : goal.returns-in_err-checked_weight-2-clause-result_value
returns-in_err-checked_weight-2-clause-result_value c =
    let e = c.in_err-checked_weight-2 in
    let r = c.from_residual-in_err-checked_weight-2 in
    passed_up refused_quotient r.result e.field-0.0 r.ensures
    ∙ ap (λ n. refused n refused_quotient) e.ensures.err.1 ∙ quotient_by_bad c.args.f c.args.g c.in_ok-checked_weight.ensures.ok.0 e.ensures.err.0

pub returns-then-ne-clause-result_value : goal.returns-then-ne-clause-result_value
returns-then-ne-clause-result_value c =
    let f = c.args.f in
    let g = c.args.g in
    quotient_different f g c.in_ok-checked_weight.ensures.ok.0 c.in_ok-checked_weight-2.ensures.ok.0 (differ f.interval g.interval c.ne.ensures c.if-ne.true)

pub returns-in_err-ending-clause-result_value : goal.returns-in_err-ending-clause-result_value
returns-in_err-ending-clause-result_value c =
    let f = c.args.f in
    let g = c.args.g in
    let m = reciprocal_rounds (values_of g) in
    let e = c.in_err-ending in
    let r = c.from_residual-in_err-ending in
    let n = not_found m e.field-0.0 e.ensures in
    passed_up refused_quotient r.result e.field-0.0 r.ensures
    ∙ ap (λ k. refused k refused_quotient) n.1
    ∙ quotient_not_finite f g c.in_ok-checked_weight.ensures.ok.0 m c.in_ok-checked_weight-2.ensures.ok.0 (alike f.interval g.interval c.ne.ensures c.if-ne.false) refl n.0

-- what is kept of the rounds and the values q of f·w, with both lists in units
abbrev both : FiniteRounds → List Float → Candidate → Candidate → Outcome Quotient
both r q h w = accepted (make_quotient r.ending (quotient_record q r.round) h w)

-- the same with h alone in units yet
abbrev one : FiniteRounds → List Float → Candidate → Outcome Quotient
one r q h = then_units (both r q h) refused_quotient (in_units r.round.coefficients)

-- what is left to do behind f·w
module _ (f g : Model) (r : FiniteRounds) (q : List Float) where
  to_do : good f ≡ true → good g ≡ true → same_interval f.interval g.interval ≡ true → Ok r ≡ found_finite (reciprocal_rounds (values_of g))
      → q ≡ product (values_of f) r.round.coefficients → then_units (one r q) refused_quotient (in_units q) ≡ quotient_proposal f g
  to_do bf bg same e eq = quotient_in_units f g bf (made_of true r.ending r.round) bg same (found (reciprocal_rounds (values_of g)) r e) q eq refl

pub returns-in_err-h-clause-result_value : goal.returns-in_err-h-clause-result_value
returns-in_err-h-clause-result_value c =
    let f = c.args.f in
    let g = c.args.g in
    let r = c.in_ok-ending.field-0 in
    let q = c.multiply-quotient.result in
    let e = c.in_err-h in
    let up = c.from_residual-in_err-h in
    passed_up refused_quotient up.result e.field-0.0 up.ensures ∙ units_stop (one r q) refused_quotient (in_units q) zero_candidate e.field-0.0 e.ensures
    ∙ to_do f g r q c.in_ok-checked_weight.ensures.ok.0 c.in_ok-checked_weight-2.ensures.ok.0 (alike f.interval g.interval c.ne.ensures c.if-ne.false) c.in_ok-ending.ensures
    (c.multiply-quotient.ensures ∙ ap (λ l. product l r.round.coefficients) c.values_of.ensures)

pub returns-in_err-w-clause-result_value : goal.returns-in_err-w-clause-result_value
returns-in_err-w-clause-result_value c =
    let f = c.args.f in
    let g = c.args.g in
    let r = c.in_ok-ending.field-0 in
    let q = c.multiply-quotient.result in
    let e = c.in_err-w in
    let up = c.from_residual-in_err-w in
    passed_up refused_quotient up.result e.field-0.0 up.ensures ∙ units_stop (both r q c.in_ok-h.h) refused_quotient (in_units r.round.coefficients) zero_candidate e.field-0.0 e.ensures
    ∙ units_go_on (one r q) refused_quotient (in_units q) c.in_ok-h.h c.in_ok-h.ensures
    ∙ to_do f g r q c.in_ok-checked_weight.ensures.ok.0 c.in_ok-checked_weight-2.ensures.ok.0 (alike f.interval g.interval c.ne.ensures c.if-ne.false) c.in_ok-ending.ensures
    (c.multiply-quotient.ensures ∙ ap (λ l. product l r.round.coefficients) c.values_of.ensures)

pub returns : goal.returns
returns c =
    let f = c.args.f in
    let g = c.args.g in
    let r = c.in_ok-ending.field-0 in
    let q = c.multiply-quotient.result in
    let it = with_exact_quotient f g
    (units_go_on (both r q c.in_ok-h.h) refused_quotient (in_units r.round.coefficients) c.in_ok-w.w c.in_ok-w.ensures
    ∙ units_go_on (one r q) refused_quotient (in_units q) c.in_ok-h.h c.in_ok-h.ensures
    ∙ to_do f g r q c.in_ok-checked_weight.ensures.ok.0 c.in_ok-checked_weight-2.ensures.ok.0 (alike f.interval g.interval c.ne.ensures c.if-ne.false) c.in_ok-ending.ensures
    (c.multiply-quotient.ensures ∙ ap (λ l. product l r.round.coefficients) c.values_of.ensures)) in
    record { result_value = it.0; exact_quotient = it.1 }
