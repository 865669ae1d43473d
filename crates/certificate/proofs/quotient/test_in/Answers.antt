-- `quotient::test_in` meets its contract: models and candidates are measured in operand order, then the intervals compared.
use mathlib.Core.Path.{sym, ◌∙◌, ap}
use Rattle.model.specs.definitions.Outcomes.{number_of}
use Rattle.model.proofs.laws.IntervalLaws.{differ, alike}
use Rattle.model.proofs.laws.ModelLaws.{good_ends_lem}
use Rattle.certificate.specs.definitions.Tests.{refused_test}
use Rattle.certificate.proofs.Refusing.{test_refused}
use Rattle.certificate.proofs.laws.QuotientStages.{quotient_bad_f, quotient_bad_g, quotient_bad_h, quotient_bad_w, quotient_different}
use Rattle.certificate.proofs.laws.Stages.{candidate_good, candidate_fault}
use Rattle.certificate.proofs.quotient.test_in.Goals as goal

pub returns-in_err-checked_weight : goal.returns-in_err-checked_weight
returns-in_err-checked_weight c =
    let a = c.args in
    let bad = c.in_err-checked_weight.ensures.err in
    test_refused c.from_residual.result _ c.from_residual.ensures ∙ ap refused_test bad.1 ∙ sym (quotient_bad_f a.f a.g a.h a.w bad.0)

pub returns-in_err-checked_weight-2 : goal.returns-in_err-checked_weight-2
returns-in_err-checked_weight-2 c =
    let a = c.args in
    let bad = c.in_err-checked_weight-2.ensures.err in
    let r = c.from_residual-in_err-checked_weight-2 in
    test_refused r.result _ r.ensures ∙ ap refused_test bad.1
    ∙ sym (quotient_bad_g a.f a.g a.h a.w c.in_ok-checked_weight.ensures.ok.0 bad.0)

pub returns-in_err-checked_candidate : goal.returns-in_err-checked_candidate
returns-in_err-checked_candidate c =
    let a = c.args in
    let i = a.f.interval in
    let good_f = c.in_ok-checked_weight.ensures.ok.0 in
    let bad = c.in_err-checked_candidate.ensures.err in
    let r = c.from_residual-in_err-checked_candidate in
    test_refused r.result _ r.ensures
    ∙ ap refused_test (ap number_of bad.1 ∙ candidate_fault i a.h bad.0)
    ∙ sym (quotient_bad_h a.f a.g a.h a.w good_f c.in_ok-checked_weight-2.ensures.ok.0 (candidate_good i a.h (good_ends_lem a.f good_f) ∙ bad.0))

pub returns-in_err-checked_candidate-2 : goal.returns-in_err-checked_candidate-2
returns-in_err-checked_candidate-2 c =
    let a = c.args in
    let i = a.f.interval in
    let good_f = c.in_ok-checked_weight.ensures.ok.0 in
    let ends = good_ends_lem a.f good_f in
    let bad = c.in_err-checked_candidate-2.ensures.err in
    let r = c.from_residual-in_err-checked_candidate-2 in
    test_refused r.result _ r.ensures
    ∙ ap refused_test (ap number_of bad.1 ∙ candidate_fault i a.w bad.0)
    ∙ sym (quotient_bad_w a.f a.g a.h a.w good_f c.in_ok-checked_weight-2.ensures.ok.0
    (candidate_good i a.h ends ∙ c.in_ok-checked_candidate.ensures.ok.0) (candidate_good i a.w ends ∙ bad.0))

pub returns-then-ne : goal.returns-then-ne
returns-then-ne c =
    let a = c.args in
    let i = a.f.interval in
    let good_f = c.in_ok-checked_weight.ensures.ok.0 in
    let ends = good_ends_lem a.f good_f in
    sym (quotient_different a.f a.g a.h a.w good_f c.in_ok-checked_weight-2.ensures.ok.0
    (candidate_good i a.h ends ∙ c.in_ok-checked_candidate.ensures.ok.0) (candidate_good i a.w ends ∙ c.in_ok-checked_candidate-2.ensures.ok.0)
    (differ i a.g.interval c.ne.ensures c.if-ne.true))

pub test_good-requires : goal.test_good-requires
test_good-requires c =
    let a = c.args in
    let i = a.f.interval in
    let good_f = c.in_ok-checked_weight.ensures.ok.0 in
    let ends = good_ends_lem a.f good_f in record {
      room = c.requires;
      good_f = good_f;
      good_g = c.in_ok-checked_weight-2.ensures.ok.0;
      good_h = candidate_good i a.h ends ∙ c.in_ok-checked_candidate.ensures.ok.0;
      good_w = candidate_good i a.w ends ∙ c.in_ok-checked_candidate-2.ensures.ok.0;
      same_interval_lem = alike i a.g.interval c.ne.ensures c.if-ne.false;
    }
