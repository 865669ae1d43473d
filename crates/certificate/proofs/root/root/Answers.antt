-- `root::root` meets its contract.
use mathlib.Core.Path.{sym, ◌∙◌, ap}
use Rattle.std.proofs.Common.{length}
use Rattle.certificate.proofs.Refusing.{test_refused}
use Rattle.model.specs.definitions.Outcomes.{accepted, number_of}
use Rattle.certificate.proofs.laws.PromiseLaws.{root_allowed}
use Rattle.certificate.proofs.laws.RootStages.{root_reached_is, root_refused_is, root_rule_refused, root_rule_passed}
use Rattle.certificate.proofs.root.root.Goals as goal

pub returns-in_err-numbers-clause-result_value : goal.returns-in_err-numbers-clause-result_value
returns-in_err-numbers-clause-result_value c =
    let a = c.args in
    test_refused c.from_residual.result _ c.from_residual.ensures
    ∙ sym (root_refused_is (length a.scratch.now) a.f a.h a.w a.rule (number_of c.in_err-numbers.field-0.0) (sym c.in_err-numbers.ensures.result_value))

pub returns-in_err-radius-clause-result_value : goal.returns-in_err-radius-clause-result_value
returns-in_err-radius-clause-result_value c =
    let a = c.args in
    let k = c.in_ok-numbers.numbers in
    let reached = root_reached_is (length a.scratch.now) a.f a.h a.w k.weight k.contraction k.residual k.displacement (sym c.in_ok-numbers.ensures.result_value) in
    let r = c.from_residual-in_err-radius in
    test_refused r.result _ r.ensures ∙ sym (root_rule_refused (length a.scratch.now) a.f a.h a.w a.rule reached (sym c.in_err-radius.ensures))

pub returns-clause-result_value : goal.returns-clause-result_value
returns-clause-result_value c =
    let a = c.args in
    let k = c.in_ok-numbers.numbers in
    let reached = root_reached_is (length a.scratch.now) a.f a.h a.w k.weight k.contraction k.residual k.displacement (sym c.in_ok-numbers.ensures.result_value) in
    ap accepted c.new.ensures ∙ sym (root_rule_passed (length a.scratch.now) a.f a.h a.w a.rule reached c.in_ok-radius.radius (sym c.in_ok-radius.ensures))

pub returns-clause-root_allowed : goal.returns-clause-root_allowed
returns-clause-root_allowed c =
    let a = c.args in
    let n = length a.scratch.now in
    let k = c.in_ok-numbers.numbers in
    let reached = root_reached_is n a.f a.h a.w k.weight k.contraction k.residual k.displacement (sym c.in_ok-numbers.ensures.result_value) in
    root_allowed a.rule n a.f a.h a.w (root_rule_passed n a.f a.h a.w a.rule reached c.in_ok-radius.radius (sym c.in_ok-radius.ensures) ∙ ap accepted (sym c.new.ensures))
