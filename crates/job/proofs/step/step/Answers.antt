-- `step::step` meets its contract.
use mathlib.Core.Path.{refl, ap, sym, subst⁻¹, ◌∙◌}
use mathlib.Core.List.{List}
use Rattle.std.specs.Prelude.{Err}
use Rattle.std.proofs.lemmas.Result.{err_from_is_err_and}
use Rattle.certificate.specs.definitions.Tests.{Certificate}
use Rattle.model.specs.definitions.Outcomes.{number_of}
use Rattle.job.specs.definitions.Reading.{found, refused}
use Rattle.job.specs.definitions.InnerContracts.{Stepped, recorded_from}
use Rattle.job.proofs.Results.{holds_all}
use Rattle.job.proofs.StepLaws.{read_refuses, read_performs, read_adds, found_performable}
use Rattle.job.proofs.step.step.Goals as goal

pub perform-requires : goal.perform-requires
perform-requires c =
    let g = c.args in
    let f = c.in_ok-read.read in
    let p = c.requires in (
      found_performable g.job.now g.k g.before.results g.before.next f.kind f.next g.work.now (sym c.in_ok-read.ensures) p.0.few p.0.long,
      (p.0.clear, p.1),
    )

pub returns-in_err-read-clause-steps_by : goal.returns-in_err-read-clause-steps_by
returns-in_err-read-clause-steps_by c = λ rs t h.
    let g = c.args in
    let v = c.in_err-read.field-0.0 in
    let p = err_from_is_err_and c.from_residual.result c.from_residual.ensures.1 in
    rw (p.1, p.2) (subst⁻¹ (Stepped (Err v) g.work.now rs t)
    (read_refuses g.job.now g.k g.before.results rs g.before.next (number_of v) h.count_is (sym c.in_err-read.ensures))
    (record { answer = refl; holds = holds_all h }))

pub returns-in_err-read-clause-records_by : goal.returns-in_err-read-clause-records_by
unfolding recorded_from
returns-in_err-read-clause-records_by c = λ rs t h.
    let g = c.args in
    ap (λ (l : List Certificate). recorded_from g.report g.room.now g.before.results l)
    (sym (read_adds g.job.now g.k g.before.results rs g.before.next (refused (number_of c.in_err-read.field-0.0)) h.count_is (sym c.in_err-read.ensures)))

pub returns-clause-steps_by : goal.returns-clause-steps_by
returns-clause-steps_by c = λ rs t h.
    let g = c.args in
    let f = c.in_ok-read.read in
    subst⁻¹ (Stepped c.perform.result _ rs t)
    (read_performs g.job.now g.k g.before.results rs g.before.next f.kind f.next h.count_is (sym c.in_ok-read.ensures))
    (c.perform.ensures.steps_by rs t h)

pub returns-clause-records_by : goal.returns-clause-records_by
returns-clause-records_by c = λ rs t h.
    let g = c.args in
    let f = c.in_ok-read.read in
    c.perform.ensures.records_by rs t h
    ∙ ap (λ (l : List Certificate). recorded_from g.report g.room.now g.before.results l)
    (sym (read_adds g.job.now g.k g.before.results rs g.before.next (found f.kind f.next) h.count_is (sym c.in_ok-read.ensures)))
