-- `run::check` meets its contract: the check with the empty report.
use mathlib.Core.Path.{ap, ◌∙◌}
use mathlib.Core.List.{[]}
use native.Mathlib.Omega.{arith}
use Rattle.job.specs.definitions.Outcomes.{counted}
use Rattle.job.proofs.laws.ReportLaws.{report_outcome_lem, report_work_lem, report_scratch_lem, required_empty}
use Rattle.job.specs.declared.types.Report.TheVariants.{Empty}
use Rattle.job.proofs.run.check.Goals as goal

pub returns : goal.returns
returns c =
    let g = c.args in
    let o = c.check_and_report.ensures in
    record {
      result_value = o.result_value ∙ ap counted (report_outcome_lem Empty g.job.now g.work.now g.scratch.now [] (omega arith));
      work_after = o.work_after ∙ report_work_lem Empty g.job.now g.work.now g.scratch.now [] (omega arith);
      scratch_after = o.scratch_after ∙ report_scratch_lem Empty g.job.now g.work.now g.scratch.now [] (omega arith);
      requirement3 = required_empty g.job.now g.work.now g.scratch.now [] o.requirement3;
    }
