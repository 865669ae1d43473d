-- `ferruntzo_convert_edition` meets its contract.
use lib.ListN.{length}
use Rattle.job.specs.definitions.Outcomes.{refused_command, result_count}
use Rattle.survey.proofs.laws.JobLength.{conversion_small}
use Rattle.ferruntzo.proofs.jobs.ferruntzo_convert_edition.Goals as goal
use mathlib.Core.Path.{ap}
use native.Mathlib.Omega.{arith}

pub write_answer-requires : goal.write_answer-requires
write_answer-requires c =
    let g = c.args in
    let b = conversion_small g.job.now (length g.out.now) in
    let same = c.convert_edition-outcome.ensures.result_value in
    record {
      count_fits = omega (arith, ap result_count same, b.0);
      command-fits = omega (arith, ap refused_command same, b.1);
    }
