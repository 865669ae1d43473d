-- `jobs::report_job` meets its contract.
use Rattle.std.proofs.Common.{rules}
use Rattle.model.specs.definitions.Area.{area_out}
use Rattle.job.proofs.laws.AnswerBounds.{report_small}
use Rattle.job.specs.definitions.Reports.{report_places}
use Rattle.ferruntzo.specs.definitions.Jobs.{report_answer}
use Rattle.ferruntzo.proofs.JobAnswering.{answerable, required, unrequired}
use Rattle.ferruntzo.proofs.jobs.report_job.Goals as goal

pub write_answer-requires : goal.write_answer-requires
write_answer-requires c =
    let g = c.args in
    let o = c.check_and_report-outcome in
    let small = report_small g.job.now g.report g.work.now g.scratch.now g.room.now in
    answerable o.result o.ensures.result_value small

pub returns-then-answer-ge-ANSWER_SIZE-clause-requirement3 : goal.returns-then-answer-ge-ANSWER_SIZE-clause-requirement3
returns-then-answer-ge-ANSWER_SIZE-clause-requirement3 c =
    let g = c.args in
    let o = c.check_and_report-outcome in
    let w = c.write_answer.ensures in
    let places = report_places g.report g.work.now g.scratch.now g.room.now in
    required places g.job.now g.answer.now o.new.work o.result c.if-answer-ge-ANSWER_SIZE.true w.value w.answer_after o.ensures.requirement3

pub returns-else-answer-ge-ANSWER_SIZE-clause-answer_after : goal.returns-else-answer-ge-ANSWER_SIZE-clause-answer_after
unfolding report_answer area_out
returns-else-answer-ge-ANSWER_SIZE-clause-answer_after c = search rules

pub returns-else-answer-ge-ANSWER_SIZE-clause-requirement3 : goal.returns-else-answer-ge-ANSWER_SIZE-clause-requirement3
returns-else-answer-ge-ANSWER_SIZE-clause-requirement3 c =
    let g = c.args in
    let places = report_places g.report g.work.now g.scratch.now g.room.now in
    rw c.from.ensures (unrequired places g.job.now g.answer.now g.work.now c.if-answer-ge-ANSWER_SIZE.false)
