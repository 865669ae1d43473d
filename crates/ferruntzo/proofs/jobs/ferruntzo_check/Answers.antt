-- `ferruntzo_check` meets its contract.
use Rattle.job.proofs.laws.AnswerBounds.{answer_small}
use Rattle.job.specs.definitions.Work.{area_places}
use Rattle.ferruntzo.proofs.JobAnswering.{answerable, required, unrequired}
use Rattle.ferruntzo.proofs.jobs.ferruntzo_check.Goals as goal

pub write_answer-requires : goal.write_answer-requires
write_answer-requires c =
    let g = c.args in
    let o = c.check-outcome in
    answerable o.result o.ensures.result_value (answer_small g.job.now g.work.now g.scratch.now)

pub returns-then-answer-ge-ANSWER_SIZE-clause-requirement3 : goal.returns-then-answer-ge-ANSWER_SIZE-clause-requirement3
returns-then-answer-ge-ANSWER_SIZE-clause-requirement3 c =
    let g = c.args in
    let o = c.check-outcome in
    let w = c.write_answer.ensures in
    required (area_places g.work.now g.scratch.now) g.job.now g.answer.now o.new.work o.result c.if-answer-ge-ANSWER_SIZE.true
    w.value w.answer_after o.ensures.requirement3

pub returns-else-answer-ge-ANSWER_SIZE-clause-requirement3 : goal.returns-else-answer-ge-ANSWER_SIZE-clause-requirement3
returns-else-answer-ge-ANSWER_SIZE-clause-requirement3 c =
    let g = c.args in
    rw c.from.ensures (unrequired (area_places g.work.now g.scratch.now) g.job.now g.answer.now g.work.now c.if-answer-ge-ANSWER_SIZE.false)
