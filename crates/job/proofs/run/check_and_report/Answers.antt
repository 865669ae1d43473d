-- `run::check_and_report` meets its contract.
use mathlib.Core.Path.{sym, ◌∙◌}
use native.Mathlib.Omega.{arith}
use Rattle.job.specs.definitions.Work.{work_size}
use Rattle.job.specs.definitions.Reports.{room_size}
use Rattle.job.proofs.Entry.{cleared_is, cleared_clear, room_cleared_is, untouched, long_work, long_scratch, long_room, ran_leaves}
use Rattle.job.proofs.run.check_and_report.Goals as goal

pub returns-then-not-areas_fit : goal.returns-then-not-areas_fit
returns-then-not-areas_fit c =
    let g = c.args in untouched g.report g.job.now g.work.now g.scratch.now g.room.now (sym c.if-not-areas_fit.ensures)

pub run-requires : goal.run-requires
run-requires c =
    let g = c.args in
    let fit = sym c.if-not-areas_fit.ensures in (
      record {
        long = omega (arith, c.clear_work.auto.work, long_work g.report g.job.now g.work.now g.scratch.now g.room.now fit);
        zero = cleared_is work_size g.work.now c.clear_work.new.work c.clear_work.ensures;
        clear =
            cleared_clear g.scratch.now c.clear_scratch.new.scratch c.clear_scratch.ensures
            (omega (arith, c.clear_scratch.auto.scratch, long_scratch g.report g.job.now g.work.now g.scratch.now g.room.now fit));
      },
      record {
        long = omega (arith, c.clear_room.auto.room, long_room g.report g.job.now g.work.now g.scratch.now g.room.now fit);
        zero = room_cleared_is (room_size g.report) g.room.now c.clear_room.new.room c.clear_room.ensures;
      },
    )

pub returns : goal.returns
returns c =
    let g = c.args in
    let o = c.run.ensures in
    ran_leaves g.report g.job.now g.work.now g.scratch.now g.room.now (sym c.if-not-areas_fit.ensures)
    c.clear_work.new.work c.run.new.work c.run.new.scratch c.clear_room.new.room c.run.new.room
    c.run.result c.clear_work.ensures c.clear_room.ensures
    (record { answer = o.result_value; work_is = o.work_after; claim = o.requirement3; room_is = o.room_after })
    (o.scratch_unchanged ∙ c.clear_scratch.ensures)
