-- `run::run` meets its contract: each turn is one command, and what is left to run gives what the whole job gives.
use mathlib.Core.Path.{refl, ◌∙◌}
use native.Mathlib.Omega.{arith}
use Rattle.job.proofs.Loop.{going_begins, turn_again, turn_ends, turn_stops}
use Rattle.job.proofs.run.run.Goals as goal

pub loop-after-init : goal.loop-after-init
loop-after-init c =
    let g = c.args in
    record {
      going = going_begins g.report g.job.now g.work.now g.room.now c.requires.0.long c.requires.0.zero c.requires.1;
      same = refl;
      clear = c.requires.0.clear;
    }

pub loop-after-smaller : goal.loop-after-smaller
loop-after-smaller c =
    let e = rw c.in-Ok-Some.field-0-is at c.in-Ok-Some.ensures in
    let t = turn_again c.loop-after.invariant.going c.step.new.work c.step.new.room e.records_by e.steps_by c.step.auto.work c.step.auto.room in
    omega (arith, t.0, t.1.position)

pub loop-after-preserved : goal.loop-after-preserved
loop-after-preserved c =
    let e = rw c.in-Ok-Some.field-0-is at c.in-Ok-Some.ensures in
    record {
      going = (turn_again c.loop-after.invariant.going c.step.new.work c.step.new.room e.records_by e.steps_by c.step.auto.work c.step.auto.room).1;
      same = e.scratch_unchanged ∙ c.loop-after.invariant.same;
      clear = c.loop-after.invariant.clear;
    }

pub returns-in-Ok-None : goal.returns-in-Ok-None
returns-in-Ok-None c =
    let e = rw c.in-Ok-None.field-0-is at c.in-Ok-None.ensures in
    let r = turn_ends c.loop-after.invariant.going c.step.new.work c.step.new.room e.records_by e.steps_by in
    record {
      result_value = r.answer;
      work_after = r.work_is;
      scratch_unchanged = e.scratch_unchanged ∙ c.loop-after.invariant.same;
      requirement3 = r.claim;
      room_after = r.room_is;
    }

pub returns-in-Err : goal.returns-in-Err
returns-in-Err c =
    let e = c.in-Err.ensures in
    let r = turn_stops c.loop-after.invariant.going c.step.new.work c.step.new.room e.records_by e.steps_by c.clear_work.ensures c.clear_room.ensures in
    record {
      result_value = r.answer;
      work_after = r.work_is;
      scratch_unchanged = e.scratch_unchanged ∙ c.loop-after.invariant.same;
      requirement3 = r.claim;
      room_after = r.room_is;
    }
