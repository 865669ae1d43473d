-- `reading::read_command` meets its contract: its tests are the places of reading, in their order.
use borrow.Author.Tests.{le-leb, lt-leb, lt-ltb, le-ltb}
use mathlib.Core.Path.{sym}
use Prim.Native.Nat.{◌+◌}
use native.Mathlib.Omega.{arith}
use lib.ListN.{length}
use Rattle.model.specs.definitions.Outcomes.{passing}
use Rattle.job.specs.definitions.Reading.{command_reading, reading_places}
use Rattle.job.proofs.ReadingLaws.{read_with}
use Rattle.job.proofs.reading.read_command.Goals as goal

pub returns-then-job-at : goal.returns-then-job-at
unfolding command_reading reading_places passing
returns-then-job-at c = simp (le-leb _ _ c.if-job-at.true)

pub returns-then-is_bad_kind : goal.returns-then-is_bad_kind
unfolding passing
returns-then-is_bad_kind c =
    let g = c.args in
    rw (read_with g.job.now g.k g.count g.at c.shape_of-shape.result c.shape_of-shape.ensures)
    (simp (lt-leb (length g.job.now) g.at c.if-job-at.false, sym c.if-is_bad_kind.ensures))

pub returns-then-job-at-2 : goal.returns-then-job-at-2
unfolding passing
returns-then-job-at-2 c =
    let g = c.args in
    let s = c.shape_of-shape.result in
    rw (read_with g.job.now g.k g.count g.at s c.shape_of-shape.ensures)
    (simp (lt-leb (length g.job.now) g.at c.if-job-at.false, sym c.if-is_bad_kind.ensures, lt-ltb (length g.job.now) (g.at + 1 + s.width) (omega arith)))

pub returns-then-has_bad_values : goal.returns-then-has_bad_values
unfolding passing
returns-then-has_bad_values c =
    let g = c.args in
    let s = c.shape_of-shape.result in
    rw (read_with g.job.now g.k g.count g.at s c.shape_of-shape.ensures)
    (simp (lt-leb (length g.job.now) g.at c.if-job-at.false, sym c.if-is_bad_kind.ensures, le-ltb (length g.job.now) (g.at + 1 + s.width) (omega arith), sym c.if-has_bad_values.ensures))

pub returns-then-has_bad_names : goal.returns-then-has_bad_names
unfolding passing
returns-then-has_bad_names c =
    let g = c.args in
    let s = c.shape_of-shape.result in
    rw (read_with g.job.now g.k g.count g.at s c.shape_of-shape.ensures)
    (simp (
      lt-leb (length g.job.now) g.at c.if-job-at.false,
      sym c.if-is_bad_kind.ensures,
      le-ltb (length g.job.now) (g.at + 1 + s.width) (omega arith),
      sym c.if-has_bad_values.ensures,
      sym c.if-has_bad_names.ensures,
    ))

pub returns-then-is_full : goal.returns-then-is_full
unfolding passing
returns-then-is_full c =
    let g = c.args in
    let s = c.shape_of-shape.result in
    rw (read_with g.job.now g.k g.count g.at s c.shape_of-shape.ensures)
    (simp (
      lt-leb (length g.job.now) g.at c.if-job-at.false,
      sym c.if-is_bad_kind.ensures,
      le-ltb (length g.job.now) (g.at + 1 + s.width) (omega arith),
      sym c.if-has_bad_values.ensures,
      sym c.if-has_bad_names.ensures,
      sym c.if-is_full.ensures,
    ))

pub returns-then-is_too_long : goal.returns-then-is_too_long
unfolding passing
returns-then-is_too_long c =
    let g = c.args in
    let s = c.shape_of-shape.result in
    rw (read_with g.job.now g.k g.count g.at s c.shape_of-shape.ensures)
    (simp (
      lt-leb (length g.job.now) g.at c.if-job-at.false,
      sym c.if-is_bad_kind.ensures,
      le-ltb (length g.job.now) (g.at + 1 + s.width) (omega arith),
      sym c.if-has_bad_values.ensures,
      sym c.if-has_bad_names.ensures,
      sym c.if-is_full.ensures,
      sym c.if-is_too_long.ensures,
    ))

pub returns : goal.returns
unfolding passing
returns c =
    let g = c.args in
    let s = c.shape_of-shape.result in
    rw (read_with g.job.now g.k g.count g.at s c.shape_of-shape.ensures)
    (simp (
      lt-leb (length g.job.now) g.at c.if-job-at.false,
      sym c.if-is_bad_kind.ensures,
      le-ltb (length g.job.now) (g.at + 1 + s.width) (omega arith),
      sym c.if-has_bad_values.ensures,
      sym c.if-has_bad_names.ensures,
      sym c.if-is_full.ensures,
      sym c.if-is_too_long.ensures,
    ))
