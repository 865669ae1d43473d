-- `walk::walk` meets its contract: each turn is one command, and what is left to read is the reading of the whole job.
use mathlib.Core.Path.{refl, sym, ap, ◌∙◌}
use native.Mathlib.Omega.{arith}
use Rattle.std.proofs.Common.{rules}
use Rattle.std.proofs.lemmas.Result.{err_from_is_err_and}
use Rattle.survey.proofs.laws.WalkLaws.{read_found, read_refused, goes_on, walking_begins, found_converting, found_further, found_room, walk_ends, walk_left, walk_added, walk_refused}
use Rattle.job.specs.definitions.Outcomes.{accepted}
use Rattle.survey.specs.definitions.InnerContracts.{reading_outcome}
use Rattle.survey.proofs.laws.ConvertedSame.{ill_not_well}
use Rattle.survey.proofs.walk.walk.Goals as goal
use Rattle.survey.proofs.walk.walk.Goals.{in-Some, in_default-convert}

pub loop-read-init : goal.loop-read-init
loop-read-init c = (walking_begins _ _ _ refl, refl)

pub returns-in_err-read : goal.returns-in_err-read
returns-in_err-read c =
    let (was_refused, number) = read_refused _ _ _ _ _ c.read_next.ensures _ _ c.map_err.ensures.cases (λ v d p. search rules) _ c.in_err-read.was in
    let e = walk_refused c.loop-read.invariant.0 _ was_refused in
    let p = err_from_is_err_and c.from_residual.result c.from_residual.ensures.1 in
    record {
      result_value = rw (p.1, p.2, number) (sym (ap reading_outcome e));
      out_after = λ r. absurd (ill_not_well _ _ r.0 (sym e ∙ r.1));
    }

-- after a command was found
pub returns-in-End : goal.returns-in-End
returns-in-End c =
    let l = c.loop-read in
    let was_found = read_found _ _ _ _ _ c.read_next.ensures _ _ c.map_err.ensures.cases _ c.in_ok-read.was in
    let e = walk_ends l.invariant.0 _ _ was_found (rw c.in-End.is refl) in
    record { result_value = ap accepted l.invariant.0.counted ∙ sym (ap reading_outcome e.0); out_after = λ r. e.1 }

pub convert-requires : goal.convert-requires
convert-requires c = found_converting c.loop-read.invariant.0 _ _ (read_found _ _ _ _ _ c.read_next.ensures _ _ c.map_err.ensures.cases _ c.in_ok-read.was)

pub bounds-list-count : goal.bounds-list-count
bounds-list-count c =
    found_room c.loop-read.invariant.0 _ _ (read_found _ _ _ _ _ c.read_next.ensures _ _ c.map_err.ensures.cases _ c.in_ok-read.was) _ c.in-Some.ensures.degree

pub loop-read-smaller : goal.loop-read-smaller
loop-read-smaller c =
    let t = found_further c.loop-read.invariant.0 _ _ (read_found _ _ _ _ _ c.read_next.ensures _ _ c.map_err.ensures.cases _ c.in_ok-read.was) in omega (arith, t)

pub loop-read-preserved : goal.loop-read-preserved
loop-read-preserved c =
    let l = c.loop-read in
    let was_found = read_found _ _ _ _ _ c.read_next.ensures _ _ c.map_err.ensures.cases _ c.in_ok-read.was in
    let on = goes_on _ c.in_default.not-End in
    let o = c.convert.ensures.out_after in (
      elim c.match-convert.branch [
        | in-Some w ↦ rw (w.list-is, w.count-is) (walk_added l.invariant.0 _ _ was_found on _ w.in-Some.ensures.degree _ o)
        | in_default-convert w ↦ rw (w.list-is, w.count-is) (walk_left l.invariant.0 _ _ was_found on w.in_default-convert.ensures.degree _ o)
      ],
      c.convert.auto.out ∙ l.invariant.1,
    )
