-- `select::quotient_of_two` meets its contract.
use mathlib.Core.Path.{refl, sym}
use lib.ListN.{length}
use native.Mathlib.Omega.{arith}
use Rattle.selection.proofs.laws.SelectSound.{chosen_long}
use Rattle.selection.proofs.Selecting.{two_tests, selects}
use Rattle.selection.proofs.select.quotient_of_two.Goals as goal

pub slice_bounds-result-end : goal.slice_bounds-result-end
slice_bounds-result-end c =
    let a = c.args in
    let s = selects a.f a.g a.first.now a.second.now a.scratch.now _ _ _ _ _
    c.test_proposal-a.ensures.result_value c.test_proposal-a.ensures.scratch_after c.test_proposal-a.ensures.quotient_allowed
    c.test_proposal-b.ensures.result_value c.test_proposal-b.ensures.scratch_after c.test_proposal-b.ensures.quotient_allowed
    (rw c.in-Ok-First.field-0-is at c.in-Ok-First.ensures) in
    let long = chosen_long (length a.scratch.now) a.f a.g a.first.now a.second.now s.selection_is in
    omega (arith, long)

pub slice_bounds-result-end-in-Ok-Second : goal.slice_bounds-result-end-in-Ok-Second
slice_bounds-result-end-in-Ok-Second c =
    let a = c.args in
    let s = selects a.f a.g a.first.now a.second.now a.scratch.now _ _ _ _ _
    c.test_proposal-a.ensures.result_value c.test_proposal-a.ensures.scratch_after c.test_proposal-a.ensures.quotient_allowed
    c.test_proposal-b.ensures.result_value c.test_proposal-b.ensures.scratch_after c.test_proposal-b.ensures.quotient_allowed
    (rw c.in-Ok-Second.field-0-is at c.in-Ok-Second.ensures) in
    let long = chosen_long (length a.scratch.now) a.f a.g a.first.now a.second.now s.selection_is in
    omega (arith, long)

pub returns-in-Ok-First : goal.returns-in-Ok-First
returns-in-Ok-First c =
    let a = c.args in
    let s = selects a.f a.g a.first.now a.second.now a.scratch.now _ _ _ _ _
    c.test_proposal-a.ensures.result_value c.test_proposal-a.ensures.scratch_after c.test_proposal-a.ensures.quotient_allowed
    c.test_proposal-b.ensures.result_value c.test_proposal-b.ensures.scratch_after c.test_proposal-b.ensures.quotient_allowed
    (rw c.in-Ok-First.field-0-is at c.in-Ok-First.ensures) in
    record {
      radius_after = sym s.selection_is;
      part = (refl, refl);
      scratch_after = s.scratch_is;
      quotient_allowed = λ _. s.promised;
      tightest = λ _. s.tightest;
    }

pub returns-in-Ok-Second : goal.returns-in-Ok-Second
returns-in-Ok-Second c =
    let a = c.args in
    let s = selects a.f a.g a.first.now a.second.now a.scratch.now _ _ _ _ _
    c.test_proposal-a.ensures.result_value c.test_proposal-a.ensures.scratch_after c.test_proposal-a.ensures.quotient_allowed
    c.test_proposal-b.ensures.result_value c.test_proposal-b.ensures.scratch_after c.test_proposal-b.ensures.quotient_allowed
    (rw c.in-Ok-Second.field-0-is at c.in-Ok-Second.ensures) in
    record {
      radius_after = sym s.selection_is;
      part = (refl, refl);
      scratch_after = s.scratch_is;
      quotient_allowed = λ _. s.promised;
      tightest = λ _. s.tightest;
    }

pub returns-in-Err-clause-scratch_after : goal.returns-in-Err-clause-scratch_after
returns-in-Err-clause-scratch_after c =
    let a = c.args in
    (two_tests a.f a.g a.first.now a.second.now a.scratch.now _ _
    c.test_proposal-a.ensures.result_value c.test_proposal-a.ensures.scratch_after
    c.test_proposal-b.ensures.result_value c.test_proposal-b.ensures.scratch_after c.in-Err.ensures).1
