-- `proposal::test_proposal` meets its contract.
use native.Mathlib.Omega.{arith}
use lib.ListN.{length, length-take}
use Rattle.std.proofs.Common.{Ok}
use Rattle.std.proofs.lemmas.Result.{err_from_is_err_and}
use Rattle.selection.proofs.laws.ProposalLaws.{test_read, passed_radius, refused_radius, proposal_promised}
use Rattle.selection.proofs.proposal.test_proposal.Goals as goal

pub returns-in_err-test-clause-result_value : goal.returns-in_err-test-clause-result_value
returns-in_err-test-clause-result_value c =
    let a = c.args in
    let p = err_from_is_err_and c.from_residual.result c.from_residual.ensures.1 in
    let e = test_read (length a.scratch.now) a.f a.g a.proposal.now c.read_candidate-h.result c.read_candidate-w.result (omega arith)
    c.read_candidate-h.ensures c.read_candidate-w.ensures c.in_err-test.ensures.result_value in
    rw (p.1, p.2) (refused_radius (length a.scratch.now) a.f a.g a.proposal.now _ e)

pub returns : goal.returns
returns c =
    let a = c.args in
    let e = test_read (length a.scratch.now) a.f a.g a.proposal.now c.read_candidate-h.result c.read_candidate-w.result (omega arith)
    c.read_candidate-h.ensures c.read_candidate-w.ensures c.in_ok-test.ensures.result_value in
    record {
      result_value = passed_radius (length a.scratch.now) a.f a.g a.proposal.now _ e;
      scratch_after = c.quotient.ensures.scratch_after;
      quotient_allowed =
          proposal_promised (length a.scratch.now) a.f a.g a.proposal.now (Ok c.in_ok-test.test) e c.in_ok-test.ensures.quotient_allowed;
    }

pub slice_bounds-read_candidate-end : goal.slice_bounds-read_candidate-end
slice_bounds-read_candidate-end c = simp length-take (omega arith)

pub read_candidate-h-requires : goal.read_candidate-h-requires
read_candidate-h-requires c = simp length-take (omega arith)
