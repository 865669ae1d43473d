-- `quotient::quotient` meets its contract.
use mathlib.Core.Path.{sym, ◌∙◌}
use native.Mathlib.Omega.{arith}
use lib.ListN.{length}
use Rattle.certificate.proofs.laws.Stages.{quotient_room, scratch_short, scratch_again, scratch_first}
use Rattle.certificate.proofs.laws.QuotientStages.{quotient_short}
use Rattle.certificate.specs.definitions.Promise.{QuotientAllowed}
use Rattle.certificate.proofs.laws.PromiseLaws.{test_promised, quotient_allowed}
use Rattle.certificate.proofs.quotient.quotient.Goals as goal

pub returns-then-scratch-lt-SCRATCH_SIZE : goal.returns-then-scratch-lt-SCRATCH_SIZE
returns-then-scratch-lt-SCRATCH_SIZE c =
    let a = c.args in
    let n = length a.scratch.now in
    record {
      result_value = sym (quotient_short n a.f a.g a.h a.w (omega arith));
      scratch_after = sym (scratch_short a.scratch.now (omega arith));
      quotient_allowed = tt;
    }

pub returns : goal.returns
returns c =
    let a = c.args in
    let z = c.test_in-result in
    let n = length a.scratch.now in
    let e = z.ensures ∙ sym (quotient_room n a.f a.g a.h a.w (omega arith)) in
    record {
      result_value = e;
      scratch_after = c.clear_scratch.ensures ∙ scratch_again a.scratch.now z.new.part (omega arith) (z.auto.part ∙ scratch_first a.scratch.now (omega arith));
      quotient_allowed = test_promised (QuotientAllowed a.f a.g) z.result e (λ _ p. quotient_allowed n a.f a.g a.h a.w p);
    }
