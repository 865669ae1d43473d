-- `root::root_numbers` meets its contract.
use mathlib.Core.Path.{sym, ◌∙◌}
use native.Mathlib.Omega.{arith}
use lib.ListN.{length}
use Rattle.certificate.proofs.laws.Stages.{scratch_short, scratch_again, scratch_first}
use Rattle.certificate.proofs.laws.NumbersStages.{numbers_short, numbers_room}
use Rattle.certificate.proofs.root.root_numbers.Goals as goal

pub returns-then-scratch-lt-SCRATCH_SIZE : goal.returns-then-scratch-lt-SCRATCH_SIZE
returns-then-scratch-lt-SCRATCH_SIZE c = let a = c.args in record { result_value = sym (numbers_short (length a.scratch.now) a.f a.h a.w (omega arith)); scratch_after = sym (scratch_short a.scratch.now (omega arith)) }

pub returns : goal.returns
returns c =
    let a = c.args in
    let z = c.numbers_in-numbers in
    record { result_value = z.ensures ∙ sym (numbers_room (length a.scratch.now) a.f a.h a.w (omega arith)); scratch_after = c.clear_scratch.ensures ∙ scratch_again a.scratch.now z.new.part (omega arith) (z.auto.part ∙ scratch_first a.scratch.now (omega arith)) }
