-- `step::perform` meets its contract.
use mathlib.Core.Path.{◌≡◌, refl, ap}
use mathlib.Core.List.{[], ◌∷◌, ◌++◌}
use Prim.Native.Nat.{ℕ, ◌+◌}
use borrow.Author.Tests.{leb-false}
use native.Mathlib.Omega.{arith}
use lib.ListN.{length, length-append}
use Rattle.std.proofs.Common.{rules}
use Rattle.model.specs.definitions.Models.{coefficient_count}
use Rattle.job.specs.definitions.Reading.{max_results}
use Rattle.job.specs.definitions.Step.{more}
use Rattle.job.proofs.Results.{stored_holds}
use Rattle.job.specs.definitions.InnerContracts.{recorded_from}
use Rattle.job.proofs.step.perform.Goals as goal

pub returns-in-End-clause-records_by : goal.returns-in-End-clause-records_by
unfolding recorded_from
returns-in-End-clause-records_by c = rw c.in-End.is (λ rs t h. refl)

pub returns-in-Edition-clause-records_by : goal.returns-in-Edition-clause-records_by
unfolding recorded_from
returns-in-Edition-clause-records_by c = rw c.in-Edition.is (λ rs t h. refl)

pub returns-in-Unknown-clause-records_by : goal.returns-in-Unknown-clause-records_by
unfolding recorded_from
returns-in-Unknown-clause-records_by c = rw c.in-Unknown.is (λ rs t h. refl)

pub returns-in_err-made-in-Result-clause-records_by : goal.returns-in_err-made-in-Result-clause-records_by
unfolding recorded_from
returns-in_err-made-in-Result-clause-records_by c = λ rs t h.
    let n = rw c.in-Result.is at c.requires.0.names in
    let gives = c.in_err-made-in-Result.ensures.performs.gives c.args.before.results rs t h n in
    rw (c.in-Result.is, ← gives)

pub returns-in_ok-made-in-Result-clause-steps_by : goal.returns-in_ok-made-in-Result-clause-steps_by
returns-in_ok-made-in-Result-clause-steps_by c = λ rs t h.
    let n = rw c.in-Result.is at c.requires.0.names in
    let gives = c.in_ok-made-in-Result.ensures.performs.gives c.args.before.results rs t h n in
    let space = rw c.in-Result.is at c.requires.0.space in
    let m = c.in_ok-made-in-Result.made.model in
    let sized : length m.coefficients ≡ coefficient_count = search rules in
    let one_more : length (rs ++ (m ∷ [])) ≡ length rs + 1 = length-append rs (m ∷ []) in
    rw (c.in-Result.is, ← gives)
    (record {
      answer = ap (λ (n : ℕ). more n c.args.read.next) (omega (arith, h.count_is, one_more));
      holds = rw c.add_result.ensures.work_after (stored_holds h m (leb-false max_results c.args.before.results space) sized);
    })

pub returns-in_ok-made-in-Result-clause-records_by : goal.returns-in_ok-made-in-Result-clause-records_by
unfolding recorded_from
returns-in_ok-made-in-Result-clause-records_by c = λ rs t h.
    let n = rw c.in-Result.is at c.requires.0.names in
    let gives = c.in_ok-made-in-Result.ensures.performs.gives c.args.before.results rs t h n in
    rw (c.in-Result.is, ← gives) c.add_result.ensures.room_after
