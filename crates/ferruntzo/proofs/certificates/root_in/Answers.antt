-- `certificates::root_in` meets its contract.
use Rattle.std.proofs.Common.{rules}
use Rattle.model.specs.definitions.Area.{area_model}
use Rattle.certificate.specs.definitions.Promise.{RootAllowed}
use Rattle.certificate.proofs.laws.TestFits.{root_storable}
use Rattle.ferruntzo.proofs.Answering.{test_storable, test_in_area, short_test_lem}
use Rattle.ferruntzo.proofs.certificates.root_in.Goals as goal

pub answer_test-requires : goal.answer_test-requires
answer_test-requires c = let q = c.root-test in test_storable q.result q.ensures.result_value (root_storable _ _ _ _ _)

pub returns-then-f-h-clause-root_allowed : goal.returns-then-f-h-clause-root_allowed
returns-then-f-h-clause-root_allowed c =
    let a = c.args in
    test_in_area (RootAllowed (area_model a.f.now)) c.root-test.result (search rules) (search rules)
    a.scratch.now a.out.now a.numbers.now (search rules) (c.answer_test.ensures a.scratch.now)

pub returns-else-f-h-clause-root_allowed : goal.returns-else-f-h-clause-root_allowed
returns-else-f-h-clause-root_allowed c =
    let a = c.args in short_test_lem a.scratch.now a.out.now a.numbers.now c.refuse_test.ensures
