-- `ferruntzo_quotient` meets its contract.
use Rattle.std.proofs.Common.{rules}
use Rattle.model.specs.definitions.Area.{area_model}
use Rattle.certificate.specs.definitions.Promise.{QuotientAllowed}
use Rattle.certificate.proofs.laws.TestFits.{quotient_storable}
use Rattle.ferruntzo.proofs.Answering.{test_storable, test_in_area, short_test_lem}
use Rattle.ferruntzo.proofs.certificates.ferruntzo_quotient.Goals as goal

pub answer_test-requires : goal.answer_test-requires
answer_test-requires c = let q = c.quotient-test in test_storable q.result q.ensures.result_value (quotient_storable _ _ _ _ _)

pub returns-then-f-g-clause-quotient_allowed : goal.returns-then-f-g-clause-quotient_allowed
returns-then-f-g-clause-quotient_allowed c =
    let a = c.args in
    test_in_area (QuotientAllowed (area_model a.f.now) (area_model a.g.now)) c.quotient-test.result (search rules) (search rules)
    a.scratch.now a.out.now a.numbers.now (search rules) (c.answer_test.ensures a.scratch.now)

pub returns-else-f-g-clause-quotient_allowed : goal.returns-else-f-g-clause-quotient_allowed
returns-else-f-g-clause-quotient_allowed c =
    let a = c.args in short_test_lem a.scratch.now a.out.now a.numbers.now c.refuse_test.ensures
