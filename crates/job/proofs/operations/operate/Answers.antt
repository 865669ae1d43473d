-- `operations::operate` meets its contract: in each arm the operation is the arm's.
use Rattle.job.proofs.OperationLaws.{performs_told}
use Rattle.job.proofs.operations.operate.Goals as goal

pub returns-in-Load-clause-performs : goal.returns-in-Load-clause-performs
returns-in-Load-clause-performs c =
    let a = c.args in performs_told c.in-Load.is a.job.now a.at a.work.now _ (c.load.ensures a.work.now)

pub returns-in-LoadOn-clause-performs : goal.returns-in-LoadOn-clause-performs
returns-in-LoadOn-clause-performs c =
    let a = c.args in performs_told c.in-LoadOn.is a.job.now a.at a.work.now _ (c.load_on.ensures a.work.now)
