-- `ferruntzo_add` meets its contract.
use Rattle.model.specs.definitions.Add.{addition}
use Rattle.model.proofs.laws.ResultLaws.{addition_storable}
use Rattle.ferruntzo.proofs.Answering.{outcome_storable}
use Rattle.ferruntzo.proofs.operations.ferruntzo_add.Goals as goal

pub perform-requires-clause-storable : goal.perform-requires-clause-storable
perform-requires-clause-storable c a b r called = outcome_storable r called.2 (addition_storable a b)

pub returns : goal.returns
returns c = c.perform.ensures addition (λ a b r called. called.2)
