-- `ferruntzo_subtract` meets its contract.
use Rattle.model.specs.definitions.Add.{subtraction}
use Rattle.model.proofs.laws.ResultLaws.{subtraction_storable}
use Rattle.ferruntzo.proofs.Answering.{outcome_storable}
use Rattle.ferruntzo.proofs.operations.ferruntzo_subtract.Goals as goal

pub perform-requires-clause-storable : goal.perform-requires-clause-storable
perform-requires-clause-storable c a b r called = outcome_storable r called.2 (subtraction_storable a b)

pub returns : goal.returns
returns c = c.perform.ensures subtraction (λ a b r called. called.2)
