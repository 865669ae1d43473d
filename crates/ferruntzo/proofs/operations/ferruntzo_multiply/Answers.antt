-- `ferruntzo_multiply` meets its contract.
use Rattle.std.proofs.Common.{rules}
use Rattle.model.specs.definitions.Multiply.{multiplication}
use Rattle.model.proofs.laws.ResultLaws.{multiplication_storable}
use Rattle.ferruntzo.proofs.Answering.{outcome_storable}
use Rattle.ferruntzo.proofs.operations.ferruntzo_multiply.Goals as goal

pub perform-requires-clause-storable : goal.perform-requires-clause-storable
perform-requires-clause-storable c a b r called = outcome_storable r {o = multiplication c.args.kept a b} (search rules) (multiplication_storable c.args.kept a b)

pub returns : goal.returns
returns c = c.perform.ensures (multiplication c.args.kept) (λ a b r called. search rules)
