-- `operations::subtract` meets its contract.
use mathlib.Core.Path.{ap, ◌∙◌}
use Prim.Native.Nat.{◌+◌}
use native.Mathlib.Omega.{arith}
use Rattle.model.specs.definitions.Add.{subtraction}
use Rattle.model.proofs.laws.ResultLaws.{subtraction_storable}
use Rattle.job.specs.definitions.Bytes.{byte_at}
use Rattle.job.specs.definitions.Decode.{maker_at}
use Rattle.job.specs.definitions.InnerContracts.{untested_outcome}
use Rattle.job.proofs.laws.MakerLaws.{subtract_operation}
use Rattle.job.proofs.OperationLaws.{untested_storable, performs_two}
use Rattle.job.proofs.operations.subtract.Goals as goal

pub read_operands-o-requires : goal.read_operands-o-requires
unfolding maker_at
read_operands-o-requires c = let p = c.requires in record { names = p.names; room = omega arith; long = p.long }

pub returns : goal.returns
unfolding maker_at
returns c =
    let g = c.args in
    let o = c.read_operands-o in
    let a = o.result.first in
    let b = o.result.second in
    performs_two (λ f g. untested_outcome (subtraction f g)) a b (byte_at g.job.now (g.at + 1)) (byte_at g.job.now (g.at + 2))
    (c.untested.ensures ∙ ap untested_outcome c.subtract.ensures) (untested_storable (subtraction a b) (subtraction_storable a b))
    o.ensures.first_value o.ensures.second_value (λ count n. n) (λ rs. subtract_operation _ _ rs)
