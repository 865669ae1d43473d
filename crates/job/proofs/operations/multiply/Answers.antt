-- `operations::multiply` meets its contract.
use mathlib.Core.Path.{ap, ◌∙◌}
use Prim.Native.Nat.{ℕ, ◌+◌}
use native.Mathlib.Omega.{arith}
use Rattle.model.specs.definitions.Multiply.{multiplication}
use Rattle.model.proofs.laws.ResultLaws.{multiplication_storable}
use Rattle.job.specs.definitions.Bytes.{byte_at}
use Rattle.job.specs.definitions.Decode.{edition_of, maker_at, kept_byte}
use Rattle.job.specs.definitions.InnerContracts.{untested_outcome}
use Rattle.job.proofs.laws.MakerLaws.{multiply_operation}
use Rattle.job.proofs.OperationLaws.{untested_storable, performs_two}
use Rattle.job.proofs.operations.multiply.Goals as goal

pub read_operands-o-requires : goal.read_operands-o-requires
unfolding maker_at
read_operands-o-requires c = let p = c.requires in record { names = p.names; room = omega arith; long = p.long }

pub returns : goal.returns
unfolding maker_at
returns c =
    let g = c.args in
    let o = c.read_operands-o in
    let k = kept_byte (edition_of g.job.now) (byte_at g.job.now (g.at + 3)) in
    let a = o.result.first in
    let b = o.result.second in
    let kept = ap (λ (n : ℕ). multiplication n a b) c.kept_byte-kept.ensures in
    performs_two (λ f g. untested_outcome (multiplication k f g)) a b (byte_at g.job.now (g.at + 1)) (byte_at g.job.now (g.at + 2))
    (c.untested.ensures ∙ ap untested_outcome (c.multiply.ensures ∙ kept)) (untested_storable (multiplication k a b) (multiplication_storable k a b))
    o.ensures.first_value o.ensures.second_value (λ count n. n) (λ rs. multiply_operation _ _ k rs)
