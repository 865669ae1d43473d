-- `operations::load_on` meets its contract.
use mathlib.Core.Path.{ap, sym, ◌∙◌}
use Prim.Native.Nat.{◌+◌}
use Rattle.model.specs.definitions.Load.{loading}
use Rattle.job.specs.definitions.Bytes.{block_at, unsigned_at, interval_at}
use Rattle.job.specs.definitions.Decode.{maker_at}
use Rattle.job.specs.definitions.InnerContracts.{untested_outcome}
use Rattle.job.proofs.laws.MakerLaws.{load_operation}
use Rattle.job.proofs.OperationLaws.{performs, untested_storable, loading_storable}
use Rattle.job.proofs.operations.load_on.Goals as goal

pub returns : goal.returns
unfolding maker_at
returns c =
    let g = c.args in
    let block = block_at g.job.now (g.at + 1) (unsigned_at g.job.now (g.at + 134)) in
    let m = block (interval_at g.job.now (g.at + 138)) in
    λ w. performs (c.load_block.ensures ∙ ap (λ i. untested_outcome (loading (block i))) c.read_interval-interval.ensures) (untested_storable (loading m) (loading_storable m))
    (λ count rs t h n. sym (load_operation m rs))
