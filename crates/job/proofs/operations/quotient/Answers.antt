-- `operations::quotient` meets its contract.
use mathlib.Core.Path.{ap₂, ◌∙◌}
use Prim.Native.Nat.{◌+◌}
use native.Mathlib.Omega.{arith}
use lib.ListN.{length}
use Rattle.certificate.specs.definitions.Tests.{scratch_size}
use Rattle.certificate.specs.definitions.Quotient.{quotient_test}
use Rattle.certificate.proofs.laws.Stages.{quotient_room}
use Rattle.certificate.proofs.laws.TestFits.{quotient_storable}
use Rattle.job.specs.definitions.Bytes.{byte_at, candidate_at}
use Rattle.job.specs.definitions.Decode.{maker_at}
use Rattle.job.proofs.laws.MakerLaws.{quotient_operation}
use Rattle.job.proofs.OperationLaws.{performs_two}
use Rattle.job.proofs.operations.quotient.Goals as goal

pub read_operands-o-requires : goal.read_operands-o-requires
unfolding maker_at
read_operands-o-requires c = let p = c.requires.0 in record { names = p.names; room = omega arith; long = p.long }

pub returns : goal.returns
unfolding maker_at
returns c =
    let job = c.args.job.now in
    let at = c.args.at in
    let len = length c.args.scratch.now in
    let f = c.read_operands-o.result.first in
    let g = c.read_operands-o.result.second in
    let h = candidate_at job (at + 3) in
    let w = candidate_at job (at + 136) in record {
      performs =
          performs_two (λ f g. quotient_test scratch_size f g h w) f g (byte_at job (at + 1)) (byte_at job (at + 2))
          (c.quotient.ensures.result_value
          ∙ ap₂ (quotient_test len f g) c.read_candidate-h.ensures c.read_candidate-w.ensures
          ∙ quotient_room len f g h w c.requires.1.long)
          (quotient_storable scratch_size f g h w)
          c.read_operands-o.ensures.first_value c.read_operands-o.ensures.second_value (λ count n. n) (λ rs. quotient_operation _ _ h w rs);
      scratch_unchanged = c.quotient.ensures.scratch_after ∙ c.requires.1.clear;
    }
