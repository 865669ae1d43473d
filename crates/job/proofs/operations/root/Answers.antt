-- `operations::root` meets its contract.
use mathlib.Core.Path.{ap₂, ◌∙◌}
use Prim.Native.Nat.{◌+◌}
use native.Mathlib.Omega.{arith}
use borrow.Author.Tests.{leb-false}
use lib.ListN.{length}
use Rattle.certificate.specs.definitions.Tests.{scratch_size}
use Rattle.certificate.specs.definitions.Root.{root_test}
use Rattle.certificate.proofs.laws.Stages.{root_room}
use Rattle.certificate.proofs.laws.TestFits.{root_storable}
use Rattle.job.specs.definitions.Bytes.{byte_at, candidate_at}
use Rattle.job.specs.definitions.Reading.{max_results}
use Rattle.job.specs.definitions.Decode.{maker_at}
use Rattle.job.proofs.laws.MakerLaws.{root_operation}
use Rattle.job.proofs.OperationLaws.{performs_one}
use Rattle.job.proofs.operations.root.Goals as goal

pub named-f-requires : goal.named-f-requires
unfolding maker_at
named-f-requires c =
    let g = c.args in
    let p = c.requires.0 in
    record {
      inside = omega (arith, p.room);
      name = leb-false max_results (byte_at g.job.now (g.at + 1)) p.names;
      long = p.long;
    }

pub returns : goal.returns
unfolding maker_at
returns c =
    let rule = c.args.rule in
    let job = c.args.job.now in
    let at = c.args.at in
    let len = length c.args.scratch.now in
    let f = c.named-f.result in
    let h = candidate_at job (at + 2) in
    let w = candidate_at job (at + 135) in record {
      performs =
          performs_one (λ f. root_test rule scratch_size f h w) f (byte_at job (at + 1))
          (c.root.ensures.result_value
          ∙ ap₂ (root_test rule len f) c.read_candidate-h.ensures c.read_candidate-w.ensures
          ∙ root_room rule len f h w c.requires.1.long)
          (root_storable rule scratch_size f h w)
          c.named-f.ensures (λ count n. n) (λ rs. root_operation rule _ h w rs);
      scratch_unchanged = c.root.ensures.scratch_after ∙ c.requires.1.clear;
    }
