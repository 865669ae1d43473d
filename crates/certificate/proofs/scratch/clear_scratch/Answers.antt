-- `scratch::clear_scratch` meets its contract.
use Rattle.std.proofs.Common.{sym, ap, ◌∙◌}
use mathlib.Core.List.{◌++◌}
use native.Mathlib.Omega.{arith}
use lib.IntN.{pos}
use lib.ListN.{drop, replicate}
use Rattle.integer.specs.definitions.Lists.{zeros}
use Rattle.certificate.specs.definitions.Tests.{scratch_size}
use Rattle.certificate.proofs.laws.Stages.{scratch_short, scratch_cleared, scratch_first}
use Rattle.certificate.proofs.scratch.clear_scratch.Goals as goal

pub returns-then-scratch-ge-SCRATCH_SIZE : goal.returns-then-scratch-ge-SCRATCH_SIZE
unfolding zeros
returns-then-scratch-ge-SCRATCH_SIZE c =
    let s = c.args.scratch.now in
    ap (λ p. p ++ drop scratch_size s) (c.fill.ensures.after (λ _ e. e) ∙ ap (λ n. replicate n (pos 0)) (scratch_first s (omega arith))) ∙ sym (scratch_cleared s (omega arith))

pub returns-else-scratch-ge-SCRATCH_SIZE : goal.returns-else-scratch-ge-SCRATCH_SIZE
returns-else-scratch-ge-SCRATCH_SIZE c = sym (scratch_short c.args.scratch.now (omega arith))
