-- `work::clear_work` meets its contract.
use Rattle.std.proofs.Common.{ap, ◌∙◌, pos, ℤ, List, ◌++◌, drop, replicate, length-take-le}
use Rattle.integer.specs.definitions.Lists.{zeros}
use Rattle.job.specs.definitions.Work.{work_size}
use Rattle.job.proofs.work.clear_work.Goals as goal

pub returns : goal.returns
unfolding zeros
returns c =
    ap (λ (l : List ℤ). l ++ drop work_size c.args.work.now)
    (c.fill.ensures.after (λ y e. e) ∙ ap (λ n. replicate n (pos 0)) (length-take-le work_size c.args.work.now c.requires))
