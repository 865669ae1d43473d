-- `work::stored_result` meets its contract.
use mathlib.Core.Path.{ap, ◌∙◌}
use Prim.Native.Nat.{ℕ, ◌*◌}
use native.Mathlib.Nat.{add-sub_cancel_left}
use lib.ListN.{take, drop}
use Rattle.model.specs.definitions.Area.{model_size, area_model}
use Rattle.job.proofs.work.stored_result.Goals as goal

pub returns : goal.returns
returns c =
    let g = c.args in
    c.read.ensures
    ∙ ap (λ (n : ℕ). area_model (take n (drop (model_size * g.i) g.work.now)))
    (add-sub_cancel_left (model_size * g.i) model_size)
