-- `load::load` meets its contract.
use Rattle.model.specs.definitions.Models.{zero_model}
use Rattle.model.specs.definitions.Outcomes.{passing}
use Rattle.model.specs.definitions.Load.{loading}
use Rattle.model.proofs.Refusing.{passed_up}
use Rattle.model.proofs.load.load.Goals as goal

pub returns-in_err-checked_weight : goal.returns-in_err-checked_weight
unfolding loading passing
returns-in_err-checked_weight c =
    rw (passed_up zero_model c.from_residual.result c.in_err-checked_weight.field-0.0 c.from_residual.ensures, c.in_err-checked_weight.ensures.err.0, c.in_err-checked_weight.ensures.err.1)

pub returns : goal.returns
unfolding loading passing
returns c = rw c.in_ok-checked_weight.ensures.ok.0
