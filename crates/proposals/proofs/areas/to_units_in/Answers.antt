-- `areas::to_units_in` meets its contract.
use Rattle.proposals.proofs.Answering.{list_degree}
use Rattle.proposals.proofs.areas.to_units_in.Goals as goal

pub answer_units-requires : goal.answer_units-requires
answer_units-requires c = let u = c.to_units in list_degree u.result _ u.ensures
