-- `areas::make_reciprocal_in` meets its contract.
use Rattle.proposals.proofs.Answering.{reciprocal_degree}
use Rattle.proposals.proofs.areas.make_reciprocal_in.Goals as goal

pub answer_reciprocal-requires : goal.answer_reciprocal-requires
answer_reciprocal-requires c = let r = c.make_reciprocal in reciprocal_degree r.result _ r.ensures.result_value
