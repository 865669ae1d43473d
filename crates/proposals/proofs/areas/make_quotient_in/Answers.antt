-- `areas::make_quotient_in` meets its contract.
use Rattle.proposals.proofs.Answering.{quotient_degrees}
use Rattle.proposals.proofs.areas.make_quotient_in.Goals as goal

pub answer_quotient-requires : goal.answer_quotient-requires
answer_quotient-requires c = let r = c.make_quotient in quotient_degrees r.result _ _ r.ensures.result_value
