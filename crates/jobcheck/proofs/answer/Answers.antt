use Rattle.std.proofs.Common.{rules}
use Rattle.jobcheck.proofs.Count.{count_small}
use Rattle.jobcheck.proofs.answer.Goals as goal

pub accepted-requires : goal.accepted-requires
accepted-requires g c =
    (search rules, count_small _ _ _ _ _ c.check.ensures.result_value c.in-Ok.is)
