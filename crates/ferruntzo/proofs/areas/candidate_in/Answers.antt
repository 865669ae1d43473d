-- `areas::candidate_in` meets its contract: numbers behind play no part.
use mathlib.Core.Path.{◌∙◌}
use native.Mathlib.Omega.{arith}
use Rattle.model.specs.definitions.Area.{candidate_size}
use Rattle.model.proofs.laws.AreaLaws.{candidate_front}
use Rattle.ferruntzo.proofs.areas.candidate_in.Goals as goal

pub returns : goal.returns
returns c = c.read_candidate.ensures ∙ candidate_front candidate_size c.args.area.now (omega arith)
