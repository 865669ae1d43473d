-- `reports::clear_room` meets its contract.
use Rattle.std.proofs.Common.{rules}
use Rattle.job.specs.definitions.Reports.{zero_bytes}
use Rattle.job.proofs.reports.clear_room.Goals as goal

pub returns : goal.returns
unfolding zero_bytes
returns c = search rules
