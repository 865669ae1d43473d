-- All that is promised is kept: no hypothesis stands here.
use Rattle.promises.specs.definitions.Promises.{Promises}
use Rattle.promises.proofs.laws.Answers.{answers_kept}
use Rattle.promises.proofs.laws.Rounding.{rounding_kept}
use Rattle.promises.proofs.laws.Operations as operations
use Rattle.promises.proofs.laws.Tests as tests
use Rattle.promises.proofs.laws.Mirrors.{mirrors_kept}
use Rattle.promises.proofs.laws.Series.{series_kept}
use Rattle.promises.proofs.laws.Selections.{selections_kept}
use Rattle.promises.proofs.laws.Proposals.{proposals_kept}
use Rattle.promises.proofs.laws.Jobs.{jobs_kept}
use Rattle.promises.proofs.laws.Contracts.{contracts_say}
use Rattle.promises.proofs.laws.Benchmarks.{benchmarks_hold}
use Rattle.promises.proofs.laws.Calls.{calls_kept}
use Rattle.promises.proofs.laws.Former.{former_numbers}
use Rattle.promises.proofs.laws.Editions.{default_kept, conversions_kept}
use Rattle.promises.proofs.laws.Reports.{records_kept, rooms_kept, exactly_kept}

pub promises_kept : Promises
promises_kept = record {
  answers = answers_kept;
  requirement_2 = tests.requirement_2;
  jobs = jobs_kept;
  rounding = rounding_kept;
  operations_sound = operations.operations_sound;
  operations_good = operations.operations_good;
  tests_sound = tests.tests_sound;
  benchmarks = benchmarks_hold;
  contracts = contracts_say;
  calls = calls_kept;
  series = series_kept;
  products = operations.products_kept;
  old_sense = operations.old_sense;
  sense_by_strips = operations.sense_by_strips;
  mirrors = mirrors_kept;
  selections = selections_kept;
  group_lengths = tests.group_lengths;
  made_proposals = proposals_kept;
  tighter_roots = tests.tighter_roots;
  positions = operations.positions_kept;
  former_numbers = former_numbers;
  kinder_default = default_kept;
  conversions = conversions_kept;
  report_records = records_kept;
  report_rooms = rooms_kept;
  reports_exactly = exactly_kept;
}
