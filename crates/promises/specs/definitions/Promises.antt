-- All that is promised: the sentences of the owner's requirements, of 01 and of 02 that say more than an equation in a contract.
-- The contracts themselves: docs/CONTRACTS.txt. Each later request adds its fields here.
use Rattle.promises.specs.definitions.Answers.{Answers}
use Rattle.promises.specs.definitions.Rounding.{RoundingPromises}
use Rattle.promises.specs.definitions.Operations.{SoundOperations, GoodOperations, Products}
use Rattle.promises.specs.definitions.Operations.{OldSense, SenseByStrips, Positions}
use Rattle.promises.specs.definitions.Tests.{Requirement2, TighterRoots, SoundTests, GroupLengths}
use Rattle.promises.specs.definitions.Mirrors.{Mirrors}
use Rattle.promises.specs.definitions.Series.{SeriesPromises}
use Rattle.promises.specs.definitions.Selections.{SelectionPromises}
use Rattle.promises.specs.definitions.Proposals.{MadeProposals}
use Rattle.promises.specs.definitions.Jobs.{JobPromises}
use Rattle.promises.specs.definitions.Contracts.{ContractClaims}
use Rattle.promises.specs.definitions.Benchmarks.{Benchmarks}
use Rattle.promises.specs.definitions.Calls.{Calls}
use Rattle.promises.specs.definitions.Former.{FormerNumbers}
use Rattle.promises.specs.definitions.Editions.{KinderDefault, Conversions}
use Rattle.promises.specs.definitions.Reports.{ReportRecords, ReportRooms, ReportsExactly}

pub record Promises : Type 0 where
  -- requirement 1, what the contracts do not say
  pub answers : Answers
  -- requirement 2
  pub requirement_2 : Requirement2
  -- requirement 3, and what else is said of jobs
  pub jobs : JobPromises
  -- 01
  pub rounding : RoundingPromises
  pub operations_sound : SoundOperations
  pub operations_good : GoodOperations
  pub tests_sound : SoundTests
  pub benchmarks : Benchmarks
  -- what the contracts say of accepted answers
  pub contracts : ContractClaims
  pub calls : Calls
  -- 02: S-3, S-5, S-8, S-11, S-14, S-17, S-19, S-22, S-24, S-27, S-30
  pub series : SeriesPromises
  pub products : Products
  pub old_sense : OldSense
  pub sense_by_strips : SenseByStrips
  pub mirrors : Mirrors
  pub selections : SelectionPromises
  pub group_lengths : GroupLengths
  pub made_proposals : MadeProposals
  pub tighter_roots : TighterRoots
  pub positions : Positions
  pub former_numbers : FormerNumbers
  pub kinder_default : KinderDefault
  pub conversions : Conversions
  pub report_records : ReportRecords
  pub report_rooms : ReportRooms
  pub reports_exactly : ReportsExactly
