-- What inner functions ask of their callers and answer to them. The contracts of the entries do not speak of this.
use Rattle.std.specs.Prelude.{◌≡◌, false, ◌&&◌, ◌||◌, List, ℕ, ◌+◌, ◌≤◌, ◌<◌, Option, None, Some, leb, length}
use Rattle.job.specs.definitions.Bytes.{byte_at}
use Rattle.job.specs.definitions.Operations.{names_bad}
use Rattle.job.specs.definitions.Decode.{operands_for, layout_for, maker_at, Command, edition, result, finish, unknown, command_at}
use Rattle.job.specs.definitions.Outcomes.{JobOutcome, accepted, refused}
use Rattle.job.specs.definitions.Reading.{max_results, bad_names, makes_result}
use Rattle.job.specs.definitions.Reader.{JobReading, well, ill}
use Rattle.job.specs.declared.types.Operation.{Operation}
use Rattle.job.specs.declared.types.Kind.{Kind}
use Rattle.survey.specs.definitions.Degrees.{maker_degree}

-- ---- one command

-- byte i of the job names a result whose degree is there
pub record NamesOne (job : List ℕ) (i : ℕ) (ds : List ℕ) : Type 0 where
  pub inside : i < length job
  pub name : byte_at job i < length ds

-- the two bytes after a command name results whose degrees are there
pub record NamesTwo (job : List ℕ) (at : ℕ) (ds : List ℕ) : Type 0 where
  pub inside : at + 2 < length job
  pub names : (leb (length ds) (byte_at job (at + 1)) || leb (length ds) (byte_at job (at + 2))) ≡ false

-- a command that makes a result: its operands are there, and the degrees of the results that it names
pub record TellsDegree (op : Operation) (job : List ℕ) (at : ℕ) (ds : List ℕ) : Type 0 where
  pub names : names_bad (maker_at op job at) (length ds) ≡ false
  pub room : at + 1 + (operands_for op).width ≤ length job

-- ---- the walk over the commands

-- a command that was read, after results of the degrees ds
pub record Converting (kind : Kind) (job : List ℕ) (at : ℕ) (ds : List ℕ) : Type 0 where
  pub names : bad_names (command_at kind job at) (length ds) ≡ false
  pub room : at + 1 + (layout_for kind).width ≤ length job

-- the same of a list that holds `count` degrees at its front
pub record Advancing (kind : Kind) (job : List ℕ) (at : ℕ) (list : List ℕ) (count : ℕ) : Type 0 where
  pub names : bad_names (command_at kind job at) count ≡ false
  pub space : (makes_result kind && leb max_results count) ≡ false
  pub room : at + 1 + (layout_for kind).width ≤ length job
  pub few : count ≤ max_results
  pub long : length list ≡ max_results

-- the degree of the result that a command makes
abbrev pub degree_made : Command → List ℕ → Option ℕ
degree_made edition ds = None
degree_made (result m) ds = Some (maker_degree m ds)
degree_made finish ds = None
degree_made unknown ds = None

-- what the walk answers: of a job that reads well the count of its results
abbrev pub reading_outcome : JobReading → JobOutcome ℕ
reading_outcome (well cs) = accepted (length cs)
reading_outcome (ill n k) = refused n k

-- what is answered where the output is too short
abbrev pub short_output : JobOutcome ℕ → JobOutcome ℕ
short_output (accepted count) = refused 20 0
short_output (refused n k) = refused n k
