-- What inner functions ask of their callers and answer to them: one command of the code, what it answers, and what the work area
-- holds before and after. The contract of the entry does not speak of this.
use Rattle.std.specs.Prelude.{◌≡◌, false, ◌&&◌, ◌||◌, List, [], ◌∷◌, ◌++◌, ℕ, ◌+◌, ◌*◌, ◌≤◌, ◌<◌, leb, ℤ, length, take, drop}
use Rattle.std.specs.Prelude.{Result as CodeResult, Ok, Err, Option, Some, None}
use Rattle.integer.specs.definitions.Lists.{zeros}
use Rattle.model.specs.definitions.Models.{coefficient_count, max_degree}
use Rattle.model.specs.definitions.Outcomes.{Outcome, accepted, refused, payload, number_of, passing}
use Rattle.model.specs.definitions.Area.{Storable}
use Rattle.certificate.specs.definitions.Tests.{scratch_size, scratch_after, Certificate}
use Rattle.model.specs.declared.types.Model.{Model}
use Rattle.model.specs.declared.types.Refusal.{Refusal}
use Rattle.job.specs.definitions.Bytes.{byte_at}
use Rattle.job.specs.definitions.Operations.{Maker, untested, names_bad, operation}
use Rattle.job.specs.definitions.Reading.{max_results, bad_names, makes_result, reading_places, command_read}
use Rattle.job.specs.definitions.Decode.{operands_for, layout_for, maker_at, command_at}
use Rattle.job.specs.definitions.Decode.{Command, edition, result, finish, unknown}
use Rattle.job.specs.definitions.Step.{Step, more, over}
use Rattle.job.specs.definitions.Work.{work_size, work_with}
use Rattle.job.specs.definitions.Reports.{record_size, record_bytes, zero_bytes, room_size}
use Rattle.job.specs.declared.types.Report.{Report}
use Rattle.job.specs.declared.types.Progress.{Progress}
use Rattle.job.specs.declared.types.Kind.{Kind}
use Rattle.job.specs.declared.types.Operation.{Operation}

-- each result has its 33 coefficients
abbrev pub Sized : List Model → Type 0
Sized [] = Unit
Sized (m ∷ rs) = (length m.coefficients ≡ coefficient_count) × Sized rs

-- a work area holds these results, with t behind its 1,184 numbers
pub record Holds (w : List ℤ) (count : ℕ) (rs : List Model) (t : List ℤ) : Type 0 where
  pub work_is : w ≡ work_with rs ++ t
  pub count_is : count ≡ length rs
  pub sized : Sized rs

-- the code's step: the progress after a command, none at the end of the job, or a refusal
abbrev pub CodeStep : Type 0
CodeStep = CodeResult (Option Progress) Refusal

-- its meaning, with the count of the results
abbrev pub step_of : CodeStep → Step ℕ
step_of (Ok (Some p)) = more p.results p.next
step_of (Ok None) = over
step_of (Err v) = Step.refused (number_of v)

-- with the count of the results in their place
abbrev pub counted_step : Step (List Model) → Step ℕ
counted_step (more rs next) = more (length rs) next
counted_step over = over
counted_step (Step.refused n) = Step.refused n

-- the results after a step
abbrev pub results_by : List Model → Step (List Model) → List Model
results_by rs (more rs' next) = rs'
results_by rs over = rs
results_by rs (Step.refused n) = rs

-- the code answers r and leaves w, where the definition's step is s and the results before it were rs
pub record Stepped (r : CodeStep) (w : List ℤ) (rs : List Model) (t : List ℤ) (s : Step (List Model)) : Type 0 where
  pub answer : step_of r ≡ counted_step s
  pub holds : Holds w (length (results_by rs s)) (results_by rs s) t

-- whatever results the area holds before, the code does the step that f gives for them
abbrev pub StepsBy : CodeStep → List ℤ → List ℤ → ℕ → (List Model → Step (List Model)) → Type 0
StepsBy r w w' count f = (rs : List Model) (t : List ℤ) → Holds w count rs t → Stepped r w' rs t (f rs)

-- ---- the operation of a command

-- an operation's outcome with m, N and b zero, where no test runs
abbrev pub untested_outcome : Outcome Model → Outcome Certificate
untested_outcome (accepted m) = accepted (untested m)
untested_outcome (refused n m) = refused n (untested m)

-- an outcome is what a maker gives for the results that a work area holds
pub record Performs (m : Maker) (w : List ℤ) (o : Outcome Certificate) : Type 0 where
  pub storable : Storable (payload o).model
  pub gives : (count : ℕ) (rs : List Model) (t : List ℤ) → Holds w count rs t → names_bad m count ≡ false → o ≡ operation m rs

-- a command that was read, as its operation needs it
pub record Operable (op : Operation) (job : List ℕ) (at : ℕ) (work : List ℤ) : Type 0 where
  pub names : names_bad (maker_at op job at) max_results ≡ false
  pub room : at + 1 + (operands_for op).width ≤ length job
  pub long : work_size ≤ length work

-- byte i of the job names a result, as reading it needs it
pub record NamesOne (job : List ℕ) (i : ℕ) (work : List ℤ) : Type 0 where
  pub inside : i < length job
  pub name : byte_at job i < max_results
  pub long : work_size ≤ length work

-- the two bytes after a command name results, as reading them needs it
pub record NamesTwo (job : List ℕ) (at : ℕ) (work : List ℤ) : Type 0 where
  pub names : (leb max_results (byte_at job (at + 1)) || leb max_results (byte_at job (at + 2))) ≡ false
  pub room : at + 2 < length job
  pub long : work_size ≤ length work

-- a command that was read, as performing it needs it
pub record Performable (kind : Kind) (job : List ℕ) (count at : ℕ) (work : List ℤ) : Type 0 where
  pub names : bad_names (command_at kind job at) count ≡ false
  pub space : (makes_result kind && leb max_results count) ≡ false
  pub few : count ≤ max_results
  pub room : at + 1 + (layout_for kind).width ≤ length job
  pub long : work_size ≤ length work

-- a model and the result i that it becomes
pub record Storing (work : List ℤ) (i : ℕ) (m : Model) : Type 0 where
  pub long : work_size ≤ length work
  pub inside : i < max_results
  pub storable : Storable m

-- a scratch whose 16 numbers are zero
pub record Clear (scratch : List ℤ) : Type 0 where
  pub long : scratch_size ≤ length scratch
  pub clear : scratch_after scratch ≡ scratch

-- the areas before a command, with so many results
pub record Between (work : List ℤ) (count : ℕ) (scratch : List ℤ) : Type 0 where
  pub long : work_size ≤ length work
  pub few : count ≤ max_results
  pub clear : Clear scratch

-- the areas before the first command
pub record Cleared (work scratch : List ℤ) : Type 0 where
  pub long : work_size ≤ length work
  pub zero : work ≡ zeros work_size ++ drop work_size work
  pub clear : Clear scratch

-- ---- the records of a command

-- a room with the bytes of the record of result i
abbrev pub written_at : Report → List ℕ → ℕ → List ℕ → List ℕ
written_at report room i bytes =
    take (record_size report * i) room ++ (bytes ++ drop (record_size report * i + record_size report) room)

-- with the records of results from result i on
unfoldable pub recorded_from : Report → List ℕ → ℕ → List Certificate → List ℕ
recorded_from report room i [] = room
recorded_from report room i (c ∷ cs) = recorded_from report (written_at report room i (record_bytes report i c)) (i + 1) cs

-- the certificates that a command adds: that of its result, or none
abbrev pub added_of : Outcome Certificate → List Certificate
added_of (accepted c) = c ∷ []
added_of (refused n c) = []

abbrev pub added_by : Command → List Model → List Certificate
added_by edition rs = []
added_by (result m) rs = added_of (operation m rs)
added_by finish rs = []
added_by unknown rs = []

unfoldable pub added_at : List ℕ → ℕ → List Model → ℕ → List Certificate
added_at job k rs at =
    passing (reading_places job k (length rs) at) (added_by (command_read job k (length rs) at) rs) (λ n. [])

-- whatever results the area holds before, the code writes the records of the certificates that f gives for them
abbrev pub RecordsBy : Report → List ℕ → List ℕ → List ℤ → ℕ → (List Model → List Certificate) → Type 0
RecordsBy report room room' w count f =
    (rs : List Model) (t : List ℤ) → Holds w count rs t → room' ≡ recorded_from report room count (f rs)

-- a result and the room for its record
pub record Recordable (report : Report) (room : List ℕ) (i degree : ℕ) : Type 0 where
  pub long : room_size report ≤ length room
  pub inside : i < max_results
  pub small : degree ≤ max_degree

-- the room before the first command
pub record ClearedRoom (report : Report) (room : List ℕ) : Type 0 where
  pub long : room_size report ≤ length room
  pub zero : room ≡ zero_bytes (room_size report) ++ drop (room_size report) room
