-- The order of 01's table "Refused, and where" over a whole job: "A job is checked command by command, each passing through
-- the places below in turn before the next is read." A list of places is a list of conditions with their numbers.
use Rattle.std.specs.Prelude.{◌≡◌, Bool, true, false, List, [], ◌∷◌, ◌++◌, ◌⊎◌, ℕ, ◌+◌, length}
use Rattle.model.specs.definitions.Outcomes.{payload, Passed, First}
use Rattle.model.specs.declared.types.Model.{Model}
use Rattle.job.specs.definitions.Operations.{operation, maker_places}
use Rattle.job.specs.definitions.Decode.{Command, edition, result, finish, unknown}
use Rattle.job.specs.definitions.Reading.{shape_at, command_read, next_at, is_end, reading_places}

-- the places that a command's operation passes through
abbrev pub operation_places : Command → List Model → List (Bool × ℕ)
operation_places edition rs = []
operation_places (result m) rs = maker_places m rs
operation_places finish rs = []
operation_places unknown rs = []

-- the results after a command
abbrev pub results_after : Command → List Model → List Model
results_after edition rs = rs
results_after (result m) rs = rs ++ ((payload (operation m rs)).model ∷ [])
results_after finish rs = rs
results_after unknown rs = rs

-- command k at a position, after the results rs
module _ (job : List ℕ) (k : ℕ) (rs : List Model) (at : ℕ) where
  -- the places that it passes through: those of reading, then those of its operation
  unfoldable pub command_places : List (Bool × ℕ)
  command_places = reading_places job k (length rs) at ++ operation_places (command_read job k (length rs) at) rs

  abbrev pub is_last : Bool
  is_last = is_end (shape_at job k (length rs) at).kind

-- command k is reached at a position with the results rs: every earlier command passed all its places, and none of them is
-- the end
pub data Reaches (job : List ℕ) : ℕ → List Model → ℕ → Type 0 where
  start : Reaches job 0 [] 0
  next : {k : ℕ} {rs : List Model} {at : ℕ} → Reaches job k rs at
      → Passed (command_places job k rs at) → is_last job k rs at ≡ false
      → Reaches job (k + 1) (results_after (command_read job k (length rs) at) rs) (next_at job k (length rs) at)

-- command k refuses with number n: it is reached, and its first place that holds has this number
abbrev pub RefusesAt : List ℕ → ℕ → ℕ → Type 0
RefusesAt job n k = (rs : List Model) × (at : ℕ) × Reaches job k rs at × First (command_places job k rs at) n

-- an end is reached with the results rs, and passes all its places
abbrev pub EndsWith : List ℕ → List Model → Type 0
EndsWith job rs = (k : ℕ) × (at : ℕ) × Reaches job k rs at × Passed (command_places job k rs at) × (is_last job k rs at ≡ true)

-- a job over lent areas meets refusal n at command k: in the places of the areas, "refusal 1 goes with command 0", or behind
-- them in those of its commands
abbrev pub Meets : List (Bool × ℕ) → List ℕ → ℕ → ℕ → Type 0
Meets areas job n k = (First areas n × (k ≡ 0)) ⊎ (Passed areas × RefusesAt job n k)
