-- The meaning of one command: its reading, then its operation.
use Rattle.std.specs.Prelude.{List, [], ◌∷◌, ◌++◌, ℕ, length}
use Rattle.model.specs.definitions.Outcomes.{Outcome, passing}
use Rattle.certificate.specs.definitions.Tests.{Certificate}
use Rattle.model.specs.declared.types.Model.{Model}
use Rattle.job.specs.definitions.Operations.{operation}
use Rattle.job.specs.definitions.Decode.{Command, edition, result, finish, unknown}
use Rattle.job.specs.definitions.Reading.{reading_places, command_read, next_at}

-- what a command does: the results then, or their count, and the next position; the end of the job; a refusal
pub data Step (A : Type 0) : Type 0 where
  more : A → ℕ → Step A
  over : Step A
  refused : ℕ → Step A

-- the operation's answer becomes the next result
abbrev pub resulting : List Model → ℕ → Outcome Certificate → Step (List Model)
resulting rs next (Outcome.accepted c) = more (rs ++ (c.model ∷ [])) next
resulting rs next (Outcome.refused n c) = refused n

-- an unknown command is no end: reading refuses it, and so does this
abbrev pub performed : Command → List Model → ℕ → Step (List Model)
performed edition rs next = more rs next
performed (result m) rs next = resulting rs next (operation m rs)
performed finish rs next = over
performed unknown rs next = refused 9

-- command k at a position, after the results rs: its reading, then its operation
unfoldable pub command : List ℕ → ℕ → List Model → ℕ → Step (List Model)
command job k rs at =
    passing (reading_places job k (length rs) at)
    (performed (command_read job k (length rs) at) rs (next_at job k (length rs) at))
    refused
