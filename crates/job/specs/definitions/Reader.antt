-- Reading a whole job, on its bytes alone: "A job reads well if none of its commands meets a refusal numbered 9 to 13, with
-- models, tests and results unchecked."
use Rattle.std.specs.Prelude.{◌≡◌, List, [], ◌∷◌, ◌++◌, ℕ, zero, suc, ◌+◌, length, get_or}
use Rattle.model.specs.definitions.Outcomes.{passing}
use Rattle.job.specs.definitions.Decode.{Command, edition, result, finish, unknown}
use Rattle.job.specs.definitions.Reading.{reading_places, command_read, next_at}

-- read to its end, with the commands of its results in the order of their numbers; or refused with a number and a command
pub data JobReading : Type 0 where
  well : List Command → JobReading
  ill : ℕ → ℕ → JobReading

-- what command k, which was read, leaves to read
abbrev pub read_on : ℕ → (List Command → JobReading) → List Command → Command → JobReading
read_on k next cs edition = next cs
read_on k next cs (result m) = next (cs ++ (result m ∷ []))
read_on k next cs finish = well cs
read_on k next cs unknown = ill 9 k

-- from command k at a position on, the commands of the results before it being cs
unfoldable pub read_from : ℕ → List ℕ → ℕ → List Command → ℕ → JobReading
read_from zero job k cs at = ill 10 k
read_from (suc f) job k cs at =
    passing (reading_places job k (length cs) at)
    (read_on k (λ cs'. read_from f job (k + 1) cs' (next_at job k (length cs) at)) cs (command_read job k (length cs) at))
    (λ n. ill n k)

unfoldable pub job_reading : List ℕ → JobReading
job_reading job = read_from (length job + 1) job 0 [] 0

-- 01's term "reads well"
abbrev pub ReadsWell : List ℕ → Type 0
ReadsWell job = (cs : List Command) × (job_reading job ≡ well cs)

-- the command that makes result i
abbrev pub command_for : List Command → ℕ → Command
command_for cs i = get_or cs i finish
