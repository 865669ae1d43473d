-- What the lines of the results need.
use Rattle.std.specs.Prelude.{List, ℕ, ◌≤◌, ℤ, length}
use Rattle.job.specs.definitions.Reading.{max_results}
use Rattle.job.specs.definitions.Work.{work_size}

-- a whole work area, and no more results than it has room for
abbrev pub Printable : List ℤ → ℕ → Type 0
Printable work count = (work_size ≤ length work) × (count ≤ max_results)
