-- Document 02, S-11: "A mirrored crown must give mirrored models", of the commands of a job. Loads and candidates are mirrored,
-- each on its own interval; the names of results, a kept degree and a root's rule stay.
use Rattle.model.specs.definitions.Mirror.{mirrored, mirrored_candidate}
use Rattle.job.specs.definitions.Operations.{Maker, load, add, subtract, multiply, quotient, root}
use Rattle.job.specs.definitions.Decode.{Command, edition, result, finish, unknown}

abbrev pub mirrored_maker : Maker → Maker
mirrored_maker (load m) = load (mirrored m)
mirrored_maker (add i j) = add i j
mirrored_maker (subtract i j) = subtract i j
mirrored_maker (multiply i j d) = multiply i j d
mirrored_maker (quotient i j h w) = quotient i j (mirrored_candidate h) (mirrored_candidate w)
mirrored_maker (root rule i h w) = root rule i (mirrored_candidate h) (mirrored_candidate w)

abbrev pub mirrored_command : Command → Command
mirrored_command edition = edition
mirrored_command (result m) = result (mirrored_maker m)
mirrored_command finish = finish
mirrored_command unknown = unknown
