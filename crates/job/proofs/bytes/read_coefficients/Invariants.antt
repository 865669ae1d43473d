-- `bytes::read_coefficients` meets its contract: the numbers before the loop's own are read.
use Rattle.std.proofs.Common.{◌≡◌, ℕ, ◌+◌, ◌*◌, ◌<◌, pos, length, get_or}
use Rattle.job.specs.definitions.Bytes.{signed, unsigned_at}
use Rattle.job.proofs.bytes.read_coefficients.Given as goal

abbrev pub invariant-loop-k : goal.invariant-loop-k
invariant-loop-k l =
    record { long : length l.coefficients ≡ 33; read : (j : ℕ) → j < l.k → get_or l.coefficients j (pos 0) ≡ signed (unsigned_at l.s (l.i + 4 * j)) }
