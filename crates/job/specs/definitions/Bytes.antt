-- Numbers in a job's bytes: "little-endian. A block is a degree byte and 33 signed 32-bit coefficients (133 bytes)."
use Rattle.std.specs.Prelude.{cond, List, [], ◌∷◌, ℕ, zero, suc, ◌+◌, ◌*◌, ◌-◌, ◌^◌, ltb, ℤ, pos, negsuc, get_or}
use Rattle.model.specs.definitions.Models.{coefficient_count, make_model}
use Rattle.model.specs.definitions.Intervals.{make_interval}
use Rattle.model.specs.declared.types.Candidate.{Candidate}
use Rattle.model.specs.declared.types.Interval.{Interval}
use Rattle.model.specs.declared.types.Model.{Model}

-- the byte at a position
abbrev pub byte_at : List ℕ → ℕ → ℕ
byte_at s i = get_or s i 0

-- the unsigned 32-bit number of the four bytes from i on, the lowest first
abbrev pub unsigned_at : List ℕ → ℕ → ℕ
unsigned_at s i = byte_at s i + 256 * byte_at s (i + 1) + 65536 * byte_at s (i + 2) + 16777216 * byte_at s (i + 3)

-- two's complement of 32 bits
abbrev pub signed : ℕ → ℤ
signed n = cond (ltb n (2 ^ 31)) (pos n) (negsuc (2 ^ 32 - 1 - n))

-- n signed 32-bit numbers from i on
unfoldable pub signeds_at : List ℕ → ℕ → ℕ → List ℤ
signeds_at s i zero = []
signeds_at s i (suc n) = signed (unsigned_at s i) ∷ signeds_at s (i + 4) n

-- the block from i on as a candidate, and as a model with a radius and an interval
abbrev pub candidate_at : List ℕ → ℕ → Candidate
candidate_at s i = record { degree = byte_at s i; coefficients = signeds_at s (i + 1) coefficient_count }

abbrev pub block_at : List ℕ → ℕ → ℕ → Interval → Model
block_at s i e j = make_model (byte_at s i) (signeds_at s (i + 1) coefficient_count) e j

-- 02, S-24: "l and u, signed 32-bit"
abbrev pub interval_at : List ℕ → ℕ → Interval
interval_at s i = make_interval (signed (unsigned_at s i)) (signed (unsigned_at s (i + 4)))
