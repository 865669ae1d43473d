-- Laws of the numbers in a job's bytes.
use mathlib.Core.Path.{◌≡◌, refl, ap, ◌∙◌}
use mathlib.Core.List.{List}
use Prim.Native.Nat.{ℕ, zero, suc, ◌+◌, ◌*◌, ◌<◌}
use native.Mathlib.Omega.{arith}
use lib.IntN.{ℤ}
use lib.ListN.{length, get_or}
use Rattle.job.specs.definitions.Bytes.{unsigned_at, signed, signeds_at}

pub length-signeds_at : (s : List ℕ) (i n : ℕ) → length (signeds_at s i n) ≡ n
unfolding signeds_at
length-signeds_at s i zero = refl
length-signeds_at s i (suc n) = ap suc (length-signeds_at s (i + 4) n)

pub get_d_signeds_at : (s : List ℕ) (i n k : ℕ) (z : ℤ) → k < n → get_or (signeds_at s i n) k z ≡ signed (unsigned_at s (i + 4 * k))
unfolding signeds_at
get_d_signeds_at s i zero k z h = absurd (omega arith)
get_d_signeds_at s i (suc n) zero z h = ap (λ (j : ℕ). signed (unsigned_at s j)) (omega arith)
get_d_signeds_at s i (suc n) (suc k) z h =
    get_d_signeds_at s (i + 4) n k z (omega arith) ∙ ap (λ (j : ℕ). signed (unsigned_at s j)) (omega arith)
