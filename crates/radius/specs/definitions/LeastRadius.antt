-- Document 02, S-22: "the least whole r from 0 to S with 2·M·r² + b·S² ≤ (S−m)·S·r", or none.
use Rattle.std.specs.Prelude.{Bool, true, false, cond, ℕ, zero, suc, ◌+◌, ◌*◌, ◌-◌, ◌≤◌, ◌<◌, leb, Option, Some, None}
use Rattle.model.specs.definitions.Models.{scale}

-- "2·M·r² + b·S² ≤ (S−m)·S·r", as a statement and as a test
abbrev pub RadiusSatisfies : ℕ → ℕ → ℕ → ℕ → Type 0
RadiusSatisfies M m b r = 2 * M * (r * r) + b * (scale * scale) ≤ (scale - m) * scale * r

abbrev pub radius_satisfies : ℕ → ℕ → ℕ → ℕ → Bool
radius_satisfies M m b r = leb (2 * M * (r * r) + b * (scale * scale)) ((scale - m) * scale * r)

-- the first of the n numbers k, k+1, … that passes a test; `let`, or the prover computes what is behind k in any case
unfoldable pub first_of : (ℕ → Bool) → ℕ → ℕ → Option ℕ
first_of test zero k = None
first_of test (suc n) k = let later = first_of test n (suc k) in cond (test k) (Some k) later

-- "the least whole r from 0 to S"
unfoldable pub least_radius : ℕ → ℕ → ℕ → Option ℕ
least_radius M m b = first_of (radius_satisfies M m b) (suc scale) 0

-- "no such r exists"
abbrev pub is_missing : Option ℕ → Bool
is_missing (Some r) = false
is_missing None = true

-- r; 0 where there is none, and then the test is refused
abbrev pub radius_of : Option ℕ → ℕ
radius_of (Some r) = r
radius_of None = 0

-- r is at most S, satisfies, and nothing smaller does
pub record IsLeast (M m b r : ℕ) : Type 0 where
  pub within : r ≤ scale
  pub satisfies : RadiusSatisfies M m b r
  pub least : (k : ℕ) → k < r → ¬ RadiusSatisfies M m b k
