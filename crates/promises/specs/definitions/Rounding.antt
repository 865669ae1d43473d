-- 01, "Models and values", and 02, S-11: what "up" and "near" mean. Nothing else meets their bounds.
use Rattle.std.specs.Prelude.{◌≡◌, ℕ, ◌+◌, ◌*◌, ◌≤◌, ◌<◌, ℤ, pos, nat_abs, ◌+ℤ◌, ◌-ℤ◌, ◌*ℤ◌, ◌≤ℤ◌, ◌<ℤ◌}
use Rattle.integer.specs.definitions.Rounding.{floor, up, upℕ, near, parity}

pub record RoundingPromises : Type 0 where
  -- 01: "the whole number below or at" n/d
  pub floor_bounds : (n : ℤ) (d : ℕ) → 0 < d → ((floor n d *ℤ pos d) ≤ℤ n) × (n <ℤ (floor n d *ℤ pos d +ℤ pos d))
  pub floor_unique : (n c : ℤ) (d : ℕ) → 0 < d → (c *ℤ pos d) ≤ℤ n → n <ℤ (c *ℤ pos d +ℤ pos d) → c ≡ floor n d
  -- 01: ""Up" means the least whole number not below."
  pub up_bounds : (n : ℤ) (d : ℕ) → 0 < d → (n ≤ℤ (up n d *ℤ pos d)) × ((up n d *ℤ pos d) <ℤ (n +ℤ pos d))
  pub up_unique : (n c : ℤ) (d : ℕ) → 0 < d → n ≤ℤ (c *ℤ pos d) → (c *ℤ pos d) <ℤ (n +ℤ pos d) → c ≡ up n d
  pub upℕ_bounds : (n d : ℕ) → 0 < d → (n ≤ upℕ n d * d) × (upℕ n d * d < n + d)
  -- 01: ""Near" means the nearest whole number"
  pub near_error : (n : ℤ) (d : ℕ) → 0 < d → 2 * nat_abs (near n d *ℤ pos d -ℤ n) ≤ d
  -- 02, S-11: ""near" sends a tie to the even whole number"
  pub near_even : (n : ℤ) (d : ℕ) → 0 < d → 2 * nat_abs (near n d *ℤ pos d -ℤ n) ≡ d → parity (near n d) ≡ 0
  pub near_unique : (n c : ℤ) (d : ℕ) → 0 < d → 2 * nat_abs (c *ℤ pos d -ℤ n) ≤ d
      → (2 * nat_abs (c *ℤ pos d -ℤ n) ≡ d → parity c ≡ 0)
      → c ≡ near n d
