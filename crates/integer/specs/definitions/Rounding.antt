-- Division of a whole number n by a natural divisor d ≥ 1, rounded. RoundingLaws.antt has the bounds that fix each.
use Rattle.std.specs.Prelude.{cond, ℕ, ◌+◌, ◌-◌, ◌*◌, ◌/◌, ◌%◌, leb, ℤ, pos, negsuc, neg_ℤ, nat_abs, ◌+ℤ◌, ◌-ℤ◌, ◌*ℤ◌}

-- "the whole number below or at" n/d
unfoldable pub floor : ℤ → ℕ → ℤ
floor (pos a) d = pos (a / d)
floor (negsuc a) d = negsuc (a / d)

-- "Up" means the least whole number not below.
unfoldable pub up : ℤ → ℕ → ℤ
up n d = neg_ℤ (floor (neg_ℤ n) d)

-- the same for a natural n
unfoldable pub upℕ : ℕ → ℕ → ℕ
upℕ n d = (n + (d - 1)) / d

-- 0 of an even whole number, 1 of an odd one
abbrev pub parity : ℤ → ℕ
parity c = nat_abs c % 2

-- "Near" means the nearest whole number (01), and "sends a tie to the even whole number" (02, S-11): c below or at n/d if n lies
-- less than half of d above c·d, or exactly half and c is even; else c + 1.
unfoldable pub near : ℤ → ℕ → ℤ
near n d = let c = floor n d in cond (leb (2 * nat_abs (n -ℤ c *ℤ pos d) + parity c) d) c (c +ℤ pos 1)
