-- Sums over strips of equal width: the value at each strip's left end times the width.
use Rattle.std.specs.Prelude.{ℕ, zero, suc, pos}
use Rattle.fraction.specs.definitions.Fraction.{ℚ, whole, ◌+ℚ◌, ◌*ℚ◌}

-- k strips of width h, the first from y to y + h: f(y)·h + f(y + h)·h + … + f(y + (k − 1)·h)·h
unfoldable pub left_sum : (ℚ → ℚ) → ℚ → ℚ → ℕ → ℚ
left_sum f y h zero = whole (pos 0)
left_sum f y h (suc k) = f y *ℚ h +ℚ left_sum f (y +ℚ h) h k
