-- "exact work on its bits": what the bits of an f64 stand for: the sign's, the exponent's 11, and the 52 digits behind them.
use Rattle.std.specs.Prelude.{Bool, ℕ, zero, suc, ◌+◌, ◌-◌, ◌*◌, ◌/◌, ◌%◌, ◌^◌, leb, Float}
use Rattle.std.specs.Float.{binary64}
use Rattle.std.specs.Float.Ieee.{to_bits}

abbrev pub sign_bit : Float → Bool
sign_bit x = leb (2 ^ 63) (to_bits binary64 x)

abbrev pub exponent_field : Float → ℕ
exponent_field x = to_bits binary64 x / 2 ^ 52 % 2048

abbrev pub last_digits : Float → ℕ
last_digits x = to_bits binary64 x % 2 ^ 52

-- the digits with the leading one, which a field of 0 lacks
abbrev pub all_digits : ℕ → ℕ → ℕ
all_digits zero t = t
all_digits (suc k) t = 2 ^ 52 + t

-- the size of the value, in multiples of 2^-1074
abbrev pub bits_size : Float → ℕ
bits_size x = all_digits (exponent_field x) (last_digits x) * 2 ^ (exponent_field x - 1)
