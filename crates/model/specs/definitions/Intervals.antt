-- Document 02, S-24: "Each model records two signed ends l < u in units, each from −2^28 to 2^28".
use Rattle.std.specs.Prelude.{Bool, ◌&&◌, ℕ, ◌^◌, eqb, ℤ, pos, neg_ℤ, nat_abs, ◌-ℤ◌}
use Rattle.std.specs.Int.Signed.{lt_z, le_z}
use Rattle.model.specs.declared.types.Interval.{Interval}

abbrev pub max_end : ℕ
max_end = 2 ^ 28

abbrev pub make_interval : ℤ → ℤ → Interval
make_interval l u = record { lower = l; upper = u }

unfoldable pub good_ends : Interval → Bool
good_ends i = (le_z (neg_ℤ (pos max_end)) i.lower && lt_z i.lower i.upper) && le_z i.upper (pos max_end)

-- u − l, which is positive where the ends are good
unfoldable pub extent : Interval → ℕ
extent i = nat_abs (i.upper -ℤ i.lower)

-- "0x10 and the converter of S-3 mean −S and S"
abbrev pub standard_interval : Interval
standard_interval = make_interval (neg_ℤ (pos (2 ^ 20))) (pos (2 ^ 20))

-- of the zero model
abbrev pub zero_interval : Interval
zero_interval = make_interval (pos 0) (pos 0)

-- "Number 19: two operands on different intervals"
unfoldable pub same_interval : Interval → Interval → Bool
same_interval i j = eqb (nat_abs (i.lower -ℤ j.lower)) 0 && eqb (nat_abs (i.upper -ℤ j.upper)) 0

-- "Number 4 is for points outside l..u."
unfoldable pub contains : Interval → ℤ → Bool
contains i p = le_z i.lower p && le_z p i.upper
