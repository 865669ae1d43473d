-- floor, up and near at closed numbers, by computation: ties on both sides of 0 and both ends of the signed 64-bit numbers, which
-- go from −2^63 = −9223372036854775808 to 2^63 − 1.
use Rattle.std.specs.Prelude.{◌≡◌, refl, pos, negsuc}
use Rattle.integer.specs.definitions.Rounding.{floor, up, near}

-- ---- ties go to the even number

near-half : near (pos 1) 2 ≡ pos 0
unfolding near floor
near-half = refl

near_minus_half : near (negsuc 0) 2 ≡ pos 0
unfolding near floor
near_minus_half = refl

near_three_halves : near (pos 3) 2 ≡ pos 2
unfolding near floor
near_three_halves = refl

near_minus_three_halves : near (negsuc 2) 2 ≡ negsuc 1
unfolding near floor
near_minus_three_halves = refl

near_five_halves : near (pos 5) 2 ≡ pos 2
unfolding near floor
near_five_halves = refl

near_minus_five_halves : near (negsuc 4) 2 ≡ negsuc 1
unfolding near floor
near_minus_five_halves = refl

up_seven_halves : up (pos 7) 2 ≡ pos 4
unfolding up floor
up_seven_halves = refl

up_minus_seven_halves : up (negsuc 6) 2 ≡ negsuc 2
unfolding up floor
up_minus_seven_halves = refl

floor_minus_seven_halves : floor (negsuc 6) 2 ≡ negsuc 3
unfolding floor
floor_minus_seven_halves = refl

-- ---- numerators at both ends

near_lowest : near (negsuc 9223372036854775807) 1 ≡ negsuc 9223372036854775807
unfolding near floor
near_lowest = refl

near_lowest_third : near (negsuc 9223372036854775807) 3 ≡ negsuc 3074457345618258602
unfolding near floor
near_lowest_third = refl

-- (−2^63 + 1)/2 = −2^62 + 1/2, the tie next to the lowest number: −2^62
near_tie_low : near (negsuc 9223372036854775806) 2 ≡ negsuc 4611686018427387903
unfolding near floor
near_tie_low = refl

-- (2^63 − 1)/2 = 2^62 − 1/2, a tie: 2^62
near_tie_high : near (pos 9223372036854775807) 2 ≡ pos 4611686018427387904
unfolding near floor
near_tie_high = refl

-- ---- divisors at the high end, 2^63 − 1 and the even number below it

near_lowest_most : near (negsuc 9223372036854775807) 9223372036854775807 ≡ negsuc 0
unfolding near floor
near_lowest_most = refl

near_most_most : near (pos 9223372036854775807) 9223372036854775807 ≡ pos 1
unfolding near floor
near_most_most = refl

-- 2^62 is above one half of 2^63 − 1, and 2^62 − 1 below it; their opposites likewise
near_above_half_most : near (pos 4611686018427387904) 9223372036854775807 ≡ pos 1
unfolding near floor
near_above_half_most = refl

near_below_half_most : near (pos 4611686018427387903) 9223372036854775807 ≡ pos 0
unfolding near floor
near_below_half_most = refl

near_minus_above_half_most : near (negsuc 4611686018427387903) 9223372036854775807 ≡ negsuc 0
unfolding near floor
near_minus_above_half_most = refl

near_minus_below_half_most : near (negsuc 4611686018427387902) 9223372036854775807 ≡ pos 0
unfolding near floor
near_minus_below_half_most = refl

-- (2^62 − 1)/(2^63 − 2) = 1/2, a tie, and its opposite
near_tie_most : near (pos 4611686018427387903) 9223372036854775806 ≡ pos 0
unfolding near floor
near_tie_most = refl

near_minus_tie_most : near (negsuc 4611686018427387902) 9223372036854775806 ≡ pos 0
unfolding near floor
near_minus_tie_most = refl

-- (2^63 − 2)/(4·(2^62 − 1)/3) = 3/2, a tie whose divisor is above 2^62, and its opposite
near_tie_wide : near (pos 9223372036854775806) 6148914691236517204 ≡ pos 2
unfolding near floor
near_tie_wide = refl

near_minus_tie_wide : near (negsuc 9223372036854775805) 6148914691236517204 ≡ negsuc 1
unfolding near floor
near_minus_tie_wide = refl
