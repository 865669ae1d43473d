-- The least radius of closed numbers M, m and b, where a search may go wrong.
use Rattle.std.specs.Prelude.{◌≡◌, refl, Some, None}
use Rattle.std.proofs.Common.{arith}
use Rattle.radius.specs.definitions.LeastRadius.{least_radius}
use Rattle.radius.proofs.laws.SearchLaws.{large_displacement, no_displacement, next_found, next_missing, scale_missing}

-- b = 0
pub at_zero : least_radius 1 0 0 ≡ Some 0
at_zero = no_displacement 1 0 0 refl

-- the least r is v + 1
pub next_one : least_radius 5908123 459693 7337 ≡ Some 26129
next_one = next_found 5908123 459693 7337 26128 (omega arith) (λ f. absurd (omega arith)) (omega arith) (omega arith)

pub next_two : least_radius 716408 936927 2175 ≡ Some 40854
next_two = next_found 716408 936927 2175 40853 (omega arith) (λ f. absurd (omega arith)) (omega arith) (omega arith)

-- S − m = 5: r = S, and none where b is one more
pub whole-scale : least_radius 1 1048571 3 ≡ Some 1048576
whole-scale = next_found 1 1048571 3 1048575 (omega arith) (λ f. absurd (omega arith)) (omega arith) (omega arith)

pub beyond-scale : least_radius 1 1048571 4 ≡ None
beyond-scale = scale_missing 1 1048571 4 (omega arith) (λ f. absurd (omega arith))

-- for M = 1 and m = 0 the greatest b that has a radius is S − 2
pub greatest_displacement : least_radius 1 0 1048574 ≡ Some 1048576
greatest_displacement = next_found 1 0 1048574 1048575 (omega arith) (λ f. absurd (omega arith)) (omega arith) (omega arith)

pub beyond_greatest : least_radius 1 0 1048575 ≡ None
beyond_greatest = scale_missing 1 0 1048575 (omega arith) (λ f. absurd (omega arith))

-- b·S² is a multiple of 2^64 here
pub wrapped : least_radius 268435456 0 16777216 ≡ None
wrapped = large_displacement 268435456 0 16777216 (omega arith)

-- numbers that 0x21 accepts: f = 116509, h = 349526, w = 18, and f = 224·S, h = 16·S, w = S/32
pub missing_small : least_radius 18 1048564 1 ≡ None
missing_small =
    next_missing 18 1048564 1 174762 (omega arith) (omega arith) (λ f. absurd (omega arith)) (λ f. absurd (omega arith))

pub missing_large : least_radius 32768 0 1048576 ≡ None
missing_large = scale_missing 32768 0 1048576 (omega arith) (λ f. absurd (omega arith))
