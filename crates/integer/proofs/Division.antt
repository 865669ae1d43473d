-- What floor, modulo and up share: the truncated quotient and remainder of n by d ≥ 1, and the correction of each.
use mathlib.Core.Path.{◌≡◌, ◌∙◌, ap}
use Prim.Native.Nat.{ℕ, ◌+◌, ◌≤◌, ◌<◌}
use native.Mathlib.Omega.{arith}
use native.Mathlib.Nat.{mul-le-mul_left}
use lib.IntN.{ℤ, pos, nat_abs, ◌+ℤ◌, ◌-ℤ◌, ◌*ℤ◌}
use lib.Signed.{◌<ℤ◌, quot_z, rem_z}
use mir.Syntax.{w64}
use mir.Val.{SFits, to_z, of_z}
use mir.Facts.{to_z-of_z}
use Rattle.ring.specs.laws.Parts.{◌⁺, ◌⁻, abs, apart, sum, difference}
use Rattle.ring.specs.laws.Difference.{all3, differences}
use Rattle.integer.proofs.laws.Machine.{fits, within, is_positive, positive_is, positive_bits, Truncated, truncated}
use Rattle.integer.specs.definitions.Rounding.{floor, up}
use Rattle.integer.proofs.laws.RoundingLaws.{floor_left, up_left}

rest : (n m x : ℤ) → n ≡ m +ℤ x → x ≡ n -ℤ m
rest = all3 _ (simp differences (omega arith))

-- ---- the truncated quotient q and remainder r: the code takes q, q − 1 or q + 1 by what its tests say of r

module _ (n : ℤ) (d : ℕ) (q r : ℤ) (t : Truncated n d q r) where
  split_down : n ≡ (q -ℤ pos 1) *ℤ pos d +ℤ (r +ℤ pos d)
  split_down = t.split ∙ go q (pos d) r
    where
      go : (q d r : ℤ) → q *ℤ d +ℤ r ≡ (q -ℤ pos 1) *ℤ d +ℤ (r +ℤ d)
      go = all3 _ (simp differences (omega arith))

  left_down : 0 < r ⁻ → ((r +ℤ pos d) ⁻ ≡ 0) × ((r +ℤ pos d) ⁺ + r ⁻ ≡ d)
  left_down h = omega (arith, abs r, apart r, sum r (pos d), apart (r +ℤ pos d))

  split_up : n ≡ (q +ℤ pos 1) *ℤ pos d +ℤ (r -ℤ pos d)
  split_up = t.split ∙ go q (pos d) r
    where
      go : (q d r : ℤ) → q *ℤ d +ℤ r ≡ (q +ℤ pos 1) *ℤ d +ℤ (r -ℤ d)
      go = all3 _ (simp differences (omega arith))

  left_up : 0 < r ⁺ → ((r -ℤ pos d) ⁺ ≡ 0) × ((r -ℤ pos d) ⁻ + r ⁺ ≡ d)
  left_up h = omega (arith, abs r, apart r, difference r (pos d), apart (r -ℤ pos d))

  pub floor_at : r ⁻ ≡ 0 → q ≡ floor n d
  floor_at h = floor_left n q r d t.split h (omega (arith, abs r))

  pub floor_down : 0 < r ⁻ → q -ℤ pos 1 ≡ floor n d
  floor_down h = floor_left n (q -ℤ pos 1) (r +ℤ pos d) d split_down (left_down h).0 (omega (arith, left_down h))

  pub up_at : r ⁺ ≡ 0 → q ≡ up n d
  up_at h = up_left n q r d t.split h (omega (arith, abs r))

  pub up_above : 0 < r ⁺ → q +ℤ pos 1 ≡ up n d
  up_above h = up_left n (q +ℤ pos 1) (r -ℤ pos d) d split_up (left_up h).0 (omega (arith, left_up h))

  -- what floor leaves
  pub rest_at : r ⁻ ≡ 0 → r ≡ n -ℤ floor n d *ℤ pos d
  rest_at h = rest n (q *ℤ pos d) r t.split ∙ ap (λ c. n -ℤ c *ℤ pos d) (floor_at h)

  pub rest_down : 0 < r ⁻ → r +ℤ pos d ≡ n -ℤ floor n d *ℤ pos d
  rest_down h = rest n ((q -ℤ pos 1) *ℤ pos d) (r +ℤ pos d) split_down ∙ ap (λ c. n -ℤ c *ℤ pos d) (floor_down h)

-- ---- in 64 bits: what the code divides

pub record Operands : Type 0 where
  pub n : ℤ
  pub d : ℤ
  pub fits_n : SFits w64 n
  pub fits_d : SFits w64 d
  pub positive : pos 0 <ℤ d

module _ (o : Operands) where
  open o use {n, d, fits_n, fits_d}

  abbrev pub q : ℤ
  q = quot_z n d

  abbrev pub r : ℤ
  r = rem_z n d

  pub t : Truncated n (nat_abs d) q r
  t = truncated n d (is_positive d o.positive)

  q_fits : SFits w64 q
  q_fits = fits w64 q (omega (arith, t, within w64 n fits_n)) (omega (arith, t, within w64 n fits_n))

  r_fits : SFits w64 r
  r_fits = fits w64 r (omega (arith, t, within w64 n fits_n)) (omega (arith, t, within w64 n fits_n))

  -- what the machine's / and % ask
  pub asks : (0 < of_z w64 d) × SFits w64 (quot_z (to_z w64 (of_z w64 n)) (to_z w64 (of_z w64 d)))
  asks = simp (to_z-of_z fits_n, to_z-of_z fits_d) (positive_bits w64 d (is_positive d o.positive), q_fits)

  -- what they give, read back
  pub q_is : to_z w64 (of_z w64 (quot_z (to_z w64 (of_z w64 n)) (to_z w64 (of_z w64 d)))) ≡ q
  q_is = simp (to_z-of_z fits_n, to_z-of_z fits_d, to_z-of_z q_fits)

  pub r_is : to_z w64 (of_z w64 (rem_z (to_z w64 (of_z w64 n)) (to_z w64 (of_z w64 d)))) ≡ r
  r_is = simp (to_z-of_z fits_n, to_z-of_z fits_d, to_z-of_z r_fits)

  -- a remainder that is not 0 shows d ≥ 2, so the quotient is at most half of n
  wide : 0 < nat_abs r → 2 ≤ nat_abs d
  wide p = omega (arith, t.small)

  pub q_up_fits : 0 < r ⁺ → SFits w64 (q +ℤ pos 1)
  q_up_fits p =
      fits w64 (q +ℤ pos 1)
      (omega (arith, sum q (pos 1), t, within w64 n fits_n, mul-le-mul_left (q ⁺) (wide (omega (arith, abs r)))))
      (omega (arith, sum q (pos 1), t, within w64 n fits_n))

  pub q_down_fits : 0 < r ⁻ → SFits w64 (q -ℤ pos 1)
  q_down_fits p =
      fits w64 (q -ℤ pos 1)
      (omega (arith, difference q (pos 1), t, within w64 n fits_n))
      (omega (arith, difference q (pos 1), t, within w64 n fits_n, mul-le-mul_left (q ⁻) (wide (omega (arith, abs r)))))

  -- the contracts' d is an argument, that of the laws a natural number
  pub divisor : d ≡ pos (nat_abs d)
  divisor = positive_is d (is_positive d o.positive)

  -- what modulo gives where the remainder is negative
  pub r_up_fits : 0 < r ⁻ → SFits w64 (r +ℤ d)
  r_up_fits p =
      fits w64 (r +ℤ d)
      (omega (arith, sum r d, apart r, within w64 d fits_d))
      (omega (arith, sum r d, t.small, abs r, abs d, is_positive d o.positive, apart d, apart (r +ℤ d)))
