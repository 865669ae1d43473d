-- The values of 2^j units and of its inverse, for j up to 28: exact, a power of two as data, and a round of them gives the inverse again.
use Rattle.std.specs.Prelude.{◌≡◌, refl, true, List, [], ◌∷◌, ℕ, zero, suc, ◌+◌, ◌*◌, ◌^◌, ◌≤◌, ◌<◌, pos, get_or, drop, Float}
use Rattle.std.proofs.Math.Path.{sym}
use Rattle.std.proofs.Common.{◌∙◌, ap, subst, inl, inr, mul-pos, eq-or-lt_of_le, arith, lit<, pow_pos}
use Rattle.std.proofs.Math.Bool.{false}
use Rattle.std.proofs.Math.Dec.{T}
use Rattle.std.proofs.Math.Pow.{pow-lt}
use Rattle.std.specs.Float.{nan}
use Rattle.std.specs.Float.Ieee.{binary64, round, add, sub, mul, div, lt, eq, of_int}
use Rattle.std.specs.Float.Ieee.Bits.{is_true}
use Rattle.std.specs.Float.Ieee.Exact.{HasValue}
use Rattle.std.specs.Float.Ieee.Scale.{round_same, finite}
use Rattle.std.specs.Float.Ieee.Positive.{positive_of_value, positive-finite}
use Rattle.proposals.specs.definitions.Values.{nought, one, two, value_of, magnitude, difference}
use Rattle.proposals.specs.definitions.Product.{half}
use Rattle.proposals.specs.definitions.ExactCase.{exact_value}
use Rattle.proposals.proofs.laws.ValueExact.{value_exact}
use Rattle.proposals.proofs.laws.ValueOperations.{mul_at, div_at, add-nought, nought-add, mul-nought, nought-mul, add_same, eq-nought, sub_same, power_exact}
use Rattle.proposals.proofs.laws.ConstantProduct.{doubled, Plain, improved_number}

-- ---- the literals 0, 1 and 2

round_one : round binary64 false 1 1 ≡ one
unfolding round
round_one = refl

half-two : half two ≡ one
unfolding half div
half-two = refl

two_less_one : sub binary64 two one ≡ one
unfolding sub
two_less_one = refl

nought_and_one : add binary64 nought one ≡ one
unfolding add
nought_and_one = refl

one_and_one : add binary64 one one ≡ two
unfolding add
one_and_one = refl

two_and_nought : add binary64 two nought ≡ two
unfolding add
two_and_nought = refl

magnitude-nought : magnitude nought ≡ nought
unfolding magnitude lt
magnitude-nought = refl

-- ---- 2^j units and the inverse, 2^20 / 2^j

-- 2^j units
abbrev pub power_value : ℕ → Float
power_value j = value_of (pos (2 ^ j))

-- 1 / g_0, where the rounds begin
unfoldable pub inverse : ℕ → Float
inverse j = div binary64 one (power_value j)

-- f of n − 1 down to 0
unfoldable listed : (ℕ → Float) → ℕ → List Float
listed f zero = []
listed f (suc n) = f n ∷ listed f n

equal_at : (f g : ℕ → Float) (n j : ℕ) → j < n → listed f n ≡ listed g n → f j ≡ g j
unfolding listed
equal_at f g zero j h e = absurd (omega arith)
equal_at f g (suc n) j h e =
    let l : j ≤ n = omega arith in
    elim (eq-or-lt_of_le l) [
      | inl z ↦ subst (λ (i : ℕ). f i ≡ g i) (sym z) (ap (λ (a : List Float). get_or a 0 nan) e)
      | inr k ↦ equal_at f g n j k (ap (drop 1) e)
    ]

-- the inverses of 2^0 to 2^28 units, computed
inverses : listed inverse 29 ≡ listed exact_value 29
unfolding listed inverse value_of of_int div round
inverses = refl

-- twice the inverse
abbrev twice : ℕ → Float
twice j = round binary64 false (2 ^ 21) (2 ^ j)

module _ (j : ℕ) (l : j ≤ 28) where
  power_value_lem : HasValue (power_value j) false (2 ^ j) (2 ^ 20)
  power_value_lem = let i : j < 53 = omega arith in value_exact (pos (2 ^ j)) (pow-lt i)

  inverse_is : inverse j ≡ round binary64 false (2 ^ 20) (2 ^ j)
  unfolding inverse
  inverse_is =
      div_at binary64 one (power_value j) 1 1 (2 ^ j) (2 ^ 20) (lit< tt) (pow_pos 20) (refl, refl) power_value_lem (pow_pos j)
      ∙ round_same binary64 false (1 * 2 ^ 20) (2 ^ j * 1) (2 ^ 20) (2 ^ j) (mul-pos (pow_pos j) (lit< tt)) (pow_pos j) (omega arith)

  -- "with no rounding at all"
  pub inverse_value : HasValue (inverse j) false (2 ^ 20) (2 ^ j)
  inverse_value =
      let h : j ≤ 20 + 1074 = omega arith in
      let k : 20 ≤ j + 1023 = omega arith in
      rw inverse_is (power_exact binary64 false 20 j h k)

  -- and as data: 1·2^(20−j)
  pub inverse_exact : inverse j ≡ exact_value j
  inverse_exact = equal_at inverse exact_value 29 j (omega arith) inverses

  pub inverse_finite : finite (inverse j) ≡ true
  inverse_finite = is_true (finite (inverse j)) (positive-finite (inverse j) (positive_of_value (inverse j) (2 ^ 20) (2 ^ j) inverse_value (pow_pos 20)))

  pub power_nonzero : eq (power_value j) nought ≡ false
  power_nonzero = eq-nought (power_value j) (2 ^ j) (2 ^ 20) power_value_lem (pow_pos j)

  pub no_difference : difference (inverse j) (inverse j) ≡ nought
  unfolding difference
  no_difference = rw (sub_same binary64 (inverse j) (subst T (sym inverse_finite) tt)) magnitude-nought

  -- ---- the products of a round

  power_by_inverse : mul binary64 (power_value j) (inverse j) ≡ one
  power_by_inverse =
      mul_at binary64 (power_value j) (inverse j) (2 ^ j) (2 ^ 20) (2 ^ 20) (2 ^ j) (pow_pos 20) (pow_pos j) power_value_lem inverse_value
      ∙ round_same binary64 false (2 ^ j * 2 ^ 20) (2 ^ 20 * 2 ^ j) 1 1 (mul-pos (pow_pos 20) (pow_pos j)) (lit< tt) (omega arith)
      ∙ round_one

  inverse_by_one : mul binary64 (inverse j) one ≡ inverse j
  inverse_by_one =
      mul_at binary64 (inverse j) one (2 ^ 20) (2 ^ j) 1 1 (pow_pos j) (lit< tt) inverse_value (refl, refl)
      ∙ round_same binary64 false (2 ^ 20 * 1) (2 ^ j * 1) (2 ^ 20) (2 ^ j) (mul-pos (pow_pos j) (lit< tt)) (pow_pos j) (omega arith)
      ∙ sym inverse_is

  doubled_one : doubled (power_value j) (inverse j) ≡ two
  unfolding doubled
  doubled_one = rw (power_by_inverse, nought_and_one) one_and_one

  twice_value : HasValue (twice j) false (2 ^ 21) (2 ^ j)
  twice_value =
      let h : j ≤ 21 + 1074 = omega arith in
      let k : 21 ≤ j + 1023 = omega arith in
      power_exact binary64 false 21 j h k

  doubled_inverse : doubled (inverse j) one ≡ twice j
  unfolding doubled
  doubled_inverse =
      let e : add binary64 nought (inverse j) ≡ inverse j = nought-add binary64 (inverse j) (2 ^ 20) (2 ^ j) (pow_pos j) inverse_value ∙ sym inverse_is in
      rw (inverse_by_one, e) (add_same binary64 (inverse j) (2 ^ 20) (2 ^ j) (pow_pos j) inverse_value)

  half_twice : half (twice j) ≡ inverse j
  unfolding half
  half_twice =
      div_at binary64 (twice j) two (2 ^ 21) (2 ^ j) 2 1 (pow_pos j) (lit< tt) twice_value (refl, refl) (lit< tt)
      ∙ round_same binary64 false (2 ^ 21 * 1) (2 * 2 ^ j) (2 ^ 20) (2 ^ j) (mul-pos (lit< tt) (pow_pos j)) (pow_pos j) (omega arith)
      ∙ sym inverse_is

  -- 2 − g·w
  correction_is : sub binary64 two (half (doubled (power_value j) (inverse j))) ≡ one
  correction_is = rw (doubled_one, half-two) two_less_one

  pub value_plain : Plain (power_value j) (inverse j)
  value_plain = record {
    left = mul-nought binary64 (power_value j) (2 ^ j) (2 ^ 20) (pow_pos 20) power_value_lem;
    right = nought-mul binary64 (inverse j) (2 ^ 20) (2 ^ j) (pow_pos j) inverse_value;
    sum = rw doubled_one two_and_nought;
  }

  inverse_plain : Plain (inverse j) one
  inverse_plain = record {
    left = mul-nought binary64 (inverse j) (2 ^ 20) (2 ^ j) (pow_pos j) inverse_value;
    right = nought-mul binary64 one 1 1 (lit< tt) (refl, refl);
    sum = rw doubled_inverse (add-nought binary64 (twice j) (2 ^ 21) (2 ^ j) (pow_pos j) twice_value);
  }

  pub correction_plain : Plain (inverse j) (sub binary64 two (half (doubled (power_value j) (inverse j))))
  correction_plain = rw correction_is inverse_plain

  -- w times (2 − g·w) is w
  pub improved-inverse : improved_number (power_value j) (inverse j) ≡ inverse j
  unfolding improved_number
  improved-inverse = rw (correction_is, doubled_inverse) half_twice
