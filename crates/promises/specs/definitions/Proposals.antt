-- 02, S-19: proposals made on the mill. What is made is an equation in the contracts, bit for bit; here stands what it tells.
use Rattle.std.specs.Prelude.{◌≡◌, Bool, true, false, List, ◌∷◌, map, ℕ, ◌+◌, ◌-◌, ◌*◌, ◌^◌, ◌≤◌, ◌<◌, T, ℤ, pos, nat_abs, ◌-ℤ◌, ◌*ℤ◌, length, replicate, Float}
use Rattle.std.specs.Float.{fin, binary64}
use Rattle.std.specs.Float.Ieee.{div, eq, le, add, fits}
use Rattle.std.specs.Float.Ieee.Exact.{HasValue}
use Rattle.std.specs.Float.Ieee.Scale.{finite}
use Rattle.integer.specs.definitions.Rounding.{parity}
use Rattle.chebyshev.specs.definitions.Product.{add_at_by, add_pair_by}
use Rattle.model.specs.definitions.Models.{scale, good}
use Rattle.model.specs.definitions.Outcomes.{accepted, refused}
use Rattle.model.specs.declared.types.Candidate.{Candidate}
use Rattle.model.specs.declared.types.Model.{Model}
use Rattle.proposals.specs.definitions.Values.{nought, one, settled_limit, negative, value_of, all_finite}
use Rattle.proposals.specs.definitions.Product.{product}
use Rattle.proposals.specs.definitions.Rounds.{round_of, two_less, improved, change_from, finite_round}
use Rattle.proposals.specs.definitions.Reciprocal.{constant_list, first_value, reciprocal_rounds, values_of}
use Rattle.proposals.specs.definitions.Reciprocal.{make_reciprocal, refused_reciprocal, reciprocal_proposal}
use Rattle.proposals.specs.definitions.Quotient.{quotient_proposal}
use Rattle.proposals.specs.definitions.Units.{signed, units_of, candidate_in}
use Rattle.proposals.specs.definitions.ExactCase.{Over}
use Rattle.proposals.specs.definitions.Bits.{sign_bit, bits_size}
use Rattle.proposals.specs.definitions.Endings.{change_in, start_of, iterated}
use Rattle.proposals.specs.definitions.Finite.{all_products_finite, StatesFinite, differences}
use Rattle.proposals.specs.declared.types.Ending.TheVariants.{Settled, GivenUp}
use Rattle.proposals.specs.declared.types.Quotient.{Quotient}

-- ---- "until settled, for at most 12 rounds"

pub record TwelveRounds : Type 0 where
  -- how many rounds were made from the constant 1/g_0, and that each before the last was finite and did not settle
  pub rounds_made : (g : List Float) → eq (first_value g) nought ≡ false
      → (count : ℕ) × (0 < count) × (count ≤ 12) × ((reciprocal_rounds g).round ≡ iterated count g (start_of g))
      × ((i : ℕ) → 0 < i → i < count
      → (finite_round (iterated i g (start_of g)) ≡ true) × (le (iterated i g (start_of g)).change settled_limit ≡ false))
  pub start_is : (g : List Float) → start_of g ≡ round_of (constant_list (div binary64 one (first_value g))) nought
  -- "settled, with the last change, once that is at most 2^-24"
  pub settled_tells : (g : List Float) (d : Float) → eq (first_value g) nought ≡ false → (reciprocal_rounds g).ending ≡ Settled d
      → (d ≡ (reciprocal_rounds g).round.change) × ((reciprocal_rounds g).finite ≡ true)
      × (le d (fin false 1 (pos 0 -ℤ pos 24)) ≡ true)
  -- "or given up, with the last change": where every value was finite, after the twelfth, which did not settle
  pub given_up_tells : (g : List Float) (d : Float) → eq (first_value g) nought ≡ false → (reciprocal_rounds g).ending ≡ GivenUp d
      → (reciprocal_rounds g).finite ≡ true
      → (d ≡ (reciprocal_rounds g).round.change) × ((reciprocal_rounds g).round ≡ iterated 12 g (start_of g))
      × (le d (fin false 1 (pos 0 -ℤ pos 24)) ≡ false)
  pub made_change : (g : List Float) → change_in (reciprocal_rounds g).ending ≡ (reciprocal_rounds g).round.change
  -- "Number 15: g_0 is zero or a value isn't finite, while making."
  pub last_finite : (g : List Float) → eq (first_value g) nought ≡ false
      → finite_round (reciprocal_rounds g).round ≡ (reciprocal_rounds g).finite
  pub first_zero : (g : List Float) → eq (first_value g) nought ≡ true → (reciprocal_rounds g).finite ≡ false

-- ---- "a value isn't finite, while making": testing list and change after each round sees every value inside it

pub record FiniteMaking : Type 0 where
  -- where the rounds were found finite, so was each list, product, sum and difference of each, round i + 1 being made from w
  pub making_finite : (g : Model) → length g.coefficients ≡ 33 → (reciprocal_rounds (values_of g)).finite ≡ true
      → let v = values_of g in
      (count : ℕ) × (0 < count) × ((reciprocal_rounds v).round ≡ iterated count v (start_of v))
      × ((i : ℕ) → i < count
      → let w = (iterated i v (start_of v)).coefficients in
      (all_finite v ≡ true) × (all_finite w ≡ true)
      × (all_products_finite v w ≡ true) × StatesFinite v w × (all_finite (product v w) ≡ true)
      × (all_finite (two_less (product v w)) ≡ true)
      × (all_products_finite w (two_less (product v w)) ≡ true) × StatesFinite w (two_less (product v w))
      × (all_finite (improved v w) ≡ true)
      × (all_finite (differences (improved v w) w) ≡ true) × (finite (change_from nought (improved v w) w) ≡ true))
  -- and of f·w
  pub quotient_making_finite : (f g : Model) → length f.coefficients ≡ 33
      → let w = (reciprocal_rounds (values_of g)).round.coefficients in
      all_finite (product (values_of f) w) ≡ true → (all_products_finite (values_of f) w ≡ true) × StatesFinite (values_of f) w
  -- between a pair's two places
  pub half_pair_finite : (c : List Float) (i j : ℕ) (v : Float) → T (all_finite (add_pair_by (add binary64) c i j v))
      → T (all_finite (add_at_by (add binary64) c (i + j) v))

-- ---- "Turning an f64 into units is exact work on its bits: nearest whole number to value times S, ties to even."

pub record Units : Type 0 where
  -- of an f64 that is ±a/l
  pub units_nearest : (x : Float) (s : Bool) (a l : ℕ) → 0 < l → HasValue x s a l
      → 2 * nat_abs (units_of x *ℤ pos l -ℤ signed s (a * scale)) ≤ l
  pub units_even : (x : Float) (s : Bool) (a l : ℕ) → 0 < l → HasValue x s a l
      → 2 * nat_abs (units_of x *ℤ pos l -ℤ signed s (a * scale)) ≡ l → parity (units_of x) ≡ 0
  pub units_unique : (x : Float) (s : Bool) (a l : ℕ) (c : ℤ) → 0 < l → HasValue x s a l
      → 2 * nat_abs (c *ℤ pos l -ℤ signed s (a * scale)) ≤ l
      → (2 * nat_abs (c *ℤ pos l -ℤ signed s (a * scale)) ≡ l → parity c ≡ 0)
      → c ≡ units_of x
  -- every finite f64 is such a fraction: that of its bits, in multiples of 2^-1074
  pub bits_value : (x : Float) → T (fits binary64 x) → T (finite x) → HasValue x (sign_bit x) (bits_size x) (2 ^ 1074)
  -- "Coefficients stand for units over S.": exactly, below 2^53, and back
  pub value_exact : (z : ℤ) → nat_abs z < 2 ^ 53 → HasValue (value_of z) (negative z) (nat_abs z) (2 ^ 20)
  pub units_back : (z : ℤ) → nat_abs z < 2 ^ 53 → units_of (value_of z) ≡ z

-- ---- "A constant model whose coefficient is a power of two from 2^12 to 2^28 gets its reciprocal with no rounding at all."

-- the list 2^(20−j), +0, …, +0
abbrev pub power_list : ℕ → List Float
power_list j = fin false 1 (pos 20 -ℤ pos j) ∷ replicate 32 nought

-- w in units: 2^(40−j), 0, …, 0
abbrev pub power_units : ℕ → Candidate
power_units j = candidate_in (pos (2 ^ (40 - j)) ∷ replicate 32 (pos 0))

-- of a quotient: settled with change +0, "its record keeping w", and each value of f·w is f's whole number of units over 2^j
abbrev pub MadeExactly : Model → ℕ → Quotient → Type 0
MadeExactly f j a =
    (a.ending ≡ Settled nought)
    × (a.recorded.round ≡ round_of (power_list j) nought)
    × (a.recorded.quotient ≡ product (values_of f) (power_list j))
    × (a.h ≡ candidate_in (map units_of a.recorded.quotient))
    × (a.w ≡ power_units j)
    × (length f.coefficients ≡ 33 → Over j f.coefficients a.recorded.quotient)

pub record NoRounding : Type 0 where
  -- settled with change +0; the record's list 2^(20−j), +0, …, +0; w in units 2^(40−j), 0, …, 0
  pub exact_proposal : (g : Model) (j : ℕ) → good g ≡ true → g.coefficients ≡ pos (2 ^ j) ∷ replicate 32 (pos 0) → 12 ≤ j
      → j ≤ 28
      → reciprocal_proposal g ≡ accepted (make_reciprocal (Settled nought) (round_of (power_list j) nought) (power_units j))
  -- and so keeps the record of a quotient
  pub exact_quotient : (f g : Model) (j : ℕ) (a : Quotient) → good g ≡ true → g.coefficients ≡ pos (2 ^ j) ∷ replicate 32 (pos 0)
      → 12 ≤ j → j ≤ 28 → quotient_proposal f g ≡ accepted a → MadeExactly f j a
  -- 2^(20−j) is S/2^j
  pub exact_value_lem : (j : ℕ) → j ≤ 28 → HasValue (fin false 1 (pos 20 -ℤ pos j)) false (2 ^ 20) (2 ^ j)
  -- below 2^12 the reciprocal is as exact and weighs more than 2^28
  pub below_the_exact_case : (g : Model) (j : ℕ) → good g ≡ true → g.coefficients ≡ pos (2 ^ j) ∷ replicate 32 (pos 0) → j < 12
      → reciprocal_proposal g ≡ refused 16 refused_reciprocal

pub record MadeProposals : Type 0 where
  pub twelve_rounds : TwelveRounds
  pub finite_making : FiniteMaking
  pub in_units : Units
  pub no_rounding : NoRounding
