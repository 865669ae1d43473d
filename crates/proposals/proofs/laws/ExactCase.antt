-- "A constant model whose coefficient is a power of two from 2^12 to 2^28 gets its reciprocal with no rounding at all."
use Rattle.std.proofs.Common.{le-leb, lt-ltb, le-ltb, sym, ◌∙◌, subst, arith, pow-add, pow_pos, pow_mono}
use Rattle.std.specs.Prelude.{◌≡◌, true, false, List, ◌∷◌, map, ℕ, suc, ◌+◌, ◌-◌, ◌*◌, ◌^◌, ◌≤◌, ◌<◌, ℤ, pos, ◌*ℤ◌, Float}
use Rattle.std.proofs.Math.Path.{refl, ap}
use Rattle.std.proofs.Math.Pow.{pow-lt}
use Rattle.std.specs.Float.Ieee.{le, div, of_int}
use Rattle.std.specs.Float.Ieee.Exact.{HasValue}
use Rattle.integer.specs.definitions.Rounding.{floor, near}
use Rattle.integer.proofs.laws.NearLaws.{near-whole}
use Rattle.chebyshev.specs.definitions.Coefficients.{weight}
use Rattle.chebyshev.proofs.laws.Weight.{weight-zeros}
use Rattle.model.specs.definitions.Intervals.{good_ends}
use Rattle.model.specs.definitions.Models.{parts_within_limits, scale, max_weight, good, constant_model}
use Rattle.model.specs.definitions.Outcomes.{accepted, refused, passing}
use Rattle.proposals.specs.definitions.Values.{nought, settled_limit, value_of}
use Rattle.proposals.specs.definitions.Rounds.{next_round, finite_round, round_of, made_of, improved, rounds}
use Rattle.proposals.specs.definitions.Units.{signed, units_of}
use Rattle.proposals.specs.definitions.Reciprocal.{constant_list, reciprocal_rounds, make_reciprocal, refused_reciprocal, reciprocal_proposal}
use Rattle.proposals.specs.definitions.ExactCase.{constant_units, exact_value, exact_round, exact_helper, PowerOfTwo, ExactCase}
use Rattle.proposals.proofs.laws.UnitsLaws.{units_value, signed_scaled}
use Rattle.proposals.proofs.laws.RoundsLaws.{round_settled}
use Rattle.proposals.proofs.laws.ConstantProduct.{map_replicate, improved-constant, no_change, constant_finite}
use Rattle.proposals.proofs.laws.PowerLaws.{power_value, inverse, inverse_value, inverse_exact, inverse_finite, power_nonzero, no_difference, value_plain, correction_plain, improved-inverse}
use Rattle.proposals.specs.declared.types.Round.{Round}
use Rattle.model.specs.declared.types.Model.{Model}
use Rattle.proposals.specs.declared.types.Ending.TheVariants.{Settled}

-- ---- constants

pub constant-weight : (n : ℕ) → weight (constant_units (pos n)) ≡ n
unfolding weight
constant-weight n = rw (weight-zeros 32) (omega arith)

pub constant-good : (n : ℕ) → n ≤ max_weight → good (constant_model (pos n)) ≡ true
unfolding good good_ends parts_within_limits constant_model
constant-good n h = rw (constant-weight n, le-leb n max_weight h, weight-zeros 32)

no_value : value_of (pos 0) ≡ nought
unfolding value_of of_int div
no_value = refl

no_units : units_of nought ≡ pos 0
unfolding units_of near floor
no_units = refl

constant_values : (n : ℕ) → map value_of (constant_units (pos n)) ≡ constant_list (value_of (pos n))
unfolding constant_list
constant_values n = ap (λ (a : List Float). value_of (pos n) ∷ a) (map_replicate value_of 32 (pos 0) nought no_value)

constant_units_lem : (x : Float) (c : ℤ) → units_of x ≡ c → map units_of (constant_list x) ≡ constant_units c
unfolding constant_list
constant_units_lem x c e = rw (e, map_replicate units_of 32 nought (pos 0) no_units)

nought-settles : le nought settled_limit ≡ true
unfolding le
nought-settles = refl

-- ---- 2^j units

-- what is made: where w starts
abbrev first : ℕ → Round
first j = round_of (constant_list (inverse j)) nought

module _ (j : ℕ) (l : j ≤ 28) where
  -- it is exact
  first_exact : first j ≡ exact_round j
  first_exact = ap (λ x. round_of (constant_list x) nought) (inverse_exact j l)

  -- the first round changes nothing
  first_round : next_round (constant_list (power_value j)) (first j) ≡ first j
  unfolding next_round
  first_round =
      let e : improved (constant_list (power_value j)) (constant_list (inverse j)) ≡ constant_list (inverse j) =
      improved-constant (power_value j) (inverse j) (value_plain j l) (correction_plain j l) ∙ ap constant_list (improved-inverse j l) in
      rw (e, no_change (inverse j) (no_difference j l))

  first_finite : finite_round (first j) ≡ true
  unfolding finite_round
  first_finite = rw (constant_finite (inverse j) (inverse_finite j l))

  settles_first : (n : ℕ) → rounds (suc n) (constant_list (power_value j)) (first j) ≡ made_of true (Settled nought) (first j)
  settles_first n = round_settled (constant_list (power_value j)) (first j) (first j) (suc n) n (sym first_round) refl first_finite nought-settles

  of_constant : reciprocal_rounds (constant_list (power_value j)) ≡ made_of true (Settled nought) (first j)
  unfolding reciprocal_rounds inverse constant_list
  of_constant = rw (power_nonzero j l) (settles_first 11)

  -- settled in the first round, with change +0, however many rounds are allowed
  pub exact_first : (n : ℕ) → rounds (suc n) (map value_of (constant_units (pos (2 ^ j)))) (exact_round j) ≡ made_of true (Settled nought) (exact_round j)
  exact_first n =
      subst (λ (r : Round). rounds (suc n) (map value_of (constant_units (pos (2 ^ j)))) r ≡ made_of true (Settled nought) r) first_exact
      (ap (λ (g : List Float). rounds (suc n) g (first j)) (constant_values (2 ^ j)) ∙ settles_first n)

  -- so of the 12 rounds that are allowed one is made
  pub exact_rounds : reciprocal_rounds (map value_of (constant_units (pos (2 ^ j)))) ≡ made_of true (Settled nought) (exact_round j)
  exact_rounds = ap reciprocal_rounds (constant_values (2 ^ j)) ∙ of_constant ∙ ap (made_of true (Settled nought)) first_exact

  -- "with no rounding at all": the value is S / 2^j
  pub exact_value_lem : HasValue (exact_value j) false (2 ^ 20) (2 ^ j)
  exact_value_lem = subst (λ (x : Float). HasValue x false (2 ^ 20) (2 ^ j)) (inverse_exact j l) (inverse_value j l)

  whole_units : signed false (2 ^ 20 * scale) ≡ pos (2 ^ (40 - j)) *ℤ pos (2 ^ j)
  whole_units =
      let e : 40 - j + j ≡ 40 = omega arith in
      sym (signed_scaled false (2 ^ (40 - j)) (2 ^ j) ∙ ap pos (sym (pow-add 2 (40 - j) j) ∙ ap (λ (n : ℕ). 2 ^ n) e))

  units_are : units_of (exact_value j) ≡ pos (2 ^ (40 - j))
  units_are = units_value (exact_value j) false (2 ^ 20) (2 ^ j) (pow_pos j) exact_value_lem ∙ rw whole_units (near-whole (pos (2 ^ (40 - j))) (2 ^ j) (pow_pos j))

  -- in units 2^(40−j), 0, …, 0
  pub exact_units : map units_of (constant_list (exact_value j)) ≡ constant_units (pos (2 ^ (40 - j)))
  exact_units = constant_units_lem (exact_value j) (pos (2 ^ (40 - j))) units_are

  good-power : PowerOfTwo (constant_model (pos (2 ^ j))) j
  unfolding constant_model
  good-power = record { is_good = constant-good (2 ^ j) (pow_mono l); constant = refl }

-- ---- the whole answer

-- "from 2^12 to 2^28": nothing is refused
pub exact_proposal : (g : Model) (j : ℕ) → ExactCase g j
    → reciprocal_proposal g ≡ accepted (make_reciprocal (Settled nought) (exact_round j) (exact_helper j))
unfolding reciprocal_proposal passing
exact_proposal g j e =
    let i : 40 - j ≤ 28 = omega (arith, e.from) in
    rw (e.power.is_good, e.power.constant, exact_rounds j e.to, exact_units j e.to, constant-weight (2 ^ (40 - j)), le-ltb max_weight (2 ^ (40 - j)) (pow_mono i))

-- a smaller power: the reciprocal is as exact, and weighs more than 2^28
pub below_the_exact_case : (g : Model) (j : ℕ) → PowerOfTwo g j → j < 12 → reciprocal_proposal g ≡ refused 16 refused_reciprocal
unfolding reciprocal_proposal passing
below_the_exact_case g j p h =
    let l : j ≤ 28 = omega arith in
    let i : 28 < 40 - j = omega arith in
    rw (p.is_good, p.constant, exact_rounds j l, exact_units j l, constant-weight (2 ^ (40 - j)), lt-ltb max_weight (2 ^ (40 - j)) (pow-lt i))

-- of degree 0 and radius 0
pub exact_constant : (j : ℕ) → 12 ≤ j → j ≤ 28
    → reciprocal_proposal (constant_model (pos (2 ^ j))) ≡ accepted (make_reciprocal (Settled nought) (exact_round j) (exact_helper j))
exact_constant j h l = exact_proposal (constant_model (pos (2 ^ j))) j (record { power = good-power j l; from = h; to = l })
