-- "A constant model whose coefficient is a power of two from 2^12 to 2^28 gets its reciprocal with no rounding at all."
use Rattle.std.specs.Prelude.{◌≡◌, true, false, List, [], ◌∷◌, map, ℕ, ◌-◌, ◌^◌, ◌≤◌, ℤ, pos, nat_abs, ◌-ℤ◌, length, replicate, Float}
use Rattle.std.specs.Float.{fin}
use Rattle.std.specs.Float.Ieee.Exact.{HasValue}
use Rattle.model.specs.definitions.Models.{good, coefficient_count}
use Rattle.model.specs.definitions.Outcomes.{Outcome, accepted}
use Rattle.model.specs.declared.types.Model.{Model}
use Rattle.model.specs.declared.types.Candidate.{Candidate}
use Rattle.proposals.specs.definitions.Values.{nought, negative}
use Rattle.proposals.specs.definitions.Product.{product}
use Rattle.proposals.specs.definitions.Rounds.{round_of}
use Rattle.proposals.specs.definitions.Units.{units_of, candidate_in}
use Rattle.proposals.specs.definitions.Reciprocal.{constant_list, values_of, Reciprocal, make_reciprocal}
use Rattle.proposals.specs.definitions.Quotient.{Quotient}
use Rattle.proposals.specs.declared.types.Round.{Round}
use Rattle.proposals.specs.declared.types.Ending.TheVariants.{Settled}

-- the constant c in units
abbrev pub constant_units : ℤ → List ℤ
constant_units c = c ∷ replicate 32 (pos 0)

-- "A constant model whose coefficient is a power of two": whatever its degree, its radius and its interval
pub record PowerOfTwo (g : Model) (j : ℕ) : Type 0 where
  pub is_good : good g ≡ true
  pub constant : g.coefficients ≡ constant_units (pos (2 ^ j))

-- "from 2^12 to 2^28"
pub record ExactCase (g : Model) (j : ℕ) : Type 0 where
  pub power : PowerOfTwo g j
  pub from : 12 ≤ j
  pub to : j ≤ 28

-- the f64 that is 2^(20−j): 2^j units are 2^(j−20), and this is its reciprocal
abbrev pub exact_value : ℕ → Float
exact_value j = fin false 1 (pos 20 -ℤ pos j)

-- the record: the values 2^(20−j), +0, …, +0 and the change +0
abbrev pub exact_round : ℕ → Round
exact_round j = round_of (constant_list (exact_value j)) nought

-- w in units: 2^(40−j), 0, …, 0
abbrev pub exact_helper : ℕ → Candidate
exact_helper j = candidate_in (constant_units (pos (2 ^ (40 - j))))

-- what a maker of reciprocals answers: settled with change +0
abbrev pub ExactReciprocal : Model → Outcome Reciprocal → Type 0
ExactReciprocal g o = (j : ℕ) → ExactCase g j → o ≡ accepted (make_reciprocal (Settled nought) (exact_round j) (exact_helper j))

-- each value is exactly that whole number over 2^j
abbrev pub Over : ℕ → List ℤ → List Float → Type 0
Over j [] [] = Unit {0}
Over j [] (x ∷ q) = ⊥
Over j (z ∷ zs) [] = ⊥
Over j (z ∷ zs) (x ∷ q) = HasValue x (negative z) (nat_abs z) (2 ^ j) × Over j zs q

-- and what a maker of quotients answers, where it accepts: "its record keeping w", beside f·w, also with no rounding
pub record ExactQuotientOf (f : Model) (j : ℕ) (a : Quotient) : Type 0 where
  pub ending : a.ending ≡ Settled nought
  pub round : a.recorded.round ≡ exact_round j
  pub quotient : a.recorded.quotient ≡ product (values_of f) (constant_list (exact_value j))
  pub exact : length f.coefficients ≡ coefficient_count → Over j f.coefficients a.recorded.quotient
  pub h : a.h ≡ candidate_in (map units_of a.recorded.quotient)
  pub w : a.w ≡ exact_helper j

abbrev pub ExactQuotient : Model → Model → Outcome Quotient → Type 0
ExactQuotient f g o = (j : ℕ) → ExactCase g j → (a : Quotient) → o ≡ accepted a → ExactQuotientOf f j a
