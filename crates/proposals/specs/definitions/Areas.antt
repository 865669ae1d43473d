-- What the makers answer and leave in lent areas. One that is too short for its numbers is refusal 1, before all else; whether
-- an area is written to depends on its own length alone.
use Rattle.std.specs.Prelude.{Bool, cond, ◌&&◌, List, [], ◌∷◌, ◌++◌, ℕ, ℤ, pos, take, Float}
use Rattle.model.specs.definitions.Models.{coefficient_count}
use Rattle.model.specs.definitions.Area.{model_size, candidate_size, fits, area_out, area_model}
use Rattle.model.specs.definitions.Outcomes.{Outcome, refused, number, payload}
use Rattle.model.specs.declared.types.Candidate.{Candidate}
use Rattle.proposals.specs.definitions.Units.{in_units, zero_candidate}
use Rattle.proposals.specs.definitions.Reciprocal.{Reciprocal, refused_reciprocal, reciprocal_proposal}
use Rattle.proposals.specs.definitions.Quotient.{Quotient, refused_quotient, quotient_proposal}
use Rattle.proposals.specs.declared.types.Round.{Round}
use Rattle.proposals.specs.declared.types.QuotientRecord.{QuotientRecord}
use Rattle.proposals.specs.declared.types.Ending.{Ending}
use Rattle.proposals.specs.declared.types.Ending.TheVariants.{Settled, GivenUp}

-- how many values a list has, how many numbers a round, the record of a quotient, and an outcome
abbrev pub value_count : ℕ
value_count = coefficient_count

abbrev pub round_size : ℕ
round_size = 34

abbrev pub quotient_size : ℕ
quotient_size = 67

abbrev pub outcome_size : ℕ
outcome_size = 1

-- "the f64 coefficients and the largest change"
abbrev pub round_numbers : Round → List Float
round_numbers r = r.coefficients ++ (r.change ∷ [])

-- "its record keeping w": f·w, then the round with w
abbrev pub quotient_numbers : QuotientRecord → List Float
quotient_numbers r = r.quotient ++ round_numbers r.round

abbrev pub candidate_numbers : Candidate → List ℤ
candidate_numbers c = pos c.degree ∷ c.coefficients

-- the outcome; its change is the record's (made-change)
abbrev pub ending_number : Ending → ℕ
ending_number (Settled d) = 1
ending_number (GivenUp d) = 0

-- the values in the first 33 numbers of an area
abbrev pub area_values : List Float → List Float
area_values s = take value_count s

-- ---- reciprocals

-- the number, and what the areas of the record, of w and of the outcome hold afterwards
pub record ReciprocalAnswer : Type 0 where
  pub number : ℕ
  pub recorded : List Float
  pub w : List ℤ
  pub outcome : List ℕ

abbrev pub reciprocal_answer : ℕ → List Float → List ℤ → List ℕ → ReciprocalAnswer
reciprocal_answer n r w o = record { number = n; recorded = r; w = w; outcome = o }

-- a reciprocal, answered over its areas
unfoldable pub reciprocal_in : Outcome Reciprocal → List Float → List ℤ → List ℕ → ReciprocalAnswer
reciprocal_in p recorded w outcome =
    reciprocal_answer
    (number p)
    (area_out round_size (round_numbers (payload p).round) recorded)
    (area_out candidate_size (candidate_numbers (payload p).w) w)
    (area_out outcome_size (ending_number (payload p).ending ∷ []) outcome)

abbrev pub reciprocal_fits : List ℤ → List Float → List ℤ → List ℕ → Bool
reciprocal_fits g recorded w outcome =
    fits model_size g && fits round_size recorded && fits candidate_size w && fits outcome_size outcome

abbrev pub make_reciprocal_answer : List ℤ → List Float → List ℤ → List ℕ → ReciprocalAnswer
make_reciprocal_answer g recorded w outcome =
    reciprocal_in
    (cond (reciprocal_fits g recorded w outcome) (reciprocal_proposal (area_model g)) (refused 1 refused_reciprocal))
    recorded w outcome

-- ---- quotients

-- the number, and what the areas of the record, of h, of w and of the outcome hold afterwards
pub record QuotientAnswer : Type 0 where
  pub number : ℕ
  pub recorded : List Float
  pub h : List ℤ
  pub w : List ℤ
  pub outcome : List ℕ

abbrev pub quotient_answer : ℕ → List Float → List ℤ → List ℤ → List ℕ → QuotientAnswer
quotient_answer n r h w o = record { number = n; recorded = r; h = h; w = w; outcome = o }

-- a quotient, answered over its areas
unfoldable pub quotient_in : Outcome Quotient → List Float → List ℤ → List ℤ → List ℕ → QuotientAnswer
quotient_in p recorded h w outcome =
    quotient_answer
    (number p)
    (area_out quotient_size (quotient_numbers (payload p).recorded) recorded)
    (area_out candidate_size (candidate_numbers (payload p).h) h)
    (area_out candidate_size (candidate_numbers (payload p).w) w)
    (area_out outcome_size (ending_number (payload p).ending ∷ []) outcome)

abbrev pub quotient_fits : List ℤ → List ℤ → List Float → List ℤ → List ℤ → List ℕ → Bool
quotient_fits f g recorded h w outcome =
    fits model_size f
    && fits model_size g
    && fits quotient_size recorded
    && fits candidate_size h
    && fits candidate_size w
    && fits outcome_size outcome

abbrev pub make_quotient_answer : List ℤ → List ℤ → List Float → List ℤ → List ℤ → List ℕ → QuotientAnswer
make_quotient_answer f g recorded h w outcome =
    quotient_in
    (cond (quotient_fits f g recorded h w outcome) (quotient_proposal (area_model f) (area_model g)) (refused 1 refused_quotient))
    recorded h w outcome

-- ---- values in units

-- the number, and what the area of the list holds afterwards
pub record UnitsAnswer : Type 0 where
  pub number : ℕ
  pub units : List ℤ

abbrev pub units_answer : ℕ → List ℤ → UnitsAnswer
units_answer n u = record { number = n; units = u }

unfoldable pub units_in : Outcome Candidate → List ℤ → UnitsAnswer
units_in p units = units_answer (number p) (area_out candidate_size (candidate_numbers (payload p)) units)

abbrev pub to_units_answer : List Float → List ℤ → UnitsAnswer
to_units_answer values units =
    units_in
    (cond (fits value_count values && fits candidate_size units) (in_units (area_values values)) (refused 1 zero_candidate))
    units
