-- Document 02, S-11: "A mirrored crown must give mirrored models".
use Rattle.std.specs.Prelude.{Bool, ℕ, ℤ, pos, ◌+ℤ◌, ◌-ℤ◌}
use Rattle.fraction.specs.definitions.Fraction.{ℚ, whole, ◌+ℚ◌, ◌-ℚ◌, ◌/ℚ◌}
use Rattle.chebyshev.specs.definitions.Negation.{every, odd, negated_from}
use Rattle.model.specs.definitions.Models.{scale, make_model}
use Rattle.model.specs.declared.types.Candidate.{Candidate}
use Rattle.model.specs.declared.types.Interval.{Interval}
use Rattle.model.specs.declared.types.Model.{Model}

-- the model with its coefficients negated at the chosen places; degree, radius and ends stay
abbrev pub negated_where : (ℕ → Bool) → Model → Model
negated_where chosen m = make_model m.degree (negated_from chosen 0 m.coefficients) m.radius m.interval

-- "Negating every coefficient"
abbrev pub negated : Model → Model
negated m = negated_where every m

-- "Negating … the odd coefficients": the model read from the other end of its stretch
abbrev pub mirrored : Model → Model
mirrored m = negated_where odd m

-- a candidate, as the model that it is
abbrev pub negated_candidate_where : (ℕ → Bool) → Candidate → Candidate
negated_candidate_where chosen c = record { degree = c.degree; coefficients = negated_from chosen 0 c.coefficients }

abbrev pub negated_candidate : Candidate → Candidate
negated_candidate c = negated_candidate_where every c

abbrev pub mirrored_candidate : Candidate → Candidate
mirrored_candidate c = negated_candidate_where odd c

-- S-24: "S-11 mirrors p to l+u−p"
abbrev pub mirrored_point : Interval → ℤ → ℤ
mirrored_point i p = i.lower +ℤ i.upper -ℤ p

-- of a fraction x, as of the points p/S: (l+u)/S − x
abbrev pub mirrored_fraction : Interval → ℚ → ℚ
mirrored_fraction i x = (whole i.lower +ℚ whole i.upper) /ℚ whole (pos scale) -ℚ x
