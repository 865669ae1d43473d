-- "Add a maker of reciprocal proposals in f64": what it answers. Nothing of it is promised but these numbers: "only the ordinary
-- test vouches for" a proposal.
use Rattle.std.specs.Prelude.{false, cond, List, [], ◌∷◌, map, replicate, get_or, Float, Result}
use Rattle.std.specs.Float.{nan, binary64}
use Rattle.std.specs.Float.Ieee.{div, eq}
use Rattle.model.specs.definitions.Models.{coefficient_count, bad_place}
use Rattle.model.specs.definitions.Outcomes.{Outcome, outcome, judged}
use Rattle.model.specs.declared.types.Model.{Model}
use Rattle.model.specs.declared.types.Candidate.{Candidate}
use Rattle.model.specs.declared.types.Refusal.{Refusal}
use Rattle.proposals.specs.definitions.Values.{nought, one, value_of}
use Rattle.proposals.specs.definitions.Rounds.{Made, round_of, made_of, max_rounds, rounds}
use Rattle.proposals.specs.definitions.Units.{units_of, candidate_in, zero_candidate, not_finite_place, weight_place}
use Rattle.proposals.specs.declared.types.Round.{Round}
pub use Rattle.proposals.specs.declared.types.Reciprocal.{Reciprocal}
use Rattle.proposals.specs.declared.types.Ending.{Ending}
use Rattle.proposals.specs.declared.types.Ending.TheVariants.{GivenUp}

-- the constant x
unfoldable pub constant_list : Float → List Float
constant_list x = x ∷ replicate 32 nought

-- g_0, of the values of g
abbrev pub first_value : List Float → Float
first_value g = get_or g 0 nan

-- a record of zeros
unfoldable pub zero_round : Round
zero_round = round_of (replicate coefficient_count nought) nought

-- "w starts at the constant 1/g_0 … for at most 12 rounds." "Number 15: g_0 is zero or a value isn't finite, while making."
unfoldable pub reciprocal_rounds : List Float → Made
reciprocal_rounds g =
    cond (eq (first_value g) nought)
    (made_of false (GivenUp nought) zero_round)
    (rounds max_rounds g (round_of (constant_list (div binary64 one (first_value g))) nought))

-- the coefficients of a model as values
abbrev pub values_of : Model → List Float
values_of g = map value_of g.coefficients

-- what a maker of reciprocals makes: the outcome beside the record, and w in units
abbrev pub make_reciprocal : Ending → Round → Candidate → Reciprocal
make_reciprocal e r w = record { ending = e; round = r; w = w }

-- "Any refusal reports given up, change 0."
unfoldable pub refused_reciprocal : Reciprocal
refused_reciprocal = make_reciprocal (GivenUp nought) zero_round zero_candidate

-- "Either outcome answers the lists in units too". In this order: the model (2), 15 "while making", 16 "after it".
unfoldable pub reciprocal_proposal : Model → Outcome Reciprocal
reciprocal_proposal g =
    let m = reciprocal_rounds (values_of g) in
    let u = map units_of m.round.coefficients in
    outcome (bad_place g ∷ not_finite_place m.finite ∷ weight_place u ∷ [])
    (make_reciprocal m.ending m.round (candidate_in u))
    refused_reciprocal

-- ---- what the code's answers mean

abbrev pub reciprocal_of : Result Reciprocal Refusal → Outcome Reciprocal
reciprocal_of r = judged refused_reciprocal r
