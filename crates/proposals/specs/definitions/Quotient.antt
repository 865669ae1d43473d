-- "A maker of quotients forms f times w likewise, its record keeping w."
use Rattle.std.specs.Prelude.{◌&&◌, List, [], ◌∷◌, map, replicate, Float, Result}
use Rattle.model.specs.definitions.Models.{coefficient_count, bad_place, different_place}
use Rattle.model.specs.definitions.Outcomes.{Outcome, outcome, judged}
use Rattle.model.specs.declared.types.Model.{Model}
use Rattle.model.specs.declared.types.Candidate.{Candidate}
use Rattle.model.specs.declared.types.Refusal.{Refusal}
use Rattle.proposals.specs.definitions.Values.{nought, all_finite}
use Rattle.proposals.specs.definitions.Product.{product}
use Rattle.proposals.specs.definitions.Units.{units_of, candidate_in, zero_candidate, not_finite_place, weight_place}
use Rattle.proposals.specs.definitions.Reciprocal.{values_of, reciprocal_rounds, zero_round}
use Rattle.proposals.specs.declared.types.Round.{Round}
use Rattle.proposals.specs.declared.types.Ending.{Ending}
use Rattle.proposals.specs.declared.types.Ending.TheVariants.{GivenUp}
use Rattle.proposals.specs.declared.types.QuotientRecord.{QuotientRecord}
pub use Rattle.proposals.specs.declared.types.Quotient.{Quotient}

-- "its record keeping w": f·w, and the round with w
abbrev pub quotient_record : List Float → Round → QuotientRecord
quotient_record q r = record { quotient = q; round = r }

-- what a maker of quotients makes: the outcome beside the record, and both lists in units
abbrev pub make_quotient : Ending → QuotientRecord → Candidate → Candidate → Quotient
make_quotient e r h w = record { ending = e; recorded = r; h = h; w = w }

unfoldable pub refused_quotient : Quotient
refused_quotient =
    make_quotient (GivenUp nought) (quotient_record (replicate coefficient_count nought) zero_round) zero_candidate zero_candidate

-- w and f·w are made, then both are turned into units: 15 of either comes before 16 of either, and each list has its own weight.
unfoldable pub quotient_proposal : Model → Model → Outcome Quotient
quotient_proposal f g =
    let m = reciprocal_rounds (values_of g) in
    let q = product (values_of f) m.round.coefficients in
    let h = map units_of q in
    let w = map units_of m.round.coefficients in
    outcome
    (bad_place f ∷ bad_place g ∷ different_place f g
    ∷ not_finite_place (m.finite && all_finite q) ∷ weight_place h ∷ weight_place w ∷ [])
    (make_quotient m.ending (quotient_record q m.round) (candidate_in h) (candidate_in w))
    refused_quotient

-- ---- what the code's answers mean

abbrev pub quotient_of : Result Quotient Refusal → Outcome Quotient
quotient_of r = judged refused_quotient r
