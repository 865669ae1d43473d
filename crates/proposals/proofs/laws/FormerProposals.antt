-- Document 02, S-24: of models on the interval −S..S both makers make what they made, which stands here written out: of a model 2
-- alone, and no 19.
use Rattle.std.specs.Prelude.{◌≡◌, not, ◌&&◌, [], ◌∷◌, map, ◌^◌, ltb}
use Rattle.chebyshev.specs.definitions.Coefficients.{weight}
use Rattle.model.specs.definitions.Intervals.{standard_interval}
use Rattle.model.specs.definitions.Outcomes.{Outcome, outcome}
use Rattle.model.proofs.laws.FormerNumbers.{former_place, same_refusal, place_former, places_former}
use Rattle.model.specs.declared.types.Model.{Model}
use Rattle.proposals.specs.definitions.Values.{value_of, all_finite}
use Rattle.proposals.specs.definitions.Product.{product}
use Rattle.proposals.specs.definitions.Units.{units_of}
use Rattle.proposals.specs.definitions.Reciprocal.{reciprocal_rounds, Reciprocal, refused_reciprocal, reciprocal_proposal}
use Rattle.proposals.specs.definitions.Quotient.{Quotient, refused_quotient, quotient_proposal}

-- w and its record, and w in units; "Number 15: g_0 is zero or a value isn't finite, while making. Number 16: converted weight
-- above 2^28, after it."
unfoldable pub former_reciprocal : Model → Outcome Reciprocal
former_reciprocal g =
    let m = reciprocal_rounds (map value_of g.coefficients) in
    let u = map units_of m.round.coefficients in
    outcome (former_place g ∷ (not m.finite, 15) ∷ (ltb (2 ^ 28) (weight u), 16) ∷ [])
    (record { ending = m.ending; round = m.round; w = record { degree = 32; coefficients = u } })
    refused_reciprocal

-- "A maker of quotients forms f times w likewise, its record keeping w."
unfoldable pub former_quotient_proposal : Model → Model → Outcome Quotient
former_quotient_proposal f g =
    let m = reciprocal_rounds (map value_of g.coefficients) in
    let q = product (map value_of f.coefficients) m.round.coefficients in
    let h = map units_of q in
    let w = map units_of m.round.coefficients in
    outcome
    (former_place f
    ∷ former_place g
    ∷ (not (m.finite && all_finite q), 15)
    ∷ (ltb (2 ^ 28) (weight h), 16)
    ∷ (ltb (2 ^ 28) (weight w), 16)
    ∷ [])
    (record {
      ending = m.ending;
      recorded = record { quotient = q; round = m.round };
      h = record { degree = 32; coefficients = h };
      w = record { degree = 32; coefficients = w };
    })
    refused_quotient

pub reciprocal_former : (g : Model) → g.interval ≡ standard_interval → reciprocal_proposal g ≡ former_reciprocal g
unfolding reciprocal_proposal former_reciprocal
reciprocal_former g on = (place_former (same_refusal _) g on).outcomes Reciprocal _ refused_reciprocal

pub quotient_proposal_former : (f g : Model) → f.interval ≡ standard_interval → g.interval ≡ standard_interval
    → quotient_proposal f g ≡ former_quotient_proposal f g
unfolding quotient_proposal former_quotient_proposal
quotient_proposal_former f g on_f on_g = (places_former f g on_f on_g _).outcomes Quotient _ refused_quotient
