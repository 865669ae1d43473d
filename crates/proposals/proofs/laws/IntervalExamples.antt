-- Document 02, S-24, in the makers, computed from the definitions: 18 and 19, before 15.
use Rattle.std.specs.Prelude.{◌≡◌, refl, pos, replicate}
use Rattle.std.specs.Float.Ieee.{div, round, eq, of_int}
use Rattle.chebyshev.specs.definitions.Coefficients.{weight}
use Rattle.model.specs.definitions.Intervals.{good_ends, same_interval}
use Rattle.model.specs.definitions.Models.{parts_within_limits, good, make_model}
use Rattle.model.specs.definitions.Outcomes.{refused, passing}
use Rattle.model.specs.declared.types.Interval.{Interval}
use Rattle.model.specs.declared.types.Model.{Model}
use Rattle.model.proofs.laws.IntervalExamples.{stretch, shifted, one_point}
use Rattle.proposals.specs.definitions.Values.{value_of}
use Rattle.proposals.specs.definitions.Reciprocal.{reciprocal_rounds, refused_reciprocal, reciprocal_proposal}
use Rattle.proposals.specs.definitions.Quotient.{refused_quotient, quotient_proposal}

-- the model 0, of which no reciprocal is made
abbrev zero_on : Interval → Model
zero_on i = make_model 0 (replicate 33 (pos 0)) 0 i

-- 18 before 15, and 15 on an interval whose ends are good
abbrev pub Reciprocals : Type 0
Reciprocals =
    (reciprocal_proposal (zero_on one_point) ≡ refused 18 refused_reciprocal) × (reciprocal_proposal (zero_on stretch) ≡ refused 15 refused_reciprocal)

pub reciprocals : Reciprocals
unfolding reciprocal_proposal reciprocal_rounds passing good_ends parts_within_limits good weight value_of of_int div round eq
reciprocals = (refl, refl)

-- 18 of f before g's 2; 18 of g; 19 before 15
abbrev pub MadeQuotients : Type 0
MadeQuotients =
    (quotient_proposal (zero_on one_point) (make_model 33 (replicate 33 (pos 0)) 0 stretch) ≡ refused 18 refused_quotient)
    × (quotient_proposal (zero_on stretch) (zero_on one_point) ≡ refused 18 refused_quotient)
    × (quotient_proposal (zero_on stretch) (zero_on shifted) ≡ refused 19 refused_quotient)

pub made_quotients : MadeQuotients
unfolding quotient_proposal passing same_interval good_ends parts_within_limits good weight
made_quotients = (refl, refl, refl)
