-- Closed values of the makers' definitions.
use Rattle.std.specs.Prelude.{◌≡◌, refl, true, false, List, [], ◌∷◌, ◌++◌, map, ◌+◌, ◌^◌, pos, negsuc, replicate, Float}
use Rattle.std.proofs.Common.{sym}
use Rattle.std.specs.Float.{inf, fin}
use Rattle.std.specs.Float.Ieee.{round, add, mul, div, sub, neg, sum, lt, le, eq, of_int}
use Rattle.integer.specs.definitions.Rounding.{floor, near}
use Rattle.integer.specs.definitions.Lists.{zeros}
use Rattle.chebyshev.specs.definitions.Coefficients.{weight}
use Rattle.chebyshev.specs.definitions.Product.{add_at_by, add_pair_by, add_term_by, add_terms_by}
use Rattle.model.specs.definitions.Intervals.{good_ends}
use Rattle.model.specs.definitions.Models.{parts_within_limits, good, standard_model}
use Rattle.model.specs.definitions.Area.{area_out}
use Rattle.model.specs.definitions.Outcomes.{accepted, refused, passing}
use Rattle.proposals.specs.definitions.Values.{nought, one, two, settled_limit, difference, magnitude, greater, all_finite, value_of}
use Rattle.proposals.specs.definitions.Product.{half, product_wide}
use Rattle.proposals.specs.definitions.Rounds.{two_less, improved, change_from, next_round, finite_round, round_of, made_of, rounds}
use Rattle.proposals.specs.definitions.Units.{units_of, candidate_in, zero_candidate, in_units}
use Rattle.proposals.specs.definitions.Reciprocal.{zero_round, reciprocal_rounds, refused_reciprocal, reciprocal_proposal}
use Rattle.proposals.specs.definitions.Quotient.{refused_quotient, quotient_proposal}
use Rattle.proposals.specs.definitions.Areas.{reciprocal_answer, reciprocal_in, make_reciprocal_answer, quotient_answer, quotient_in, make_quotient_answer, units_answer, units_in, to_units_answer}
use Rattle.proposals.proofs.laws.RoundsLaws.{round_settled}
use Rattle.proposals.specs.declared.types.Round.{Round}
use Rattle.proposals.specs.declared.types.Ending.TheVariants.{Settled, GivenUp}

-- 2^-52, 2^-21 (half a unit), 3 and 256
abbrev small : Float
small = fin false 1 (negsuc 51)

abbrev half_unit : Float
half_unit = fin false 1 (negsuc 20)

abbrev three : Float
three = fin false 3 (pos 0)

abbrev limit : Float
limit = fin false 1 (pos 8)

-- ---- products

-- (1 + 2·T_1)·(1 + T_1) = 2 + 3·T_1 + T_2, and T_2 is dropped
product_dropped : product_wide 2 (one ∷ two ∷ []) (one ∷ one ∷ []) ≡ two ∷ three ∷ []
unfolding product_wide add_terms_by add_term_by add_pair_by add_at_by half add mul div round sum
product_dropped = refl

product_kept : product_wide 3 (one ∷ two ∷ []) (one ∷ one ∷ []) ≡ two ∷ three ∷ one ∷ []
unfolding product_wide add_terms_by add_term_by add_pair_by add_at_by half add mul div round sum
product_kept = refl

-- the order of the factors decides the last bit: 1 + 1 + 2^-52 + 2^-52 is 2, 2^-52 + 2^-52 + 1 + 1 is not
first_factor_first : product_wide 2 (one ∷ small ∷ []) (one ∷ one ∷ []) ≡ one ∷ one ∷ []
unfolding product_wide add_terms_by add_term_by add_pair_by add_at_by half add mul div round sum
first_factor_first = refl

factors_exchanged : product_wide 2 (one ∷ one ∷ []) (one ∷ small ∷ []) ≡ one ∷ fin false (2 ^ 52 + 1) (negsuc 51) ∷ []
unfolding product_wide add_terms_by add_term_by add_pair_by add_at_by half add mul div round sum
factors_exchanged = refl

-- ---- changes

-- the largest, whichever its place and sign; 2^-24 settles
largest_change : change_from nought (one ∷ nought ∷ two ∷ []) (two ∷ three ∷ two ∷ []) ≡ three
unfolding change_from greater difference magnitude sub add neg lt round sum
largest_change = refl

limit_settles : le settled_limit settled_limit ≡ true
unfolding le lt eq
limit_settles = refl

two_less_a_list : two_less (one ∷ one ∷ nought ∷ []) ≡ one ∷ fin true 1 (pos 0) ∷ nought ∷ []
unfolding two_less sub add neg round sum
two_less_a_list = refl

-- ---- rounds

-- g = (2^22, 1) units, as values, from w = 1/4: w becomes 1/4 − 2^-24·T_1, and the change is exactly 2^-24
abbrev divisor : List Float
divisor = fin false 1 (pos 2) ∷ fin false 1 (negsuc 19) ∷ []

abbrev start : Round
start = round_of (fin false 1 (negsuc 1) ∷ nought ∷ []) one

abbrev after : Round
after = round_of (fin false 1 (negsuc 1) ∷ fin true 1 (negsuc 23) ∷ replicate 31 nought) settled_limit

one_round : next_round divisor start ≡ after
unfolding next_round improved two_less product_wide add_terms_by add_term_by add_pair_by add_at_by half change_from greater difference magnitude add mul div sub neg lt round sum
one_round = refl

after_finite : finite_round after ≡ true
unfolding finite_round all_finite
after_finite = refl

-- it settles in the first of 12 rounds; where no round is allowed, it is given up with the change that is there
settles_at_limit : rounds 12 divisor start ≡ made_of true (Settled settled_limit) after
settles_at_limit = round_settled divisor start after 12 11 (sym one_round) refl after_finite limit_settles

no_round : rounds 0 divisor start ≡ made_of true (GivenUp one) start
unfolding rounds
no_round = refl

-- ---- units

-- ties to even: 1/2, 3/2 and 5/2 units, and their negatives
ties : map units_of (half_unit ∷ fin false 3 (negsuc 20) ∷ fin false 5 (negsuc 20) ∷ fin true 1 (negsuc 20) ∷ fin true 3 (negsuc 20) ∷ fin true 5 (negsuc 20) ∷ [])
    ≡ pos 0 ∷ pos 2 ∷ pos 2 ∷ pos 0 ∷ negsuc 1 ∷ negsuc 1 ∷ []
unfolding units_of near floor
ties = refl

-- a bit more than half a unit, the least value above 0, −0, and 512
other_values : map units_of (fin false (2 ^ 52 + 1) (negsuc 72) ∷ fin false 1 (negsuc 1073) ∷ fin true 0 (pos 0) ∷ fin false 1 (pos 9) ∷ [])
    ≡ pos 1 ∷ pos 0 ∷ pos 0 ∷ pos (2 ^ 29) ∷ []
unfolding units_of near floor
other_values = refl

-- a list of weight 2^28 is accepted, one of a unit more is not
weight_at_limit : in_units (limit ∷ replicate 32 nought) ≡ accepted (candidate_in (pos (2 ^ 28) ∷ replicate 32 (pos 0)))
unfolding in_units passing all_finite units_of near floor weight
weight_at_limit = refl

weight_above_limit : in_units (limit ∷ fin true 1 (negsuc 19) ∷ replicate 31 nought) ≡ refused 16 zero_candidate
unfolding in_units passing all_finite units_of near floor weight
weight_above_limit = refl

-- 15 before 16
not_finite_first : in_units (fin false 1 (pos 100) ∷ inf true ∷ replicate 31 nought) ≡ refused 15 zero_candidate
unfolding in_units passing all_finite units_of near floor weight
not_finite_first = refl

-- ---- makers

-- g_0 = 0
of_zero : reciprocal_proposal (standard_model 1 (pos 0 ∷ pos 5 ∷ replicate 31 (pos 0)) 0) ≡ refused 15 refused_reciprocal
unfolding reciprocal_proposal passing reciprocal_rounds good_ends parts_within_limits good weight value_of of_int div round eq
of_zero = refl

-- a bad model is 2, though its g_0 is 0
of_bad : reciprocal_proposal (standard_model 33 (replicate 33 (pos 0)) 0) ≡ refused 2 refused_reciprocal
unfolding reciprocal_proposal passing good_ends parts_within_limits good
of_bad = refl

by_bad : quotient_proposal (standard_model 0 (replicate 33 (pos 0)) 0) (standard_model 0 (replicate 33 (pos 0)) (2 ^ 28 + 1)) ≡ refused 2 refused_quotient
unfolding quotient_proposal passing good_ends parts_within_limits good weight
by_bad = refl

-- ---- areas

-- g is too short: 1; the record has a number behind, w is too short itself, the outcome has a number behind
short_model : make_reciprocal_answer [] (replicate 35 one) (pos 5 ∷ []) (7 ∷ 8 ∷ []) ≡ reciprocal_answer 1 (replicate 34 nought ++ (one ∷ [])) (pos 5 ∷ []) (0 ∷ 8 ∷ [])
unfolding reciprocal_in area_out refused_reciprocal zero_round zero_candidate zeros
short_model = refl

-- the outcome has no number
short_outcome : make_quotient_answer (replicate 37 (pos 0)) (replicate 37 (pos 0)) (replicate 67 one) (replicate 34 (pos 1)) (replicate 35 (pos 1)) []
    ≡ quotient_answer 1 (replicate 67 nought) (replicate 34 (pos 0)) (replicate 34 (pos 0) ++ (pos 1 ∷ [])) []
unfolding quotient_in area_out refused_quotient zero_round zero_candidate zeros
short_outcome = refl

-- 32 values are too few
few_values : to_units_answer (replicate 32 one) (replicate 34 (pos 1)) ≡ units_answer 1 (replicate 34 (pos 0))
unfolding units_in area_out zero_candidate zeros
few_values = refl
