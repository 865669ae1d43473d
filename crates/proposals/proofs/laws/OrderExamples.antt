-- Closed values in which the order shows: of the factors, in a bit; of the areas; of the refusals 15 and 16. Definition and code
-- cannot both have another.
use Rattle.std.specs.Prelude.{◌≡◌, refl, true, false, List, [], ◌∷◌, ◌++◌, ℕ, ◌*◌, ◌^◌, ℤ, pos, negsuc, replicate, Float}
use Rattle.std.proofs.Common.{sym, ap}
use Rattle.std.specs.Float.{fin}
use Rattle.std.specs.Float.Ieee.{round, add, mul, div, sub, neg, sum, lt, le, eq, of_int}
use Rattle.integer.specs.definitions.Rounding.{floor, near}
use Rattle.chebyshev.specs.definitions.Coefficients.{weight}
use Rattle.chebyshev.specs.definitions.Product.{add_at_by, add_pair_by, add_term_by, add_terms_by}
use Rattle.model.specs.definitions.Intervals.{good_ends, same_interval}
use Rattle.model.specs.definitions.Models.{parts_within_limits, good, standard_model}
use Rattle.model.specs.definitions.Area.{area_out, words}
use Rattle.model.specs.definitions.Outcomes.{accepted, refused, passing}
use Rattle.model.specs.declared.types.Model.{Model}
use Rattle.proposals.specs.definitions.Values.{nought, one, two, settled_limit, difference, magnitude, greater, all_finite, value_of}
use Rattle.proposals.specs.definitions.Product.{half, product_wide}
use Rattle.proposals.specs.definitions.Rounds.{two_less, improved, change_from, next_round, finite_round, round_of, made_of, rounds}
use Rattle.proposals.specs.definitions.Units.{units_of, candidate_in}
use Rattle.proposals.specs.definitions.Reciprocal.{constant_list, reciprocal_rounds, values_of, refused_reciprocal, reciprocal_proposal}
use Rattle.proposals.specs.definitions.Quotient.{quotient_record, make_quotient, refused_quotient, quotient_proposal}
use Rattle.proposals.specs.definitions.Areas.{quotient_answer, quotient_in, make_quotient_answer}
use Rattle.proposals.proofs.laws.RoundsLaws.{round_settled}
use Rattle.proposals.specs.declared.types.Round.{Round}
use Rattle.proposals.specs.declared.types.Ending.TheVariants.{Settled, GivenUp}

-- ---- the factors of a round

-- g = 2^-53 + T_1 and w = 1 + 2·T_1: with w·g for g·w the first two coefficients would be +0, with (2 − g·w)·w for w·(2 − g·w) the
-- second −2^-53
factors_of_a_round : improved (fin false 1 (negsuc 52) ∷ one ∷ []) (one ∷ two ∷ [])
    ≡ fin true 1 (negsuc 51) ∷ fin true 1 (negsuc 51) ∷ fin true 1 (pos 1) ∷ fin true 1 (pos 0) ∷ replicate 29 nought
unfolding improved two_less product_wide add_terms_by add_term_by add_pair_by add_at_by half add mul div sub neg round sum
factors_of_a_round = refl

-- ---- a quotient over its areas: f = 3 + 2·T_1 by g = 6 + T_1 / S

abbrev dividend : Model
dividend = standard_model 1 (pos (3 * 2 ^ 20) ∷ pos (2 ^ 21) ∷ replicate 31 (pos 0)) 0

abbrev divisor : Model
divisor = standard_model 1 (pos (6 * 2 ^ 20) ∷ pos 1 ∷ replicate 31 (pos 0)) 0

-- 1/6 as f64, where w starts
abbrev sixth : Float
sixth = fin false 6004799503160661 (negsuc 54)

-- w after one round
abbrev helper : Round
helper = round_of (sixth ∷ fin true 2001599834386887 (negsuc 75) ∷ replicate 31 nought) (fin false 2001599834386887 (negsuc 75))

-- f·w; of w·f the second coefficient is 6004798071504895·2^-54
abbrev quotient : List Float
quotient = fin false 2251799694380601 (negsuc 51) ∷ fin false 1398101 (negsuc 21) ∷ fin true 2001599834386887 (negsuc 75) ∷ replicate 30 nought

first_round : next_round (values_of divisor) (round_of (constant_list sixth) nought) ≡ helper
unfolding constant_list next_round improved two_less product_wide add_terms_by add_term_by add_pair_by add_at_by half change_from greater difference magnitude value_of of_int add mul div sub neg lt round sum
first_round = refl

helper_finite : finite_round helper ≡ true
unfolding finite_round all_finite
helper_finite = refl

helper_settles : le helper.change settled_limit ≡ true
unfolding le lt eq
helper_settles = refl

-- it settles in the first round
helper_made : reciprocal_rounds (values_of divisor) ≡ made_of true (Settled helper.change) helper
unfolding reciprocal_rounds value_of of_int div round eq
helper_made = round_settled (values_of divisor) (round_of (constant_list sixth) nought) helper 12 11 (sym first_round) refl helper_finite helper_settles

abbrev answered : List ℤ
answered = pos 524288 ∷ pos 349525 ∷ replicate 31 (pos 0)

abbrev helping : List ℤ
helping = pos 174763 ∷ replicate 32 (pos 0)

quotient_proposed : quotient_proposal dividend divisor ≡ accepted (make_quotient (Settled helper.change) (quotient_record quotient helper) (candidate_in answered) (candidate_in helping))
unfolding quotient_proposal passing same_interval good_ends parts_within_limits good weight all_finite units_of near floor product_wide add_terms_by add_term_by add_pair_by add_at_by half value_of of_int add mul div round sum
quotient_proposed = rw helper_made refl

-- every area has numbers behind, which stay
quotient_over_areas : make_quotient_answer (words dividend ++ (pos 1 ∷ [])) (words divisor ++ (pos 2 ∷ [])) (replicate 68 one) (replicate 35 (pos 7)) (replicate 35 (pos 8)) (9 ∷ 9 ∷ [])
    ≡ quotient_answer 0 (quotient ++ (helper.coefficients ++ (helper.change ∷ one ∷ []))) (pos 32 ∷ (answered ++ (pos 7 ∷ []))) (pos 32 ∷ (helping ++ (pos 8 ∷ []))) (1 ∷ 9 ∷ [])
unfolding quotient_in area_out
quotient_over_areas = ap (λ p. quotient_in p (replicate 68 one) (replicate 35 (pos 7)) (replicate 35 (pos 8)) (9 ∷ 9 ∷ [])) quotient_proposed

-- ---- 15 before 16: g = 1 + (1762584 / S)·T_32

abbrev diverging : Model
diverging = standard_model 32 (pos (2 ^ 20) ∷ replicate 31 (pos 0) ++ (pos 1762584 ∷ [])) 0

-- after 12 rounds, finite, the largest number above 2^1022
abbrev heavy : Round
heavy = round_of (fin false 2674069415869819 (pos 971) ∷ replicate 31 nought ++ (fin true 8989852842906535 (pos 970) ∷ [])) (fin false 8989852842906535 (pos 970))

heavy_made : reciprocal_rounds (values_of diverging) ≡ made_of true (GivenUp heavy.change) heavy
unfolding reciprocal_rounds constant_list rounds next_round finite_round all_finite improved two_less product_wide add_terms_by add_term_by add_pair_by add_at_by half change_from greater difference magnitude value_of of_int add mul div sub neg lt le eq round sum
heavy_made = refl

too_heavy : reciprocal_proposal diverging ≡ refused 16 refused_reciprocal
unfolding reciprocal_proposal passing good_ends parts_within_limits good weight units_of near floor
too_heavy = rw heavy_made refl

abbrev constant : ℕ → Model
constant n = standard_model 0 (pos n ∷ replicate 32 (pos 0)) 0

-- 1·w is finite, 2·w is not, and w is too heavy in both
heavy_quotient : quotient_proposal (constant (2 ^ 20)) diverging ≡ refused 16 refused_quotient
unfolding quotient_proposal passing same_interval good_ends parts_within_limits good weight all_finite units_of near floor product_wide add_terms_by add_term_by add_pair_by add_at_by half value_of of_int add mul div round sum
heavy_quotient = rw heavy_made refl

not_finite_before_heavy : quotient_proposal (constant (2 ^ 21)) diverging ≡ refused 15 refused_quotient
unfolding quotient_proposal passing same_interval good_ends parts_within_limits good weight all_finite units_of near floor product_wide add_terms_by add_term_by add_pair_by add_at_by half value_of of_int add mul div round sum
not_finite_before_heavy = rw heavy_made refl
