-- Document 02, S-24, at closed models: whole outcomes, computed from the definitions.
use Rattle.std.specs.Prelude.{◌≡◌, refl, [], ◌∷◌, ℤ, pos, negsuc}
use Rattle.integer.specs.definitions.Rounding.{floor, up, upℕ, near}
use Rattle.chebyshev.specs.definitions.Coefficients.{weight, lipschitz_weight, add_lists, subtract_lists}
use Rattle.chebyshev.specs.definitions.Negation.{odd, negated_from}
use Rattle.model.specs.definitions.Add.{addition}
use Rattle.model.specs.definitions.Evaluate.{mapped_point, maps_exactly, growth, evaluation, zero_bounds, low_bound, high_bound, point_term, point_sum, point_error}
use Rattle.model.specs.definitions.Integrate.{integration, integral_model, integral_list, halved, numerators, double_first, alternating}
use Rattle.model.specs.definitions.Intervals.{make_interval, good_ends, extent, same_interval, contains}
use Rattle.model.specs.definitions.Load.{loading}
use Rattle.model.specs.definitions.Mirror.{mirrored}
use Rattle.model.specs.definitions.Models.{parts_within_limits, good, too_large, make_model, zero_model}
use Rattle.model.specs.definitions.Multiply.{multiplication}
use Rattle.model.specs.definitions.Outcomes.{accepted, refused, passing}
use Rattle.model.proofs.laws.Examples.{padded}
use Rattle.model.specs.declared.types.Interval.{Interval}
use Rattle.model.specs.declared.types.Model.{Model}

-- −1 and 7, the same extent shifted, and ends that are equal: for the examples of other crates too
abbrev pub stretch : Interval
stretch = make_interval (negsuc 0) (pos 7)

abbrev pub shifted : Interval
shifted = make_interval (pos 0) (pos 8)

abbrev pub one_point : Interval
one_point = make_interval (pos 5) (pos 5)

-- a constant, and S·T_1, on an interval
abbrev constant_on : ℤ → ℤ → ℤ → Model
constant_on c l u = make_model 0 (padded (c ∷ [])) 0 (make_interval l u)

abbrev line_on : ℤ → ℤ → Model
line_on l u = make_model 1 (padded (pos 0 ∷ pos 1048576 ∷ [])) 0 (make_interval l u)

-- ends that are equal, exchanged, or beyond 2^28; a bad degree counts before them; the widest interval
abbrev pub Ends : Type 0
Ends =
    (loading (constant_on (pos 1) (pos 5) (pos 5)) ≡ refused 18 zero_model)
    × (loading (constant_on (pos 1) (pos 6) (pos 5)) ≡ refused 18 zero_model)
    × (loading (constant_on (pos 1) (pos 0) (pos 268435457)) ≡ refused 18 zero_model)
    × (loading (constant_on (pos 1) (negsuc 268435456) (pos 0)) ≡ refused 18 zero_model)
    × (loading (make_model 33 (padded []) 0 (make_interval (pos 5) (pos 5))) ≡ refused 2 zero_model)
    × (loading (constant_on (pos 1) (negsuc 268435455) (pos 268435456)) ≡ accepted (constant_on (pos 1) (negsuc 268435455) (pos 268435456)))

pub ends_tested : Ends
unfolding loading passing good parts_within_limits good_ends zero_model weight
ends_tested = (refl, refl, refl, refl, refl, refl)

-- 19, behind every model's 2 and 18, and before the kept degree's 9
abbrev pub Different : Type 0
Different =
    (addition (constant_on (pos 1) (pos 0) (pos 9)) (constant_on (pos 1) (pos 0) (pos 8)) ≡ refused 19 zero_model)
    × (addition (constant_on (pos 1) (pos 0) (pos 9)) (constant_on (pos 1) (pos 8) (pos 8)) ≡ refused 18 zero_model)
    × (multiplication 40 (constant_on (pos 1) (pos 0) (pos 9)) (constant_on (pos 1) (pos 1) (pos 9)) ≡ refused 19 zero_model)
    × (multiplication 40 (constant_on (pos 1) (pos 0) (pos 9)) (constant_on (pos 1) (pos 0) (pos 9)) ≡ refused 9 zero_model)

pub different_refused : Different
unfolding addition multiplication passing good parts_within_limits good_ends same_interval zero_model weight
different_refused = (refl, refl, refl, refl)

-- 1 from 0 to 1: half a unit of T_0 and of T_1; 2 with radius 1 on the ends 0 and 1, where up(1/S) is 1; 2^28 on the widest
-- interval, where c_1 is 2^36
abbrev pub Integrals : Type 0
Integrals =
    (integration (constant_on (pos 1048576) (pos 0) (pos 1048576))
    ≡ accepted (make_model 1 (padded (pos 524288 ∷ pos 524288 ∷ [])) 1 (make_interval (pos 0) (pos 1048576))))
    × (integration (make_model 0 (padded (pos 2097152 ∷ [])) 1 (make_interval (pos 0) (pos 1)))
    ≡ accepted (make_model 1 (padded (pos 1 ∷ pos 1 ∷ [])) 2 (make_interval (pos 0) (pos 1))))
    × (integration (constant_on (pos 268435456) (negsuc 268435455) (pos 268435456)) ≡ refused 3 zero_model)

pub integrals : Integrals
unfolding integration integral_model integral_list halved numerators double_first alternating passing good parts_within_limits good_ends extent too_large zero_model weight add_lists subtract_lists floor near upℕ
integrals = (refl, refl, refl)

-- S·T_1 on 0..3 at p = 1, where −S/3 is rounded and W grows, and its mirror at 2; at p = 3, exactly 1; at p = 4
abbrev pub Evaluations : Type 0
Evaluations =
    (evaluation (line_on (pos 0) (pos 3)) (pos 1) ≡ accepted (record { low = negsuc 349525; high = negsuc 349523 }))
    × (evaluation (mirrored (line_on (pos 0) (pos 3))) (pos 2) ≡ accepted (record { low = negsuc 349525; high = negsuc 349523 }))
    × (evaluation (line_on (pos 0) (pos 3)) (pos 3) ≡ accepted (record { low = pos 1048576; high = pos 1048576 }))
    × (evaluation (line_on (pos 0) (pos 3)) (pos 4) ≡ refused 4 zero_bounds)

pub evaluations : Evaluations
unfolding evaluation contains mapped_point maps_exactly growth low_bound high_bound point_term point_sum point_error lipschitz_weight passing good parts_within_limits good_ends extent weight floor up near odd negated_from
evaluations = (refl, refl, refl, refl)

-- ties of the mapped point, to even, on 0..4: −S + 1/2 is taken to −S, −S + 3/2 to −S + 2; mirrored, S − 1/2 to S; W grows
abbrev pub PointTies : Type 0
PointTies =
    (mapped_point (make_interval (pos 0) (pos 4194304)) (pos 1) ≡ negsuc 1048575)
    × (mapped_point (make_interval (pos 0) (pos 4194304)) (pos 3) ≡ negsuc 1048573)
    × (mapped_point (make_interval (pos 0) (pos 4194304)) (pos 4194303) ≡ pos 1048576)
    × (evaluation (line_on (pos 0) (pos 4194304)) (pos 1) ≡ accepted (record { low = negsuc 1048576; high = negsuc 1048574 }))
    × (evaluation (mirrored (line_on (pos 0) (pos 4194304))) (pos 4194303) ≡ accepted (record { low = negsuc 1048576; high = negsuc 1048574 }))

pub point_ties : PointTies
unfolding evaluation contains mapped_point maps_exactly growth low_bound high_bound point_term point_sum point_error lipschitz_weight passing good parts_within_limits good_ends extent weight floor up near odd negated_from
point_ties = (refl, refl, refl, refl, refl)
