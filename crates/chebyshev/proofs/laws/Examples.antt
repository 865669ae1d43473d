-- Closed products, computed: the list C and how many pairs the walk visits. Closed sums over strips.
use Rattle.std.specs.Prelude.{◌≡◌, refl, [], ◌∷◌, pos, negsuc}
use Rattle.ring.specs.definitions.Integer.{ℤ_ring}
use Rattle.chebyshev.specs.definitions.Convolution.{convolution, correlation}
use Rattle.chebyshev.specs.definitions.Product.{product_walk, add_at_by, add_pair_by, add_term_by, add_terms_by}
use Rattle.fraction.specs.definitions.Fraction.{whole}
use Rattle.integer.proofs.laws.FractionSolver.{reifyℚ, solveℚ}
use Rattle.chebyshev.specs.definitions.Coefficients.{lipschitz_weight}
use Rattle.chebyshev.specs.definitions.TwoSums.{sum, sum_where, two_sums}
use Rattle.chebyshev.specs.definitions.Strips.{left_sum}

-- the pair (0, 0) counts twice, in one visit: 2·3·5 at place 0
both_conditions : product_walk ℤ_ring 1 (pos 3 ∷ []) (pos 5 ∷ []) ≡ (pos 30 ∷ [], 1)
unfolding add_terms_by add_term_by add_pair_by add_at_by
both_conditions = refl

both_conditions_sums : two_sums ℤ_ring 0 (pos 3 ∷ []) (pos 5 ∷ []) ≡ pos 30
unfolding two_sums sum_where sum
both_conditions_sums = refl

-- three coefficients and two: six visits
six_visits : product_walk ℤ_ring 4 (pos 1 ∷ pos 2 ∷ pos 3 ∷ []) (pos 4 ∷ pos 5 ∷ []) ≡ (pos 18 ∷ pos 41 ∷ pos 34 ∷ pos 15 ∷ [], 6)
unfolding add_terms_by add_term_by add_pair_by add_at_by
six_visits = refl

-- one coefficient and none: no visit, and the list stays
no_visit : product_walk ℤ_ring 2 (pos 3 ∷ []) [] ≡ (pos 0 ∷ pos 0 ∷ [], 0)
unfolding add_terms_by add_term_by
no_visit = refl

-- (1, 2, 3) and (4, 5): a_0·b_1 + a_1·b_0 of place 1, and b_0·a_1 + b_1·a_2
convolution_of_three : convolution ℤ_ring 2 (pos 1 ∷ pos 2 ∷ pos 3 ∷ []) (pos 4 ∷ pos 5 ∷ []) ≡ pos 13
unfolding convolution
convolution_of_three = refl

correlation_of_two : correlation ℤ_ring 1 (pos 4 ∷ pos 5 ∷ []) (pos 1 ∷ pos 2 ∷ pos 3 ∷ []) ≡ pos 23
unfolding correlation
correlation_of_two = refl

-- three strips of width 2 from 5 on: 5·2 + 7·2 + 9·2
three_strips : left_sum (λ x. x) (whole (pos 5)) (whole (pos 2)) 3 ≡ whole (pos 42)
unfolding left_sum
three_strips = solveℚ [] (search reifyℚ depth 20) (search reifyℚ depth 20) tt

no_strip : left_sum (λ x. x) (whole (pos 5)) (whole (pos 2)) 0 ≡ whole (pos 0)
unfolding left_sum
no_strip = refl

-- 3·0² + 5·1² + 7·2²
lipschitz_of_three : lipschitz_weight 0 (pos 3 ∷ negsuc 4 ∷ pos 7 ∷ []) ≡ 33
unfolding lipschitz_weight
lipschitz_of_three = refl
