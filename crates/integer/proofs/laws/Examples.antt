-- Examples of the solver, of linear facts and of a certificate; the guide is at the head of Solver.antt.
use Rattle.std.specs.Prelude.{◌≡◌, [], ◌∷◌, ℤ, pos, ◌+ℤ◌, ◌-ℤ◌, ◌*ℤ◌, ◌≤ℤ◌, ◌<ℤ◌}
use Rattle.std.proofs.Common.{arith}
use Rattle.ring.specs.laws.Difference.{all4, differences}
use Rattle.ring.proofs.laws.IntegerSolver.{reifyℤ, solveℤ}
use Rattle.ring.proofs.laws.OrderedRingLaws.{by_certificate, gap, ◌⊞◌, ◌⊠◌}
use Rattle.ring.proofs.laws.Order.{ℤ_ordered}
use Rattle.fraction.specs.definitions.Fraction.{ℚ, whole, ◌+ℚ◌, ◌-ℚ◌, ◌*ℚ◌, -ℚ◌, ◌≤ℚ◌}
use Rattle.integer.proofs.laws.FractionSolver.{reifyℚ, solveℚ}
use Rattle.integer.proofs.laws.FractionLinear.{common4, common, common_literal, common_differences, linear_prop}

square : (a b : ℤ) → (a +ℤ b) *ℤ (a +ℤ b) ≡ a *ℤ a +ℤ pos 2 *ℤ a *ℤ b +ℤ b *ℤ b
square a b = solveℤ (a ∷ b ∷ []) (search reifyℤ depth 20) (search reifyℤ depth 20) tt

-- one step of Pell's identity, for the homogeneous Chebyshev numbers
pell_step : (p q t u : ℤ) → (p *ℤ t -ℤ (q *ℤ q -ℤ p *ℤ p) *ℤ u) *ℤ (p *ℤ t -ℤ (q *ℤ q -ℤ p *ℤ p) *ℤ u) +ℤ (q *ℤ q -ℤ p *ℤ p) *ℤ ((t +ℤ p *ℤ u) *ℤ (t +ℤ p *ℤ u)) ≡ q *ℤ q *ℤ (t *ℤ t +ℤ (q *ℤ q -ℤ p *ℤ p) *ℤ (u *ℤ u))
pell_step p q t u = solveℤ (p ∷ q ∷ t ∷ u ∷ []) (search reifyℤ depth 20) (search reifyℤ depth 20) tt

-- five variables, degree 6
degree_six : (a b c d e : ℤ) → (a *ℤ b *ℤ c -ℤ d *ℤ e *ℤ a) *ℤ (a *ℤ b *ℤ c +ℤ d *ℤ e *ℤ a) ≡ a *ℤ a *ℤ (b *ℤ b *ℤ c *ℤ c -ℤ d *ℤ d *ℤ e *ℤ e)
degree_six a b c d e = solveℤ (a ∷ b ∷ c ∷ d ∷ e ∷ []) (search reifyℤ depth 20) (search reifyℤ depth 20) tt

-- a linear fact with four hypotheses, over ℤ and over ℚ
linear : (x y z w : ℤ) → x ≤ℤ (y +ℤ pos 3) → (pos 2 *ℤ y) ≤ℤ z → z <ℤ (w -ℤ pos 5) → w ≤ℤ (pos 4 *ℤ x) → (pos 2 *ℤ x) <ℤ (pos 4 *ℤ x +ℤ pos 1)
linear = all4 _ (simp differences (omega arith))

linearℚ : (x y z w : ℚ) → x ≤ℚ (y +ℚ whole (pos 3)) → (whole (pos 2) *ℚ y) ≤ℚ z → z ≤ℚ (w -ℚ whole (pos 6)) → w ≤ℚ (whole (pos 4) *ℚ x) → (whole (pos 2) *ℚ x) ≤ℚ (whole (pos 4) *ℚ x)
linearℚ = common4 _ (search linear_prop depth 9) (λ k. simp (common_literal k, common) (all4 _ (simp common_differences (omega arith))))

-- a certificate: from 0 ≤ x ≤ z and y ≤ w with 0 ≤ w, z w − x y = (z − x) w + x (w − y)
certificate : (x y z w : ℤ) → pos 0 ≤ℤ x → x ≤ℤ z → pos 0 ≤ℤ w → y ≤ℤ w → (x *ℤ y) ≤ℤ (z *ℤ w)
certificate x y z w hx hz hw hy =
    by_certificate ℤ_ordered (◌⊞◌ ℤ_ordered (◌⊠◌ ℤ_ordered (gap ℤ_ordered hz) hw) (◌⊠◌ ℤ_ordered hx (gap ℤ_ordered hy)))
    (solveℤ (x ∷ y ∷ z ∷ w ∷ []) (search reifyℤ depth 12) (search reifyℤ depth 12) tt)

difference_of_squares : (x y : ℚ) → (x -ℚ y) *ℚ (x +ℚ y) ≡ x *ℚ x -ℚ y *ℚ y
difference_of_squares x y = solveℚ (x ∷ y ∷ []) (search reifyℚ depth 20) (search reifyℚ depth 20) tt
