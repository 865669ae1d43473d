-- Add and subtract as one operation, a + s·b with s = 1 or s = −1, as the code has it.
use Rattle.std.specs.Prelude.{◌≡◌, refl, true, List, [], ◌∷◌, ℕ, ◌+◌, ◌*◌, ◌≤◌, ℤ, pos, negsuc, nat_abs}
use Rattle.std.proofs.Common.{ap, ap₂, arith}
use Rattle.ring.specs.definitions.Integer.{ℤ_ring}
use Rattle.ring.proofs.laws.IntegerSolver.{one_*}
use Rattle.chebyshev.specs.definitions.Coefficients.{weight, add_lists, scale_list, subtract_lists}
use Rattle.chebyshev.proofs.laws.CoefficientLaws.{opposite_scale}
use Rattle.chebyshev.proofs.laws.Weight.{weight-add, weight-scale}
use Rattle.model.specs.definitions.InnerContracts.{combination, combined_model, unless_large}
use Rattle.model.specs.definitions.Intervals.{same_interval}
use Rattle.model.specs.definitions.Models.{good}
use Rattle.model.specs.definitions.Outcomes.{passing}
use Rattle.model.specs.definitions.Add.{sum_model, difference_model, addition, subtraction}
use Rattle.model.specs.declared.types.Model.{Model}

pub combined_weight : (s : ℤ) (a b : List ℤ) → nat_abs s ≡ 1 → weight (add_lists ℤ_ring a (scale_list ℤ_ring s b)) ≤ weight a + weight b
combined_weight s a b e = omega (arith, weight-add a (scale_list ℤ_ring s b), weight-scale s b, ap (λ (n : ℕ). n * weight b) e)

-- of two good models on one interval only the result is tested
pub combination_of_good : (s : ℤ) (a b : Model) → good a ≡ true → good b ≡ true → same_interval a.interval b.interval ≡ true → unless_large (combined_model s a b) ≡ combination s a b
unfolding combination unless_large passing
combination_of_good s a b p q r = rw (p, q, r)

scale_one : (b : List ℤ) → scale_list ℤ_ring (pos 1) b ≡ b
unfolding scale_list
scale_one [] = refl
scale_one (x ∷ b) = ap₂ ◌∷◌ (one_* x) (scale_one b)

pub addition_is : (a b : Model) → combination (pos 1) a b ≡ addition a b
unfolding combination combined_model addition sum_model
addition_is a b = rw scale_one

pub subtraction_is : (a b : Model) → combination (negsuc 0) a b ≡ subtraction a b
unfolding combination combined_model subtraction difference_model subtract_lists
subtraction_is a b = rw (opposite_scale ℤ_ring b.coefficients)
