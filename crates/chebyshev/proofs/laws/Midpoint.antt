-- The midpoint of two fractions, and half distances.
use Rattle.std.specs.Prelude.{◌≡◌, [], ◌∷◌, pos}
use Rattle.std.proofs.Common.{sym, ◌∙◌, ap, arith}
use Rattle.integer.proofs.laws.FractionRounding.{natural_positive, natural_nonzero}
use Rattle.integer.proofs.laws.Embedding.{ι_abs}
use Rattle.ring.proofs.laws.OrderedRingLaws.{◌⟨≼⟩◌, ◌⟨+⟩◌, le_of_eq, abs-mul, triangle}
use Rattle.fraction.specs.definitions.Fraction.{ℚ, whole, ◌+ℚ◌, ◌-ℚ◌, ◌*ℚ◌, ◌≤ℚ◌, ◌<ℚ◌, ∣◌∣ℚ, ◌/ℚ◌}
use Rattle.fraction.proofs.laws.FractionLaws.{*ℚ_comm}
use Rattle.integer.proofs.laws.FractionSolver.{reifyℚ, solveℚ}
use Rattle.integer.proofs.laws.FractionOrder.{ℚ_ordered}
use Rattle.integer.proofs.laws.FractionInverse.{quotient_mul}

two_positive : whole (pos 0) <ℚ whole (pos 2)
two_positive = natural_positive 2 (omega arith)

pub midpoint : ℚ → ℚ → ℚ
midpoint x y = (x +ℚ y) /ℚ whole (pos 2)

pub midpoint_double : (x y : ℚ) → midpoint x y *ℚ whole (pos 2) ≡ x +ℚ y
unfolding midpoint
midpoint_double x y = quotient_mul (x +ℚ y) (whole (pos 2)) (natural_nonzero (omega arith))

-- half of |t| is the absolute value of half of t
abs-half : (u t : ℚ) → whole (pos 2) *ℚ u ≡ t → whole (pos 2) *ℚ ∣ u ∣ℚ ≡ ∣ t ∣ℚ
abs-half u t e = ap (λ z. z *ℚ ∣ u ∣ℚ) (sym (ι_abs ℚ_ordered (pos 2))) ∙ sym (abs-mul ℚ_ordered (whole (pos 2)) u) ∙ ap ∣◌∣ℚ e

pub halve : (u v : ℚ) → (whole (pos 2) *ℚ u) ≤ℚ (whole (pos 2) *ℚ v) → u ≤ℚ v
halve u v = ℚ_ordered.le_cancel (whole (pos 2)) u v two_positive

pub midpoint_range : (x y : ℚ) → ∣ x ∣ℚ ≤ℚ whole (pos 1) → ∣ y ∣ℚ ≤ℚ whole (pos 1) → ∣ midpoint x y ∣ℚ ≤ℚ whole (pos 1)
midpoint_range x y hx hy =
    halve ∣ midpoint x y ∣ℚ (whole (pos 1))
    (rw (abs-half (midpoint x y) (x +ℚ y) (*ℚ_comm (whole (pos 2)) (midpoint x y) ∙ midpoint_double x y))
    (◌⟨≼⟩◌ ℚ_ordered (triangle ℚ_ordered x y)
    (◌⟨≼⟩◌ ℚ_ordered (◌⟨+⟩◌ ℚ_ordered hx hy) (le_of_eq ℚ_ordered (solveℚ [] (search reifyℚ depth 9) (search reifyℚ depth 9) tt)))))

pub midpoint_left : (x y : ℚ) → whole (pos 2) *ℚ ∣ x -ℚ midpoint x y ∣ℚ ≡ ∣ x -ℚ y ∣ℚ
midpoint_left x y = abs-half (x -ℚ midpoint x y) (x -ℚ y) (go (midpoint x y) (midpoint_double x y))
  where
    go : (z : ℚ) → z *ℚ whole (pos 2) ≡ x +ℚ y → whole (pos 2) *ℚ (x -ℚ z) ≡ x -ℚ y
    go z e =
        solveℚ (x ∷ z ∷ []) (search reifyℚ depth 9) (search reifyℚ depth 9) tt
        ∙ ap (λ t. whole (pos 2) *ℚ x -ℚ t) e
        ∙ solveℚ (x ∷ y ∷ []) (search reifyℚ depth 9) (search reifyℚ depth 9) tt

pub midpoint_right : (x y : ℚ) → whole (pos 2) *ℚ ∣ midpoint x y -ℚ y ∣ℚ ≡ ∣ x -ℚ y ∣ℚ
midpoint_right x y = abs-half (midpoint x y -ℚ y) (x -ℚ y) (go (midpoint x y) (midpoint_double x y))
  where
    go : (z : ℚ) → z *ℚ whole (pos 2) ≡ x +ℚ y → whole (pos 2) *ℚ (z -ℚ y) ≡ x -ℚ y
    go z e =
        solveℚ (y ∷ z ∷ []) (search reifyℚ depth 9) (search reifyℚ depth 9) tt
        ∙ ap (λ t. t -ℚ whole (pos 2) *ℚ y) e
        ∙ solveℚ (x ∷ y ∷ []) (search reifyℚ depth 9) (search reifyℚ depth 9) tt
