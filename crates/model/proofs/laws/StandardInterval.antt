-- Document 02, S-24, on the interval −S..S: T_k is taken at x itself, and the strips run from −1.
use Rattle.std.specs.Prelude.{◌≡◌, refl, [], ◌∷◌, ℕ, ◌*◌, ◌<◌, pos, negsuc}
use Rattle.std.proofs.Common.{sym, ◌∙◌, ap, mul-pos, arith}
use Rattle.fraction.specs.definitions.Fraction.{ℚ, whole, ◌-ℚ◌, -ℚ◌, ◌*ℚ◌, ◌/ℚ◌, ◌≤ℚ◌}
use Rattle.integer.proofs.laws.FractionInverse.{quotient_mul, *ℚ_cancel}
use Rattle.fraction.proofs.laws.FractionLaws.{*ℚ_comm, *ℚ_one}
use Rattle.integer.proofs.laws.FractionOrder.{ℚ_ordered, ≤ℚ_cancel}
use Rattle.integer.proofs.laws.FractionRounding.{natural_mul, natural_nonzero, natural_positive}
use Rattle.integer.proofs.laws.FractionSolver.{reifyℚ, solveℚ}
use Rattle.ring.proofs.laws.OrderedRingLaws.{le_of_eq, ◌⟨≼⟩◌, mul_left}
use Rattle.integer.proofs.laws.Embedding.{ι_nonneg}
use Rattle.model.specs.definitions.Allowed.{position, OnInterval}
use Rattle.model.specs.definitions.Intervals.{good_ends, extent, standard_interval}
use Rattle.model.specs.definitions.Models.{scale}
use Rattle.model.proofs.laws.IntervalLaws.{GoodEnds, ends_are, position_times}
use Rattle.model.proofs.laws.ValueLaws.{scale_nonzero}

pub standard_ends : GoodEnds standard_interval
unfolding good_ends
standard_ends = ends_are standard_interval refl

-- "in place of -1 to 1"
pub position_standard : (x : ℚ) → position standard_interval x ≡ x
unfolding extent
position_standard x =
    *ℚ_cancel (whole (pos (2 * scale))) (position standard_interval x) x (natural_nonzero (omega arith))
    (position_times standard_ends x ∙ solveℚ (x ∷ []) (search reifyℚ depth 12) (search reifyℚ depth 12) tt)

-- l/S is −1
pub start_standard : whole (negsuc 1048575) /ℚ whole (pos scale) ≡ -ℚ whole (pos 1)
start_standard =
    *ℚ_cancel (whole (pos scale)) _ _ scale_nonzero
    (*ℚ_comm _ _ ∙ quotient_mul (whole (negsuc 1048575)) (whole (pos scale)) scale_nonzero ∙ solveℚ [] (search reifyℚ depth 9) (search reifyℚ depth 9) tt)

pub on_standard : {x : ℚ} → (-ℚ whole (pos 1)) ≤ℚ x → x ≤ℚ whole (pos 1) → OnInterval standard_interval x
on_standard {x} above below = record {
  above = ◌⟨≼⟩◌ ℚ_ordered (le_of_eq ℚ_ordered lower) (mul_left ℚ_ordered (whole (pos scale)) (ι_nonneg ℚ_ordered scale) above);
  below = ◌⟨≼⟩◌ ℚ_ordered (mul_left ℚ_ordered (whole (pos scale)) (ι_nonneg ℚ_ordered scale) below) (le_of_eq ℚ_ordered (*ℚ_one _));
}
  where
    lower : whole (negsuc 1048575) ≡ whole (pos scale) *ℚ -ℚ whole (pos 1)
    lower = solveℚ [] (search reifyℚ depth 9) (search reifyℚ depth 9) tt

pub standard_on : {x : ℚ} → OnInterval standard_interval x → ((-ℚ whole (pos 1)) ≤ℚ x) × (x ≤ℚ whole (pos 1))
standard_on {x} on = (
  ≤ℚ_cancel (whole (pos scale)) _ _ (natural_positive scale (omega arith)) (◌⟨≼⟩◌ ℚ_ordered (le_of_eq ℚ_ordered lower) on.above),
  ≤ℚ_cancel (whole (pos scale)) _ _ (natural_positive scale (omega arith)) (◌⟨≼⟩◌ ℚ_ordered on.below (le_of_eq ℚ_ordered (sym (*ℚ_one _)))),
)
  where
    lower : whole (pos scale) *ℚ -ℚ whole (pos 1) ≡ whole (negsuc 1048575)
    lower = solveℚ [] (search reifyℚ depth 9) (search reifyℚ depth 9) tt

-- L·(u−l)/(S·k) is 2·L/k
pub term_standard : (l k : ℕ) → 0 < k → whole (pos (l * (2 * scale))) /ℚ whole (pos (scale * k)) ≡ whole (pos (2 * l)) /ℚ whole (pos k)
term_standard l k h =
    *ℚ_cancel (whole (pos (scale * k))) _ _ room
    (*ℚ_comm _ _
    ∙ quotient_mul (whole (pos (l * (2 * scale)))) (whole (pos (scale * k))) room
    ∙ ap (λ (n : ℕ). whole (pos n)) (omega arith)
    ∙ natural_mul scale (2 * l)
    ∙ ap (λ z. whole (pos scale) *ℚ z) (sym (quotient_mul (whole (pos (2 * l))) (whole (pos k)) (natural_nonzero h)))
    ∙ regroup (whole (pos scale)) (whole (pos (2 * l)) /ℚ whole (pos k)) (whole (pos k))
    ∙ ap (λ z. z *ℚ (whole (pos (2 * l)) /ℚ whole (pos k))) (sym (natural_mul scale k)))
  where
    room : ¬ (whole (pos (scale * k)) ≡ whole (pos 0))
    room = natural_nonzero (mul-pos (omega arith) h)

    regroup : (s t k : ℚ) → s *ℚ (t *ℚ k) ≡ s *ℚ k *ℚ t
    regroup s t k = solveℚ (s ∷ t ∷ k ∷ []) (search reifyℚ depth 9) (search reifyℚ depth 9) tt
