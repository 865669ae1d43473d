-- Values of lists of whole numbers at a fraction from -1 to 1: they are linear, and weights bound them.
use Rattle.std.specs.Prelude.{◌≡◌, List, ◌++◌, map, ℕ, ℤ, pos, replicate}
use Rattle.std.proofs.Common.{◌∙◌, ap, arith}
use Rattle.std.proofs.lemmas.List.{map-append}
use Rattle.ring.specs.definitions.Integer.{ℤ_ring}
use Rattle.ring.proofs.laws.OrderedRingLaws.{le_of_eq}
use Rattle.fraction.specs.definitions.Fraction.{ℚ, whole, ◌+ℚ◌, ◌-ℚ◌, -ℚ◌, ◌*ℚ◌, ◌≤ℚ◌, ∣◌∣ℚ}
use Rattle.integer.specs.definitions.FractionRing.{ℚ_ring}
use Rattle.integer.proofs.laws.FractionOrder.{ℚ_ordered}
use Rattle.chebyshev.specs.definitions.Coefficients.{weight, value, add_lists, subtract_lists, scale_list}
use Rattle.chebyshev.proofs.laws.CoefficientLaws.{value_add, value_subtract, value_scale, value_append_zeros, map_ι_add, map_ι_subtract, map_ι_scale, map_ι_zeros}
use Rattle.chebyshev.proofs.laws.NormLaws.{value_bound, norm_whole}
use Rattle.integer.proofs.laws.FractionRounding.{natural_positive}
use Rattle.model.specs.definitions.Models.{scale}

-- Σ a_k·T_k(x)
abbrev pub value_at : ℚ → List ℤ → ℚ
value_at x a = value ℚ_ring x (map whole a)

pub scale_nonzero : ¬ (whole (pos scale) ≡ whole (pos 0))
scale_nonzero e = natural_positive scale (omega arith) (le_of_eq ℚ_ordered e)

module _ (x : ℚ) where
  pub value_at_add : (a b : List ℤ) → value_at x (add_lists ℤ_ring a b) ≡ value_at x a +ℚ value_at x b
  value_at_add a b = ap (value ℚ_ring x) (map_ι_add ℚ_ring a b) ∙ value_add ℚ_ring x (map whole a) (map whole b)

  pub value_at_subtract : (a b : List ℤ) → value_at x (subtract_lists ℤ_ring a b) ≡ value_at x a -ℚ value_at x b
  value_at_subtract a b = ap (value ℚ_ring x) (map_ι_subtract ℚ_ring a b) ∙ value_subtract ℚ_ring x (map whole a) (map whole b)

  pub value_at_scale : (s : ℤ) (a : List ℤ) → value_at x (scale_list ℤ_ring s a) ≡ whole s *ℚ value_at x a
  value_at_scale s a = ap (value ℚ_ring x) (map_ι_scale ℚ_ring s a) ∙ value_scale ℚ_ring x (whole s) (map whole a)

  pub value_at_append_zeros : (a : List ℤ) (n : ℕ) → value_at x (a ++ replicate n (pos 0)) ≡ value_at x a
  value_at_append_zeros a n = simp (map-append, map_ι_zeros ℚ_ring) (value_append_zeros ℚ_ring x (map whole a) n)

module _ (x : ℚ) (within : ∣ x ∣ℚ ≤ℚ whole (pos 1)) where
  -- |value a| ≤ weight a
  pub value_at_weight : (a : List ℤ) → ∣ value_at x a ∣ℚ ≤ℚ whole (pos (weight a))
  value_at_weight a = rw (norm_whole ℚ_ordered) at (value_bound ℚ_ordered x (map whole a) within)

  -- |value a − value b| ≤ weight (a − b)
  pub value_at_difference : (a b : List ℤ) → ∣ value_at x a -ℚ value_at x b ∣ℚ ≤ℚ whole (pos (weight (subtract_lists ℤ_ring a b)))
  value_at_difference a b = rw (value_at_subtract x) at (value_at_weight (subtract_lists ℤ_ring a b))
