-- A sum over pairs on its way: what is summed and what is left to sum is the whole.
use mathlib.Core.Path.{◌≡◌, sym, ◌∙◌, ap}
use mathlib.Core.List.{List}
use Prim.Native.Nat.{ℕ, ◌+◌, ◌*◌, ◌^◌, ◌≤◌, ◌<◌}
use native.Mathlib.Omega.{arith}
use native.Mathlib.Nat.{mul-le-mul, le_refl}
use lib.IntN.{ℤ, pos, nat_abs, ◌+ℤ◌, ◌*ℤ◌, +ℤ_assoc, +ℤ_idr}
use lib.ListN.{drop}
use Rattle.ring.specs.definitions.Integer.{ℤ_ring}
use Rattle.ring.specs.laws.Parts.{sum, abs, apart, abs-add}
use Rattle.chebyshev.specs.definitions.Coefficients.{weight}
use Rattle.chebyshev.proofs.laws.Weight.{weight-drop}
use Rattle.chebyshev.proofs.laws.ConvolutionLaws.{mul-zero}

-- a pair p goes from what is left to what is summed
pub step : (s p r l T s' : ℤ) → s +ℤ l ≡ T → l ≡ p +ℤ r → s' ≡ s +ℤ p → s' +ℤ r ≡ T
step s p r l T s' e f g = ap (λ z. z +ℤ r) g ∙ +ℤ_assoc s p r ∙ ap (λ z. s +ℤ z) (sym f) ∙ e

pub done : (s l T : ℤ) → s +ℤ l ≡ T → l ≡ pos 0 → s ≡ T
done s l T e f = sym (+ℤ_idr s) ∙ ap (λ z. s +ℤ z) (sym f) ∙ e

-- a place that has no pair
pub no_pair : (x s s' : ℤ) → s' ≡ s +ℤ x *ℤ pos 0 → s' ≡ s
no_pair x s s' e = e ∙ ap (λ z. s +ℤ z) (mul-zero ℤ_ring x) ∙ +ℤ_idr s

part_small : (s l T : ℤ) → s +ℤ l ≡ T → nat_abs s ≤ nat_abs T + nat_abs l
part_small s l T e = omega (arith, sum s l, abs s, abs l, abs (s +ℤ l), apart s, apart l, apart (s +ℤ l), ap nat_abs e)

-- the sum of a place that begins at z, where w is its whole and l is left
pub begun_small : (z s w l : ℤ) (m : ℕ) → s +ℤ l ≡ z +ℤ w → nat_abs w ≤ m → nat_abs l ≤ m → m ≤ 2 ^ 56 → nat_abs z < 2 ^ 61 → nat_abs s < 2 ^ 62
begun_small z s w l m e hw hl hm hz = omega (arith, part_small s l (z +ℤ w) e, abs-add z w)

-- what is left of a has no more weight than a
pub left_small : (a b : List ℤ) (i : ℕ) → weight (drop i a) * weight b ≤ weight a * weight b
left_small a b i = mul-le-mul (weight-drop i a) (le_refl (weight b))
