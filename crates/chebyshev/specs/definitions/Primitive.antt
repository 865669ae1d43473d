-- The primitive from −1 of a list of fractions of any length.
use Rattle.std.specs.Prelude.{List, [], ◌∷◌, ℕ, suc, ◌*◌, pos, get_or}
use Rattle.fraction.specs.definitions.Fraction.{ℚ, whole, -ℚ◌, ◌-ℚ◌, ◌*ℚ◌, ◌/ℚ◌}
use Rattle.integer.specs.definitions.FractionRing.{ℚ_ring}
use Rattle.chebyshev.specs.definitions.Coefficients.{value_from}

-- c_k, c_(k+1), … of the list a_(k−1), a_k, …: c_k = (a_(k−1) − a_(k+1))/(2k)
unfoldable pub primitive_from : ℕ → List ℚ → List ℚ
primitive_from k [] = []
primitive_from k (p ∷ a) = ((p -ℚ get_or a 1 (whole (pos 0))) /ℚ whole (pos (2 * k))) ∷ primitive_from (suc k) a

unfoldable pub double_first : List ℚ → List ℚ
double_first [] = []
double_first (p ∷ a) = (whole (pos 2) *ℚ p) ∷ a

-- 01, here without rounding: "for k from 1 to n+1, c_k = near((a_(k−1) − a_(k+1))/(2k)), with 2·a_0 in place of a_0 for k = 1"
unfoldable pub primitive_tail : List ℚ → List ℚ
primitive_tail a = primitive_from 1 (double_first a)

-- the numerator of c_(k+1): a_k − a_(k+2), with 2·a_0 in place of a_0
abbrev pub numerator : List ℚ → ℕ → ℚ
numerator a k = get_or (double_first a) k (whole (pos 0)) -ℚ get_or a (suc (suc k)) (whole (pos 0))

-- 01: "c_0 makes the value at −1 exactly 0.": it is −Σ c_k·T_k(−1) over k from 1
unfoldable pub primitive : List ℚ → List ℚ
primitive a = (-ℚ value_from ℚ_ring (-ℚ whole (pos 1)) 1 (primitive_tail a)) ∷ primitive_tail a
