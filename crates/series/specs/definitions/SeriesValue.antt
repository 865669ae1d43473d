-- The value of a power series at a fraction.
use Rattle.std.specs.Prelude.{List, [], ◌∷◌, ℕ, zero, suc, ℤ, pos}
use Rattle.fraction.specs.definitions.Fraction.{ℚ, whole, ◌+ℚ◌, ◌*ℚ◌}

-- x^k
unfoldable pub power : ℚ → ℕ → ℚ
power x zero = whole (pos 1)
power x (suc k) = x *ℚ power x k

-- Σ p_i·x^(k+i)
unfoldable pub series_from : ℚ → ℕ → List ℤ → ℚ
series_from x k [] = whole (pos 0)
series_from x k (p ∷ ps) = whole p *ℚ power x k +ℚ series_from x (suc k) ps

-- "Σ p_k·x^k"
abbrev pub series_value : List ℤ → ℚ → ℚ
series_value ps x = series_from x 0 ps
