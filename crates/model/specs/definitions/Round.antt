-- A list of numerators over one divisor d, rounded near, and what the rounding loses: 01's product with d = 2S, and the converter
-- of power series.
use Rattle.std.specs.Prelude.{List, [], ◌∷◌, map, ℕ, ◌+◌, ℤ, pos, nat_abs, ◌-ℤ◌, ◌*ℤ◌}
use Rattle.integer.specs.definitions.Rounding.{near}

-- "c_k = near(C_k/(2S))"
unfoldable pub rounded : ℕ → List ℤ → List ℤ
rounded d cs = map (λ c. near c d) cs

-- "Σ|C_k − 2S·c_k|"
unfoldable pub rounding_loss : ℕ → List ℤ → ℕ
rounding_loss d [] = 0
rounding_loss d (c ∷ cs) = nat_abs (c -ℤ pos d *ℤ near c d) + rounding_loss d cs
