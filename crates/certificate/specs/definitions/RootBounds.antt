-- Where a square root lies, without taking one: squares are compared.
use Rattle.std.specs.Prelude.{◌⊎◌, pos}
use Rattle.fraction.specs.definitions.Fraction.{ℚ, whole, ◌+ℚ◌, ◌-ℚ◌, ◌*ℚ◌, ◌≤ℚ◌, ◌<ℚ◌, ◌/ℚ◌}
use Rattle.model.specs.definitions.Models.{scale}

-- v > 0, and √v lies between y − ρ and y + ρ
pub record RootBounds (y ρ v : ℚ) : Type 0 where
  pub positive : whole (pos 0) <ℚ v
  pub reaches : whole (pos 0) ≤ℚ y +ℚ ρ
  pub above : v ≤ℚ (y +ℚ ρ) *ℚ (y +ℚ ρ)
  pub below : (y -ℚ ρ ≤ℚ whole (pos 0)) ⊎ ((y -ℚ ρ) *ℚ (y -ℚ ρ) ≤ℚ v)

-- "One unit is 1/S."
abbrev pub of_units : ℚ → ℚ
of_units z = z /ℚ whole (pos scale)
