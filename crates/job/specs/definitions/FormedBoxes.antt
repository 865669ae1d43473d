-- 01, "What boxes a value", by the commands and of any boxes: the rules that `Permitted` (Requirement.antt) has by its
-- constructors.
use Rattle.std.specs.Prelude.{◌≡◌, ◌⊎◌, ℕ, pos}
use Rattle.fraction.specs.definitions.Fraction.{ℚ, whole, ◌+ℚ◌, ◌-ℚ◌, ◌*ℚ◌, ◌≤ℚ◌, ◌<ℚ◌, ◌/ℚ◌}
use Rattle.model.specs.definitions.Allowed.{Allows}
use Rattle.job.specs.definitions.Operations.{Maker, load, add, subtract, multiply, quotient, root}
use Rattle.job.specs.definitions.Requirement.{Box, Lies, ContainsFour}

-- the box of result i by its command
abbrev pub Formed : ℚ → (ℕ → Box) → ℕ → Maker → Type 0
Formed x box i (load m) = Allows m x (box i).low × ((box i).high ≡ (box i).low)
Formed x box i (add j k) = ((box i).low ≡ (box j).low +ℚ (box k).low) × ((box i).high ≡ (box j).high +ℚ (box k).high)
Formed x box i (subtract j k) = ((box i).low ≡ (box j).low -ℚ (box k).high) × ((box i).high ≡ (box j).high -ℚ (box k).low)
Formed x box i (multiply j k d) = ContainsFour ◌*ℚ◌ (box j) (box k) (box i)
Formed x box i (quotient j k h w) = (¬ Lies (whole (pos 0)) (box k)) × ContainsFour ◌/ℚ◌ (box j) (box k) (box i)
Formed x box i (root rule j h w) =
    (((box i).low ≡ whole (pos 0)) ⊎ ((whole (pos 0) <ℚ (box i).low) × (((box i).low *ℚ (box i).low) ≤ℚ (box j).low)))
    × (whole (pos 0) ≤ℚ (box i).high) × ((box j).high ≤ℚ ((box i).high *ℚ (box i).high))
