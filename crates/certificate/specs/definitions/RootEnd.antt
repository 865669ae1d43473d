-- The last places of a root test, behind N: what they are given and what they answer. The contracts of the entries do not speak
-- of this. M is the weight of w.
use Rattle.std.specs.Prelude.{[], ◌∷◌, ℕ, ◌*◌, ◌-◌, ◌^◌, ◌≤◌, ◌<◌}
use Rattle.model.specs.definitions.Models.{scale, max_weight}
use Rattle.model.specs.definitions.Outcomes.{Outcome, outcome}
use Rattle.certificate.specs.definitions.Root.{rule_place, rule_radius}
use Rattle.certificate.specs.declared.types.RootRule.{RootRule}

pub record RootLast (M m b : ℕ) : Type 0 where
  pub positive : 0 < M
  pub weight-fits : M ≤ max_weight
  pub contracting : m < scale
  pub displaced : b ≤ 2 ^ 36
  pub square : (scale - m) * scale ≤ 2 ^ 29 * M

-- the radius, or the number of the rule's own place
abbrev pub rule_outcome : RootRule → ℕ → ℕ → ℕ → Outcome ℕ
rule_outcome rule M m b = outcome (rule_place rule M m b ∷ []) (rule_radius rule M m b) 0
