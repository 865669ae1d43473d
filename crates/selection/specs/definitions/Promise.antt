-- Document 02, S-14: what is promised of the chosen proposal. That its quotients are allowed is certificate's `QuotientAllowed`,
-- of the part with its radius.
use Rattle.std.specs.Prelude.{◌≡◌, ◌⊎◌, List, ℕ, ◌≤◌, ℤ}
use Rattle.model.specs.definitions.Models.{max_degree, make_model}
use Rattle.model.specs.definitions.Outcomes.{Outcome, accepted}
use Rattle.model.specs.declared.types.Interval.{Interval}
use Rattle.model.specs.declared.types.Model.{Model}
use Rattle.selection.specs.definitions.Select.{Selected}

-- coefficients with a radius, as a model; what a model allows does not depend on its degree
abbrev pub part_model : List ℤ → ℕ → Interval → Model
part_model cs e i = make_model max_degree cs e i

-- "the tighter proposal": of the radii, or refusals, of the first and of the second, the chosen one passes with the radius of the
-- selection, and no proposal that passes has a smaller one
pub record Tightest (a b : Outcome ℕ) (c : Selected) : Type 0 where
  pub passes : ((c.chosen ≡ 1) × (a ≡ accepted c.radius)) ⊎ ((c.chosen ≡ 2) × (b ≡ accepted c.radius))
  pub least_first : (e : ℕ) → a ≡ accepted e → c.radius ≤ e
  pub least_second : (d : ℕ) → b ≡ accepted d → c.radius ≤ d
