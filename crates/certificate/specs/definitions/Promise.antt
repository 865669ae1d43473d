-- What is promised of the result of a test that passes, of every value that its models allow, at fractions of their interval.
use Rattle.std.specs.Prelude.{◌≡◌, ◌⊎◌, map, ◌≤◌, ◌<◌, pos}
use Rattle.fraction.specs.definitions.Fraction.{ℚ, whole, ◌*ℚ◌, ◌/ℚ◌, ◌≤ℚ◌, ◌<ℚ◌}
use Rattle.integer.specs.definitions.FractionRing.{ℚ_ring}
use Rattle.chebyshev.specs.definitions.Coefficients.{value}
use Rattle.model.specs.definitions.Allowed.{position, Allows, OnInterval}
use Rattle.model.specs.definitions.Models.{scale, max_degree, max_radius}
use Rattle.model.specs.declared.types.Model.{Model}
use Rattle.certificate.specs.definitions.Tests.{Certificate}
use Rattle.certificate.specs.definitions.RootBounds.{RootBounds, of_units}

-- Of the quotient q of f and g. 02, S-14: "at every fraction from -1 to 1 no value that g allows is zero, and each allowed value
-- of f over one of g is allowed by it with its radius", with S-24 "at fractions of its own interval in place of -1 to 1"
pub record QuotientAllowed (f g q : Model) : Type 0 where
  pub divisor : (x v : ℚ) → OnInterval f.interval x → Allows g x v → ¬ (v ≡ whole (pos 0))
  pub quotient : (x u v : ℚ) → OnInterval f.interval x → Allows f x u → Allows g x v → Allows q x (u /ℚ v)

-- 01's boxes of a root, over the old box from l to u: "low = 0 or low > 0 with low² ≤ the old low, and high ≥ 0 with high² ≥ the
-- old high"
pub record RootBox (low high l u : ℚ) : Type 0 where
  pub ordered : low ≤ℚ high
  pub low_fits : (low ≡ whole (pos 0)) ⊎ ((whole (pos 0) <ℚ low) × (low *ℚ low ≤ℚ l))
  pub high_nonneg : whole (pos 0) ≤ℚ high
  pub high_fits : u ≤ℚ high *ℚ high

-- the value of a model's polynomial at x: Σ a_k·T_k/S
abbrev pub centre : Model → ℚ → ℚ
centre m x = of_units (value ℚ_ring (position m.interval x) (map whole m.coefficients))

-- Of the root h of f, by either rule.
pub record RootAllowed (f h : Model) : Type 0 where
  -- requirement 3: "no value that the model under the root allows there is negative"; nor is one zero
  pub radicand : (x v : ℚ) → OnInterval f.interval x → Allows f x v → whole (pos 0) <ℚ v
  -- a fraction that is the root of an allowed value is allowed
  pub root : (x v y : ℚ) → OnInterval f.interval x → Allows f x v → whole (pos 0) ≤ℚ y → y *ℚ y ≡ v → Allows h x y
  -- fraction or not, the root lies within h's radius of h's value
  pub bounds : (x v : ℚ) → OnInterval f.interval x → Allows f x v
      → RootBounds (centre h x) (of_units (whole (pos h.radius))) v
  -- and every box of it "overlaps its model plus or minus its radius"
  pub overlap : (x v low high l u : ℚ) → OnInterval f.interval x → Allows f x v → l ≤ℚ v → v ≤ℚ u → RootBox low high l u
      → (r : ℚ) × (low ≤ℚ r) × (r ≤ℚ high) × Allows h x r

-- Of the numbers of a result, of m, N and b too, so that each fits its field of a report record (02, S-30)
pub record NumbersFit (c : Certificate) : Type 0 where
  pub degree : c.model.degree ≤ max_degree
  pub contraction : c.m < scale
  pub residual : c.N ≤ max_radius
  pub displacement : c.b ≤ c.model.radius
  pub radius : c.model.radius ≤ max_radius
