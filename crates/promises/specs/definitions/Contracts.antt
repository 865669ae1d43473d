-- What the contracts of the tests, of two proposals, of the converter and of the makers promise of an accepted answer, by
-- records and definitions of these crates: each said in so many words. Requirement 3 in the contract of a check: Jobs.antt.
use Rattle.std.specs.Prelude.{◌≡◌, true, List, ◌∷◌, map, ◌⊎◌, ℕ, ◌+◌, ◌^◌, ◌≤◌, ℤ, pos, replicate, take, drop}
use Rattle.std.specs.Borrow.{Bor}
use Rattle.fraction.specs.definitions.Fraction.{ℚ, whole, ◌+ℚ◌, ◌-ℚ◌, -ℚ◌, ◌*ℚ◌, ◌/ℚ◌, ◌≤ℚ◌, ◌<ℚ◌}
use Rattle.integer.specs.definitions.FractionRing.{ℚ_ring}
use Rattle.chebyshev.specs.definitions.Coefficients.{value}
use Rattle.model.specs.definitions.Intervals.{standard_interval}
use Rattle.model.specs.definitions.Models.{scale, good}
use Rattle.model.specs.definitions.Outcomes.{Outcome, accepted}
use Rattle.model.specs.definitions.Allowed.{position, Allows, OnInterval}
use Rattle.model.specs.declared.types.Model.{Model}
use Rattle.certificate.specs.definitions.Promise.{QuotientAllowed, RootAllowed}
use Rattle.series.specs.definitions.Promise.{SeriesAllowed}
use Rattle.series.specs.definitions.SeriesValue.{series_value}
use Rattle.series.specs.declared.types.Series.{Series}
use Rattle.selection.specs.definitions.Promise.{Tightest}
use Rattle.selection.specs.definitions.Select.{Selected, IsPart}
use Rattle.proposals.specs.definitions.Values.{nought}
use Rattle.proposals.specs.definitions.Rounds.{round_of}
use Rattle.proposals.specs.definitions.Reciprocal.{make_reciprocal}
use Rattle.proposals.specs.definitions.ExactCase.{ExactReciprocal, ExactQuotient}
use Rattle.proposals.specs.declared.types.Ending.TheVariants.{Settled}
use Rattle.proposals.specs.declared.types.Quotient.{Quotient}
use Rattle.proposals.specs.declared.types.Reciprocal.{Reciprocal}
use Rattle.promises.specs.definitions.Proposals.{power_list, power_units, MadeExactly}

pub record ContractClaims : Type 0 where
  -- 02, S-14: "at every fraction …" of the own interval "no value that g allows is zero, and each allowed value of f over one of
  -- g is allowed by it with its radius"
  pub quotient_allowed : (f g q : Model) → QuotientAllowed f g q → (x u v : ℚ) → OnInterval f.interval x
      → Allows f x u → Allows g x v → (¬ (v ≡ whole (pos 0))) × Allows q x (u /ℚ v)
  -- "no value that the model under the root allows there is negative"
  pub root_positive : (f h : Model) → RootAllowed f h → (x v : ℚ) → OnInterval f.interval x → Allows f x v → whole (pos 0) <ℚ v
  -- the root of an allowed value is allowed
  pub root_allowed : (f h : Model) → RootAllowed f h → (x v y : ℚ) → OnInterval f.interval x → Allows f x v
      → whole (pos 0) ≤ℚ y → y *ℚ y ≡ v → Allows h x y
  -- and lies, whether it is a fraction or not, between y − ρ and y + ρ, where y is h's value and ρ its radius
  pub root_near : (f h : Model) → RootAllowed f h → (x v : ℚ) → OnInterval f.interval x → Allows f x v
      → let y = value ℚ_ring (position h.interval x) (map whole h.coefficients) /ℚ whole (pos scale) in
      let ρ = whole (pos h.radius) /ℚ whole (pos scale) in
      (whole (pos 0) ≤ℚ (y +ℚ ρ)) × (v ≤ℚ ((y +ℚ ρ) *ℚ (y +ℚ ρ))) × (((y -ℚ ρ) ≤ℚ whole (pos 0)) ⊎ (((y -ℚ ρ) *ℚ (y -ℚ ρ)) ≤ℚ v))
  -- 01, of its boxes: "low = 0 or low > 0 with low² ≤ the old low, and high ≥ 0 with high² ≥ the old high"
  pub root_boxes : (f h : Model) → RootAllowed f h → (x v : ℚ) → OnInterval f.interval x → Allows f x v
      → (low high l u : ℚ) → l ≤ℚ v → v ≤ℚ u → low ≤ℚ high
      → (low ≡ whole (pos 0)) ⊎ ((whole (pos 0) <ℚ low) × ((low *ℚ low) ≤ℚ l)) → whole (pos 0) ≤ℚ high → u ≤ℚ (high *ℚ high)
      → (r : ℚ) × (low ≤ℚ r) × (r ≤ℚ high) × Allows h x r
  -- 02, S-3: "Each converted model allows the series' exact value at every fraction from −1 to 1."
  pub series_allowed : (s : Series) (m : Model) → SeriesAllowed s m
      → (m.interval ≡ standard_interval)
      × ((x : ℚ) → (-ℚ whole (pos 1)) ≤ℚ x → x ≤ℚ whole (pos 1)
      → Allows m x (series_value s.coefficients x /ℚ whole (pos scale)))
  -- 02, S-14: "returns the tighter proposal's coefficients": of the radii, or refusals, of the two
  pub tightest : (a b : Outcome ℕ) (c : Selected) → Tightest a b c
      → (((c.chosen ≡ 1) × (a ≡ accepted c.radius)) ⊎ ((c.chosen ≡ 2) × (b ≡ accepted c.radius)))
      × ((e : ℕ) → a ≡ accepted e → c.radius ≤ e)
      × ((e : ℕ) → b ≡ accepted e → c.radius ≤ e)
  -- "as that part of the caller's own numbers": 33 numbers behind the degree, which takes 4 bytes
  pub part_of_first : (first second part : Bor (List ℤ)) → IsPart 1 first second part
      → (part.ref_ptr ≡ (first.ref_ptr.0, 4 + first.ref_ptr.1)) × (part.now ≡ take 33 (drop 1 first.now))
  pub part_of_second : (first second part : Bor (List ℤ)) → IsPart 2 first second part
      → (part.ref_ptr ≡ (second.ref_ptr.0, 4 + second.ref_ptr.1)) × (part.now ≡ take 33 (drop 1 second.now))
  -- 02, S-19: "A constant model whose coefficient is a power of two … gets its reciprocal with no rounding at all."
  pub exact_reciprocal : (g : Model) (o : Outcome Reciprocal) → ExactReciprocal g o → (j : ℕ) → good g ≡ true
      → g.coefficients ≡ pos (2 ^ j) ∷ replicate 32 (pos 0) → 12 ≤ j → j ≤ 28
      → o ≡ accepted (make_reciprocal (Settled nought) (round_of (power_list j) nought) (power_units j))
  pub exact_record : (f g : Model) (o : Outcome Quotient) → ExactQuotient f g o → (j : ℕ) → good g ≡ true
      → g.coefficients ≡ pos (2 ^ j) ∷ replicate 32 (pos 0) → 12 ≤ j → j ≤ 28 → (a : Quotient) → o ≡ accepted a
      → MadeExactly f j a
