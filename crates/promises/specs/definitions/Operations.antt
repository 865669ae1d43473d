-- 01, "Plain operations", with 02, S-5, S-8 and S-24: what the answers of add, subtract, multiply, integrate and evaluate mean.
-- What they are stands in the contracts of the entries, as equations.
use Rattle.std.specs.Prelude.{◌≡◌, true, List, map, ◌↔◌, ℕ, ◌+◌, ◌*◌, ◌<◌, ℤ, pos, ◌+ℤ◌, ◌-ℤ◌, ◌*ℤ◌, length, get_or}
use Rattle.fraction.specs.definitions.Fraction.{ℚ, whole, ◌+ℚ◌, ◌-ℚ◌, -ℚ◌, ◌*ℚ◌, ◌/ℚ◌, ◌≤ℚ◌, ∣◌∣ℚ}
use Rattle.integer.specs.definitions.FractionRing.{ℚ_ring}
use Rattle.ring.specs.definitions.Integer.{ℤ_ring}
use Rattle.chebyshev.specs.definitions.Coefficients.{value, subtract_lists, lipschitz_weight}
use Rattle.chebyshev.specs.definitions.Derivative.{derivative_value, sum_from, remainder}
use Rattle.chebyshev.specs.definitions.Homogeneous.{IsFraction, allows_whole}
use Rattle.chebyshev.specs.definitions.Norms.{total_absolute}
use Rattle.chebyshev.specs.definitions.Primitive.{primitive}
use Rattle.chebyshev.specs.definitions.Product.{product_walk}
use Rattle.chebyshev.specs.definitions.Strips.{left_sum}
use Rattle.chebyshev.specs.definitions.TwoSums.{two_sums}
use Rattle.model.specs.definitions.Intervals.{extent, good_ends, standard_interval, contains}
use Rattle.model.specs.definitions.Models.{scale, coefficient_count, product_size, terms, good}
use Rattle.model.specs.definitions.Outcomes.{accepted}
use Rattle.model.specs.definitions.Allowed.{position, start, Allows, OnInterval}
use Rattle.model.specs.definitions.Load.{loading}
use Rattle.model.specs.definitions.Add.{addition, subtraction}
use Rattle.model.specs.definitions.Multiply.{product_list, product_visits, multiplication}
use Rattle.model.specs.definitions.Integrate.{exact_integral, integration}
use Rattle.model.specs.definitions.Evaluate.{point, evaluation}
use Rattle.model.specs.declared.types.Bounds.{Bounds}
use Rattle.model.specs.declared.types.Interval.{Interval}
use Rattle.model.specs.declared.types.Model.{Model}

-- ---- what the operands allow, the result allows

pub record SoundOperations : Type 0 where
  -- 01: "Add and subtract: coefficient by coefficient, the larger degree, radii added."
  pub addition_sound : (a b c : Model) → addition a b ≡ accepted c
      → (x v w : ℚ) → Allows a x v → Allows b x w → Allows c x (v +ℚ w)
  pub subtraction_sound : (a b c : Model) → subtraction a b ≡ accepted c
      → (x v w : ℚ) → Allows a x v → Allows b x w → Allows c x (v -ℚ w)
  -- 01: "The value is Σ C_k·T_k/(2·S²).", with whatever kept degree; S-24: at every fraction of the operands' interval
  pub multiplication_sound : (d : ℕ) (a b c : Model) → multiplication d a b ≡ accepted c
      → (x v w : ℚ) → OnInterval a.interval x → Allows a x v → Allows b x w → Allows c x (v *ℚ w)
  -- 01, of evaluation: "Each allowed value lies between them."
  pub evaluation_sound : (a : Model) (p : ℤ) (b : Bounds) → evaluation a p ≡ accepted b
      → (v : ℚ) → Allows a (point p) v
      → (whole b.low ≤ℚ (v *ℚ whole (pos scale))) × ((v *ℚ whole (pos scale)) ≤ℚ whole b.high)
  -- 02, S-24: "Number 4 is for points outside l..u."
  pub point_on_interval : (i : Interval) (p : ℤ) → good_ends i ≡ true → contains i p ≡ true → OnInterval i (point p)

-- ---- an accepted result is a good model, which no later operation refuses with 2 or 18

pub record GoodOperations : Type 0 where
  pub loading-good : (m c : Model) → loading m ≡ accepted c → good c ≡ true
  pub addition-good : (a b c : Model) → addition a b ≡ accepted c → good c ≡ true
  pub subtraction-good : (a b c : Model) → subtraction a b ≡ accepted c → good c ≡ true
  pub multiplication-good : (d : ℕ) (a b c : Model) → multiplication d a b ≡ accepted c → good c ≡ true
  pub integration-good : (a c : Model) → integration a ≡ accepted c → good c ≡ true

-- ---- products

pub record Products : Type 0 where
  -- 01: "C_k = Σ a_i·b_j over i+j = k, plus Σ a_i·b_j over |i−j| = k; a pair that meets both conditions counts twice."
  pub product_two_sums : (a b : Model) (k : ℕ) → k < product_size
      → get_or (product_list a b) k (pos 0) ≡ two_sums ℤ_ring k (terms a) (terms b)
  pub product-length : (a b : Model) → length (product_list a b) ≡ product_size
  -- 02, S-5: "counting its visits: exactly (n+1)·(m+1)", of any two lists, and of two good models by their degrees
  pub product_visits_lem : (width : ℕ) (a b : List ℤ) → (product_walk ℤ_ring width a b).1 ≡ length a * length b
  pub product_visits_is : (a b : Model) → good a ≡ true → good b ≡ true
      → length a.coefficients ≡ coefficient_count → length b.coefficients ≡ coefficient_count
      → product_visits a b ≡ (a.degree + 1) * (b.degree + 1)

-- ---- integrals

-- 01: "It bounds the exact primitive of every list of fractions whose coefficients differ from the model's by at most e units in
-- total absolute difference, again summed over coefficients." 02, S-8: "The old sense holds as well"; S-24: "Integration starts
-- at l/S, multiplies each numerator by (u−l)/(2S) before rounding".
pub record OldSense : Type 0 where
  pub integration_lists : (a c : Model) → integration a ≡ accepted c → (α : List ℚ)
      → total_absolute (subtract_lists ℚ_ring α (map whole a.coefficients)) ≤ℚ whole (pos a.radius)
      → total_absolute (subtract_lists ℚ_ring (exact_integral a.interval α) (map whole c.coefficients))
      ≤ℚ whole (pos c.radius)
  -- so the integral's model allows the exact primitive's value at every fraction of the interval
  pub integration_sound : (a c : Model) → integration a ≡ accepted c → (α : List ℚ)
      → total_absolute (subtract_lists ℚ_ring α (map whole a.coefficients)) ≤ℚ whole (pos a.radius)
      → (x : ℚ) → OnInterval a.interval x
      → Allows c x (value ℚ_ring (position a.interval x) (exact_integral a.interval α) /ℚ whole (pos scale))
  -- "c_0 makes the value at −1 exactly 0.": at l/S
  pub integration-start : (a c : Model) → integration a ≡ accepted c
      → value ℚ_ring (position c.interval (start a.interval)) (map whole c.coefficients) ≡ whole (pos 0)
  pub integration_interval : (a c : Model) → integration a ≡ accepted c → c.interval ≡ a.interval
  -- the exact primitive: 0 at l/S, and F(x + h) = F(x) + h·α(x) up to a multiple of h², F and α being taken on the interval
  pub exact_start : (i : Interval) → good_ends i ≡ true → (α : List ℚ)
      → value ℚ_ring (position i (start i)) (exact_integral i α) ≡ whole (pos 0)
  pub exact_derivative : (i : Interval) → good_ends i ≡ true → (α : List ℚ) (x h : ℚ)
      → let rate = (whole (pos 2) *ℚ whole (pos scale)) /ℚ whole (pos (extent i)) in
      value ℚ_ring (position i (x +ℚ h)) (exact_integral i α)
      ≡ value ℚ_ring (position i x) (exact_integral i α) +ℚ h *ℚ value ℚ_ring (position i x) α
      +ℚ h *ℚ h *ℚ (rate *ℚ sum_from ℚ_ring (remainder ℚ_ring (position i x) (h *ℚ rate)) 0 (primitive α))
  -- and on −1 to 1 by the derivatives T'_k
  pub primitive_derivative : (y : ℚ) (α : List ℚ) → derivative_value ℚ_ring y (primitive α) ≡ value ℚ_ring y α
  pub primitive_minus_one : (α : List ℚ) → value ℚ_ring (-ℚ whole (pos 1)) (primitive α) ≡ whole (pos 0)

-- 02, S-8: "choose an allowed value at every fraction, cut …" with S-24 l/S "to x into k equal strips, add left-end value times
-- width. For every k ≥ 1 the sum differs from the integral's polynomial at x by at most the radius plus …" with S-24
-- "L·(u−l)/(S·k)" "units, where L = Σ|a_k|·k² of the integrand."
pub record SenseByStrips : Type 0 where
  pub integration_strips : (a c : Model) → integration a ≡ accepted c → (choice : ℚ → ℚ)
      → ((y : ℚ) → OnInterval a.interval y → Allows a y (choice y))
      → (x : ℚ) → OnInterval a.interval x → (k : ℕ) → 0 < k
      → let from = start a.interval in
      ∣ left_sum choice from ((x -ℚ from) /ℚ whole (pos k)) k *ℚ whole (pos scale)
      -ℚ value ℚ_ring (position c.interval x) (map whole c.coefficients) ∣ℚ
      ≤ℚ (whole (pos c.radius)
      +ℚ whole (pos (lipschitz_weight 0 a.coefficients * extent a.interval)) /ℚ whole (pos (scale * k)))

-- ---- the interval −S..S

-- 02, S-24: "T_k is taken at (2·S·x−l−u)/(u−l)"
pub record Positions : Type 0 where
  pub position_within : (i : Interval) → good_ends i ≡ true → (x : ℚ) → OnInterval i x → ∣ position i x ∣ℚ ≤ℚ whole (pos 1)
  -- on −S..S it is x, and the fractions are those from −1 to 1
  pub position_standard : (x : ℚ) → position standard_interval x ≡ x
  pub standard_on : (x : ℚ) → OnInterval standard_interval x ↔ (((-ℚ whole (pos 1)) ≤ℚ x) × (x ≤ℚ whole (pos 1)))
  -- 01: "At x = p/q with q ≥ 1 and |p| ≤ q everything is cross-multiplied into whole numbers.": of x = p/q and v = w/d
  pub allows-cross : (m : Model) (x v : ℚ) (p w : ℤ) (q d : ℕ) → good m ≡ true → IsFraction x p q → IsFraction v w d
      → Allows m x v
      ↔ allows_whole scale m.coefficients m.radius m.degree
      (pos 2 *ℤ pos scale *ℤ p -ℤ (m.interval.lower +ℤ m.interval.upper) *ℤ pos q) (extent m.interval * q) w d
  -- the strips' term on −S..S: 2·L/k
  pub term_standard : (l k : ℕ) → 0 < k
      → whole (pos (l * (2 * scale))) /ℚ whole (pos (scale * k)) ≡ whole (pos (2 * l)) /ℚ whole (pos k)
