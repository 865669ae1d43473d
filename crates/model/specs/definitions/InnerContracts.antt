-- What inner functions ask of their callers and answer to them. The contracts of the entries do not speak of this.
use Rattle.std.specs.Prelude.{◌≡◌, Bool, true, cond, ◌||◌, List, [], ◌∷◌, ◌++◌, ℕ, suc, ◌+◌, ◌*◌, ◌-◌, ◌^◌, ◌≤◌, ◌<◌, max, ltb, ℤ, pos, nat_abs, ◌<ℤ◌, length, take, drop, replicate}
use Rattle.ring.specs.definitions.Integer.{ℤ_ring}
use Rattle.chebyshev.specs.definitions.Coefficients.{weight, add_lists, scale_list, subtract_lists}
use Rattle.chebyshev.specs.definitions.Product.{Walk}
use Rattle.model.specs.definitions.Models.{scale, coefficient_count, max_degree, max_weight, max_radius, good}
use Rattle.model.specs.definitions.Models.{make_model, zero_model, bad_place, different_place, large_place}
use Rattle.model.specs.definitions.Outcomes.{Outcome, outcome}
use Rattle.model.specs.definitions.Round.{rounded, rounding_loss}
use Rattle.model.specs.definitions.Integrate.{halved, alternating}
use Rattle.model.specs.declared.types.Interval.{Interval}
use Rattle.model.specs.declared.types.Model.{Model}
use Rattle.model.specs.declared.round.Rounded.{Rounded}
use Rattle.model.specs.declared.multiply.RoundedProduct.{RoundedProduct}

-- ---- what is asked

-- lists of coefficients within a model's limits
pub record Factors (a b : List ℤ) : Type 0 where
  pub first_short : length a ≤ coefficient_count
  pub second_short : length b ≤ coefficient_count
  pub first_light : weight a ≤ max_weight
  pub second_light : weight b ≤ max_weight

-- two models' coefficients, to be added or subtracted
pub record Summands (a b : List ℤ) (sign : ℤ) : Type 0 where
  pub first_light : weight a ≤ max_weight
  pub second_light : weight b ≤ max_weight
  pub unit : nat_abs sign ≡ 1

-- two good models with their weights, and a kept degree within its limit
pub record Multipliable (a b : Model) (wa wb kept : ℕ) : Type 0 where
  pub first_good : good a ≡ true
  pub second_good : good b ≡ true
  pub first_weight : wa ≡ weight a.coefficients
  pub second_weight : wb ≡ weight b.coefficients
  pub kept_fits : kept ≤ max_degree

-- weights and radii within a model's limits
pub record Limited (a ea b eb : ℕ) : Type 0 where
  pub first_weight : a ≤ max_weight
  pub first_radius : ea ≤ max_radius
  pub second_weight : b ≤ max_weight
  pub second_radius : eb ≤ max_radius

-- a model's coefficients and a point within the interval
pub record Evaluable (degree : ℕ) (coefficients : List ℤ) (p : ℤ) : Type 0 where
  pub degree_fits : degree ≤ max_degree
  pub light : weight coefficients ≤ max_weight
  pub inside : nat_abs p ≤ scale

-- the list 2·a_0, a_1, … of a model that has an integral, and the extent of its interval
pub record Integrable (degree : ℕ) (doubled : List ℤ) (extent : ℕ) : Type 0 where
  pub degree_fits : degree < max_degree
  pub light : weight doubled ≤ 2 * max_weight
  pub extent-fits : extent ≤ 2 ^ 29

-- two numbers of such a list, and a place of the integral
pub record Numerator (below above : ℤ) (extent k : ℕ) : Type 0 where
  pub below_fits : nat_abs below ≤ 2 ^ 29
  pub above_fits : nat_abs above ≤ 2 ^ 29
  pub extent-fits : extent ≤ 2 ^ 29
  pub some : 0 < k
  pub place_fits : k ≤ max_degree

-- a list of which the first numbers are to be rounded, and a divisor
pub record Roundable (c : List ℤ) (kept : ℕ) (unit : ℤ) : Type 0 where
  pub kept_fits : kept ≤ coefficient_count
  pub there : kept ≤ length c
  pub light : weight c < 2 ^ 62
  pub divides : pos 1 <ℤ unit

-- ---- a result that is formed

-- a result, refused with 3 where it is too large
unfoldable pub unless_large : Model → Outcome Model
unless_large m = outcome (large_place m ∷ []) m zero_model

-- from what code has of it: the degree n, the weight w, the radius e, and the coefficients cs, which count only where w is
-- within its limit
unfoldable pub formed_outcome : ℕ → List ℤ → ℕ → ℕ → Interval → Outcome Model
formed_outcome n cs w e i =
    outcome ((ltb max_weight w || (ltb max_radius e || ltb max_degree n), 3) ∷ []) (make_model n cs e i) zero_model

-- ---- add and subtract as one operation, a + s·b with s = 1 or s = −1

unfoldable pub combined_model : ℤ → Model → Model → Model
combined_model s a b =
    make_model (max a.degree b.degree)
    (add_lists ℤ_ring a.coefficients (scale_list ℤ_ring s b.coefficients))
    (a.radius + b.radius)
    a.interval

unfoldable pub combination : ℤ → Model → Model → Outcome Model
combination s a b =
    outcome (bad_place a ∷ bad_place b ∷ different_place a b ∷ large_place (combined_model s a b) ∷ []) (combined_model s a b)
    zero_model

-- ---- the pass over a list c, of which the first n numbers are kept, with the divisor d

pub record RoundedFrom (d : ℕ) (c : List ℤ) (n : ℕ) (r : Rounded) : Type 0 where
  pub weight_is : r.weight ≡ weight (rounded d (take n c))
  pub loss_is : r.loss ≡ rounding_loss d (take n c) + weight (drop n c)
  pub coefficients_are : r.weight ≤ max_weight
      → r.coefficients ≡ rounded d (take n c) ++ replicate (coefficient_count - n) (pos 0)

-- the walk w: the list that it formed is rounded, and its visits are answered
pub record RoundedWalk (d : ℕ) (w : Walk ℤ) (n : ℕ) (r : RoundedProduct) : Type 0 where
  pub list : List ℤ
  pub walk_is : (list, r.visits) ≡ w
  pub rounded_from : RoundedFrom d list n r.rounded

-- ---- W in one sum, whether the point was mapped exactly or not

-- what |a_k| counts for
abbrev pub error_factor : Bool → ℕ → ℕ
error_factor exact k = k * (k - 1) + cond exact 0 (2 ^ 11 * (k * k))

unfoldable pub error_from : Bool → ℕ → List ℤ → ℕ
error_from exact k [] = 0
error_from exact k (a ∷ rest) = nat_abs a * error_factor exact k + error_from exact (suc k) rest

-- ---- the integral from the list ds = 2·a_0, a_1, …

-- c_1, c_2, … from ds, over an interval of extent d
unfoldable pub rounded_tail : ℕ → List ℤ → List ℤ
rounded_tail d ds = halved d 1 (subtract_lists ℤ_ring ds (drop 2 ds))

-- c_0, c_1, … in a model's places
unfoldable pub rounded_integral : ℕ → List ℤ → List ℤ
rounded_integral d ds =
    (alternating (rounded_tail d ds) ∷ rounded_tail d ds)
    ++ replicate (coefficient_count - suc (length (rounded_tail d ds))) (pos 0)
