-- The rows of the table (Table.antt). Row k is 2^(32−k) times the coefficients of (2·x)^k, which are whole numbers; so the halves
-- are exact, and the row's value is 2^32·x^k.
use Rattle.std.specs.Prelude.{◌≡◌, refl, List, [], ◌∷◌, map, ℕ, zero, suc, ◌+◌, ◌-◌, ◌*◌, ◌^◌, ◌<◌, ◌≤◌, ℤ, pos, ◌+ℤ◌, ◌*ℤ◌, length, get_or}
use Rattle.std.proofs.Common.{sym, ◌∙◌, ap, ap₂, mul-le-mul, arith, pow-add}
use Rattle.std.proofs.Math.IntN.{*ℤ_comm, zero-*ℤ}
use Rattle.std.proofs.lemmas.List.{length-map}
use Rattle.std.proofs.Math.ListN.{get_or-eq_default}
use Rattle.ring.specs.laws.Difference.{all1, differences}
use Rattle.integer.proofs.laws.RoundingLaws.{floor_left}
use Rattle.fraction.proofs.laws.FractionLaws.{*ℚ_assoc}
use Rattle.ring.specs.definitions.Integer.{ℤ_ring}
use Rattle.integer.specs.definitions.Rounding.{floor}
use Rattle.fraction.specs.definitions.Fraction.{ℚ, whole, ◌*ℚ◌}
use Rattle.integer.specs.definitions.FractionRing.{ℚ_ring}
use Rattle.integer.proofs.laws.FractionRounding.{natural_mul}
use Rattle.integer.proofs.laws.FractionSolver.{solveℚ, reifyℚ}
use Rattle.chebyshev.specs.definitions.Coefficients.{weight, scale_list, value}
use Rattle.chebyshev.specs.definitions.Neighbours.{neighbour_sums}
use Rattle.chebyshev.proofs.laws.CoefficientLaws.{value_constant, get_d_scale}
use Rattle.chebyshev.proofs.laws.Weight.{weight-scale}
use Rattle.chebyshev.proofs.laws.NeighbourLaws.{value_neighbours, scale_neighbours, neighbours_zeroth, neighbours_first, neighbours_at, length_neighbours, weight_neighbours, map_ι_neighbours}
use Rattle.model.specs.definitions.Models.{max_degree}
use Rattle.model.proofs.laws.ValueLaws.{value_at, value_at_scale}
use Rattle.series.specs.definitions.Table.{expansion_unit, expansion_row}
use Rattle.series.specs.definitions.SeriesValue.{power}

-- ---- the coefficients of (2·x)^k

unfoldable doubled_power : ℕ → List ℤ
doubled_power zero = pos 1 ∷ []
doubled_power (suc k) = neighbour_sums ℤ_ring (doubled_power k)

length_next : (e : List ℤ) (n : ℕ) → length e ≡ suc n → length (neighbour_sums ℤ_ring e) ≡ suc (suc n)
length_next [] n h = absurd (omega arith)
length_next (x ∷ e) n h = length_neighbours ℤ_ring x e ∙ ap suc h

length_doubled : (k : ℕ) → length (doubled_power k) ≡ suc k
unfolding doubled_power
length_doubled zero = refl
length_doubled (suc k) = length_next (doubled_power k) k (length_doubled k)

weight_doubled : (k : ℕ) → weight (doubled_power k) ≤ 2 ^ k
unfolding doubled_power weight
weight_doubled zero = omega arith
weight_doubled (suc k) = omega (arith, weight_neighbours (doubled_power k), weight_doubled k)

-- every other coefficient is zero, the last but one among them
abbrev Alternate : ℕ → Type 0
Alternate k = (i m : ℕ) → suc (suc i) + 2 * m ≡ suc k → get_or (doubled_power k) i (pos 0) ≡ pos 0

-- the same of places counted from 1: the one above the last, or one of those
above : (k : ℕ) → Alternate k → (i m : ℕ) → i + 2 * m ≡ k → get_or (doubled_power k) (suc i) (pos 0) ≡ pos 0
above k a i zero e = get_or-eq_default (doubled_power k) (pos 0) {n = suc i} (omega (arith, length_doubled k))
above k a i (suc m) e = a (suc i) m (omega arith)

alternate_next : (k : ℕ) → Alternate k → Alternate (suc k)
unfolding doubled_power
alternate_next k a zero m e = neighbours_zeroth ℤ_ring (doubled_power k) ∙ above k a 0 m (omega arith)
alternate_next k a (suc zero) m e =
    neighbours_first ℤ_ring (doubled_power k) ∙ ap₂ (λ x y. pos 2 *ℤ x +ℤ y) (a 0 m (omega arith)) (above k a 1 m (omega arith))
alternate_next k a (suc (suc i)) m e =
    neighbours_at ℤ_ring (doubled_power k) i ∙ ap₂ ◌+ℤ◌ (a (suc i) m (omega arith)) (above k a (suc (suc i)) m (omega arith))

doubled_alternate : (k : ℕ) → Alternate k
doubled_alternate zero i m h = absurd (omega arith)
doubled_alternate (suc k) i m h = alternate_next k (doubled_alternate k) i m h

twice_power : (k : ℕ) → 2 * 2 ^ k ≡ 2 ^ suc k
twice_power k = omega arith

value_doubled : (x : ℚ) (k : ℕ) → value_at x (doubled_power k) ≡ whole (pos (2 ^ k)) *ℚ power x k
unfolding doubled_power power
value_doubled x zero = value_constant ℚ_ring x (whole (pos 1)) ∙ solveℚ [] (search reifyℚ depth 20) (search reifyℚ depth 20) tt
value_doubled x (suc k) =
    ap (value ℚ_ring x) (map_ι_neighbours ℚ_ring (doubled_power k))
    ∙ value_neighbours ℚ_ring x (map whole (doubled_power k))
    ∙ ap (λ v. whole (pos 2) *ℚ x *ℚ v) (value_doubled x k)
    ∙ regroup (whole (pos (2 ^ k))) (power x k)
    ∙ ap (λ c. c *ℚ (x *ℚ power x k)) (sym (natural_mul 2 (2 ^ k)) ∙ ap (λ n. whole (pos n)) (twice_power k))
  where
    regroup : (c v : ℚ) → whole (pos 2) *ℚ x *ℚ (c *ℚ v) ≡ whole (pos 2) *ℚ c *ℚ (x *ℚ v)
    regroup c v = solveℚ (x ∷ c ∷ v ∷ []) (search reifyℚ depth 20) (search reifyℚ depth 20) tt

-- ---- the rows

half_twice : (z : ℤ) → floor (pos 2 *ℤ z) 2 ≡ z
half_twice z = sym (floor_left (pos 2 *ℤ z) z (pos 0) 2 (split z) refl (omega arith))
  where
    split : (z : ℤ) → pos 2 *ℤ z ≡ z *ℤ pos 2 +ℤ pos 0
    split = all1 _ (simp differences (omega arith))

pub halves_of_twice : (e : List ℤ) → map (λ n. floor n 2) (scale_list ℤ_ring (pos 2) e) ≡ e
unfolding scale_list
halves_of_twice [] = refl
halves_of_twice (x ∷ e) = ap₂ ◌∷◌ (half_twice x) (halves_of_twice e)

-- 2^(m+1)·e = 2·(2^m·e)
twice_scaled : (m : ℕ) (e : List ℤ) → scale_list ℤ_ring (pos (2 ^ suc m)) e ≡ scale_list ℤ_ring (pos 2) (scale_list ℤ_ring (pos (2 ^ m)) e)
unfolding scale_list
twice_scaled m [] = refl
twice_scaled m (x ∷ e) =
    ap₂ ◌∷◌ (ap (λ n. pos n *ℤ x) (sym (twice_power m)) ∙ ℤ_ring.mul_assoc (pos 2) (pos (2 ^ m)) x) (twice_scaled m e)

-- what follows row k, before it is halved
neighbours_is : (k m : ℕ) → expansion_row k ≡ scale_list ℤ_ring (pos (2 ^ suc m)) (doubled_power k)
    → neighbour_sums ℤ_ring (expansion_row k) ≡ scale_list ℤ_ring (pos 2) (scale_list ℤ_ring (pos (2 ^ m)) (doubled_power (suc k)))
unfolding doubled_power
neighbours_is k m h =
    ap (neighbour_sums ℤ_ring) h
    ∙ scale_neighbours ℤ_ring (pos (2 ^ suc m)) (doubled_power k)
    ∙ twice_scaled m (neighbour_sums ℤ_ring (doubled_power k))

row_is : (k m : ℕ) → k + m ≡ max_degree → expansion_row k ≡ scale_list ℤ_ring (pos (2 ^ m)) (doubled_power k)
unfolding expansion_row doubled_power scale_list
row_is zero m h = let e : m ≡ 32 = omega arith in rw e refl
row_is (suc k) m h =
    ap (map (λ n. floor n 2)) (neighbours_is k m (row_is k (suc m) (omega arith)))
    ∙ halves_of_twice (scale_list ℤ_ring (pos (2 ^ m)) (doubled_power (suc k)))

-- "all whole numbers": twice the next row is the sums of the neighbours, nothing lost by the halves
pub row_twice : (k : ℕ) → k < max_degree → scale_list ℤ_ring (pos 2) (expansion_row (suc k)) ≡ neighbour_sums ℤ_ring (expansion_row k)
row_twice k h =
    let m = max_degree - suc k in
    ap (scale_list ℤ_ring (pos 2)) (row_is (suc k) m (omega arith)) ∙ sym (neighbours_is k m (row_is k (suc m) (omega arith)))

pub length_row : (k : ℕ) → length (expansion_row k) ≡ suc k
unfolding expansion_row
length_row zero = refl
length_row (suc k) = length-map (neighbour_sums ℤ_ring (expansion_row k)) (λ n. floor n 2) ∙ length_next (expansion_row k) k (length_row k)

pub weight_row : (k : ℕ) → k ≤ max_degree → weight (expansion_row k) ≤ expansion_unit
weight_row k h =
    let m = max_degree - k in
    omega (arith, ap weight (row_is k m (omega arith)), weight-scale (pos (2 ^ m)) (doubled_power k), bound m, whole-power m (omega arith))
  where
    bound : (m : ℕ) → 2 ^ m * weight (doubled_power k) ≤ 2 ^ m * 2 ^ k
    bound m = mul-le-mul (omega arith) (weight_doubled k)

    whole-power : (m : ℕ) → m + k ≡ max_degree → 2 ^ m * 2 ^ k ≡ expansion_unit
    whole-power m q = sym (pow-add 2 m k) ∙ ap (λ n. 2 ^ n) q

-- every other entry is zero, the last but one among them
pub row_alternate : (k i m : ℕ) → k ≤ max_degree → suc (suc i) + 2 * m ≡ suc k → get_or (expansion_row k) i (pos 0) ≡ pos 0
row_alternate k i m h e =
    let n = max_degree - k in
    ap (λ r. get_or r i (pos 0)) (row_is k n (omega arith))
    ∙ get_d_scale ℤ_ring (pos (2 ^ n)) (doubled_power k) i
    ∙ ap (λ z. pos (2 ^ n) *ℤ z) (doubled_alternate k i m e)
    ∙ *ℤ_comm (pos (2 ^ n)) (pos 0)
    ∙ zero-*ℤ (pos (2 ^ n))

-- the row's value is 2^32·x^k
pub expansion_value : (k : ℕ) → k ≤ max_degree → (x : ℚ) → value_at x (expansion_row k) ≡ whole (pos expansion_unit) *ℚ power x k
expansion_value k h x =
    let m = max_degree - k in
    let q : m + k ≡ max_degree = omega arith in
    let e : 2 ^ m * 2 ^ k ≡ expansion_unit = sym (pow-add 2 m k) ∙ ap (λ n. 2 ^ n) q in
    ap (value_at x) (row_is k m (omega arith))
    ∙ value_at_scale x (pos (2 ^ m)) (doubled_power k)
    ∙ ap (λ v. whole (pos (2 ^ m)) *ℚ v) (value_doubled x k)
    ∙ sym (*ℚ_assoc (whole (pos (2 ^ m))) (whole (pos (2 ^ k))) (power x k))
    ∙ ap (λ c. c *ℚ power x k) (sym (natural_mul (2 ^ m) (2 ^ k)) ∙ ap (λ n. whole (pos n)) e)
