-- Laws of the cross-multiplied form (Homogeneous.antt): q^k·T_k(p/q) = τ_k, the value of a list of whole numbers at p/q, and
-- |τ_k| ≤ q^k where |p| ≤ q.
use Rattle.std.specs.Prelude.{◌≡◌, ◌↔◌, ℤ, pos, nat_abs, ◌+ℤ◌, ◌-ℤ◌, ◌*ℤ◌, drop}
use Rattle.std.proofs.Math.Path.{sym, ap}
use Rattle.std.proofs.Common.{◌∙◌, pow-suc, mul-pos}
use Rattle.std.proofs.Math.Logic.Iff
use mathlib.Core.List.{List, [], ◌∷◌, map}
use Prim.Native.Nat.{ℕ, zero, suc, ◌+◌, ◌-◌, ◌*◌, ◌^◌, ◌≤◌, ◌<◌}
use native.Mathlib.Omega.{arith}
use Rattle.std.proofs.Math.Nat.{pow-zero}
use Rattle.std.proofs.Math.Numerals.{unary_clauses}
use Rattle.std.proofs.Math.Decide.{dec_le}
use Rattle.ring.specs.laws.Parts.{abs, same}
use Rattle.integer.proofs.laws.Embedding.{ι_opposite, ι_abs}
use Rattle.ring.specs.definitions.Ring.{CommutativeRing}
use Rattle.ring.proofs.laws.Solver.{reify, solve}
use Rattle.ring.proofs.laws.OrderedRingLaws.{le_of_eq, ◌⟨≼⟩◌, abs_mul_le, abs-scale}
use Rattle.ring.proofs.laws.Order.{∣∣_is, le-pos, pos-le}
use Rattle.fraction.specs.definitions.Fraction.{ℚ, ◌/1+◌, whole, ◌*ℚ◌, ◌/ℚ◌, ∣◌∣ℚ, ◌≤ℚ◌}
use Rattle.ring.proofs.laws.PairLaws.{den_is}
use Rattle.fraction.proofs.laws.FractionLaws.{*ℚ_comm, *ℚ_one, whole-mul, fraction_num}
use Rattle.integer.specs.definitions.FractionRing.{ℚ_ring}
use Rattle.integer.proofs.laws.FractionSolver.{reifyℚ, solveℚ}
use Rattle.integer.proofs.laws.FractionOrder.{ℚ_ordered, whole_le, whole-abs}
use Rattle.integer.proofs.laws.FractionInverse.{quotient_mul}
use Rattle.integer.proofs.laws.FractionRounding.{natural_positive, natural_nonzero}
use Rattle.chebyshev.specs.definitions.Recurrences.{first_kind}
use Rattle.chebyshev.proofs.laws.RecurrenceLaws.{first_bound}
use Rattle.chebyshev.specs.definitions.Coefficients.{weight, value_from, value}
use Rattle.chebyshev.specs.definitions.Homogeneous.{IsFraction, homogeneous, homogeneous_from, homogeneous_value}

pow-add : (q k d : ℕ) → q ^ (k + d) ≡ q ^ k * q ^ d
pow-add q k zero = simp unary_clauses (omega arith)
pow-add q k (suc d) = simp unary_clauses (ap (λ (n : ℕ). n * q) (pow-add q k d) ∙ omega arith)

pow-one : (q : ℕ) → q ^ 1 ≡ q
pow-one q = pow-suc q 0 ∙ ap (λ (n : ℕ). n * q) (pow-zero q) ∙ omega arith

-- the places from k on of a list that is zero beyond place n
rest_zero : (n k : ℕ) (c : ℤ) (a : List ℤ) → weight (drop (suc n - k) (c ∷ a)) ≡ 0 → weight (drop (suc n - suc k) a) ≡ 0
unfolding weight
rest_zero n k c a h = pick (dec_le k n)
  where
    pick : Dec (k ≤ n) → weight (drop (suc n - suc k) a) ≡ 0
    pick (yes l) = let e : suc n - k ≡ suc (suc n - suc k) = omega arith in rw e at h
    pick (no l) =
        let e : suc n - k ≡ 0 = omega arith in
        let f : suc n - suc k ≡ 0 = omega arith in
        let g = rw e at h in
        rw f (omega (arith, g))

first_zero : (n k : ℕ) (c : ℤ) (a : List ℤ) → n < k → weight (drop (suc n - k) (c ∷ a)) ≡ 0 → c ≡ pos 0
unfolding weight
first_zero n k c a l h =
    let e : suc n - k ≡ 0 = omega arith in
    let g = rw e at h in
    same c (pos 0) (omega (arith, g, abs c))

module _ (R : CommutativeRing) where
  open R use {A, add as ◌⊕◌, mul as ◌⊗◌, opp as ⊖◌, ι, ι_add, ι_mul}

  infixl 6 ◌⊕◌
  infixl 7 ◌⊗◌
  infix 8 ⊖◌
  ι_pow : (q k : ℕ) → ι (pos (q ^ suc k)) ≡ ι (pos (q ^ k)) ⊗ ι (pos q)
  ι_pow q k = ap (λ (n : ℕ). ι (pos n)) (pow-suc q k) ∙ ι_mul (pos (q ^ k)) (pos q)

  -- x = p/q, in any commutative ring
  module _ (x : A) (p : ℤ) (q : ℕ) (point : x ⊗ ι (pos q) ≡ ι p) where
    -- q^k·T_k(x) = τ_k
    first_homogeneous : (k : ℕ) → ι (pos (q ^ k)) ⊗ first_kind R x k ≡ ι (homogeneous p q k)
    unfolding first_kind homogeneous
    first_homogeneous zero = rw (pow-zero q) (R.one-mul (ι (pos 1)))
    first_homogeneous (suc zero) = rw (pow-one q) (R.mul_comm (ι (pos q)) x ∙ point)
    first_homogeneous (suc (suc k)) =
        ap (λ r. r ⊗ (ι (pos 2) ⊗ x ⊗ first_kind R x (suc k) ⊕ ⊖ first_kind R x k)) (ι_pow q (suc k))
        ∙ step (ι_pow q k) point (first_homogeneous (suc k)) (first_homogeneous k)
        ∙ sym (embed p (homogeneous p q (suc k)) (pos q) (homogeneous p q k))
      where
        step : {y r₁ r₀ t s y' t' s' : A} → r₁ ≡ r₀ ⊗ y → x ⊗ y ≡ y' → r₁ ⊗ t ≡ t' → r₀ ⊗ s ≡ s' → r₁ ⊗ y ⊗ (ι (pos 2) ⊗ x ⊗ t ⊕ ⊖ s) ≡ ι (pos 2) ⊗ y' ⊗ t' ⊕ ⊖ (y ⊗ y ⊗ s')
        step {y} {r₁} {r₀} {t} {s} e f g h = rw (← f, ← g, ← h, e) (solve R (x ∷ y ∷ r₀ ∷ t ∷ s ∷ []) (search reify depth 20) (search reify depth 20) tt)

        embed : (u v y w : ℤ) → ι (pos 2 *ℤ u *ℤ v -ℤ y *ℤ y *ℤ w) ≡ ι (pos 2) ⊗ ι u ⊗ ι v ⊕ ⊖ (ι y ⊗ ι y ⊗ ι w)
        embed u v y w = simp (ι_add, ι_opposite R, ι_mul)

    value_from_homogeneous : (n k : ℕ) (a : List ℤ) → weight (drop (suc n - k) a) ≡ 0 → ι (pos (q ^ n)) ⊗ value_from R x k (map ι a) ≡ ι (homogeneous_from p q n k a)
    unfolding value_from homogeneous_from
    value_from_homogeneous n k [] h = R.mul_comm (ι (pos (q ^ n))) (ι (pos 0)) ∙ R.zero-mul (ι (pos (q ^ n)))
    value_from_homogeneous n k (c ∷ a) h =
        pick (dec_le k n) (value_from_homogeneous n (suc k) a (rest_zero n k c a h))
        ∙ sym (embed c (homogeneous p q k) (pos (q ^ (n - k))) (homogeneous_from p q n (suc k) a))
      where
        embed : (c t u v : ℤ) → ι (c *ℤ t *ℤ u +ℤ v) ≡ ι c ⊗ ι t ⊗ ι u ⊕ ι v
        embed c t u v = simp (ι_add, ι_mul)

        within : {r s u : A} (c : A) {t t' v v' : A} → r ≡ s ⊗ u → s ⊗ t ≡ t' → r ⊗ v ≡ v' → r ⊗ (c ⊗ t ⊕ v) ≡ c ⊗ t' ⊗ u ⊕ v'
        within {r} {s} {u} c {t} {t'} {v} e f g = rw (← f, ← g, e) (solve R (s ∷ u ∷ c ∷ t ∷ v ∷ []) (search reify depth 20) (search reify depth 20) tt)

        beyond : (r t t' u v : A) {c v' : A} → c ≡ ι (pos 0) → r ⊗ v ≡ v' → r ⊗ (c ⊗ t ⊕ v) ≡ c ⊗ t' ⊗ u ⊕ v'
        beyond r t t' u v e g = rw (← g, e) (solve R (r ∷ t ∷ t' ∷ u ∷ v ∷ []) (search reify depth 20) (search reify depth 20) tt)

        split : k ≤ n → ι (pos (q ^ n)) ≡ ι (pos (q ^ k)) ⊗ ι (pos (q ^ (n - k)))
        split l = ap (λ (m : ℕ). ι (pos (q ^ m))) (omega arith) ∙ ap (λ (m : ℕ). ι (pos m)) (pow-add q k (n - k)) ∙ ι_mul (pos (q ^ k)) (pos (q ^ (n - k)))

        pick : Dec (k ≤ n) → {v v' : A} → ι (pos (q ^ n)) ⊗ v ≡ v'
            → ι (pos (q ^ n)) ⊗ (ι c ⊗ first_kind R x k ⊕ v) ≡ ι c ⊗ ι (homogeneous p q k) ⊗ ι (pos (q ^ (n - k))) ⊕ v'
        pick (yes l) {v} g = within (ι c) (split l) (first_homogeneous k) g
        pick (no l) {v} g =
            beyond (ι (pos (q ^ n))) (first_kind R x k) (ι (homogeneous p q k)) (ι (pos (q ^ (n - k)))) v
            (ap ι (first_zero n k c a (omega arith) h)) g

    -- q^n·a(x) = Σ a_k·τ_k·q^(n−k), for a list of whole numbers that is zero beyond place n
    pub value_homogeneous : (n : ℕ) (a : List ℤ) → weight (drop (suc n) a) ≡ 0 → ι (pos (q ^ n)) ⊗ value R x (map ι a) ≡ ι (homogeneous_value p q n a)
    unfolding value homogeneous_value
    value_homogeneous n a h = let e : suc n - 0 ≡ suc n = omega arith in value_from_homogeneous n 0 a (rw e h)

-- ---- at the fraction x = p/q

pub quotient_is : (p : ℤ) (q : ℕ) → 0 < q → IsFraction (whole p /ℚ whole (pos q)) p q
quotient_is p q h = record { positive = h; equation = quotient_mul (whole p) (whole (pos q)) (natural_nonzero h) }

pub fraction_is : (p : ℤ) (b : ℕ) → IsFraction (p /1+ b) p (suc b)
fraction_is p b = record { positive = omega arith; equation = rw den_is at (fraction_num p b) }

-- p/q = (m·p)/(m·q)
pub fraction_scale : {x : ℚ} {p : ℤ} {q : ℕ} (m : ℕ) → 0 < m → IsFraction x p q → IsFraction x (pos m *ℤ p) (m * q)
fraction_scale {x} {p} {q} m h f = record {
  positive = mul-pos h f.positive;
  equation = rw (whole-mul (pos m) (pos q), whole-mul (pos m) p) (go (whole (pos m)) (whole (pos q)) f.equation);
}
  where
    go : (m q : ℚ) {p : ℚ} → x *ℚ q ≡ p → x *ℚ (m *ℚ q) ≡ m *ℚ p
    go m q e = rw (← e) (solveℚ (x ∷ m ∷ q ∷ []) (search reifyℚ depth 9) (search reifyℚ depth 9) tt)

-- |x| ≤ 1 exactly where |p| ≤ q
pub fraction_range : {x : ℚ} {p : ℤ} {q : ℕ} → IsFraction x p q → (∣ x ∣ℚ ≤ℚ whole (pos 1)) ↔ (nat_abs p ≤ q)
fraction_range {x} {p} {q} f =
    Iff.trans (abs-scale ℚ_ordered (whole (pos q)) x (whole (pos 1)) (natural_positive q f.positive))
    (rw (*ℚ_comm (whole (pos q)) x, f.equation, *ℚ_one, whole-abs, ∣∣_is) (embedded (nat_abs p) q))
  where
    embedded : (m n : ℕ) → (whole (pos m) ≤ℚ whole (pos n)) ↔ (m ≤ n)
    embedded m n = simp whole_le (le-pos m n, pos-le m n)

-- q^k·T_k(x) = τ_k
pub first_fraction : {x : ℚ} {p : ℤ} {q : ℕ} (k : ℕ) → IsFraction x p q → whole (pos (q ^ k)) *ℚ first_kind ℚ_ring x k ≡ whole (homogeneous p q k)
first_fraction {x} {p} {q} k f = first_homogeneous ℚ_ring x p q f.equation k

-- |τ_k| ≤ q^k where |p| ≤ q
pub homogeneous_bound : (p : ℤ) (q k : ℕ) → 0 < q → nat_abs p ≤ q → nat_abs (homogeneous p q k) ≤ q ^ k
homogeneous_bound p q k positive h = le-pos (nat_abs t) (q ^ k) ((whole_le (pos (nat_abs t)) (pos (q ^ k))).0 (rw (ι_abs ℚ_ordered t) at bounded))
  where
    x : ℚ
    x = whole p /ℚ whole (pos q)

    t : ℤ
    t = homogeneous p q k

    r : ℚ
    r = whole (pos (q ^ k))

    bounded : ∣ whole t ∣ℚ ≤ℚ r
    bounded =
        rw (← first_fraction k (quotient_is p q positive))
        (◌⟨≼⟩◌ ℚ_ordered
        (abs_mul_le ℚ_ordered r (first_kind ℚ_ring x k) (le_of_eq ℚ_ordered (ι_abs ℚ_ordered (pos (q ^ k)))) (first_bound ℚ_ordered x k ((fraction_range (quotient_is p q positive)).1 h)))
        (le_of_eq ℚ_ordered (*ℚ_one r)))
