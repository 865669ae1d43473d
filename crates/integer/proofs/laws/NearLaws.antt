-- Laws of `near` (Rounding.antt): it goes by the fraction alone, keeps whole numbers and the sign, and what it does to sizes.
use Rattle.std.specs.Prelude.{◌≡◌, refl, Bool, true, false, cond, [], ◌∷◌, ℕ, suc, ◌+◌, ◌*◌, ◌/◌, ◌≤◌, ◌<◌, leb, ℤ, pos, nat_abs, ◌+ℤ◌, ◌-ℤ◌, ◌*ℤ◌}
use Rattle.std.proofs.Common.{sym, ◌∙◌, ap, mul_comm, mul_assoc, mul-le-mul_right, le_of_mul-le-mul_right, le_of_suc-le-suc, lt_of_not-le, arith}
use Rattle.std.proofs.Math.Nat.{eq_of_mul-eq-mul_right}
use Rattle.integer.specs.definitions.Rounding.{floor, near, parity}
use Rattle.ring.specs.laws.Parts.{abs, apart, abs-mul, product, difference}
use Rattle.ring.proofs.laws.IntegerSolver.{reifyℤ, solveℤ}
use Rattle.integer.proofs.laws.RoundingLaws.{near_error, near_even, near_unique}

-- ---- the same fraction by other numbers

crossed : (c m n d e : ℤ) → m *ℤ e ≡ n *ℤ d → (c *ℤ e -ℤ n) *ℤ d ≡ (c *ℤ d -ℤ m) *ℤ e
crossed c m n d e h =
    solveℤ (c ∷ n ∷ d ∷ e ∷ []) (search reifyℤ depth 20) (search reifyℤ depth 20) tt
    ∙ ap (λ (z : ℤ). c *ℤ d *ℤ e -ℤ z) (sym h)
    ∙ solveℤ (c ∷ m ∷ d ∷ e ∷ []) (search reifyℤ depth 20) (search reifyℤ depth 20) tt

errors : (c m n : ℤ) (d e : ℕ) → m *ℤ pos e ≡ n *ℤ pos d → nat_abs (c *ℤ pos e -ℤ n) * d ≡ nat_abs (c *ℤ pos d -ℤ m) * e
errors c m n d e h = sym (abs-mul (c *ℤ pos e -ℤ n) (pos d)) ∙ ap nat_abs (crossed c m n (pos d) (pos e) h) ∙ abs-mul (c *ℤ pos d -ℤ m) (pos e)

-- x d = y e: twice x is at most e where twice y is at most d, and is e only where twice y is d
bounded : (x y d e : ℕ) → 0 < d → x * d ≡ y * e → 2 * y ≤ d → 2 * x ≤ e
bounded x y d e p h l =
    let m : 2 * y * e ≤ d * e = mul-le-mul_right e l in
    let a : 2 * x * d ≡ 2 * y * e = mul_assoc 2 x d ∙ ap (λ (z : ℕ). 2 * z) h ∙ sym (mul_assoc 2 y e) in
    let b : 2 * x * d ≤ e * d = rw (a, mul_comm e d) m in
    le_of_mul-le-mul_right b p

tied : (x y d e : ℕ) → 0 < e → x * d ≡ y * e → 2 * x ≡ e → 2 * y ≡ d
tied x y d e p h t =
    let a : 2 * x * d ≡ 2 * y * e = mul_assoc 2 x d ∙ ap (λ (z : ℕ). 2 * z) h ∙ sym (mul_assoc 2 y e) in
    eq_of_mul-eq-mul_right e p (2 * y) d (sym a ∙ ap (λ (z : ℕ). z * d) t ∙ mul_comm e d)

pub near_same : (m n : ℤ) (d e : ℕ) → 0 < d → 0 < e → m *ℤ pos e ≡ n *ℤ pos d → near m d ≡ near n e
near_same m n d e p q h =
    let c = near m d in
    let x = nat_abs (c *ℤ pos e -ℤ n) in
    let y = nat_abs (c *ℤ pos d -ℤ m) in
    near_unique n c e q (bounded x y d e p (errors c m n d e h) (near_error m d p)) (λ (t : 2 * x ≡ e). near_even m d p (tied x y d e q (errors c m n d e h) t))

-- ---- whole numbers, and none

pub near-whole : (n : ℤ) (d : ℕ) → 0 < d → near (n *ℤ pos d) d ≡ n
near-whole n d p = sym (near_unique (n *ℤ pos d) n d p (rw nothing (omega arith)) (λ (t : 2 * nat_abs (n *ℤ pos d -ℤ n *ℤ pos d) ≡ d). absurd (none (rw nothing at t))))
  where
    z : ℤ
    z = n *ℤ pos d

    nothing : nat_abs (n *ℤ pos d -ℤ n *ℤ pos d) ≡ 0
    nothing = omega (arith, difference z z, abs (z -ℤ z), apart (z -ℤ z))

    none : 2 * 0 ≡ d → ⊥
    none t = omega arith

pub near_small : (n : ℤ) (d : ℕ) → 2 * nat_abs n < d → near n d ≡ pos 0
near_small n d h =
    let z = pos 0 *ℤ pos d in
    let e : nat_abs (z -ℤ n) ≡ nat_abs n = omega (arith, product (pos 0) (pos d), difference z n, abs (z -ℤ n), abs n, apart n, apart (z -ℤ n)) in
    sym (near_unique n (pos 0) d (omega arith) (rw e (omega arith)) (λ (t : 2 * nat_abs (z -ℤ n) ≡ d). absurd (none (rw e at t))))
  where
    none : 2 * nat_abs n ≡ d → ⊥
    none t = omega arith

-- ---- sizes

-- |n| is q d or more: then near n d is q or more in size
pub near_large : (n : ℤ) (d q : ℕ) → 0 < d → q * d ≤ nat_abs n → q ≤ nat_abs (near n d)
near_large n d q p h = le_of_suc-le-suc (lt_of_not-le (λ (l : nat_abs (near n d) < q). clash (nat_abs (near n d)) (near n d) refl (near_error n d p) l))
  where
    clash : (k : ℕ) (c : ℤ) → k ≡ nat_abs c → 2 * nat_abs (c *ℤ pos d -ℤ n) ≤ d → k < q → ⊥
    clash k c e l lt =
        let z = c *ℤ pos d in
        let m : suc k * d ≤ q * d = mul-le-mul_right d lt in
        let a : nat_abs z ≡ k * d = abs-mul c (pos d) ∙ ap (λ (x : ℕ). x * d) (sym e) in
        let b : suc k * d ≡ k * d + d = omega arith in
        omega (arith, difference z n, abs (z -ℤ n), abs n, apart n, apart (z -ℤ n), abs z, apart z)

-- a natural number is near a natural fraction
pub near_natural : (n d : ℕ) → near (pos n) d ≡ pos (nat_abs (near (pos n) d))
unfolding near floor
near_natural n d = go (leb (2 * nat_abs (pos n -ℤ pos (n / d) *ℤ pos d) + parity (pos (n / d))) d)
  where
    go : (b : Bool) → cond b (pos (n / d)) (pos (n / d) +ℤ pos 1) ≡ pos (nat_abs (cond b (pos (n / d)) (pos (n / d) +ℤ pos 1)))
    go true = refl
    go false = refl

-- |n| is q d or less: then near n d is q or less in size
pub near_within : (n : ℤ) (d q : ℕ) → 0 < d → nat_abs n ≤ q * d → nat_abs (near n d) ≤ q
near_within n d q p h = le_of_suc-le-suc (lt_of_not-le (λ (l : q < nat_abs (near n d)). clash (nat_abs (near n d)) (near n d) refl (near_error n d p) l))
  where
    clash : (k : ℕ) (c : ℤ) → k ≡ nat_abs c → 2 * nat_abs (c *ℤ pos d -ℤ n) ≤ d → q < k → ⊥
    clash k c e l lt =
        let z = c *ℤ pos d in
        let m : suc q * d ≤ k * d = mul-le-mul_right d lt in
        let a : nat_abs z ≡ k * d = abs-mul c (pos d) ∙ ap (λ (x : ℕ). x * d) (sym e) in
        let b : suc q * d ≡ q * d + d = omega arith in
        omega (arith, difference z n, abs (z -ℤ n), abs n, apart n, apart (z -ℤ n), abs z, apart z)
