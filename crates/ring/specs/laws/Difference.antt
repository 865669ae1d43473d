-- Whole numbers as differences of naturals: `D a b` is a − b. A linear fact over ℤ, hypotheses included, is one line:
--   lemma : (x y z : ℤ) → x ≤ℤ y → y <ℤ z → (x +ℤ pos 1) ≤ℤ z
--   lemma = all3 _ (simp differences (omega arith))
-- `all3` moves the statement to differences, `differences` turns each operation, ≡, ≤ℤ and <ℤ of them into ℕ.
-- Products up to degree 2 pass too; beyond that use the solver (Solver.antt).
use Rattle.std.specs.Prelude.{◌≡◌, ◌↔◌, ℕ, suc, ◌+◌, ◌*◌, ◌<◌, ◌≤◌, T, ◌≤ℤ◌, ◌<ℤ◌, ℤ, pos, negsuc, neg_ℤ, ◌+ℤ◌, ◌*ℤ◌}
use Rattle.std.proofs.Common.{sym, ap, subst, arith, leb→le, le→leb, ltb→lt, lt→ltb}
use Rattle.std.specs.Int.Signed.{le_z, lt_z, le_z_yes, lt_z_yes}
use Rattle.std.proofs.Math.IntN.{sub_ℕ}
use Rattle.ring.specs.laws.Parts.{◌⁺, ◌⁻, same, sub, sum, opposite, product}

-- shut, so that no rule sees through it
pub D : ℕ → ℕ → ℤ
D a b = sub_ℕ a b

pub D_parts : (a b : ℕ) → (D a b) ⁺ + b ≡ (D a b) ⁻ + a
unfolding D
D_parts a b = omega (arith, sub a b)

-- every whole number is a difference
pub D_eta : (z : ℤ) → z ≡ D (z ⁺) (z ⁻)
D_eta z = same z (D (z ⁺) (z ⁻)) (omega (arith, D_parts (z ⁺) (z ⁻)))

pub D_≡ : (a b c d : ℕ) → (D a b ≡ D c d) ↔ (a + d ≡ c + b)
D_≡ a b c d = (
  λ h. omega (arith, D_parts a b, D_parts c d, ap ◌⁺ h, ap ◌⁻ h),
  λ h. same (D a b) (D c d) (omega (arith, D_parts a b, D_parts c d)),
)

pub D_lit : (n : ℕ) → pos n ≡ D n 0
D_lit n = D_eta (pos n)

pub D_litn : (n : ℕ) → negsuc n ≡ D 0 (suc n)
D_litn n = D_eta (negsuc n)

pub D_neg : (a b : ℕ) → neg_ℤ (D a b) ≡ D b a
D_neg a b = same (neg_ℤ (D a b)) (D b a) (omega (arith, D_parts a b, D_parts b a, opposite (D a b)))

pub D_neg_lit : (n : ℕ) → neg_ℤ (pos n) ≡ D 0 n
D_neg_lit n = same (neg_ℤ (pos n)) (D 0 n) (omega (arith, D_parts 0 n, opposite (pos n)))

pub D_add : (a b c d : ℕ) → D a b +ℤ D c d ≡ D (a + c) (b + d)
D_add a b c d = same (D a b +ℤ D c d) (D (a + c) (b + d)) (omega (arith, D_parts a b, D_parts c d, D_parts (a + c) (b + d), sum (D a b) (D c d)))

-- from p + b = n + a and q + d = m + c, each times the other's parts
pub D_mul : (a b c d : ℕ) → D a b *ℤ D c d ≡ D (a * c + b * d) (a * d + b * c)
D_mul a b c d =
    same (D a b *ℤ D c d) (D (a * c + b * d) (a * d + b * c))
    (go ((D a b) ⁺) ((D a b) ⁻) ((D c d) ⁺) ((D c d) ⁻) (D_parts a b) (D_parts c d) ((D a b *ℤ D c d) ⁺) ((D a b *ℤ D c d) ⁻) (product (D a b) (D c d)).p (product (D a b) (D c d)).n _ _ (D_parts (a * c + b * d) (a * d + b * c)))
  where
    go : (p n q m : ℕ) → p + b ≡ n + a → q + d ≡ m + c → (s t : ℕ) → s ≡ p * q + n * m → t ≡ p * m + n * q → (u v : ℕ) → u + (a * d + b * c) ≡ v + (a * c + b * d) → s + v ≡ u + t
    go p n q m k l s t e f u v g =
        omega (
          arith,
          ap (λ (x : ℕ). x * q) k,
          ap (λ (x : ℕ). x * m) k,
          ap (λ (x : ℕ). a * x) l,
          ap (λ (x : ℕ). b * x) l,
        )

-- ---- the order

le_parts : (x y : ℤ) → x ≤ℤ y → x ⁺ + y ⁻ ≤ y ⁺ + x ⁻
le_parts (pos a) (pos b) h = omega (arith, leb→le a b h.le)
le_parts (pos a) (negsuc b) h = absurd h.le
le_parts (negsuc a) (pos b) h = omega arith
le_parts (negsuc a) (negsuc b) h = omega (arith, leb→le b a h.le)

parts_le : (x y : ℤ) → x ⁺ + y ⁻ ≤ y ⁺ + x ⁻ → T (le_z x y)
parts_le (pos a) (pos b) h = le→leb a b (omega arith)
parts_le (pos a) (negsuc b) h = absurd (omega arith)
parts_le (negsuc a) (pos b) h = tt
parts_le (negsuc a) (negsuc b) h = le→leb b a (omega arith)

lt_parts : (x y : ℤ) → x <ℤ y → x ⁺ + y ⁻ < y ⁺ + x ⁻
lt_parts (pos a) (pos b) h = omega (arith, ltb→lt a b h.lt)
lt_parts (pos a) (negsuc b) h = absurd h.lt
lt_parts (negsuc a) (pos b) h = omega arith
lt_parts (negsuc a) (negsuc b) h = omega (arith, ltb→lt b a h.lt)

parts_lt : (x y : ℤ) → x ⁺ + y ⁻ < y ⁺ + x ⁻ → T (lt_z x y)
parts_lt (pos a) (pos b) h = lt→ltb a b (omega arith)
parts_lt (pos a) (negsuc b) h = absurd (omega arith)
parts_lt (negsuc a) (pos b) h = tt
parts_lt (negsuc a) (negsuc b) h = lt→ltb b a (omega arith)

-- the order as a fact on parts, for `omega` in a code proof
pub ≤_parts : (x y : ℤ) → (x ≤ℤ y) ↔ (x ⁺ + y ⁻ ≤ y ⁺ + x ⁻)
≤_parts x y = (le_parts x y, λ h. le_z_yes (parts_le x y h))

pub <_parts : (x y : ℤ) → (x <ℤ y) ↔ (x ⁺ + y ⁻ < y ⁺ + x ⁻)
<_parts x y = (lt_parts x y, λ h. lt_z_yes (parts_lt x y h))

pub D_≤ : (a b c d : ℕ) → (D a b ≤ℤ D c d) ↔ (a + d ≤ c + b)
D_≤ a b c d = (
  λ h. omega (arith, D_parts a b, D_parts c d, le_parts (D a b) (D c d) h),
  λ h. (≤_parts (D a b) (D c d)).1 (omega (arith, D_parts a b, D_parts c d)),
)

pub D_< : (a b c d : ℕ) → (D a b <ℤ D c d) ↔ (a + d < c + b)
D_< a b c d = (
  λ h. omega (arith, D_parts a b, D_parts c d, lt_parts (D a b) (D c d) h),
  λ h. (<_parts (D a b) (D c d)).1 (omega (arith, D_parts a b, D_parts c d)),
)

pub ruleset differences = (D_add, D_mul, D_neg, D_neg_lit, D_lit, D_litn, D_≡, D_≤, D_<)

-- ---- what holds of all differences holds of all whole numbers

pub all1 {ℓ} : (P : ℤ → Type ℓ) → ((a b : ℕ) → P (D a b)) → (z : ℤ) → P z
all1 P f z = subst P (sym (D_eta z)) (f (z ⁺) (z ⁻))

pub all2 : (P : ℤ → ℤ → Type 0) → ((a b c d : ℕ) → P (D a b) (D c d)) → (x y : ℤ) → P x y
all2 P f = all1 (λ x. (y : ℤ) → P x y) (λ a b. all1 (P (D a b)) (f a b))

pub all3 : (P : ℤ → ℤ → ℤ → Type 0) → ((a b c d e f : ℕ) → P (D a b) (D c d) (D e f)) → (x y z : ℤ) → P x y z
all3 P f = all1 (λ x. (y z : ℤ) → P x y z) (λ a b. all2 (P (D a b)) (f a b))

pub all4 : (P : ℤ → ℤ → ℤ → ℤ → Type 0) → ((a b c d e f g h : ℕ) → P (D a b) (D c d) (D e f) (D g h)) → (x y z w : ℤ) → P x y z w
all4 P f = all1 (λ x. (y z w : ℤ) → P x y z w) (λ a b. all3 (P (D a b)) (f a b))
