-- The positive part z⁺ and the negative part z⁻ of a whole number, natural numbers with z = z⁺ − z⁻, one of them 0.
-- `omega` reads only natural numbers. Listed as facts, the records below tell it what an operation on ℤ does:
--   omega (arith, sum a b, product a b, abs a, apart a)
use Rattle.std.specs.Prelude.{◌≡◌, refl, Bool, true, false, cond, ℕ, zero, suc, ◌+◌, ◌-◌, ◌*◌, ◌≤◌, ◌<◌, min, T, ltb, ℤ, pos, negsuc, neg_ℤ, ◌+ℤ◌, ◌-ℤ◌, ◌*ℤ◌, nat_abs}
use Rattle.std.proofs.Common.{ap, subst, sym, arith, mul-le-mul, ltb-true, ltb-false, leb-true, leb-false}
use Rattle.std.proofs.Math.IntN.{sub_ℕ}
use Rattle.std.specs.Int.Signed.{lt_z, le_z}

infix 90 ◌⁺ ◌⁻
abbrev pub ◌⁺ : ℤ → ℕ
(pos n) ⁺ = n
(negsuc n) ⁺ = 0

abbrev pub ◌⁻ : ℤ → ℕ
(pos n) ⁻ = 0
(negsuc n) ⁻ = suc n

-- one part is 0
pub apart : (a : ℤ) → min (a ⁺) (a ⁻) ≡ 0
apart (pos n) = omega arith
apart (negsuc n) = omega arith

pub abs : (a : ℤ) → nat_abs a ≡ a ⁺ + a ⁻
abs (pos n) = omega arith
abs (negsuc n) = omega arith

-- two numbers are equal where their parts cross to the same sum
pub same : (a b : ℤ) → a ⁺ + b ⁻ ≡ b ⁺ + a ⁻ → a ≡ b
same (pos a) (pos b) e = ap pos (omega arith)
same (pos a) (negsuc b) e = absurd (omega arith)
same (negsuc a) (pos b) e = absurd (omega arith)
same (negsuc a) (negsuc b) e = ap negsuc (omega arith)

-- ---- the parts of a difference of naturals, a sum, an opposite, a difference, a product

pub record Sub (a b : ℕ) (s : ℤ) : Type 0 where
  pub p : s ⁺ ≡ a - b
  pub n : s ⁻ ≡ b - a

sub_cases : (a b : ℕ) (t : Bool) → ltb a b ≡ t → Sub a b (cond t (negsuc (b - suc a)) (pos (a - b)))
sub_cases a b true e = let h : a < b = ltb-true a b e in record { p = omega arith; n = omega arith }
sub_cases a b false e = let h : b ≤ a = ltb-false a b e in record { p = refl; n = omega arith }

pub sub : (a b : ℕ) → Sub a b (sub_ℕ a b)
sub a b = sub_cases a b (ltb a b) refl

pub record Sum (a b s : ℤ) : Type 0 where
  pub cross : s ⁺ + (a ⁻ + b ⁻) ≡ s ⁻ + (a ⁺ + b ⁺)
  pub lp : s ⁺ ≤ a ⁺ + b ⁺
  pub ln : s ⁻ ≤ a ⁻ + b ⁻

pub sum : (a b : ℤ) → Sum a b (a +ℤ b)
sum (pos a) (pos b) = record { cross = omega arith; lp = omega arith; ln = omega arith }
sum (pos a) (negsuc b) = let h = sub a (suc b) in record { cross = omega arith; lp = omega arith; ln = omega arith }
sum (negsuc a) (pos b) = let h = sub b (suc a) in record { cross = omega arith; lp = omega arith; ln = omega arith }
sum (negsuc a) (negsuc b) = record { cross = omega arith; lp = omega arith; ln = omega arith }

pub record Opposite (a s : ℤ) : Type 0 where
  pub p : s ⁺ ≡ a ⁻
  pub n : s ⁻ ≡ a ⁺

pub opposite : (a : ℤ) → Opposite a (neg_ℤ a)
opposite (pos zero) = record { p = refl; n = refl }
opposite (pos (suc n)) = record { p = refl; n = refl }
opposite (negsuc n) = record { p = refl; n = refl }

pub record Difference (a b s : ℤ) : Type 0 where
  pub cross : s ⁺ + (a ⁻ + b ⁺) ≡ s ⁻ + (a ⁺ + b ⁻)
  pub lp : s ⁺ ≤ a ⁺ + b ⁻
  pub ln : s ⁻ ≤ a ⁻ + b ⁺

pub difference : (a b : ℤ) → Difference a b (a -ℤ b)
difference a b =
    let h = sum a (neg_ℤ b) in
    let o = opposite b in record { cross = omega arith; lp = omega arith; ln = omega arith }

pub record Product (a b s : ℤ) : Type 0 where
  pub p : s ⁺ ≡ a ⁺ * b ⁺ + a ⁻ * b ⁻
  pub n : s ⁻ ≡ a ⁺ * b ⁻ + a ⁻ * b ⁺

pub product : (a b : ℤ) → Product a b (a *ℤ b)
product (pos a) (pos b) = record { p = omega arith; n = omega arith }
product (pos a) (negsuc b) = let o = opposite (pos (a * suc b)) in record { p = omega arith; n = omega arith }
product (negsuc a) (pos b) = let o = opposite (pos (suc a * b)) in record { p = omega arith; n = omega arith }
product (negsuc a) (negsuc b) = record { p = omega arith; n = omega arith }

-- ---- the machine's tests of order

pub lt_yes : (a b : ℤ) → lt_z a b ≡ true → a ⁺ + b ⁻ < b ⁺ + a ⁻
lt_yes (pos a) (pos b) e = omega (arith, ltb-true a b e)
lt_yes (pos a) (negsuc b) e = absurd (subst T (sym e) tt)
lt_yes (negsuc a) (pos b) e = omega arith
lt_yes (negsuc a) (negsuc b) e = omega (arith, ltb-true b a e)

pub lt_no : (a b : ℤ) → lt_z a b ≡ false → b ⁺ + a ⁻ ≤ a ⁺ + b ⁻
lt_no (pos a) (pos b) e = omega (arith, ltb-false a b e)
lt_no (pos a) (negsuc b) e = omega arith
lt_no (negsuc a) (pos b) e = absurd (subst T e tt)
lt_no (negsuc a) (negsuc b) e = omega (arith, ltb-false b a e)

pub le_yes : (a b : ℤ) → le_z a b ≡ true → a ⁺ + b ⁻ ≤ b ⁺ + a ⁻
le_yes (pos a) (pos b) e = omega (arith, leb-true a b e)
le_yes (pos a) (negsuc b) e = absurd (subst T (sym e) tt)
le_yes (negsuc a) (pos b) e = omega arith
le_yes (negsuc a) (negsuc b) e = omega (arith, leb-true b a e)

pub le_no : (a b : ℤ) → le_z a b ≡ false → b ⁺ + a ⁻ < a ⁺ + b ⁻
le_no (pos a) (pos b) e = omega (arith, leb-false a b e)
le_no (pos a) (negsuc b) e = omega arith
le_no (negsuc a) (pos b) e = absurd (subst T e tt)
le_no (negsuc a) (negsuc b) e = omega (arith, leb-false b a e)

-- ---- absolute values as natural numbers

pub abs-add : (a b : ℤ) → nat_abs (a +ℤ b) ≤ nat_abs a + nat_abs b
abs-add a b = omega (arith, sum a b, abs a, abs b, abs (a +ℤ b))

pub abs_neg : (a : ℤ) → nat_abs (neg_ℤ a) ≡ nat_abs a
abs_neg a = omega (arith, opposite a, abs a, abs (neg_ℤ a))

pub abs-sub : (a b : ℤ) → nat_abs (a -ℤ b) ≤ nat_abs a + nat_abs b
abs-sub a b = omega (arith, abs-add a (neg_ℤ b), abs_neg b)

pub abs-mul : (a b : ℤ) → nat_abs (a *ℤ b) ≡ nat_abs a * nat_abs b
abs-mul (pos a) (pos b) = refl
abs-mul (pos a) (negsuc b) = abs_neg (pos (a * suc b))
abs-mul (negsuc a) (pos b) = abs_neg (pos (suc a * b))
abs-mul (negsuc a) (negsuc b) = refl

-- a bound that computes at numerals
pub mul_within : (A B : ℕ) (a b : ℤ) → nat_abs a ≤ A → nat_abs b ≤ B → nat_abs (a *ℤ b) ≤ A * B
mul_within A B a b p q = rw abs-mul (mul-le-mul p q)
