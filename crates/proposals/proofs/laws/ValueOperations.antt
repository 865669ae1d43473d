-- Operations on floats that are not negative, zero included, by any fractions that they equal: the exact result, rounded once.
use borrow.Author.Tests.{le-ltb, ne_eqb}
use Rattle.std.specs.Prelude.{◌≡◌, refl, Bool, true, ℕ, suc, ◌+◌, ◌-◌, ◌*◌, ◌^◌, ◌≤◌, ◌<◌, T, ℤ, Float}
use Rattle.std.proofs.Common.{sym, ◌∙◌, ap, true≢false, mul-pos, zero-mul, mul-zero, arith, lit<, pow-add, pow_pos}
use Rattle.std.proofs.Math.Bool.{false}
use Rattle.std.proofs.Math.Dec.{eqb}
use Rattle.std.proofs.Math.Pow.{pow-lt}
use Rattle.std.specs.Float.{nan, inf, fin, Format, binary32, binary64}
use Rattle.std.specs.Float.Ieee.{prec, emax, low, up, down, round, sum, add, sub, mul, div, eq}
use Rattle.std.specs.Float.Ieee.Fits.{down_pos}
use Rattle.std.specs.Float.Ieee.Exact.{HasValue, round_exact}
use Rattle.std.specs.Float.Ieee.Scale.{round_same, finite}
use Rattle.std.specs.Float.Ieee.Positive.{first_pos}
use Rattle.proposals.specs.definitions.Values.{nought}

-- what holds of numbers fin false m e holds of numbers that equal fractions without sign
of_values : (P : Float → Float → Type 0) (x y : Float) (a c b d : ℕ) → HasValue x false a c → HasValue y false b d
    → ((m n : ℕ) (e g : ℤ) → m * up e * c ≡ a * down e → n * up g * d ≡ b * down g → P (fin false m e) (fin false n g)) → P x y
of_values P nan y a c b d h k p = absurd h
of_values P (inf s) y a c b d h k p = absurd h
of_values P (fin true m e) y a c b d h k p = absurd (true≢false h.0)
of_values P (fin false m e) nan a c b d h k p = absurd k
of_values P (fin false m e) (inf t) a c b d h k p = absurd k
of_values P (fin false m e) (fin true n g) a c b d h k p = absurd (true≢false k.0)
of_values P (fin false m e) (fin false n g) a c b d h k p = p m n e g h.1 k.1

-- ---- x / p = a / c and y / q = b / d: their sum, product and quotient

sum_crossed : (x y p q a b c d : ℕ) → x * c ≡ a * p → y * d ≡ b * q → (x * q + y * p) * (c * d) ≡ (a * d + b * c) * (p * q)
sum_crossed x y p q a b c d h k = omega (arith, ap (λ (z : ℕ). z * (q * d)) h, ap (λ (z : ℕ). z * (p * c)) k)

pub product_crossed : (x y p q a b c d : ℕ) → x * c ≡ a * p → y * d ≡ b * q → x * y * (c * d) ≡ a * b * (p * q)
product_crossed x y p q a b c d h k = omega (arith, ap (λ (z : ℕ). z * (y * d)) h, ap (λ (z : ℕ). z * (a * p)) k)

quotient_crossed : (x y p q a b c d : ℕ) → x * c ≡ a * p → y * d ≡ b * q → x * q * (b * c) ≡ a * d * (y * p)
quotient_crossed x y p q a b c d h k = omega (arith, ap (λ (z : ℕ). z * (q * b)) h, ap (λ (z : ℕ). z * (a * p)) k)

not_zero : (n u : ℕ) → 0 < n * u → n ≡ 0 → ⊥
not_zero n u p o = omega (arith, ap (λ (z : ℕ). z * u) o)

module _ (f : Format) (x y : Float) (a c b d : ℕ) (C : 0 < c) (D : 0 < d) (h : HasValue x false a c) (k : HasValue y false b d) where
  pub add_at : add f x y ≡ round f false (a * d + b * c) (c * d)
  unfolding add sum
  add_at =
      of_values (λ x y. add f x y ≡ round f false (a * d + b * c) (c * d)) x y a c b d h k
      (λ m n e g u v.
      round_same f false (m * up e * down g + n * up g * down e) (down e * down g) (a * d + b * c) (c * d) (mul-pos (down_pos e) (down_pos g)) (mul-pos C D)
      (sum_crossed (m * up e) (n * up g) (down e) (down g) a b c d u v))

  pub mul_at : mul f x y ≡ round f false (a * b) (c * d)
  unfolding mul
  mul_at =
      of_values (λ x y. mul f x y ≡ round f false (a * b) (c * d)) x y a c b d h k
      (λ m n e g u v.
      round_same f false (m * up e * (n * up g)) (down e * down g) (a * b) (c * d) (mul-pos (down_pos e) (down_pos g)) (mul-pos C D)
      (product_crossed (m * up e) (n * up g) (down e) (down g) a b c d u v))

  pub div_at : 0 < b → div f x y ≡ round f false (a * d) (b * c)
  unfolding div
  div_at B =
      of_values (λ x y. div f x y ≡ round f false (a * d) (b * c)) x y a c b d h k
      (λ m n e g u v.
      let N : 0 < n * up g = first_pos (n * up g) d (rw v (mul-pos B (down_pos g))) in
      let z : eqb n 0 ≡ false = ne_eqb n 0 (λ (o : n ≡ 0). not_zero n (up g) N o) in
      rw z
      (round_same f false (m * up e * down g) (n * up g * down e) (a * d) (b * c) (mul-pos N (down_pos e)) (mul-pos B C)
      (quotient_crossed (m * up e) (n * up g) (down e) (down g) a b c d u v)))

-- ---- +0

round_nought : (f : Format) → round f false 0 1 ≡ nought
unfolding round
round_nought binary32 = refl
round_nought binary64 = refl

-- nothing over c
pub round_none : (f : Format) (c : ℕ) → 0 < c → round f false 0 c ≡ nought
round_none f c C = round_same f false 0 c 0 1 C (lit< tt) (omega arith) ∙ round_nought f

module _ (f : Format) (x : Float) (a c : ℕ) (C : 0 < c) (h : HasValue x false a c) where
  pub add-nought : add f x nought ≡ round f false a c
  add-nought = add_at f x nought a c 0 1 C (lit< tt) h (refl, refl) ∙ round_same f false (a * 1 + 0 * c) (c * 1) a c (mul-pos C (lit< tt)) C (omega arith)

  pub nought-add : add f nought x ≡ round f false a c
  nought-add = add_at f nought x 0 1 a c (lit< tt) C (refl, refl) h ∙ round_same f false (0 * c + a * 1) (1 * c) a c (mul-pos (lit< tt) C) C (omega arith)

  pub mul-nought : mul f x nought ≡ nought
  mul-nought = mul_at f x nought a c 0 1 C (lit< tt) h (refl, refl) ∙ ap (λ (n : ℕ). round f false n (c * 1)) (mul-zero a) ∙ round_none f (c * 1) (mul-pos C (lit< tt))

  pub nought-mul : mul f nought x ≡ nought
  nought-mul = mul_at f nought x 0 1 a c (lit< tt) C (refl, refl) h ∙ ap (λ (n : ℕ). round f false n (1 * c)) (zero-mul a) ∙ round_none f (1 * c) (mul-pos (lit< tt) C)

  -- twice x
  pub add_same : add f x x ≡ round f false (2 * a) c
  add_same = add_at f x x a c a c C C h h ∙ round_same f false (a * c + a * c) (c * c) (2 * a) c (mul-pos C C) C (omega arith)

-- a number above zero is not zero
pub eq-nought : (x : Float) (a c : ℕ) → HasValue x false a c → 0 < a → eq x nought ≡ false
unfolding eq
eq-nought x a c h A =
    of_values (λ x y. eq x nought ≡ false) x x a c a c h h
    (λ m n e g u v.
    let M : 0 < m * up e = first_pos (m * up e) c (rw u (mul-pos A (down_pos e))) in
    let z : eqb (m * up e * 1) (0 * down e) ≡ false = ne_eqb (m * up e * 1) (0 * down e) (λ (o : m * up e * 1 ≡ 0 * down e). omega arith) in
    rw z)

-- x less x is +0
pub sub_same : (f : Format) (x : Float) → T (finite x) → sub f x x ≡ nought
unfolding sub
sub_same f nan p = absurd p
sub_same f (inf s) p = absurd p
sub_same f (fin true m e) p =
    let a = m * up e * down e in
    let z : a - a ≡ 0 = omega arith in
    rw (le-ltb a a (omega arith), z) (round_none f (down e * down e) (mul-pos (down_pos e) (down_pos e)))
sub_same f (fin false m e) p =
    let a = m * up e * down e in
    let z : a - a ≡ 0 = omega arith in
    rw (le-ltb a a (omega arith), z) (round_none f (down e * down e) (mul-pos (down_pos e) (down_pos e)))

-- ---- powers of two

-- 2^a / 2^b is exact, where it is neither too small nor too large
pub power_exact : (f : Format) (s : Bool) (a b : ℕ) → b ≤ a + low f → a ≤ b + emax f → HasValue (round f s (2 ^ a) (2 ^ b)) s (2 ^ a) (2 ^ b)
power_exact f s a b h l =
    let j = (a + low f) - b in
    let r : j + b ≡ a + low f = omega arith in
    let m : j < low f + suc (emax f) = omega arith in
    let i : 1 * 2 ^ j ≡ 2 ^ j = omega arith in
    round_exact f s (2 ^ a) (2 ^ b) 1 j (pow_pos b) (one_digit f) (rw i (pow-lt m))
    (sym (pow-add 2 a (low f)) ∙ ap (λ (n : ℕ). 2 ^ n) (sym r) ∙ pow-add 2 j b ∙ ap (λ (n : ℕ). n * 2 ^ b) (sym i))
  where
    one_digit : (f : Format) → 1 < 2 ^ prec f
    one_digit binary32 = lit< tt
    one_digit binary64 = lit< tt
