-- Operations on a float of either sign, by any fraction ±a / c that it equals: the exact result, rounded once (ValueOperations.antt
-- has those without sign). A number with the sign of minus is not zero.
use borrow.Author.Tests.{lt-ltb, le-ltb}
use Rattle.std.specs.Prelude.{◌≡◌, refl, Bool, ℕ, ◌+◌, ◌-◌, ◌*◌, ◌≤◌, ◌<◌, ℤ, pos, Float}
use Rattle.std.proofs.Common.{sym, ◌∙◌, subst, mul-pos, lit<}
use Rattle.std.proofs.Math.Path.{ap}
use Rattle.std.proofs.Math.Bool.{true, false}
use native.Mathlib.Omega.{arith}
use Rattle.std.specs.Float.{nan, inf, fin}
use Rattle.std.specs.Float.Ieee.{binary64, up, down, unlike, round, sum, add, mul, div}
use Rattle.std.specs.Float.Ieee.Fits.{down_pos}
use Rattle.std.specs.Float.Ieee.Exact.{HasValue}
use Rattle.std.specs.Float.Ieee.Scale.{round_same}
use Rattle.std.specs.Float.Ieee.Positive.{first_pos}
use Rattle.proposals.specs.definitions.Values.{nought}
use Rattle.proposals.specs.definitions.Product.{half}
use Rattle.proposals.proofs.laws.ValueOperations.{product_crossed, add-nought, nought-add}

-- what holds of ±m·2^e with that value
of_value : (P : Float → Type 0) (x : Float) (s : Bool) (a c : ℕ) → HasValue x s a c → ((m : ℕ) (e : ℤ) → m * up e * c ≡ a * down e → P (fin s m e)) → P x
of_value P nan s a c h p = absurd h
of_value P (inf t) s a c h p = absurd h
of_value P (fin t m e) s a c h p = subst (λ (b : Bool). P (fin b m e)) (sym h.0) (p m e h.1)

unlike_plus : (s : Bool) → unlike s false ≡ s
unlike_plus true = refl
unlike_plus false = refl

-- ±0
abbrev pub zero_of : Bool → Float
zero_of s = fin s 0 (pos 0)

round_zero : (s : Bool) → round binary64 s 0 1 ≡ zero_of s
unfolding round
round_zero true = refl
round_zero false = refl

module _ (x : Float) (s : Bool) (a c : ℕ) (C : 0 < c) (h : HasValue x s a c) where
  -- times y = b / d
  pub mul-signed : (y : Float) (b d : ℕ) → 0 < d → HasValue y false b d → mul binary64 x y ≡ round binary64 s (a * b) (c * d)
  unfolding mul
  mul-signed y b d D k =
      of_value (λ x. mul binary64 x y ≡ round binary64 s (a * b) (c * d)) x s a c h
      (λ m e u.
      of_value (λ y. mul binary64 (fin s m e) y ≡ round binary64 s (a * b) (c * d)) y false b d k
      (λ n g v.
      ap (λ (t : Bool). round binary64 t (m * up e * (n * up g)) (down e * down g)) (unlike_plus s)
      ∙ round_same binary64 s (m * up e * (n * up g)) (down e * down g) (a * b) (c * d) (mul-pos (down_pos e) (down_pos g)) (mul-pos C D)
      (product_crossed (m * up e) (n * up g) (down e) (down g) a b c d u v)))

  pub mul_zero_signed : mul binary64 x nought ≡ zero_of s
  mul_zero_signed =
      mul-signed nought 0 1 (lit< tt) (refl, refl)
      ∙ round_same binary64 s (a * 0) (c * 1) 0 1 (mul-pos C (lit< tt)) (lit< tt) (omega arith)
      ∙ round_zero s

  -- twice x
  pub add_same_signed : add binary64 x x ≡ round binary64 s (2 * a) c
  unfolding add sum
  add_same_signed =
      of_value (λ x. add binary64 x x ≡ round binary64 s (2 * a) c) x s a c h
      (λ m e u. same s (m * up e) (down e) (down_pos e) u)
    where
      same : (s : Bool) (n d : ℕ) → 0 < d → n * c ≡ a * d → sum binary64 s (n * d) s (n * d) (d * d) ≡ round binary64 s (2 * a) c
      same true n d D u = round_same binary64 true (n * d + n * d) (d * d) (2 * a) c (mul-pos D D) C (omega (arith, ap (λ (z : ℕ). z * d) u))
      same false n d D u = round_same binary64 false (n * d + n * d) (d * d) (2 * a) c (mul-pos D D) C (omega (arith, ap (λ (z : ℕ). z * d) u))

  -- half of x, where it is ±2b / c
  pub half-signed : (b : ℕ) → a ≡ 2 * b → half x ≡ round binary64 s b c
  unfolding half div
  half-signed b e2 =
      of_value (λ x. half x ≡ round binary64 s b c) x s a c h
      (λ m e u.
      ap (λ (t : Bool). round binary64 t (m * up e * 1) (1 * 2 * down e)) (unlike_plus s)
      ∙ round_same binary64 s (m * up e * 1) (1 * 2 * down e) b c (mul-pos (lit< tt) (down_pos e)) C (omega (arith, u, ap (λ (z : ℕ). z * down e) e2)))

-- ---- sums with ±0

above : (n a c d : ℕ) → 0 < a → 0 < d → n * c ≡ a * d → 0 < n
above n a c d A D u = first_pos n c (rw u (mul-pos A D))

module _ (m : ℕ) (e : ℤ) (a c : ℕ) (C : 0 < c) (u : m * up e * c ≡ a * down e) where
  cleared : (m * up e * 1 - 0 * 1 * down e) * c ≡ m * up e * c
  cleared = let z : m * up e * 1 - 0 * 1 * down e ≡ m * up e = omega arith in ap (λ (n : ℕ). n * c) z

  -- 0 + ±n / d and ±n / d + ±0, of n / d = a / c
  nought_and_minus : 0 < a → add binary64 nought (fin true m e) ≡ round binary64 true a c
  unfolding add sum
  nought_and_minus A =
      let N : 0 < m * up e = above (m * up e) a c (down e) A (down_pos e) u in
      let l : 0 * 1 * down e < m * up e * 1 = omega arith in
      rw (lt-ltb (0 * 1 * down e) (m * up e * 1) l)
      (round_same binary64 true (m * up e * 1 - 0 * 1 * down e) (1 * down e) a c (mul-pos (lit< tt) (down_pos e)) C (omega (arith, cleared)))

  minus_and_plus : 0 < a → add binary64 (fin true m e) (zero_of false) ≡ round binary64 true a c
  unfolding add sum
  minus_and_plus A =
      let N : 0 < m * up e = above (m * up e) a c (down e) A (down_pos e) u in
      let l : 0 * 1 * down e < m * up e * 1 = omega arith in
      let k : 0 * 1 * down e ≤ m * up e * 1 = omega arith in
      rw (le-ltb (m * up e * 1) (0 * 1 * down e) k, lt-ltb (0 * 1 * down e) (m * up e * 1) l)
      (round_same binary64 true (m * up e * 1 - 0 * 1 * down e) (down e * 1) a c (mul-pos (down_pos e) (lit< tt)) C (omega (arith, cleared)))

  minus_and_minus : add binary64 (fin true m e) (zero_of true) ≡ round binary64 true a c
  unfolding add sum
  minus_and_minus = round_same binary64 true (m * up e * 1 + 0 * 1 * down e) (down e * 1) a c (mul-pos (down_pos e) (lit< tt)) C (omega arith)

  plus_and_minus : add binary64 (fin false m e) (zero_of true) ≡ round binary64 false a c
  unfolding add sum
  plus_and_minus =
      let k : 0 * 1 * down e ≤ m * up e * 1 = omega arith in
      rw (le-ltb (m * up e * 1) (0 * 1 * down e) k)
      (round_same binary64 false (m * up e * 1 - 0 * 1 * down e) (down e * 1) a c (mul-pos (down_pos e) (lit< tt)) C (omega (arith, cleared)))

pub nought_add_signed : (x : Float) (s : Bool) (a c : ℕ) → 0 < c → HasValue x s a c → (s ≡ true → 0 < a) → add binary64 nought x ≡ round binary64 s a c
nought_add_signed x false a c C h p = nought-add binary64 x a c C h
nought_add_signed x true a c C h p =
    of_value (λ x. add binary64 nought x ≡ round binary64 true a c) x true a c h (λ m e u. nought_and_minus m e a c C u (p refl))

pub add_zero_signed : (x : Float) (s : Bool) (a c : ℕ) → 0 < c → HasValue x s a c → (s ≡ true → 0 < a) → (t : Bool) → add binary64 x (zero_of t) ≡ round binary64 s a c
add_zero_signed x false a c C h p false = add-nought binary64 x a c C h
add_zero_signed x false a c C h p true = of_value (λ x. add binary64 x (zero_of true) ≡ round binary64 false a c) x false a c h (λ m e u. plus_and_minus m e a c C u)
add_zero_signed x true a c C h p false =
    of_value (λ x. add binary64 x (zero_of false) ≡ round binary64 true a c) x true a c h (λ m e u. minus_and_plus m e a c C u (p refl))
add_zero_signed x true a c C h p true = of_value (λ x. add binary64 x (zero_of true) ≡ round binary64 true a c) x true a c h (λ m e u. minus_and_minus m e a c C u)
