-- ℚ, the fractions, as a true quotient: equal fractions are equal (≡). `a /1+ b` is a / (1 + b). Each operation is that of
-- Pairs.antt; PairLaws.antt proves that it takes equal fractions to equal ones.
use Rattle.std.specs.Prelude.{refl, Bool, ℕ, T, ℤ, negsuc}
use Rattle.std.proofs.Common.{sym}
use Rattle.std.proofs.Math.Bool.{Bool-set}
use mathlib.Core.Quot.Quotient
use mathlib.Core.Quot.{Setoid, Quotient, Quotient-set}
use Rattle.ring.specs.definitions.Pairs.{Pair, pair, cross, sum_pair, product_pair, inverse_pair, abs_pair, le_pair}
use Rattle.ring.proofs.laws.PairLaws.{cross_trans, sum_ok, product_ok, inverse_ok, abs_ok, le_ok}

abbrev pub pairs : Setoid {0, 0} Pair
pairs = record { r = cross; iseqv = record { refl = λ x. refl; symm = λ x y p. sym p; trans = cross_trans } }

unfoldable pub ℚ : Type 0
ℚ = Quotient pairs

infix 10 ◌/1+◌
unfoldable pub ◌/1+◌ : ℤ → ℕ → ℚ
unfolding ℚ
a /1+ b = Quotient.mk pairs (pair a b)

-- the whole numbers among the fractions
unfoldable pub whole : ℤ → ℚ
whole z = z /1+ 0

-- an operation on pairs as one on fractions
unfoldable pub on : (f : Pair → Pair) → ((x y : Pair) → cross x y → cross (f x) (f y)) → ℚ → ℚ
unfolding ℚ
on f ok = Quotient.lift pairs (Quotient-set pairs) (λ x. Quotient.mk pairs (f x)) (λ x y p. Quotient.sound pairs (ok x y p))

unfoldable pub on₂ : (f : Pair → Pair → Pair) → ((x y x' y' : Pair) → cross x x' → cross y y' → cross (f x y) (f x' y'))
    → ℚ → ℚ → ℚ
unfolding ℚ
on₂ f ok =
    Quotient.lift₂ pairs pairs (Quotient-set pairs) (λ x y. Quotient.mk pairs (f x y))
    (λ x y x' y' p q. Quotient.sound pairs (ok x y x' y' p q))

infixl 6 ◌+ℚ◌
unfoldable pub ◌+ℚ◌ : ℚ → ℚ → ℚ
◌+ℚ◌ = on₂ sum_pair sum_ok

infixl 7 ◌*ℚ◌
unfoldable pub ◌*ℚ◌ : ℚ → ℚ → ℚ
◌*ℚ◌ = on₂ product_pair product_ok

infix 9 -ℚ◌
unfoldable pub -ℚ◌ : ℚ → ℚ
-ℚ x = whole (negsuc 0) *ℚ x

infixl 6 ◌-ℚ◌
abbrev pub ◌-ℚ◌ : ℚ → ℚ → ℚ
x -ℚ y = x +ℚ -ℚ y

-- x · inverse x = 1 for every x ≠ 0, and inverse 0 = 0
unfoldable pub inverse : ℚ → ℚ
inverse = on inverse_pair inverse_ok

infixl 7 ◌/ℚ◌
abbrev pub ◌/ℚ◌ : ℚ → ℚ → ℚ
x /ℚ y = x *ℚ inverse y

unfoldable pub ∣◌∣ℚ : ℚ → ℚ
∣◌∣ℚ = on abs_pair abs_ok

unfoldable pub leℚ : ℚ → ℚ → Bool
unfolding ℚ
leℚ = Quotient.lift₂ pairs pairs Bool-set le_pair le_ok

infix 5 ◌≤ℚ◌ ◌<ℚ◌
pub record ◌≤ℚ◌ (x y : ℚ) : Type 0 where
  pub leq : T (leℚ x y)

abbrev pub ◌<ℚ◌ : ℚ → ℚ → Type 0
x <ℚ y = ¬ (y ≤ℚ x)
