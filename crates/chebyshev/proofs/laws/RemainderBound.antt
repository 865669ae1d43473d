-- The remainder of Taylor's formula is bounded on [−1, 1]. What bounds it does not matter: the strips only ask that something does.
use mathlib.Core.List.{List, [], ◌∷◌}
use Prim.Native.Nat.{ℕ, zero, suc}
use Rattle.std.specs.Prelude.{pos}
use Rattle.ring.specs.definitions.OrderedRing.{OrderedRing}
use Rattle.ring.proofs.laws.OrderedRingLaws.{le_refl, abs_mul_le, abs_add_le, abs_neg_le}
use Rattle.chebyshev.specs.definitions.Recurrences.{first_kind}
use Rattle.chebyshev.proofs.laws.RecurrenceLaws.{first_bound}
use Rattle.chebyshev.specs.definitions.Derivative.{derivative, sum_from, remainder}

module _ (O : OrderedRing) where
  open O use {ring, le as ◌≼◌, abs}
  open ring use {A, add as ◌⊕◌, mul as ◌⊗◌, opp as ⊖◌, ι}

  infixl 6 ◌⊕◌
  infixl 7 ◌⊗◌
  infix 8 ⊖◌
  infix 4 ◌≼◌
  -- |f(x, h)| ≤ most where x and x + h are in [−1, 1]
  pub record Bounded (f : A → A → A) : Type 0 where
    pub most : A
    pub holds : (x h : A) → abs x ≼ ι (pos 1) → abs (x ⊕ h) ≼ ι (pos 1) → abs (f x h) ≼ most

  constant : (c : A) → Bounded (λ x h. c)
  constant c = record { most = abs c; holds = λ x h p q. le_refl O (abs c) }

  opposite : {f : A → A → A} → Bounded f → Bounded (λ x h. ⊖ f x h)
  opposite {f} b = record { most = b.most; holds = λ x h p q. abs_neg_le O (f x h) (b.holds x h p q) }

  plus : {f g : A → A → A} → Bounded f → Bounded g → Bounded (λ x h. f x h ⊕ g x h)
  plus {f} {g} b d = record { most = b.most ⊕ d.most; holds = λ x h p q. abs_add_le O (f x h) (g x h) (b.holds x h p q) (d.holds x h p q) }

  times : {f g : A → A → A} → Bounded f → Bounded g → Bounded (λ x h. f x h ⊗ g x h)
  times {f} {g} b d = record { most = b.most ⊗ d.most; holds = λ x h p q. abs_mul_le O (f x h) (g x h) (b.holds x h p q) (d.holds x h p q) }

  start : Bounded (λ x h. x)
  start = record { most = ι (pos 1); holds = λ x h p q. p }

  end : Bounded (λ x h. x ⊕ h)
  end = record { most = ι (pos 1); holds = λ x h p q. q }

  first_bounded : (k : ℕ) → Bounded (λ x h. first_kind ring x k)
  first_bounded k = record { most = ι (pos 1); holds = λ x h p q. first_bound O x k p }

  derivative_bounded : (k : ℕ) → Bounded (λ x h. derivative ring x k)
  unfolding derivative
  derivative_bounded zero = constant (ι (pos 0))
  derivative_bounded (suc zero) = constant (ι (pos 1))
  derivative_bounded (suc (suc k)) =
      plus (plus (times (constant (ι (pos 2))) (first_bounded (suc k))) (times (times (constant (ι (pos 2))) start) (derivative_bounded (suc k))))
      (opposite (derivative_bounded k))

  remainder_bounded : (k : ℕ) → Bounded (λ x h. remainder ring x h k)
  unfolding remainder
  remainder_bounded zero = constant (ι (pos 0))
  remainder_bounded (suc zero) = constant (ι (pos 0))
  remainder_bounded (suc (suc k)) =
      plus (plus (times (constant (ι (pos 2))) (derivative_bounded (suc k))) (times (times (constant (ι (pos 2))) end) (remainder_bounded (suc k))))
      (opposite (remainder_bounded k))

  -- the remainder of a list's value
  pub sum_bounded : (k : ℕ) (cs : List A) → Bounded (λ x h. sum_from ring (remainder ring x h) k cs)
  unfolding sum_from
  sum_bounded k [] = constant (ι (pos 0))
  sum_bounded k (c ∷ cs) = plus (times (constant c) (remainder_bounded k)) (sum_bounded (suc k) cs)
