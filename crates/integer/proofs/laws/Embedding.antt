-- The map ι of ℤ into a commutative ring and into an ordered one.
use Rattle.std.specs.Prelude.{◌≡◌, ℕ, zero, suc, ℤ, pos, negsuc, neg_ℤ, nat_abs}
use Rattle.std.proofs.Common.{sym, ◌∙◌, ap, arith}
use Rattle.ring.proofs.laws.IntegerSolver.{neg_is}
use Rattle.ring.specs.definitions.Ring.{CommutativeRing}
use Rattle.ring.specs.definitions.OrderedRing.{OrderedRing}
use Rattle.ring.proofs.laws.OrderedRingLaws.{le_refl, zero_one, abs_of_nonneg, abs_neg, ◌⊞◌}

module _ (R : CommutativeRing) where
  open R use {add as ◌⊕◌, opp as ⊖◌, ι, ι_add, ι_mul, opp_is}

  infixl 6 ◌⊕◌
  infix 8 ⊖◌
  pub ι_suc : (n : ℕ) → ι (pos (suc n)) ≡ ι (pos 1) ⊕ ι (pos n)
  ι_suc n = ap (λ (m : ℕ). ι (pos m)) (omega arith) ∙ ι_add (pos 1) (pos n)

  pub ι_opposite : (z : ℤ) → ι (neg_ℤ z) ≡ ⊖ ι z
  ι_opposite z = ap ι (neg_is z) ∙ ι_mul (negsuc 0) z ∙ sym (opp_is (ι z))

module _ (O : OrderedRing) where
  open O use {ring, le as ◌≼◌, abs}
  open ring use {ι}

  infix 4 ◌≼◌
  pub ι_nonneg : (n : ℕ) → ι (pos 0) ≼ ι (pos n)
  ι_nonneg zero = le_refl O (ι (pos 0))
  ι_nonneg (suc n) = rw (ι_suc ring n) (◌⊞◌ O (zero_one O) (ι_nonneg n))

  pub ι_abs : (z : ℤ) → abs (ι z) ≡ ι (pos (nat_abs z))
  ι_abs (pos n) = abs_of_nonneg O (ι_nonneg n)
  ι_abs (negsuc n) = ap abs (ι_opposite ring (pos (suc n))) ∙ abs_neg O (ι (pos (suc n))) ∙ abs_of_nonneg O (ι_nonneg (suc n))
