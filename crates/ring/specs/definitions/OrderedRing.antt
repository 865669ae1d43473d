-- Ordered commutative rings. Their theory is proved once for ℤ (the instance is in Order.antt) and ℚ (FractionOrder.antt).
use Rattle.std.specs.Prelude.{◌≡◌, ◌⊎◌, pos}
use Rattle.ring.specs.definitions.Ring.{CommutativeRing}

pub record OrderedRing : Type 1 where
  pub ring : CommutativeRing
  pub le : ring.A → ring.A → Type 0
  pub le_trans : (x y z : ring.A) → le x y → le y z → le x z
  pub le_antisym : (x y : ring.A) → le x y → le y x → x ≡ y
  pub le_total : (x y : ring.A) → le x y ⊎ le y x
  pub le_decide : (x y : ring.A) → le x y ⊎ ¬ le x y
  pub le-add : (x y z : ring.A) → le x y → le (ring.add x z) (ring.add y z)
  pub le-mul : (x y : ring.A) → le (ring.ι (pos 0)) x → le (ring.ι (pos 0)) y → le (ring.ι (pos 0)) (ring.mul x y)
  pub le_cancel : (c u v : ring.A) → ¬ le c (ring.ι (pos 0)) → le (ring.mul c u) (ring.mul c v) → le u v
  pub abs : ring.A → ring.A
  pub abs_nonneg : (x : ring.A) → le (ring.ι (pos 0)) (abs x)
  pub abs_cases : (x : ring.A) → (abs x ≡ x) ⊎ (abs x ≡ ring.opp x)

module _ (O : OrderedRing) where
  open O use {ring, le}

  -- x < y is ¬ (y ≤ x): the order is total and decided
  infix 4 ◌≺◌
  abbrev pub ◌≺◌ : ring.A → ring.A → Type 0
  x ≺ y = ¬ le y x
