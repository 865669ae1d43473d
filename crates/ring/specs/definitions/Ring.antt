-- Commutative rings with the canonical map ι of ℤ.
use Rattle.std.specs.Prelude.{◌≡◌, ℤ, pos, negsuc, ◌+ℤ◌, ◌*ℤ◌}

pub record CommutativeRing : Type 1 where
  pub A : Type 0
  pub add : A → A → A
  pub mul : A → A → A
  pub opp : A → A
  pub ι : ℤ → A
  pub add_assoc : (x y z : A) → add (add x y) z ≡ add x (add y z)
  pub add_comm : (x y : A) → add x y ≡ add y x
  pub mul_assoc : (x y z : A) → mul (mul x y) z ≡ mul x (mul y z)
  pub mul_comm : (x y : A) → mul x y ≡ mul y x
  pub dist : (x y z : A) → mul x (add y z) ≡ add (mul x y) (mul x z)
  pub ι_add : (a b : ℤ) → ι (a +ℤ b) ≡ add (ι a) (ι b)
  pub ι_mul : (a b : ℤ) → ι (a *ℤ b) ≡ mul (ι a) (ι b)
  pub zero-add : (x : A) → add (ι (pos 0)) x ≡ x
  pub zero-mul : (x : A) → mul (ι (pos 0)) x ≡ ι (pos 0)
  pub one-mul : (x : A) → mul (ι (pos 1)) x ≡ x
  pub opp_is : (x : A) → opp x ≡ mul (ι (negsuc 0)) x
