-- ℤ is a commutative ring.
use Rattle.std.specs.Prelude.{refl, ℤ, neg_ℤ, ◌+ℤ◌, ◌*ℤ◌}
use Rattle.std.proofs.Common.{arith}
use Rattle.std.proofs.Math.IntN.{+ℤ_assoc, +ℤ_comm, +ℤ_idl, *ℤ_comm, zero-*ℤ}
use Rattle.ring.specs.laws.Difference.{all1, all3, differences}
use Rattle.ring.specs.definitions.Ring.{CommutativeRing}

abbrev pub ℤ_ring : CommutativeRing
ℤ_ring = record {
  A = ℤ;
  add = ◌+ℤ◌;
  mul = ◌*ℤ◌;
  opp = neg_ℤ;
  ι = λ c. c;
  add_assoc = +ℤ_assoc;
  add_comm = +ℤ_comm;
  mul_assoc = all3 _ (simp differences (omega arith));
  mul_comm = *ℤ_comm;
  dist = all3 _ (simp differences (omega arith));
  ι_add = λ a b. refl;
  ι_mul = λ a b. refl;
  zero-add = +ℤ_idl;
  zero-mul = zero-*ℤ;
  one-mul = all1 _ (simp differences (omega arith));
  opp_is = all1 _ (simp differences (omega arith));
}
