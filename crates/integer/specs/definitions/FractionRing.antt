-- ℚ is a commutative ring.
use Rattle.ring.specs.definitions.Ring.{CommutativeRing}
use Rattle.fraction.specs.definitions.Fraction.{ℚ, ◌+ℚ◌, ◌*ℚ◌, -ℚ◌, whole}
use Rattle.fraction.proofs.laws.FractionLaws.{+ℚ_assoc, +ℚ_comm, *ℚ_assoc, *ℚ_comm, *ℚ_dist}
use Rattle.fraction.proofs.laws.FractionLaws.{whole-add, whole-mul, zero_+ℚ, zero_*ℚ, one_*ℚ, -ℚ_is}

abbrev pub ℚ_ring : CommutativeRing
ℚ_ring = record {
  A = ℚ;
  add = ◌+ℚ◌;
  mul = ◌*ℚ◌;
  opp = -ℚ◌;
  ι = whole;
  add_assoc = +ℚ_assoc;
  add_comm = +ℚ_comm;
  mul_assoc = *ℚ_assoc;
  mul_comm = *ℚ_comm;
  dist = *ℚ_dist;
  ι_add = whole-add;
  ι_mul = whole-mul;
  zero-add = zero_+ℚ;
  zero-mul = zero_*ℚ;
  one-mul = one_*ℚ;
  opp_is = -ℚ_is;
}
