-- `add::combine` meets its contract. The loop fills the list a + sign·b from the front and sums its weight.
use Rattle.std.proofs.Common.{arith, ◌≡◌, ap, List, ℕ, ◌+◌, ◌*◌, ◌^◌, ◌≤◌, ℤ, pos, nat_abs, ◌+ℤ◌, ◌*ℤ◌, get_or, drop, w32, FitsSigned, to_z, of_z, to_z-of_z}
use lib.ListN.{replicate, length-replicate}
use Rattle.ring.specs.laws.Parts.{abs-mul}
use Rattle.ring.specs.definitions.Integer.{ℤ_ring}
use Rattle.integer.proofs.laws.Machine.{abs-fits}
use Rattle.integer.proofs.laws.Filling.{begins, turn, whole}
use Rattle.chebyshev.specs.definitions.Coefficients.{weight}
use Rattle.chebyshev.proofs.laws.CoefficientLaws.{length-add, length-scale, get_d_add, get_d_scale}
use Rattle.chebyshev.proofs.laws.Weight.{weight_at, weight_step, weight_end}
use Rattle.model.proofs.laws.CombinationLaws.{combined_weight}
use Rattle.model.proofs.add.combine.Invariants.{Walked, sum}
use Rattle.model.proofs.add.combine.Goals as goal
use Rattle.model.proofs.add.combine.Goals.{In-loop-i}

pub loop-i-init : goal.loop-i-init
loop-i-init c =
    rw (to_z-of_z c.ranges.sign) (record {
      filled = begins (sum c.args.a.now c.args.b.now c.args.sign) _ 0 33 (simp (length-add ℤ_ring, length-scale ℤ_ring) (omega (arith, c.told-a, c.told-b))) (omega arith);
      rest = omega arith;
    })

-- in a turn
module _ (c : In-loop-i) where
  abbrev i : ℕ
  i = c.loop-i.i

  abbrev s : ℤ
  s = c.args.sign

  abbrev x : ℤ
  x = get_or c.args.a.now i (pos 0)

  abbrev y : ℤ
  y = get_or c.args.b.now i (pos 0)

  abbrev v : ℤ
  v = x +ℤ s *ℤ y

  abbrev z : List ℤ
  z = sum c.args.a.now c.args.b.now s

  inv : Walked z (replicate 33 (pos 0)) c.loop-i.coefficients c.loop-i.weight i
  inv = rw (to_z-of_z c.ranges.sign) at c.loop-i.invariant

  z-weight : weight z ≤ 2 ^ 29
  z-weight = omega (arith, combined_weight s c.args.a.now c.args.b.now c.requires.unit, c.requires)

  v-is : v ≡ get_or z i (pos 0)
  v-is = simp (get_d_add ℤ_ring, get_d_scale ℤ_ring)

  fits-x : FitsSigned w32 x
  fits-x = abs-fits w32 x (omega (arith, weight_at c.args.a.now i, c.requires))

  fits-y : FitsSigned w32 y
  fits-y = abs-fits w32 y (omega (arith, weight_at c.args.b.now i, c.requires))

  fits-sy : FitsSigned w32 (s *ℤ y)
  fits-sy = abs-fits w32 (s *ℤ y) (omega (arith, abs-mul s y, ap (λ (n : ℕ). n * nat_abs y) c.requires.unit, weight_at c.args.b.now i, c.requires))

  fits-v : FitsSigned w32 v
  fits-v = abs-fits w32 v (omega (arith, ap nat_abs v-is, weight_at z i, z-weight))

  -- what the code computes, read back
  v-reads : to_z w32 (of_z w32 (to_z w32 (of_z w32 x) +ℤ to_z w32 (of_z w32 (to_z w32 (of_z w32 s) *ℤ to_z w32 (of_z w32 y))))) ≡ v
  v-reads = simp (to_z-of_z c.ranges.sign, to_z-of_z fits-x, to_z-of_z fits-y, to_z-of_z fits-sy, to_z-of_z fits-v)

  -- what the turn adds to the weight
  weighed : (m : ℕ) → m ≡ nat_abs v → weight (drop i z) ≡ m + weight (drop (i + 1) z)
  weighed m e = omega (arith, ap nat_abs v-is, weight_step z i (omega (arith, inv.filled.wide)))

pub overflow_mul-c : goal.overflow_mul-c
overflow_mul-c c = let t = (goal.at.overflow_mul-c c).In-loop-i in simp (to_z-of_z c.ranges.sign, to_z-of_z (fits-y t)) (fits-sy t)

pub overflow_add-c : goal.overflow_add-c
overflow_add-c c = let t = (goal.at.overflow_add-c c).In-loop-i in simp (to_z-of_z c.ranges.sign, to_z-of_z (fits-x t), to_z-of_z (fits-y t), to_z-of_z (fits-sy t)) (fits-v t)

pub overflow_add-weight : goal.overflow_add-weight
overflow_add-weight c =
    let t = (goal.at.overflow_add-weight c).In-loop-i in
    omega (arith, weighed t c.unsigned_abs.result (rw (v-reads t) at c.unsigned_abs.ensures.value), z-weight t, (inv t).rest)

pub loop-i-preserved : goal.loop-i-preserved
loop-i-preserved c =
    let t = (goal.at.loop-i-preserved c).In-loop-i in
    rw (v-reads t, to_z-of_z c.ranges.sign) (record {
      filled = turn (i t) (v t) (pos 0) (inv t).filled (omega arith) (omega arith) (v-is t);
      rest = omega (arith, weighed t c.unsigned_abs.result (rw (v-reads t) at c.unsigned_abs.ensures.value), (inv t).rest);
    })

pub returns-clause-weight_value : goal.returns-clause-weight_value
returns-clause-weight_value c =
    let w = c.loop-i.invariant in
    let e = whole w.filled (omega arith) (length-replicate 33 (pos 0)) in
    omega (arith, weight_end (sum c.args.a.now c.args.b.now (to_z w32 (of_z w32 c.args.sign))) c.loop-i.i (omega (arith, w.filled.wide)), ap weight e, w.rest)
