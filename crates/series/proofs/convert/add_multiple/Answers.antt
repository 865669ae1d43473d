-- `convert::add_multiple` meets its contract: a turn is that of the walk (MultipleWalk.antt).
use Rattle.std.proofs.Common.{rules}
use mathlib.Core.Path.{◌≡◌, refl, sym, ◌∙◌, ap, ap₂}
use mathlib.Core.List.{List}
use Prim.Native.Nat.{ℕ, ◌+◌, ◌*◌, ◌<◌, ◌≤◌}
use native.Mathlib.Omega.{arith}
use native.Mathlib.Nat.{mul-le-mul}
use lib.IntN.{ℤ, pos, nat_abs, ◌+ℤ◌, ◌*ℤ◌}
use lib.ListN.{length, get_or, set, take}
use lib.Seq.{get_or-take}
use mir.Syntax.{w64}
use mir.Val.{SFits}
use mir.Facts.{to_z-of_z}
use Rattle.ring.specs.laws.Parts.{abs-mul, abs-add}
use Rattle.ring.specs.definitions.Integer.{ℤ_ring}
use Rattle.integer.proofs.laws.Machine.{abs-fits}
use Rattle.integer.proofs.laws.Filling.{next}
use Rattle.chebyshev.specs.definitions.Coefficients.{weight, add_lists, scale_list}
use Rattle.chebyshev.proofs.laws.CoefficientLaws.{get_d_add, get_d_scale}
use Rattle.chebyshev.proofs.laws.Weight.{weight_at}
use Rattle.series.specs.definitions.InnerContracts.{Addable}
use Rattle.series.proofs.MultipleWalk.{filled, Walked, start_at, turn_at, end_at}
use Rattle.series.proofs.convert.add_multiple.Goals as goal

pub loop-j-init : goal.loop-j-init
loop-j-init c = rw (to_z-of_z c.ranges.p) (start_at c.requires _ refl)

-- a turn at place j: x is the sum there, y the row's number, v what is stored
module _ (start sums row : List ℤ) (p : ℤ) (j : ℕ) (need : Addable start p row) (h : j < length row) (inv : Walked start p row sums j) where
  abbrev x : ℤ
  x = get_or sums j (pos 0)

  abbrev y : ℤ
  y = get_or row j (pos 0)

  abbrev v : ℤ
  v = x +ℤ p *ℤ y

  -- the place is as it was
  x_is : x ≡ get_or start j (pos 0)
  x_is = next j (pos 0) inv.done (omega arith)

  v-is : v ≡ get_or (filled start p row) j (pos 0)
  v-is =
      ap₂ ◌+ℤ◌ (x_is ∙ sym (get_or-take (length row) start j (pos 0) h)) (sym (get_d_scale ℤ_ring p row j))
      ∙ sym (get_d_add ℤ_ring (take (length row) start) (scale_list ℤ_ring p row) j)

  product-size : nat_abs (p *ℤ y) ≤ nat_abs p * weight row
  product-size = omega (arith, abs-mul p y, part)
    where
      part : nat_abs p * nat_abs y ≤ nat_abs p * weight row
      part = mul-le-mul (omega arith) (weight_at row j)

  fits-py : SFits w64 (p *ℤ y)
  fits-py = abs-fits w64 (p *ℤ y) (omega (arith, product-size, need.light))

  fits-v : SFits w64 v
  fits-v = abs-fits w64 v (omega (arith, abs-add x (p *ℤ y), ap nat_abs x_is, weight_at start j, product-size, need.light))

  stored : Walked start p row (set sums j v) (j + 2)
  stored = turn_at v need inv h v-is

  stored_all : length row ≤ j + 2 → set sums j v ≡ add_lists ℤ_ring start (scale_list ℤ_ring p row)
  stored_all e = end_at need stored e

pub overflow_mul-sums : goal.overflow_mul-sums
overflow_mul-sums c =
    let a = c.args in
    let l = c.loop-j in
    let inv = rw (to_z-of_z c.ranges.p) at l.invariant in
    let fy : SFits w64 (get_or a.row.now l.j (pos 0)) = search rules in
    let py = fits-py a.sums.now l.sums a.row.now a.p l.j c.requires c.loop-j-test.true inv in
    simp (to_z-of_z c.ranges.p, to_z-of_z fy) py

pub overflow_add-sums : goal.overflow_add-sums
overflow_add-sums c =
    let a = c.args in
    let l = c.loop-j in
    let inv = rw (to_z-of_z c.ranges.p) at l.invariant in
    let fx : SFits w64 (get_or l.sums l.j (pos 0)) = search rules in
    let fy : SFits w64 (get_or a.row.now l.j (pos 0)) = search rules in
    let py = fits-py a.sums.now l.sums a.row.now a.p l.j c.requires c.loop-j-test.true inv in
    simp (to_z-of_z c.ranges.p, to_z-of_z fx, to_z-of_z fy, to_z-of_z py) (fits-v a.sums.now l.sums a.row.now a.p l.j c.requires c.loop-j-test.true inv)

pub loop-j-preserved : goal.loop-j-preserved
loop-j-preserved c =
    let a = c.args in
    let l = c.loop-j in
    let inv = rw (to_z-of_z c.ranges.p) at l.invariant in
    let fx : SFits w64 (get_or l.sums l.j (pos 0)) = search rules in
    let fy : SFits w64 (get_or a.row.now l.j (pos 0)) = search rules in
    let py = fits-py a.sums.now l.sums a.row.now a.p l.j c.requires c.loop-j-test.true inv in
    let vf = fits-v a.sums.now l.sums a.row.now a.p l.j c.requires c.loop-j-test.true inv in
    simp (to_z-of_z c.ranges.p, to_z-of_z fx, to_z-of_z fy, to_z-of_z py, to_z-of_z vf)
    (stored a.sums.now l.sums a.row.now a.p l.j c.requires c.loop-j-test.true inv)

pub returns : goal.returns
returns c = end_at c.requires (rw (to_z-of_z c.ranges.p) at c.loop-j.invariant) (omega arith)

-- where the last place is written, or the last but one
pub returns-2 : goal.returns-2
returns-2 c =
    let a = c.args in
    let l = c.loop-j in
    let inv = rw (to_z-of_z c.ranges.p) at l.invariant in
    let fx : SFits w64 (get_or l.sums l.j (pos 0)) = search rules in
    let fy : SFits w64 (get_or a.row.now l.j (pos 0)) = search rules in
    let py = fits-py a.sums.now l.sums a.row.now a.p l.j c.requires c.loop-j-test.true inv in
    let vf = fits-v a.sums.now l.sums a.row.now a.p l.j c.requires c.loop-j-test.true inv in
    simp (to_z-of_z c.ranges.p, to_z-of_z fx, to_z-of_z fy, to_z-of_z py, to_z-of_z vf)
    (stored_all a.sums.now l.sums a.row.now a.p l.j c.requires c.loop-j-test.true inv (omega arith))
