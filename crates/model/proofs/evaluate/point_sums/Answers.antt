-- `evaluate::point_sums` meets its contract: a turn is that of the walk (EvaluationWalk.antt), whose sizes keep every number within
-- 64 bits.
use Rattle.std.proofs.Common.{arith, ◌≡◌, refl, ap, List, ℕ, suc, ◌+◌, ◌*◌, ◌<◌, ℤ, pos, nat_abs, ◌+ℤ◌, ◌-ℤ◌, ◌*ℤ◌, length, get_or, take, w32, w64, FitsSigned, to_z, of_z, to_z-of_z}
use Rattle.integer.specs.definitions.Rounding.{near}
use Rattle.integer.proofs.laws.Machine.{abs-fits, fits_widens}
use Rattle.chebyshev.proofs.laws.Weight.{weight_at, weight-take}
use Rattle.model.specs.definitions.InnerContracts.{error_factor}
use Rattle.model.specs.definitions.Models.{scale}
use Rattle.model.proofs.EvaluationWalk.{Walk, begins, turn, ends, first_fits, Turn, length_list, bounded, turn_fits}
use Rattle.model.proofs.evaluate.point_sums.Goals as goal
use Rattle.model.proofs.evaluate.point_sums.Goals.{In-loop-k}

pub loop-k-init : goal.loop-k-init
loop-k-init c = simp (to_z-of_z c.ranges.p, to_z-of_z (first_fits c.args.p c.requires.inside)) (begins c.args.exact c.args.p (take (suc c.args.degree) c.args.coefficients.now))

-- a turn, with the coefficient x
module _ (c : In-loop-k) where
  abbrev cs : List ℤ
  cs = take (suc c.args.degree) c.args.coefficients.now

  abbrev p : ℤ
  p = c.args.p

  abbrev k : ℕ
  k = c.loop-k.k

  abbrev value : ℤ
  value = to_z w64 c.loop-k.value-bits

  abbrev t : ℤ
  t = to_z w64 c.loop-k.t-bits

  abbrev next : ℤ
  next = to_z w64 c.loop-k.next-bits

  -- as the loop has it
  abbrev x : ℤ
  x = get_or (take (c.args.degree + 1) c.args.coefficients.now) k (pos 0)

  x_is : x ≡ get_or cs k (pos 0)
  x_is = let e : c.args.degree + 1 ≡ suc c.args.degree = omega arith in ap (λ (n : ℕ). get_or (take n c.args.coefficients.now) k (pos 0)) e

  walk : Walk c.args.exact p cs value c.loop-k.error t next k
  walk = rw (to_z-of_z c.ranges.p) at c.loop-k.invariant

  there : k < length cs
  there = omega (arith, length_list c.told-coefficients c.requires)

  fits-32 : FitsSigned w32 x
  fits-32 = abs-fits w32 x (omega (arith, ap nat_abs x_is, weight_at cs k, weight-take (suc c.args.degree) c.args.coefficients.now, c.requires))

  fits : Turn p value t next x
  fits = turn_fits c.told-coefficients c.requires x walk there x_is

  after : (m f : ℕ) (u : ℤ) → m ≡ nat_abs x → f ≡ error_factor c.args.exact k → u ≡ near (pos 2 *ℤ p *ℤ next) scale
      → Walk c.args.exact p cs (value +ℤ x *ℤ t) (c.loop-k.error + m * f) next (u -ℤ t) (k + 1)
  after m f u = turn x m f u walk there x_is

  -- what `near` answers
  module _ (u : ℤ) (fits-u : FitsSigned w64 u) (e : u ≡ near (to_z w64 (of_z w64 (to_z w64 (of_z w64 (pos 2 *ℤ to_z w64 (of_z w64 p))) *ℤ next))) scale) where
    near-is : u ≡ near (pos 2 *ℤ p *ℤ next) scale
    near-is = simp (to_z-of_z c.ranges.p, to_z-of_z fits.double_fits, to_z-of_z fits.numerator-fits) at e

    fits_after : FitsSigned w64 (u -ℤ t)
    fits_after = abs-fits w64 (u -ℤ t) (omega (arith, (bounded c.told-coefficients c.requires (after (nat_abs x) _ u refl refl near-is)).next_small))

pub overflow_mul-value : goal.overflow_mul-value
overflow_mul-value c = let l = (goal.at.overflow_mul-value c).In-loop-k in simp (to_z-of_z (fits-32 l), to_z-of_z (fits_widens (fits-32 l))) (fits l).term_fits

pub overflow_add-value : goal.overflow_add-value
overflow_add-value c = let l = (goal.at.overflow_add-value c).In-loop-k in simp (to_z-of_z (fits-32 l), to_z-of_z (fits_widens (fits-32 l)), to_z-of_z (fits l).term_fits) (fits l).sum_fits

pub overflow_add-error : goal.overflow_add-error
overflow_add-error c =
    let l = (goal.at.overflow_add-error c).In-loop-k in
    let size = rw (to_z-of_z (fits-32 l)) at c.unsigned_abs.ensures.value in
    omega (arith, (bounded c.told-coefficients c.requires (after l c.unsigned_abs.result _ _ size c.error_factor.ensures refl)).error_small)

pub overflow_mul-p-in-loop-k : goal.overflow_mul-p-in-loop-k
overflow_mul-p-in-loop-k c = let l = (goal.at.overflow_mul-p-in-loop-k c).In-loop-k in simp (to_z-of_z c.ranges.p, to_z-of_z (fits l).double_fits) (fits l).numerator-fits

pub overflow_sub-after : goal.overflow_sub-after
overflow_sub-after c =
    let l = (goal.at.overflow_sub-after c).In-loop-k in
    let fits-u : FitsSigned w64 c.near.result = record { sfits = c.near.type_inv } in
    simp (to_z-of_z fits-u) (fits_after l c.near.result fits-u c.near.ensures)

pub loop-k-preserved : goal.loop-k-preserved
loop-k-preserved c =
    let l = (goal.at.loop-k-preserved c).In-loop-k in
    let fits-u : FitsSigned w64 c.near.result = record { sfits = c.near.type_inv } in
    let size = rw (to_z-of_z (fits-32 l)) at c.unsigned_abs.ensures.value in
    simp (to_z-of_z (fits-32 l), to_z-of_z (fits_widens (fits-32 l)), to_z-of_z (fits l).term_fits, to_z-of_z (fits l).sum_fits, to_z-of_z c.ranges.p, to_z-of_z fits-u, to_z-of_z (fits_after l c.near.result fits-u c.near.ensures))
    (after l c.unsigned_abs.result c.error_factor.result c.near.result size c.error_factor.ensures (near-is l c.near.result fits-u c.near.ensures))

pub returns : goal.returns
returns c =
    let it = ends (rw (to_z-of_z c.ranges.p) at c.loop-k.invariant) (omega (arith, length_list c.told-coefficients c.requires)) in
    record { value_value = it.0; error_value = it.1 }
