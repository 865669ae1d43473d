-- `integrate::rounded_integral` meets its contract: a turn is that of the walk (IntegralWalk.antt).
use Rattle.std.proofs.Common.{arith, ◌≡◌, refl, ap, List, ℕ, suc, ◌+◌, ◌*◌, ◌-◌, ◌≤◌, ℤ, pos, nat_abs, ◌-ℤ◌, ◌*ℤ◌, get_or, take, set, w32, w64, FitsSigned, to_z, to_z-of_z}
use borrow.Author.Tests.{ltb-false}
use Rattle.integer.specs.definitions.Rounding.{near}
use Rattle.chebyshev.proofs.laws.Weight.{weight_at}
use Rattle.model.specs.definitions.InnerContracts.{Integrable}
use Rattle.model.specs.definitions.Models.{scale, max_weight}
use Rattle.integer.proofs.laws.Machine.{abs-fits, fits_widens}
use Rattle.model.proofs.laws.IntegralLaws.{coefficient_narrow}
use Rattle.model.proofs.IntegralWalk.{Walk, begins, turn, ends, narrow, length_list, bounded, below_is, numerator}
use Rattle.model.proofs.integrate.rounded_integral.Goals as goal
use Rattle.model.proofs.integrate.rounded_integral.Goals.{After-rounded_coefficient-c}

pub loop-k-init : goal.loop-k-init
loop-k-init c = (refl, begins c.args.extent (take (suc c.args.degree) c.args.doubled.now) (c.args.degree + 1) (length_list c.told-doubled c.requires) (omega (arith, c.requires)))

-- the number below
fits-below : {degree : ℕ} {doubled : List ℤ} {d : ℕ} → Integrable degree doubled d → (j : ℕ) → FitsSigned w32 (get_or doubled j (pos 0))
fits-below {doubled = doubled} pre j = abs-fits w32 (get_or doubled j (pos 0)) (omega (arith, weight_at doubled j, pre.light))

pub rounded_coefficient-c-requires : goal.rounded_coefficient-c-requires
rounded_coefficient-c-requires c =
    let e : c.loop-k.k - 1 + 1 ≡ c.loop-k.k = omega arith in
    let fits-x = fits-below c.requires (c.loop-k.k - 1) in
    simp (e, to_z-of_z fits-x, to_z-of_z (fits_widens fits-x)) (numerator c.told-doubled c.requires c.loop-k.invariant.1 (omega arith))

-- a turn, with the coefficient, of absolute value m
module _ (n : After-rounded_coefficient-c) where
  abbrev x : ℤ
  x = get_or n.args.doubled.now (n.loop-k.k - 1) (pos 0)

  abbrev c : ℤ
  c = n.rounded_coefficient-c.result

  abbrev first : ℤ
  first = to_z w64 n.loop-k.first-bits

  fits_c : FitsSigned w64 c
  fits_c = record { sfits = n.rounded_coefficient-c.type_inv }

  fits-x : FitsSigned w32 x
  fits-x = fits-below n.requires (n.loop-k.k - 1)

  c_is : c ≡ near ((x -ℤ to_z w64 n.loop-k.above-bits) *ℤ pos n.args.extent) (4 * scale * n.loop-k.k)
  c_is = let e : n.loop-k.k - 1 + 1 ≡ n.loop-k.k = omega arith in simp (e, to_z-of_z fits-x, to_z-of_z (fits_widens fits-x)) at n.rounded_coefficient-c.ensures

  after : (m : ℕ) (out : List ℤ) → m ≡ nat_abs c → (n.loop-k.weight + m ≤ max_weight → out ≡ set n.loop-k.coefficients n.loop-k.k c)
      → Walk n.args.extent (take (suc n.args.degree) n.args.doubled.now) out (n.loop-k.weight + m) (c -ℤ first) (to_z w64 n.loop-k.here-bits) x (n.loop-k.k - 1)
  after m out = turn (n.loop-k.k - 1) x c m out n.loop-k.invariant.1 (omega arith) (below_is n.told-doubled n.requires n.loop-k.invariant.1 (omega arith)) c_is

  fits-first : FitsSigned w64 (c -ℤ first)
  fits-first = abs-fits w64 (c -ℤ first) (omega (arith, (bounded n.told-doubled n.requires (after (nat_abs c) _ refl (λ _. refl))).first_small))

pub overflow_add-weight : goal.overflow_add-weight
overflow_add-weight m =
    let n = (goal.at.overflow_add-weight m).After-rounded_coefficient-c in
    let size = rw (to_z-of_z (fits_c n)) at m.unsigned_abs-size.ensures.value in
    omega (arith, (bounded m.told-doubled m.requires (after n m.unsigned_abs-size.result _ size (λ _. refl))).total_small)

-- on an extent up to 4S the coefficient fits 32 bits
pub narrowed-requires-clause-size_bound : goal.narrowed-requires-clause-size_bound
narrowed-requires-clause-size_bound m h =
    let n = (goal.at.narrowed-requires-clause-size_bound m).After-rounded_coefficient-c in
    let size : m.unsigned_abs-size.result ≡ nat_abs (c n) = rw (to_z-of_z (fits_c n)) at m.unsigned_abs-size.ensures.value in
    omega (arith, size, ap nat_abs (c_is n), coefficient_narrow (numerator m.told-doubled m.requires m.loop-k.invariant.1 (omega arith)) (ltb-false (4 * scale) m.args.extent h))

pub overflow_sub-first : goal.overflow_sub-first
overflow_sub-first t = let n = (goal.at.overflow_sub-first t).After-rounded_coefficient-c in simp (to_z-of_z (fits_c n)) (fits-first n)

pub loop-k-preserved : goal.loop-k-preserved
loop-k-preserved t =
    let n = (goal.at.loop-k-preserved t).After-rounded_coefficient-c in
    let e : t.loop-k.k - 1 + 1 ≡ t.loop-k.k = omega arith in
    let size : t.unsigned_abs-size.result ≡ nat_abs (c n) = rw (to_z-of_z (fits_c n)) at t.unsigned_abs-size.ensures.value in
    let stored = simp (to_z-of_z (fits_c n)) at t.narrowed.ensures in
    let fits-stored : FitsSigned w32 t.narrowed.result = record { sfits = t.narrowed.type_inv } in
    simp (e, to_z-of_z fits-stored, to_z-of_z (fits_c n), to_z-of_z (fits-first n), to_z-of_z (fits-x n), to_z-of_z (fits_widens (fits-x n)))
    (t.loop-k.invariant.0, after n t.unsigned_abs-size.result _ size (λ h. ap (set t.loop-k.coefficients t.loop-k.k) (stored (omega arith))))

pub overflow_add-weight-2 : goal.overflow_add-weight-2
overflow_add-weight-2 m = omega (arith, bounded m.told-doubled m.requires m.loop-k.invariant.1, m.unsigned_abs-weight.ensures.value)

pub returns-then-weight-le-MAX_WEIGHT : goal.returns-then-weight-le-MAX_WEIGHT
returns-then-weight-le-MAX_WEIGHT t =
    let m = t.unsigned_abs-weight.result in
    let fits-first : FitsSigned w32 (to_z w64 t.loop-k.first-bits) = narrow (to_z w64 t.loop-k.first-bits) t.loop-k.weight m t.unsigned_abs-weight.ensures.value t.if-weight-le-MAX_WEIGHT.true in
    let it = ends m (set t.loop-k.coefficients 0 (to_z w64 t.loop-k.first-bits)) t.loop-k.invariant.1 (omega arith) t.unsigned_abs-weight.ensures.value (λ _. refl) in
    simp (to_z-of_z fits-first) (record { weight_value = it.0; coefficients_value = it.1 })

pub returns-else-weight-le-MAX_WEIGHT-clause-weight_value : goal.returns-else-weight-le-MAX_WEIGHT-clause-weight_value
returns-else-weight-le-MAX_WEIGHT-clause-weight_value t =
    (ends t.unsigned_abs-weight.result (set t.loop-k.coefficients 0 (to_z w64 t.loop-k.first-bits)) t.loop-k.invariant.1 (omega arith) t.unsigned_abs-weight.ensures.value (λ _. refl)).0
