-- `rounding::near` meets its contract: c = floor(n/d), and c + 1 where twice what floor leaves, and 1 if c is odd, passes d.
use mathlib.Core.Path.{◌≡◌}
use Prim.Native.Nat.{◌+◌, ◌*◌, ◌<◌}
use lib.Bits.{bit_and}
use lib.IntN.{ℤ, pos, nat_abs}
use mir.Syntax.{w64}
use mir.Val.{SFits, to_z, of_z}
use mir.Facts.{to_z-of_z}
use Rattle.integer.specs.definitions.Rounding.{parity}
use Rattle.integer.proofs.laws.Machine.{lowest_bit}
use Rattle.integer.proofs.laws.RoundingLaws.{near_at, near_above}
use Rattle.integer.proofs.Division.{Operands}
use Rattle.integer.proofs.Nearest.{FloorAndRest, x_left, missing_fits, sum_fits, passes, passes_not, next_fits}
use Rattle.integer.proofs.rounding.near.Goals as goal

abbrev operands : goal.Start → Operands
operands s = record { n = s.args.n; d = s.args.d; fits_n = s.ranges.n; fits_d = s.ranges.d; positive = s.requires }

-- behind the two calls
module _ (m : goal.After-floor-c) where
  abbrev o : Operands
  o = operands m.before.before

  abbrev c : ℤ
  c = m.floor-c.result

  abbrev x : ℤ
  x = m.before.modulo-rest.result

  fits-x : SFits w64 x
  fits-x = record { sfits = m.before.modulo-rest.type_inv }

  abbrev l : FloorAndRest o
  l = record {
    c = c;
    x = x;
    fits_c = record { sfits = m.floor-c.type_inv };
    c_is = simp (to_z-of_z o.fits_n, to_z-of_z o.fits_d) at m.floor-c.ensures;
    x_is = simp (to_z-of_z o.fits_n, to_z-of_z o.fits_d) at m.before.modulo-rest.ensures;
  }

  odd_is : to_z w64 (bit_and (of_z w64 c) 1) ≡ pos (parity c)
  odd_is = lowest_bit c l.fits_c

passed : (t : goal.Then-d-rest) → let m = t.before in nat_abs (o m).d < 2 * nat_abs (x m) + parity (c m)
passed t =
    let m = t.before in
    passes (o m) (l m) (simp (to_z-of_z (o m).fits_d, to_z-of_z (fits-x m), odd_is m, to_z-of_z (missing_fits (o m) (l m)), to_z-of_z (sum_fits (o m) (l m))) at t.if-d-rest.true)

pub returns-then-d-rest : goal.returns-then-d-rest
returns-then-d-rest t =
    let m = t.before in
    simp (to_z-of_z (l m).fits_c, to_z-of_z (next_fits (o m) (l m) (passed t)))
    (near_above (o m).n (c m) (x m) (nat_abs (o m).d) (l m).c_is (x_left (o m) (l m)) (passed t))

pub returns-else-d-rest : goal.returns-else-d-rest
returns-else-d-rest t =
    let m = t.before in
    simp (to_z-of_z (l m).fits_c)
    (near_at (o m).n (c m) (x m) (nat_abs (o m).d) (l m).c_is (x_left (o m) (l m))
    (passes_not (o m) (l m) (simp (to_z-of_z (o m).fits_d, to_z-of_z (fits-x m), odd_is m, to_z-of_z (missing_fits (o m) (l m)), to_z-of_z (sum_fits (o m) (l m))) at t.if-d-rest.false)))

pub modulo-rest-requires : goal.modulo-rest-requires
modulo-rest-requires s = simp (to_z-of_z s.ranges.d) s.requires

pub floor-c-requires : goal.floor-c-requires
floor-c-requires a = simp (to_z-of_z a.before.ranges.d) a.before.requires

pub overflow_sub-d : goal.overflow_sub-d
overflow_sub-d m = simp (to_z-of_z (o m).fits_d, to_z-of_z (fits-x m)) (missing_fits (o m) (l m))

pub overflow_add-rest : goal.overflow_add-rest
overflow_add-rest m = simp (to_z-of_z (fits-x m), odd_is m) (sum_fits (o m) (l m))

pub overflow_add-result : goal.overflow_add-result
overflow_add-result t = simp (to_z-of_z (l t.before).fits_c) (next_fits (o t.before) (l t.before) (passed t))
