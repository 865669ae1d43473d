-- `residual::subtract` meets its contract.
use Rattle.std.proofs.Common.{rules}
use mathlib.Core.Path.{◌≡◌, sym, ◌∙◌, ap, ap₂}
use mathlib.Core.List.{List, ◌++◌}
use Prim.Native.Nat.{ℕ}
use native.Mathlib.Omega.{arith}
use native.Mathlib.Nat.{zero-add}
use lib.IntN.{ℤ, pos, nat_abs, ◌-ℤ◌, ◌*ℤ◌}
use lib.ListN.{length, get_or, take, drop}
use lib.Seq.{length-take-le, get_or-take}
use mir.Syntax.{w32, w64}
use mir.Val.{SFits}
use mir.Facts.{to_z-of_z}
use Rattle.integer.proofs.laws.Filling.{begins, turn, next, ends}
use Rattle.integer.proofs.laws.Machine.{abs-fits}
use Rattle.ring.specs.laws.Parts.{abs-mul, abs-sub}
use Rattle.chebyshev.proofs.laws.Weight.{weight_at}
use Rattle.certificate.proofs.laws.ResidualLaws.{length_residual, at_residual, residual_split}
use Rattle.certificate.proofs.residual.subtract.Invariants.{changed}
use Rattle.certificate.proofs.residual.subtract.Goals as goal

pub loop-k-init : goal.loop-k-init
loop-k-init c =
    let p = c.args.part.now in
    let f = c.args.f.now in
    begins (changed p f) p 0 (length f)
    (omega (arith, length_residual (take (length f) p) f, length-take-le (length f) p c.requires.0)) (omega (arith, c.requires.0))

module _ (c : goal.After-part-1) where
  abbrev k : ℕ
  k = c.loop-k.k

  abbrev C : List ℤ
  C = c.args.part.now

  abbrev f : List ℤ
  f = c.args.f.now

  abbrev x : ℤ
  x = get_or c.loop-k.part k (pos 0)

  abbrev y : ℤ
  y = get_or f k (pos 0)

  abbrev p : ℤ
  p = pos 2097152 *ℤ c.from.result

  x_is : x ≡ get_or C k (pos 0)
  x_is = next k (pos 0) c.loop-k.invariant (omega arith)

  y_is : c.from.result ≡ y
  y_is = let fits : SFits w32 y = search rules in c.from.ensures ∙ to_z-of_z fits

  fits-x : SFits w64 x
  fits-x = search rules

  fits-y : SFits w64 c.from.result
  fits-y = record { sfits = c.from.type_inv }

  fits-p : SFits w64 p
  fits-p = abs-fits w64 p (omega (arith, ap nat_abs y_is, abs-mul (pos 2097152) c.from.result, weight_at f k, c.requires))

  fits_d : SFits w64 (x -ℤ p)
  fits_d =
      abs-fits w64 (x -ℤ p)
      (omega (arith, abs-sub x p, ap nat_abs x_is, weight_at C k, ap nat_abs y_is, abs-mul (pos 2097152) c.from.result, weight_at f k, c.requires))

  difference-is : x -ℤ p ≡ get_or (changed C f) k (pos 0)
  difference-is =
      ap₂ (λ z t. z -ℤ (pos 2097152 *ℤ t)) (x_is ∙ sym (get_or-take (length f) C k (pos 0) (omega arith))) y_is
      ∙ sym (at_residual (take (length f) C) f k)

pub overflow_sub-part : goal.overflow_sub-part
overflow_sub-part c = simp (to_z-of_z (fits-y c), to_z-of_z (fits-p c), to_z-of_z (fits-x c)) (fits_d c)

pub loop-k-preserved : goal.loop-k-preserved
loop-k-preserved c =
    simp (to_z-of_z (fits-y c), to_z-of_z (fits-p c), to_z-of_z (fits-x c), to_z-of_z (fits_d c))
    (turn (k c) (x c -ℤ p c) (pos 0) c.loop-k.invariant (omega arith) (omega arith) (difference-is c))

pub returns : goal.returns
returns c =
    let p = c.args.part.now in
    let f = c.args.f.now in
    ends c.loop-k.invariant (omega arith) ∙ ap (λ (n : ℕ). changed p f ++ drop n p) (zero-add (length f)) ∙ sym (residual_split p f c.requires.0)
