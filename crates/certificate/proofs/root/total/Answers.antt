-- `root::total` meets its contract.
use Rattle.std.proofs.Common.{rules}
use mathlib.Core.Path.{◌≡◌, sym, ◌∙◌, ap}
use mathlib.Core.List.{List}
use Prim.Native.Nat.{ℕ, ◌+◌, ◌*◌, ◌^◌, ◌≤◌, ◌<◌}
use native.Mathlib.Omega.{arith}
use native.Mathlib.Numerals.{add-one}
use lib.IntN.{ℤ, pos, nat_abs, ◌+ℤ◌, +ℤ_assoc, +ℤ_idr}
use lib.ListN.{length, get_or, drop, drop_of_length-le}
use lib.Seq.{drop-cons}
use mir.Syntax.{w32, w64}
use mir.Val.{SFits, to_z}
use mir.Facts.{to_z-of_z}
use Rattle.ring.specs.laws.Parts.{abs, apart, abs-add}
use Rattle.integer.proofs.laws.Machine.{within, abs-fits}
use Rattle.chebyshev.specs.definitions.Coefficients.{coefficient_sum}
use Rattle.certificate.proofs.root.total.Goals as goal

sum_step : (a : List ℤ) (k : ℕ) → k < length a → coefficient_sum (drop k a) ≡ get_or a k (pos 0) +ℤ coefficient_sum (drop (k + 1) a)
unfolding coefficient_sum
sum_step a k h = rw (drop-cons a k (pos 0) h, add-one)

sum-end : (a : List ℤ) (k : ℕ) → length a ≤ k → coefficient_sum (drop k a) ≡ pos 0
unfolding coefficient_sum
sum-end a k h = rw drop_of_length-le

module _ (c : goal.After-from-sum) where
  abbrev cs : List ℤ
  cs = c.args.coefficients.now

  abbrev k : ℕ
  k = c.loop-x.x-index

  abbrev s : ℤ
  s = to_z w64 c.loop-x.sum-bits

  abbrev x : ℤ
  x = c.from-sum.result

  fits_element : SFits w32 (get_or cs k (pos 0))
  fits_element = search rules

  x_is : x ≡ get_or cs k (pos 0)
  x_is = c.from-sum.ensures ∙ to_z-of_z fits_element

  fits-x : SFits w64 x
  fits-x = record { sfits = c.from-sum.type_inv }

  small : nat_abs (s +ℤ x) ≤ (k + 1) * 2 ^ 31
  small = omega (arith, abs-add s x, ap nat_abs x_is, abs (get_or cs k (pos 0)), apart (get_or cs k (pos 0)), within w32 (get_or cs k (pos 0)) fits_element, c.loop-x.invariant.small)

  fits-s : SFits w64 (s +ℤ x)
  fits-s = abs-fits w64 (s +ℤ x) (omega (arith, small))

  rest : (s +ℤ x) +ℤ coefficient_sum (drop (k + 1) cs) ≡ coefficient_sum cs
  rest =
      +ℤ_assoc s x (coefficient_sum (drop (k + 1) cs))
      ∙ ap (λ z. s +ℤ z) (ap (λ t. t +ℤ coefficient_sum (drop (k + 1) cs)) x_is ∙ sym (sum_step cs k (omega arith)))
      ∙ c.loop-x.invariant.rest

pub loop-x-preserved : goal.loop-x-preserved
loop-x-preserved c = simp (to_z-of_z (fits-x c), to_z-of_z (fits-s c)) (record { rest = rest c; small = small c })

pub returns : goal.returns
returns c =
    let z = to_z w64 c.loop-x.sum-bits in
    sym (+ℤ_idr z) ∙ ap (λ t. z +ℤ t) (sym (sum-end c.args.coefficients.now c.loop-x.x-index (omega arith))) ∙ c.loop-x.invariant.rest

pub overflow_add-sum : goal.overflow_add-sum
overflow_add-sum c = simp (to_z-of_z (fits-x c)) (fits-s c)
