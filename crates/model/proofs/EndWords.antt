-- Two ends of 32 bits: their difference fits 64. And two numbers are equal where their bits are.
use Rattle.std.proofs.Common.{◌≡◌, refl, ap, sym, ◌∙◌, arith, Bool, true, false, ℤ, nat_abs, ◌-ℤ◌, ◌^◌, ◌≤◌, w32, w64, FitsSigned, to_z, of_z, to_z-of_z}
use Rattle.std.specs.Int.{Width}
use borrow.Author.Tests.{eqb-true, eqb-false, eq-eqb, ne_eqb}
use lib.Dec.{eqb}
use Rattle.integer.proofs.laws.Machine.{abs-fits, within}
use Rattle.ring.specs.laws.Parts.{abs, abs-sub, apart, difference, same}

pub word_size : (x : ℤ) → FitsSigned w32 x → nat_abs x ≤ 2 ^ 32
word_size x f = omega (arith, within w32 x f, abs x)

pub difference-fits : (x y : ℤ) → FitsSigned w32 x → FitsSigned w32 y → FitsSigned w64 (x -ℤ y)
difference-fits x y f g = abs-fits w64 (x -ℤ y) (omega (arith, abs-sub x y, word_size x f, word_size y g))

pub word_equal : {w : Width} (x y : ℤ) → FitsSigned w x → FitsSigned w y → eqb (of_z w x) (of_z w y) ≡ eqb (nat_abs (x -ℤ y)) 0
word_equal {w} x y f g = pick (eqb (of_z w x) (of_z w y)) refl
  where
    none : (z : ℤ) → nat_abs (z -ℤ z) ≡ 0
    none z = omega (arith, difference z z, abs (z -ℤ z), apart (z -ℤ z))

    pick : (b : Bool) → eqb (of_z w x) (of_z w y) ≡ b → eqb (of_z w x) (of_z w y) ≡ eqb (nat_abs (x -ℤ y)) 0
    pick true e =
        let s : x ≡ y = sym (to_z-of_z f) ∙ ap (to_z w) (eqb-true (of_z w x) (of_z w y) e) ∙ to_z-of_z g in
        e ∙ sym (eq-eqb (nat_abs (x -ℤ y)) 0 (ap (λ (z : ℤ). nat_abs (z -ℤ y)) s ∙ none y))
    pick false e = e ∙ sym (ne_eqb (nat_abs (x -ℤ y)) 0 (λ h. eqb-false (of_z w x) (of_z w y) e (ap (of_z w) (same x y (omega (arith, difference x y, abs (x -ℤ y), h))))))
