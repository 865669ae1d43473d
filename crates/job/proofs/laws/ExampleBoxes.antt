-- Boxes that 01 permits for the job of ExampleJob.antt at x = 1/3, wider than single fractions from the first product on; a sum, a
-- difference and a product of two different wide boxes are among them.
use Rattle.std.specs.Prelude.{◌≡◌, refl, List, [], ◌∷◌, ℕ, suc, ◌<◌, ℤ, pos, negsuc, ◌*ℤ◌, get_or, ◌≤ℤ◌}
use Rattle.std.proofs.Common.{sym, subst, inl, inr, arith}
use Rattle.std.specs.Int.Signed.{le_z_yes}
use Rattle.ring.proofs.laws.OrderedRingLaws.{le_refl}
use Rattle.fraction.specs.definitions.Fraction.{ℚ, whole, ◌/1+◌, ◌*ℚ◌, ◌≤ℚ◌, ◌<ℚ◌}
use Rattle.fraction.proofs.laws.FractionLaws.{whole_is, fraction_add, fraction_mul, fraction_eq}
use Rattle.ring.proofs.laws.PairLaws.{den_is, den-mul}
use Rattle.integer.proofs.laws.FractionOrder.{ℚ_ordered, fraction_le, fraction_neg}
use Rattle.job.specs.definitions.Requirement.{Box, Lies, Permitted, load_box, add_box, subtract_box, multiply_box, quotient_box, root_box}
use Rattle.job.proofs.laws.ExampleJob.{example_commands}
use Rattle.job.proofs.laws.ExampleValues.{third, allows_a, allows_b, allows_c, divided, nonzero, upto_at}

-- a box by its ends, in order
abbrev ends : (l : ℤ) (a : ℕ) (h : ℤ) (b : ℕ) → (l /1+ a) ≤ℚ (h /1+ b) → Box
ends l a h b o = record { low = l /1+ a; high = h /1+ b; ordered = o }

-- a; b; around a·a, a, a + b, b, (a + b)·(a + b), that over a, a + b, (a + b) + a, (a + b)·a; c; its root
abbrev boxes : List Box
boxes =
    ends (pos 257) 127 (pos 257) 127 (le_refl ℚ_ordered _)
    ∷ ends (pos 11) 31 (pos 11) 31 (le_refl ℚ_ordered _)
    ∷ ends (pos 4) 0 (pos 5) 0 (simp (fraction_le, den_is) (le_z_yes tt))
    ∷ ends (pos 1) 0 (pos 3) 0 (simp (fraction_le, den_is) (le_z_yes tt))
    ∷ ends (pos 43) 31 (pos 107) 31 (simp (fraction_le, den_is) (le_z_yes tt))
    ∷ ends (negsuc 52) 31 (pos 75) 31 (simp (fraction_le, den_is) (le_z_yes tt))
    ∷ ends (pos 1) 0 (pos 12) 0 (simp (fraction_le, den_is) (le_z_yes tt))
    ∷ ends (pos 1) 2 (pos 12) 0 (simp (fraction_le, den_is) (le_z_yes tt))
    ∷ ends (pos 0) 0 (pos 4) 0 (simp (fraction_le, den_is) (le_z_yes tt))
    ∷ ends (pos 1) 0 (pos 7) 0 (simp (fraction_le, den_is) (le_z_yes tt))
    ∷ ends (pos 0) 0 (pos 12) 0 (simp (fraction_le, den_is) (le_z_yes tt))
    ∷ ends (pos 4) 0 (pos 4) 0 (le_refl ℚ_ordered _)
    ∷ ends (pos 1) 0 (pos 3) 0 (simp (fraction_le, den_is) (le_z_yes tt))
    ∷ []

abbrev pub example_box : ℕ → Box
example_box i = get_or boxes i (ends (pos 0) 0 (pos 0) 0 (le_refl ℚ_ordered _))

abbrev pub Fits : ℕ → Type 0
Fits i = Permitted example_commands third example_box i

-- a fraction between the ends
module _ (l : ℤ) (a : ℕ) (h : ℤ) (b : ℕ) (o : (l /1+ a) ≤ℚ (h /1+ b)) where
  between : {v : ℚ} (p : ℤ) (q : ℕ) → p /1+ q ≡ v → (l *ℤ pos (suc q)) ≤ℤ (p *ℤ pos (suc a)) → (p *ℤ pos (suc b)) ≤ℤ (h *ℤ pos (suc q))
      → Lies v (ends l a h b o)
  between p q e t u =
      subst (λ z. Lies z (ends l a h b o)) e (record { above = simp (fraction_le, den_is) t; below = simp (fraction_le, den_is) u })

fits_0 : Fits 0
fits_0 = load_box 0 _ _ refl allows_a refl refl

fits_1 : Fits 1
fits_1 = load_box 1 _ _ refl allows_b refl refl

fits_2 : Fits 2
fits_2 = multiply_box 2 0 0 0 refl fits_0 fits_0 (record { low_low = l; low_high = l; high_low = l; high_high = l })
  where
    l : Lies (pos 257 /1+ 127 *ℚ pos 257 /1+ 127) (example_box 2)
    l = between (pos 4) 0 (pos 5) 0 _ (pos 66049) 16383 (simp fraction_mul (fraction_eq _ _ _ _ (simp (den-mul, den_is)))) (le_z_yes tt) (le_z_yes tt)

positive : whole (pos 0) <ℚ pos 1 /1+ 0
positive h = below (simp (whole_is, fraction_le, den_is) at h)
  where
    below : (pos 1 *ℤ pos 1) ≤ℤ (pos 0 *ℤ pos 1) → ⊥
    below h = h.le

fits_3 : Fits 3
fits_3 =
    root_box 3 2 _ _ _ refl fits_2 (inr (positive, simp (fraction_mul, fraction_le, den-mul, den_is) (le_z_yes tt)))
    (simp (whole_is, fraction_le, den_is) (le_z_yes tt)) (simp (fraction_mul, fraction_le, den-mul, den_is) (le_z_yes tt))

fits_4 : Fits 4
fits_4 =
    add_box 4 3 1 refl fits_3 fits_1 (simp fraction_add (fraction_eq _ _ _ _ (simp (den-mul, den_is))))
    (simp fraction_add (fraction_eq _ _ _ _ (simp (den-mul, den_is))))

fits_5 : Fits 5
fits_5 =
    subtract_box 5 4 3 refl fits_4 fits_3 (simp (fraction_neg, fraction_add) (fraction_eq _ _ _ _ (simp (den-mul, den_is))))
    (simp (fraction_neg, fraction_add) (fraction_eq _ _ _ _ (simp (den-mul, den_is))))

fits_6 : Fits 6
fits_6 =
    multiply_box 6 4 4 32 refl fits_4 fits_4 (record {
      low_low = between (pos 1) 0 (pos 12) 0 _ (pos 1849) 1023 (simp fraction_mul (fraction_eq _ _ _ _ (simp (den-mul, den_is)))) (le_z_yes tt) (le_z_yes tt);
      low_high = between (pos 1) 0 (pos 12) 0 _ (pos 4601) 1023 (simp fraction_mul (fraction_eq _ _ _ _ (simp (den-mul, den_is)))) (le_z_yes tt) (le_z_yes tt);
      high_low = between (pos 1) 0 (pos 12) 0 _ (pos 4601) 1023 (simp fraction_mul (fraction_eq _ _ _ _ (simp (den-mul, den_is)))) (le_z_yes tt) (le_z_yes tt);
      high_high = between (pos 1) 0 (pos 12) 0 _ (pos 11449) 1023 (simp fraction_mul (fraction_eq _ _ _ _ (simp (den-mul, den_is)))) (le_z_yes tt) (le_z_yes tt);
    })

fits_7 : Fits 7
fits_7 =
    let n = nonzero 1 0 (omega arith) in
    let k = nonzero 3 0 (omega arith) in
    quotient_box 7 6 3 _ _ refl fits_6 fits_3 (λ l. positive l.above) (record {
      low_low = between (pos 1) 2 (pos 12) 0 _ (pos 1) 0 (divided _ _ _ n (simp fraction_mul (fraction_eq _ _ _ _ (simp (den-mul, den_is))))) (le_z_yes tt) (le_z_yes tt);
      low_high = between (pos 1) 2 (pos 12) 0 _ (pos 1) 2 (divided _ _ _ k (simp fraction_mul (fraction_eq _ _ _ _ (simp (den-mul, den_is))))) (le_z_yes tt) (le_z_yes tt);
      high_low = between (pos 1) 2 (pos 12) 0 _ (pos 12) 0 (divided _ _ _ n (simp fraction_mul (fraction_eq _ _ _ _ (simp (den-mul, den_is))))) (le_z_yes tt) (le_z_yes tt);
      high_high = between (pos 1) 2 (pos 12) 0 _ (pos 4) 0 (divided _ _ _ k (simp fraction_mul (fraction_eq _ _ _ _ (simp (den-mul, den_is))))) (le_z_yes tt) (le_z_yes tt);
    })

fits_8 : Fits 8
fits_8 =
    root_box 8 6 _ _ _ refl fits_6 (inl (sym (whole_is (pos 0)))) (simp (whole_is, fraction_le, den_is) (le_z_yes tt))
    (simp (fraction_mul, fraction_le, den-mul, den_is) (le_z_yes tt))

fits_9 : Fits 9
fits_9 =
    add_box 9 8 3 refl fits_8 fits_3 (simp fraction_add (fraction_eq _ _ _ _ (simp (den-mul, den_is))))
    (simp fraction_add (fraction_eq _ _ _ _ (simp (den-mul, den_is))))

fits_10 : Fits 10
fits_10 =
    multiply_box 10 8 3 32 refl fits_8 fits_3 (record {
      low_low = between (pos 0) 0 (pos 12) 0 _ (pos 0) 0 (simp fraction_mul (fraction_eq _ _ _ _ (simp (den-mul, den_is)))) (le_z_yes tt) (le_z_yes tt);
      low_high = between (pos 0) 0 (pos 12) 0 _ (pos 0) 0 (simp fraction_mul (fraction_eq _ _ _ _ (simp (den-mul, den_is)))) (le_z_yes tt) (le_z_yes tt);
      high_low = between (pos 0) 0 (pos 12) 0 _ (pos 4) 0 (simp fraction_mul (fraction_eq _ _ _ _ (simp (den-mul, den_is)))) (le_z_yes tt) (le_z_yes tt);
      high_high = between (pos 0) 0 (pos 12) 0 _ (pos 12) 0 (simp fraction_mul (fraction_eq _ _ _ _ (simp (den-mul, den_is)))) (le_z_yes tt) (le_z_yes tt);
    })

fits_11 : Fits 11
fits_11 = load_box 11 _ _ refl allows_c refl refl

-- the root of command 0x22, with the boxes of a root of 0x21
fits_12 : Fits 12
fits_12 =
    root_box 12 11 _ _ _ refl fits_11 (inr (positive, simp (fraction_mul, fraction_le, den-mul, den_is) (le_z_yes tt)))
    (simp (whole_is, fraction_le, den_is) (le_z_yes tt)) (simp (fraction_mul, fraction_le, den-mul, den_is) (le_z_yes tt))

-- every box of the example is permitted
pub example_permitted : (i : ℕ) → i < 13 → Fits i
example_permitted =
    upto_at Fits 13
    (((((((((((((tt, fits_0), fits_1), fits_2), fits_3), fits_4), fits_5), fits_6), fits_7), fits_8), fits_9), fits_10), fits_11), fits_12)
