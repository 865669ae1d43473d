-- Laws of a list over one divisor, rounded (Round.antt): `rounded` and `rounding_loss` at a place, their steps, and their bounds.
use Rattle.std.specs.Prelude.{◌≡◌, refl, List, [], ◌∷◌, ℕ, zero, suc, ◌+◌, ◌*◌, ◌<◌, ◌≤◌, ℤ, pos, neg_ℤ, nat_abs, ◌-ℤ◌, ◌*ℤ◌, length, get_or, take, drop}
use Rattle.std.proofs.Common.{sym, ◌∙◌, ap, arith, add-one, drop_of_length-le, drop-cons, take-take}
use Rattle.std.proofs.lemmas.List.{length-map}
use Rattle.std.proofs.Math.ListN.{get_or-map}
use Rattle.ring.specs.laws.Parts.{same, abs, apart, difference, abs_neg}
use Rattle.ring.specs.laws.Difference.{all3, differences}
use Rattle.fraction.specs.definitions.Fraction.{ℚ, whole, ◌-ℚ◌, ◌*ℚ◌, ◌≤ℚ◌, ∣◌∣ℚ}
use Rattle.ring.specs.definitions.Integer.{ℤ_ring}
use Rattle.integer.specs.definitions.Rounding.{near}
use Rattle.integer.proofs.laws.RoundingLaws.{near_closer}
use Rattle.integer.proofs.laws.RoundingSize.{near_size}
use Rattle.chebyshev.specs.definitions.Coefficients.{weight, add_lists, scale_list, subtract_lists}
use Rattle.chebyshev.proofs.laws.Weight.{weight_split}
use Rattle.model.specs.definitions.InnerContracts.{RoundedFrom}
use Rattle.model.specs.definitions.Round.{rounded, rounding_loss}
use Rattle.model.proofs.laws.ValueLaws.{value_at, value_at_scale, value_at_difference}
use Rattle.model.specs.declared.round.Rounded.{Rounded}

-- one number: c = near(C/d), and |C − d·c|
abbrev pub rounded_at : ℕ → ℤ → ℤ
rounded_at d c = near c d

abbrev pub loss_at : ℕ → ℤ → ℕ
loss_at d c = nat_abs (c -ℤ pos d *ℤ rounded_at d c)

pub loss_small : (d : ℕ) → 2 ≤ d → (c : ℤ) → loss_at d c ≤ nat_abs c
loss_small d h c =
    omega (
      arith,
      near_closer c d (omega arith),
      ap nat_abs (turned c (rounded_at d c) (pos d)),
      abs_neg (rounded_at d c *ℤ pos d -ℤ c),
    )
  where
    turned : (c q d : ℤ) → c -ℤ d *ℤ q ≡ neg_ℤ (q *ℤ d -ℤ c)
    turned = all3 _ (simp differences (omega arith))

-- d·c is within |C| of C, so at most 2·|C|
pub product_small : (d : ℕ) → 2 ≤ d → (c : ℤ) → nat_abs (pos d *ℤ rounded_at d c) ≤ 2 * nat_abs c
product_small d h c =
    let m = pos d *ℤ rounded_at d c in
    omega (arith, loss_small d h c, difference c m, abs c, abs m, abs (c -ℤ m), apart m)

rounded_small : (d : ℕ) → 2 ≤ d → (c : ℤ) → nat_abs (rounded_at d c) ≤ nat_abs c
rounded_small d h c = near_size c d h

-- ---- the list of the rounded numbers

pub rounded-length : (d : ℕ) (cs : List ℤ) → length (rounded d cs) ≡ length cs
unfolding rounded
rounded-length d cs = length-map cs (rounded_at d)

pub rounded_at_lem : (d : ℕ) → 2 ≤ d → (cs : List ℤ) (k : ℕ) → get_or (rounded d cs) k (pos 0) ≡ rounded_at d (get_or cs k (pos 0))
unfolding rounded
rounded_at_lem d h cs k = ap (get_or (rounded d cs) k) (sym zero) ∙ get_or-map (rounded_at d) cs k (pos 0)
  where
    zero : rounded_at d (pos 0) ≡ pos 0
    zero = same (rounded_at d (pos 0)) (pos 0) (omega (arith, abs (rounded_at d (pos 0)), rounded_small d h (pos 0)))

pub rounded-weight : (d : ℕ) → 2 ≤ d → (cs : List ℤ) → weight (rounded d cs) ≤ weight cs
unfolding rounded weight
rounded-weight d h [] = omega arith
rounded-weight d h (c ∷ cs) = omega (arith, rounded_small d h c, rounded-weight d h cs)

-- ---- the loss

pub loss_step : (d : ℕ) (cs : List ℤ) (k : ℕ) → k < length cs
    → rounding_loss d (drop k cs) ≡ loss_at d (get_or cs k (pos 0)) + rounding_loss d (drop (k + 1) cs)
unfolding rounding_loss
loss_step d cs k h = rw (drop-cons cs k (pos 0) h, add-one)

pub loss_end : (d : ℕ) (cs : List ℤ) (k : ℕ) → length cs ≤ k → rounding_loss d (drop k cs) ≡ 0
unfolding rounding_loss
loss_end d cs k h = rw drop_of_length-le

pub loss_weight : (d : ℕ) → 2 ≤ d → (cs : List ℤ) → rounding_loss d cs ≤ weight cs
unfolding rounding_loss weight
loss_weight d h [] = omega arith
loss_weight d h (c ∷ cs) = omega (arith, loss_small d h c, loss_weight d h cs)

-- the weight of C − d·c, where c is the rounded first k places of C: what rounding and dropping lose
rounding_weight : (d k : ℕ) (cs : List ℤ)
    → weight (subtract_lists ℤ_ring cs (scale_list ℤ_ring (pos d) (rounded d (take k cs)))) ≡ rounding_loss d (take k cs) + weight (drop k cs)
unfolding weight subtract_lists add_lists scale_list rounded rounding_loss
rounding_weight d zero [] = refl
rounding_weight d zero (c ∷ cs) = omega arith
rounding_weight d (suc k) [] = refl
rounding_weight d (suc k) (c ∷ cs) = omega (arith, rounding_weight d k cs)

-- what rounding and dropping lose at every fraction
pub rounding_value : (d k : ℕ) (x : ℚ) → ∣ x ∣ℚ ≤ℚ whole (pos 1) → (cs : List ℤ)
    → ∣ value_at x cs -ℚ whole (pos d) *ℚ value_at x (rounded d (take k cs)) ∣ℚ ≤ℚ whole (pos (rounding_loss d (take k cs) + weight (drop k cs)))
rounding_value d k x on cs =
    rw (← value_at_scale x (pos d) (rounded d (take k cs)), ← rounding_weight d k cs)
    (value_at_difference x on cs (scale_list ℤ_ring (pos d) (rounded d (take k cs))))

-- ---- the result of the pass

-- nothing is lost with zeros at the end
pub rounded_prefix : (d : ℕ) (c : List ℤ) (t n : ℕ) (r : Rounded) → weight (drop t c) ≡ 0 → n ≤ t
    → RoundedFrom d (take t c) n r → RoundedFrom d c n r
rounded_prefix d c t n r z h f =
    let e = take-take n t c h in record {
      weight_is = rw e at f.weight_is;
      loss_is = omega (arith, f.loss_is, ap (rounding_loss d) e, weight_split n (take t c), ap weight e, weight_split n c, weight_split t c);
      coefficients_are = rw e at f.coefficients_are;
    }

pub rounded_loss : (d : ℕ) → 2 ≤ d → (c : List ℤ) (n : ℕ) (r : Rounded) → RoundedFrom d c n r → r.loss ≤ weight c
rounded_loss d h c n r f = omega (arith, f.loss_is, loss_weight d h (take n c), weight_split n c)
