-- Laws of the weight of a list of whole numbers, as natural numbers for `omega` in code proofs. The weight is the norm over ℤ,
-- so its laws are those of the norm (NormLaws.antt). A loop over a list goes by `weight_step` and `weight_end`.
use Rattle.std.specs.Prelude.{◌≡◌, refl, List, [], ◌∷◌, ◌++◌, map, ℕ, ◌+◌, ◌*◌, ◌<◌, ◌≤◌, ℤ, pos, neg_ℤ, nat_abs, ◌-ℤ◌, length, get_or, take, drop, replicate}
use Rattle.std.proofs.Common.{sym, ◌∙◌, ap, ap₂, arith, add-one, drop_of_length-le, drop-cons}
use Rattle.ring.specs.laws.Parts.{◌⁺, same, abs, apart, difference}
use Rattle.ring.specs.definitions.Integer.{ℤ_ring}
use Rattle.ring.proofs.laws.Order.{ℤ_ordered, le-pos, ∣∣_is}
use Rattle.chebyshev.specs.definitions.Coefficients.{weight, add_lists, scale_list, subtract_lists}
use Rattle.chebyshev.proofs.laws.CoefficientLaws.{take_subtract, drop_subtract}
use Rattle.chebyshev.specs.definitions.Norms.{norm}
use Rattle.chebyshev.proofs.laws.NormLaws.{norm_whole, norm_add, norm_opposite, norm_subtract, norm_scale, norm_append, norm_split, norm_take, norm_drop, norm_zeros, norm_append_zeros, norm_at}

pub norm_weight : (a : List ℤ) → norm ℤ_ordered a ≡ pos (weight a)
norm_weight a = ap (norm ℤ_ordered) (same a) ∙ norm_whole ℤ_ordered a
  where
    same : (a : List ℤ) → a ≡ map (λ z. z) a
    same [] = refl
    same (c ∷ a) = ap (λ l. c ∷ l) (same a)

-- ---- a walk over the list

pub weight_step : (a : List ℤ) (i : ℕ) → i < length a → weight (drop i a) ≡ nat_abs (get_or a i (pos 0)) + weight (drop (i + 1) a)
unfolding weight
weight_step a i h = rw (drop-cons a i (pos 0) h, add-one)

pub weight_end : (a : List ℤ) (i : ℕ) → length a ≤ i → weight (drop i a) ≡ 0
unfolding weight
weight_end a i h = rw drop_of_length-le

-- ---- parts

pub weight-append : (a b : List ℤ) → weight (a ++ b) ≡ weight a + weight b
weight-append a b = ap ◌⁺ (simp norm_weight at (norm_append ℤ_ordered a b))

pub weight_split : (n : ℕ) (a : List ℤ) → weight a ≡ weight (take n a) + weight (drop n a)
weight_split n a = ap ◌⁺ (simp norm_weight at (norm_split ℤ_ordered n a))

pub weight-take : (n : ℕ) (a : List ℤ) → weight (take n a) ≤ weight a
weight-take n a = le-pos _ _ (simp norm_weight at (norm_take ℤ_ordered n a))

pub weight-drop : (n : ℕ) (a : List ℤ) → weight (drop n a) ≤ weight a
weight-drop n a = le-pos _ _ (simp norm_weight at (norm_drop ℤ_ordered n a))

pub weight-zeros : (n : ℕ) → weight (replicate n (pos 0)) ≡ 0
weight-zeros n = ap ◌⁺ (simp norm_weight at (norm_zeros ℤ_ordered n))

pub weight_append_zeros : (a : List ℤ) (n : ℕ) → weight (a ++ replicate n (pos 0)) ≡ weight a
weight_append_zeros a n = ap ◌⁺ (simp norm_weight at (norm_append_zeros ℤ_ordered a n))

-- a list of weight 0 holds zeros alone
pub weight-zero : (a : List ℤ) → weight a ≡ 0 → a ≡ replicate (length a) (pos 0)
unfolding weight
weight-zero [] e = refl
weight-zero (c ∷ a) e = ap₂ ◌∷◌ (same c (pos 0) (omega (arith, abs c))) (weight-zero a (omega arith))

-- ---- elements

pub weight_at : (a : List ℤ) (i : ℕ) → nat_abs (get_or a i (pos 0)) ≤ weight a
weight_at a i = le-pos _ _ (simp (norm_weight, ∣∣_is) at (norm_at ℤ_ordered a i))

-- ---- sums, differences, multiples

pub weight-add : (a b : List ℤ) → weight (add_lists ℤ_ring a b) ≤ weight a + weight b
weight-add a b = le-pos _ _ (simp norm_weight at (norm_add ℤ_ordered a b))

pub weight_opposite : (a : List ℤ) → weight (map neg_ℤ a) ≡ weight a
weight_opposite a = ap ◌⁺ (simp norm_weight at (norm_opposite ℤ_ordered a))

pub weight_subtract : (a b : List ℤ) → weight (subtract_lists ℤ_ring a b) ≤ weight a + weight b
weight_subtract a b = le-pos _ _ (simp norm_weight at (norm_subtract ℤ_ordered a b))

pub weight-scale : (s : ℤ) (a : List ℤ) → weight (scale_list ℤ_ring s a) ≡ nat_abs s * weight a
weight-scale s a = ap ◌⁺ (simp (norm_weight, ∣∣_is) at (norm_scale ℤ_ordered s a))

-- |a − b| and |b − a|
pub weight-difference : (a b : List ℤ) → weight (subtract_lists ℤ_ring a b) ≡ weight (subtract_lists ℤ_ring b a)
unfolding weight subtract_lists add_lists
weight-difference [] [] = refl
weight-difference [] (y ∷ b) = weight_opposite (y ∷ b)
weight-difference (x ∷ a) [] = sym (weight_opposite (x ∷ a))
weight-difference (x ∷ a) (y ∷ b) =
    omega (arith, difference x y, difference y x, abs (x -ℤ y), abs (y -ℤ x), apart (x -ℤ y), apart (y -ℤ x), weight-difference a b)

-- a list of zeros is subtracted
pub weight_subtract_none : (a b : List ℤ) → weight b ≡ 0 → weight (subtract_lists ℤ_ring a b) ≡ weight a
unfolding weight subtract_lists add_lists
weight_subtract_none [] b e = weight_opposite b ∙ e
weight_subtract_none (x ∷ a) [] e = refl
weight_subtract_none (x ∷ a) (y ∷ b) e =
    omega (arith, difference x y, abs x, abs y, abs (x -ℤ y), apart x, apart y, apart (x -ℤ y), weight_subtract_none a b (omega arith))

-- place by place in two parts
pub weight_subtract_split : (n : ℕ) (a b : List ℤ)
    → weight (subtract_lists ℤ_ring a b) ≡ weight (subtract_lists ℤ_ring (take n a) (take n b)) + weight (subtract_lists ℤ_ring (drop n a) (drop n b))
weight_subtract_split n a b =
    weight_split n (subtract_lists ℤ_ring a b) ∙ ap₂ ◌+◌ (ap weight (take_subtract ℤ_ring n a b)) (ap weight (drop_subtract ℤ_ring n a b))
