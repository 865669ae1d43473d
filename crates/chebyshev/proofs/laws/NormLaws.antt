-- Laws of the norm Σ |c_k| over an ordered ring: sums, multiples, differences, parts and elements, and |value x a| ≤ norm a where
-- |x| ≤ 1. Lists of different lengths count as padded with zeros.
use Rattle.std.specs.Prelude.{◌≡◌, ℤ, pos, nat_abs, get_or, take, drop, replicate}
use Rattle.std.proofs.Math.Path.{refl, sym, ap, ap₂, subst}
use Rattle.std.proofs.Common.{◌∙◌, arith, take-append-drop}
use mathlib.Core.List.{List, [], ◌∷◌, ◌++◌, map, tail}
use Prim.Native.Nat.{ℕ, zero, suc, ◌<◌, ◌≤◌}
use Rattle.integer.proofs.laws.Embedding.{ι_suc, ι_nonneg, ι_abs}
use Rattle.fraction.specs.definitions.Fraction.{ℚ, ◌+ℚ◌, ∣◌∣ℚ}
use Rattle.integer.proofs.laws.FractionOrder.{ℚ_ordered}
use Rattle.ring.proofs.laws.Solver.{reify, solve}
use Rattle.ring.specs.definitions.OrderedRing.{OrderedRing}
use Rattle.ring.proofs.laws.OrderedRingLaws.{by_certificate, le_refl, le_of_eq, ◌⟨≼⟩◌, ◌⊞◌, ◌⊠◌, ◌⟨+⟩◌, triangle, abs-mul, abs_mul_le, abs_neg, abs_of_nonneg}
use Rattle.chebyshev.specs.definitions.Recurrences.{first_kind}
use Rattle.chebyshev.proofs.laws.RecurrenceLaws.{first_bound}
use Rattle.chebyshev.specs.definitions.Coefficients.{weight, value_from, value, add_lists, scale_list, subtract_lists}
use Rattle.chebyshev.specs.definitions.Norms.{norm, total_absolute}
use Rattle.chebyshev.proofs.laws.CoefficientLaws.{add-zero, value_subtract, get_d_add, get_d_subtract}

module _ (O : OrderedRing) where
  open O use {ring, le as ◌≼◌, abs, abs_nonneg}
  open ring use {A, add as ◌⊕◌, mul as ◌⊗◌, opp as ⊖◌, ι, zero-add, ι_add}

  infixl 6 ◌⊕◌
  infixl 7 ◌⊗◌
  infix 8 ⊖◌
  infix 4 ◌≼◌
  le_left : (x : A) {y : A} → ι (pos 0) ≼ y → x ≼ x ⊕ y
  le_left x {y} h = by_certificate O h (solve ring (x ∷ y ∷ []) (search reify depth 20) (search reify depth 20) tt)

  le_right : {x : A} (y : A) → ι (pos 0) ≼ x → y ≼ x ⊕ y
  le_right {x} y h = by_certificate O h (solve ring (x ∷ y ∷ []) (search reify depth 20) (search reify depth 20) tt)

  abs-zero : abs (ι (pos 0)) ≡ ι (pos 0)
  abs-zero = abs_of_nonneg O (le_refl O (ι (pos 0)))

  pub norm_nonneg : (a : List A) → ι (pos 0) ≼ norm O a
  unfolding norm
  norm_nonneg [] = le_refl O (ι (pos 0))
  norm_nonneg (c ∷ a) = ◌⊞◌ O (abs_nonneg c) (norm_nonneg a)

  pub norm_uncons : (a : List A) → norm O a ≡ abs (get_or a 0 (ι (pos 0))) ⊕ norm O (tail a)
  unfolding norm
  norm_uncons [] = sym (ap (λ n. n ⊕ ι (pos 0)) abs-zero ∙ zero-add (ι (pos 0)))
  norm_uncons (c ∷ a) = refl

  pub get_d_tail : (a : List A) (i : ℕ) → get_or (tail a) i (ι (pos 0)) ≡ get_or a (suc i) (ι (pos 0))
  get_d_tail [] i = refl
  get_d_tail (c ∷ a) i = refl

  -- ---- multiples and parts

  pub norm_scale : (s : A) (a : List A) → norm O (scale_list ring s a) ≡ abs s ⊗ norm O a
  unfolding norm scale_list
  norm_scale s [] = solve ring (abs s ∷ []) (search reify depth 20) (search reify depth 20) tt
  norm_scale s (c ∷ a) =
      ap₂ ◌⊕◌ (abs-mul O s c) (norm_scale s a) ∙ solve ring (abs s ∷ abs c ∷ norm O a ∷ []) (search reify depth 20) (search reify depth 20) tt

  pub norm_opposite : (a : List A) → norm O (map ⊖◌ a) ≡ norm O a
  unfolding norm
  norm_opposite [] = refl
  norm_opposite (c ∷ a) = ap₂ ◌⊕◌ (abs_neg O c) (norm_opposite a)

  pub norm_append : (a b : List A) → norm O (a ++ b) ≡ norm O a ⊕ norm O b
  unfolding norm
  norm_append [] b = sym (zero-add (norm O b))
  norm_append (c ∷ a) b = ap (λ n. abs c ⊕ n) (norm_append a b) ∙ solve ring (abs c ∷ norm O a ∷ norm O b ∷ []) (search reify depth 20) (search reify depth 20) tt

  pub norm_split : (n : ℕ) (a : List A) → norm O a ≡ norm O (take n a) ⊕ norm O (drop n a)
  norm_split n a = ap (norm O) (sym (take-append-drop n a)) ∙ norm_append (take n a) (drop n a)

  pub norm_take : (n : ℕ) (a : List A) → norm O (take n a) ≼ norm O a
  norm_take n a = rw (norm_split n a) (le_left (norm O (take n a)) (norm_nonneg (drop n a)))

  pub norm_drop : (n : ℕ) (a : List A) → norm O (drop n a) ≼ norm O a
  norm_drop n a = rw (norm_split n a) (le_right (norm O (drop n a)) (norm_nonneg (take n a)))

  pub norm_zeros : (n : ℕ) → norm O (replicate n (ι (pos 0))) ≡ ι (pos 0)
  unfolding norm
  norm_zeros zero = refl
  norm_zeros (suc n) = ap₂ ◌⊕◌ abs-zero (norm_zeros n) ∙ zero-add (ι (pos 0))

  pub norm_append_zeros : (a : List A) (n : ℕ) → norm O (a ++ replicate n (ι (pos 0))) ≡ norm O a
  norm_append_zeros a n = rw (norm_append, norm_zeros) (add-zero ring (norm O a))

  pub norm_at : (a : List A) (i : ℕ) → abs (get_or a i (ι (pos 0))) ≼ norm O a
  unfolding norm
  norm_at [] i = le_of_eq O abs-zero
  norm_at (c ∷ a) zero = le_left (abs c) (norm_nonneg a)
  norm_at (c ∷ a) (suc i) = ◌⟨≼⟩◌ O (norm_at a i) (le_right (norm O a) (abs_nonneg c))

  -- ---- sums and differences

  -- |a_i| ≤ |b_i| + |c_i| for every i
  norm_le : (a b c : List A) → ((i : ℕ) → abs (get_or a i (ι (pos 0))) ≼ abs (get_or b i (ι (pos 0))) ⊕ abs (get_or c i (ι (pos 0)))) → norm O a ≼ norm O b ⊕ norm O c
  unfolding norm
  norm_le [] b c h = ◌⊞◌ O (norm_nonneg b) (norm_nonneg c)
  norm_le (x ∷ a) b c h =
      ◌⟨≼⟩◌ O (◌⟨+⟩◌ O (h 0) (norm_le a (tail b) (tail c) (λ i. rw (get_d_tail b i, get_d_tail c i) (h (suc i)))))
      (le_of_eq O (solve ring (abs (get_or b 0 (ι (pos 0))) ∷ abs (get_or c 0 (ι (pos 0))) ∷ norm O (tail b) ∷ norm O (tail c) ∷ []) (search reify depth 20) (search reify depth 20) tt
      ∙ ap₂ ◌⊕◌ (sym (norm_uncons b)) (sym (norm_uncons c))))

  pub norm_add : (a b : List A) → norm O (add_lists ring a b) ≼ norm O a ⊕ norm O b
  norm_add a b = norm_le (add_lists ring a b) a b (λ i. rw (get_d_add ring) (triangle O (get_or a i (ι (pos 0))) (get_or b i (ι (pos 0)))))

  pub norm_subtract : (a b : List A) → norm O (subtract_lists ring a b) ≼ norm O a ⊕ norm O b
  unfolding subtract_lists
  norm_subtract a b = rw norm_opposite at (norm_add a (map ⊖◌ b))

  pub norm_self : (a : List A) → norm O (subtract_lists ring a a) ≡ ι (pos 0)
  unfolding norm subtract_lists add_lists
  norm_self [] = refl
  norm_self (c ∷ a) = ap₂ (λ u v. abs u ⊕ v) (solve ring (c ∷ []) (search reify depth 9) (search reify depth 9) tt) (norm_self a) ∙ ap (λ v. v ⊕ ι (pos 0)) (ι_abs O (pos 0)) ∙ zero-add (ι (pos 0))

  pub norm_triangle : (a b c : List A) → norm O (subtract_lists ring a c) ≼ norm O (subtract_lists ring a b) ⊕ norm O (subtract_lists ring b c)
  norm_triangle a b c =
      norm_le (subtract_lists ring a c) (subtract_lists ring a b) (subtract_lists ring b c)
      (λ i. simp (get_d_subtract ring) (by_way (get_or a i (ι (pos 0))) (get_or b i (ι (pos 0))) (get_or c i (ι (pos 0)))))
    where
      by_way : (x y z : A) → abs (x ⊕ ⊖ z) ≼ abs (x ⊕ ⊖ y) ⊕ abs (y ⊕ ⊖ z)
      by_way x y z =
          subst (λ w. abs w ≼ abs (x ⊕ ⊖ y) ⊕ abs (y ⊕ ⊖ z)) (solve ring (x ∷ y ∷ z ∷ []) (search reify depth 20) (search reify depth 20) tt)
          (triangle O (x ⊕ ⊖ y) (y ⊕ ⊖ z))

  -- m elements of at most b each, zeros from there on
  pub norm_bounded : (b : A) (m : ℕ) (a : List A) → ((i : ℕ) → i < m → abs (get_or a i (ι (pos 0))) ≼ b) → ((i : ℕ) → m ≤ i → get_or a i (ι (pos 0)) ≡ ι (pos 0))
      → norm O a ≼ ι (pos m) ⊗ b
  unfolding norm
  norm_bounded b zero [] h z = le_of_eq O (solve ring (b ∷ []) (search reify depth 20) (search reify depth 20) tt)
  norm_bounded b (suc m) [] h z = ◌⊠◌ O (ι_nonneg O (suc m)) (subst (λ y. y ≼ b) abs-zero (h 0 (omega arith)))
  norm_bounded b zero (c ∷ a) h z =
      ◌⟨≼⟩◌ O (◌⟨+⟩◌ O (le_of_eq O (ap abs (z 0 (omega arith)) ∙ abs-zero)) (norm_bounded b zero a (λ i l. absurd (omega arith)) (λ i l. z (suc i) (omega arith))))
      (le_of_eq O (zero-add (ι (pos 0) ⊗ b)))
  norm_bounded b (suc m) (c ∷ a) h z =
      ◌⟨≼⟩◌ O (◌⟨+⟩◌ O (h 0 (omega arith)) (norm_bounded b m a (λ i l. h (suc i) (omega arith)) (λ i l. z (suc i) (omega arith))))
      (le_of_eq O (one_more (ι (pos m)) ∙ ap (λ n. n ⊗ b) (sym (ι_suc ring m))))
    where
      one_more : (n : A) → b ⊕ n ⊗ b ≡ (ι (pos 1) ⊕ n) ⊗ b
      one_more n = solve ring (b ∷ n ∷ []) (search reify depth 20) (search reify depth 20) tt

  -- ---- values where |x| ≤ 1

  value_from_bound : (x : A) (k : ℕ) (a : List A) → abs x ≼ ι (pos 1) → abs (value_from ring x k a) ≼ norm O a
  unfolding norm value_from
  value_from_bound x k [] h = le_of_eq O abs-zero
  value_from_bound x k (c ∷ a) h =
      ◌⟨≼⟩◌ O (triangle O (c ⊗ first_kind ring x k) (value_from ring x (suc k) a))
      (◌⟨≼⟩◌ O (◌⟨+⟩◌ O (abs_mul_le O c (first_kind ring x k) (le_refl O (abs c)) (first_bound O x k h)) (value_from_bound x (suc k) a h))
      (le_of_eq O (solve ring (abs c ∷ norm O a ∷ []) (search reify depth 20) (search reify depth 20) tt)))

  pub value_bound : (x : A) (a : List A) → abs x ≼ ι (pos 1) → abs (value ring x a) ≼ norm O a
  unfolding value
  value_bound x a h = value_from_bound x 0 a h

  pub value_distance : (x : A) (a b : List A) → abs x ≼ ι (pos 1) → abs (value ring x a ⊕ ⊖ value ring x b) ≼ norm O (subtract_lists ring a b)
  value_distance x a b h = rw (value_subtract ring) at (value_bound x (subtract_lists ring a b) h)

  -- where the value is 0, the other coefficients bound the constant one
  pub constant_bound : (x c : A) (cs : List A) → abs x ≼ ι (pos 1) → value ring x (c ∷ cs) ≡ ι (pos 0) → abs c ≼ norm O cs
  unfolding value value_from first_kind
  constant_bound x c cs h e = subst (λ z. z ≼ norm O cs) (sym (ap abs (alone (value_from ring x 1 cs) e) ∙ abs_neg O (value_from ring x 1 cs))) (value_from_bound x 1 cs h)
    where
      alone : (v : A) → c ⊗ ι (pos 1) ⊕ v ≡ ι (pos 0) → c ≡ ⊖ v
      alone v e = solve ring (c ∷ v ∷ []) (search reify depth 20) (search reify depth 20) tt ∙ ap (λ w. w ⊕ ⊖ v) e ∙ zero-add (⊖ v)

  -- of two such lists, the differences of the other coefficients bound that of the constant ones
  pub constant-difference : (x c d : A) (cs ds : List A) → abs x ≼ ι (pos 1) → value ring x (c ∷ cs) ≡ ι (pos 0) → value ring x (d ∷ ds) ≡ ι (pos 0)
      → abs (c ⊕ ⊖ d) ≼ norm O (subtract_lists ring cs ds)
  unfolding subtract_lists add_lists
  constant-difference x c d cs ds h e f =
      constant_bound x (c ⊕ ⊖ d) (subtract_lists ring cs ds) h
      (value_subtract ring x (c ∷ cs) (d ∷ ds) ∙ ap₂ (λ v w. v ⊕ ⊖ w) e f ∙ solve ring [] (search reify depth 20) (search reify depth 20) tt)

  -- ---- lists of whole numbers

  -- the norm of whole numbers is their weight
  pub norm_whole : (a : List ℤ) → norm O (map ι a) ≡ ι (pos (weight a))
  unfolding norm weight
  norm_whole [] = refl
  norm_whole (c ∷ a) = ap₂ ◌⊕◌ (ι_abs O c) (norm_whole a) ∙ sym (ι_add (pos (nat_abs c)) (pos (weight a)))

  pub value_weight : (x : A) (a : List ℤ) → abs x ≼ ι (pos 1) → abs (value ring x (map ι a)) ≼ ι (pos (weight a))
  value_weight x a h = rw norm_whole at (value_bound x (map ι a) h)

-- over the fractions it is their total absolute value
pub norm_total : (a : List ℚ) → norm ℚ_ordered a ≡ total_absolute a
unfolding norm total_absolute
norm_total [] = refl
norm_total (c ∷ a) = ap (λ n. ∣ c ∣ℚ +ℚ n) (norm_total a)
