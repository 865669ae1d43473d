-- Laws of lists of coefficients over a commutative ring: the value is linear; lengths, elements and parts of sums, multiples and
-- differences; whole numbers in the ring. Lists of different lengths count as padded with zeros.
use Rattle.std.specs.Prelude.{◌≡◌, ℤ, pos, negsuc, get_or, take, drop, replicate}
use Rattle.std.proofs.Math.Path.{refl, sym, ap, ap₂}
use Rattle.std.proofs.Common.{◌∙◌}
use mathlib.Core.List.{List, [], ◌∷◌, ◌++◌, map}
use Prim.Native.Nat.{ℕ, zero, suc, ◌+◌, ◌≤◌, max}
use native.Mathlib.Omega.{arith}
use Rattle.std.proofs.Math.IntN.{neg_ℤ}
use Rattle.std.proofs.Math.ListN.{length, length-map}
use Rattle.integer.proofs.laws.Embedding.{ι_opposite}
use Rattle.ring.specs.definitions.Ring.{CommutativeRing}
use Rattle.ring.proofs.laws.Solver.{reify, solve}
use Rattle.ring.specs.definitions.Integer.{ℤ_ring}
use Rattle.chebyshev.specs.definitions.Recurrences.{first_kind}
use Rattle.chebyshev.specs.definitions.Coefficients.{value_from, value, add_lists, scale_list, subtract_lists}

module _ (R : CommutativeRing) where
  open R use {A, add as ◌⊕◌, mul as ◌⊗◌, opp as ⊖◌, ι, add_assoc, dist, zero-add, opp_is, ι_add, ι_mul}

  infixl 6 ◌⊕◌
  infixl 7 ◌⊗◌
  infix 8 ⊖◌
  pub add-zero : (v : A) → v ⊕ ι (pos 0) ≡ v
  add-zero v = solve R (v ∷ []) (search reify depth 20) (search reify depth 20) tt

  -- ---- the value is linear

  pub value_from_add : (x : A) (k : ℕ) (a b : List A) → value_from R x k (add_lists R a b) ≡ value_from R x k a ⊕ value_from R x k b
  unfolding value_from add_lists
  value_from_add x k [] b = sym (zero-add (value_from R x k b))
  value_from_add x k (c ∷ a) [] = sym (add-zero (value_from R x k (c ∷ a)))
  value_from_add x k (c ∷ a) (d ∷ b) =
      ap (λ v. (c ⊕ d) ⊗ first_kind R x k ⊕ v) (value_from_add x (suc k) a b)
      ∙ solve R (c ∷ d ∷ first_kind R x k ∷ value_from R x (suc k) a ∷ value_from R x (suc k) b ∷ []) (search reify depth 20) (search reify depth 20) tt

  pub value_from_scale : (x : A) (k : ℕ) (s : A) (a : List A) → value_from R x k (scale_list R s a) ≡ s ⊗ value_from R x k a
  unfolding value_from scale_list
  value_from_scale x k s [] = solve R (s ∷ []) (search reify depth 20) (search reify depth 20) tt
  value_from_scale x k s (c ∷ a) =
      ap (λ v. s ⊗ c ⊗ first_kind R x k ⊕ v) (value_from_scale x (suc k) s a)
      ∙ solve R (s ∷ c ∷ first_kind R x k ∷ value_from R x (suc k) a ∷ []) (search reify depth 20) (search reify depth 20) tt

  -- −a is (−1)·a
  pub opposite_scale : (a : List A) → map ⊖◌ a ≡ scale_list R (ι (negsuc 0)) a
  unfolding scale_list
  opposite_scale [] = refl
  opposite_scale (x ∷ a) = ap₂ ◌∷◌ (opp_is x) (opposite_scale a)

  value_from_opposite : (x : A) (k : ℕ) (a : List A) → value_from R x k (map ⊖◌ a) ≡ ⊖ value_from R x k a
  value_from_opposite x k a = rw (opposite_scale, value_from_scale) (sym (opp_is (value_from R x k a)))

  value_from_subtract : (x : A) (k : ℕ) (a b : List A) → value_from R x k (subtract_lists R a b) ≡ value_from R x k a ⊕ ⊖ value_from R x k b
  unfolding subtract_lists
  value_from_subtract x k a b = rw (value_from_add, value_from_opposite)

  value_from_append : (x : A) (k : ℕ) (a b : List A) → value_from R x k (a ++ b) ≡ value_from R x k a ⊕ value_from R x (k + length a) b
  unfolding value_from
  value_from_append x k [] b =
      let e : k + 0 ≡ k = omega arith in
      rw e (sym (zero-add (value_from R x k b)))
  value_from_append x k (c ∷ a) b =
      let e : k + suc (length a) ≡ suc k + length a = omega arith in
      rw e (ap (λ v. c ⊗ first_kind R x k ⊕ v) (value_from_append x (suc k) a b) ∙ sym (add_assoc (c ⊗ first_kind R x k) (value_from R x (suc k) a) (value_from R x (suc k + length a) b)))

  pub value_from_zeros : (x : A) (k n : ℕ) → value_from R x k (replicate n (ι (pos 0))) ≡ ι (pos 0)
  unfolding value_from
  value_from_zeros x k zero = refl
  value_from_zeros x k (suc n) = rw (value_from_zeros x (suc k) n) (solve R (first_kind R x k ∷ []) (search reify depth 20) (search reify depth 20) tt)

  pub value_add : (x : A) (a b : List A) → value R x (add_lists R a b) ≡ value R x a ⊕ value R x b
  unfolding value
  value_add x a b = value_from_add x 0 a b

  pub value_scale : (x s : A) (a : List A) → value R x (scale_list R s a) ≡ s ⊗ value R x a
  unfolding value
  value_scale x s a = value_from_scale x 0 s a

  pub value_subtract : (x : A) (a b : List A) → value R x (subtract_lists R a b) ≡ value R x a ⊕ ⊖ value R x b
  unfolding value
  value_subtract x a b = value_from_subtract x 0 a b

  -- the value of c·T_0
  pub value_constant : (x c : A) → value R x (c ∷ []) ≡ c
  unfolding value value_from first_kind
  value_constant x c = solve R (c ∷ []) (search reify depth 20) (search reify depth 20) tt

  -- zeros at the top do not count
  pub value_append_zeros : (x : A) (a : List A) (n : ℕ) → value R x (a ++ replicate n (ι (pos 0))) ≡ value R x a
  unfolding value
  value_append_zeros x a n = rw (value_from_append, value_from_zeros) (add-zero (value_from R x 0 a))

  -- ---- lengths and elements

  pub length-add : (a b : List A) → length (add_lists R a b) ≡ max (length a) (length b)
  unfolding add_lists
  length-add [] b = omega arith
  length-add (x ∷ a) [] = omega arith
  length-add (x ∷ a) (y ∷ b) = omega (arith, length-add a b)

  pub length-scale : (s : A) (a : List A) → length (scale_list R s a) ≡ length a
  unfolding scale_list
  length-scale s a = length-map a (λ x. s ⊗ x)

  pub length_subtract : (a b : List A) → length (subtract_lists R a b) ≡ max (length a) (length b)
  unfolding subtract_lists
  length_subtract a b = rw (length-add, length-map)

  pub get_d_add : (a b : List A) (i : ℕ) → get_or (add_lists R a b) i (ι (pos 0)) ≡ get_or a i (ι (pos 0)) ⊕ get_or b i (ι (pos 0))
  unfolding add_lists
  get_d_add [] b i = sym (zero-add (get_or b i (ι (pos 0))))
  get_d_add (x ∷ a) [] i = sym (add-zero (get_or (x ∷ a) i (ι (pos 0))))
  get_d_add (x ∷ a) (y ∷ b) zero = refl
  get_d_add (x ∷ a) (y ∷ b) (suc i) = get_d_add a b i

  pub get_d_scale : (s : A) (a : List A) (i : ℕ) → get_or (scale_list R s a) i (ι (pos 0)) ≡ s ⊗ get_or a i (ι (pos 0))
  unfolding scale_list
  get_d_scale s [] i = solve R (s ∷ []) (search reify depth 20) (search reify depth 20) tt
  get_d_scale s (x ∷ a) zero = refl
  get_d_scale s (x ∷ a) (suc i) = get_d_scale s a i

  pub get_d_subtract : (a b : List A) (i : ℕ) → get_or (subtract_lists R a b) i (ι (pos 0)) ≡ get_or a i (ι (pos 0)) ⊕ ⊖ get_or b i (ι (pos 0))
  unfolding subtract_lists
  get_d_subtract a b i = rw (get_d_add, opposite_scale, get_d_scale, ← opp_is)

  pub add-nil : (a : List A) → add_lists R a [] ≡ a
  unfolding add_lists
  add-nil [] = refl
  add-nil (x ∷ a) = refl

  pub add_lists_assoc : (a b c : List A) → add_lists R (add_lists R a b) c ≡ add_lists R a (add_lists R b c)
  unfolding add_lists
  add_lists_assoc [] b c = refl
  add_lists_assoc (x ∷ a) [] c = refl
  add_lists_assoc (x ∷ a) (y ∷ b) [] = refl
  add_lists_assoc (x ∷ a) (y ∷ b) (z ∷ c) = ap₂ ◌∷◌ (add_assoc x y z) (add_lists_assoc a b c)

  pub scale-add : (s : A) (a b : List A) → scale_list R s (add_lists R a b) ≡ add_lists R (scale_list R s a) (scale_list R s b)
  unfolding add_lists scale_list
  scale-add s [] b = refl
  scale-add s (x ∷ a) [] = refl
  scale-add s (x ∷ a) (y ∷ b) = ap₂ ◌∷◌ (dist s x y) (scale-add s a b)

  -- ---- parts

  -- where b is the shorter list, the sum changes only the places of b
  pub add_split : (a b : List A) → length b ≤ length a → add_lists R a b ≡ add_lists R (take (length b) a) b ++ drop (length b) a
  unfolding add_lists
  add_split [] [] h = refl
  add_split [] (y ∷ b) h = absurd (omega arith)
  add_split (x ∷ a) [] h = refl
  add_split (x ∷ a) (y ∷ b) h = ap (λ l. (x ⊕ y) ∷ l) (add_split a b (omega arith))

  pub subtract_split : (a b : List A) → length b ≤ length a → subtract_lists R a b ≡ subtract_lists R (take (length b) a) b ++ drop (length b) a
  unfolding subtract_lists
  subtract_split a b h = rw length-map at (add_split a (map ⊖◌ b) (rw length-map h))

  take-add : (n : ℕ) (a b : List A) → take n (add_lists R a b) ≡ add_lists R (take n a) (take n b)
  unfolding add_lists
  take-add zero a b = refl
  take-add (suc n) [] b = refl
  take-add (suc n) (x ∷ a) [] = refl
  take-add (suc n) (x ∷ a) (y ∷ b) = ap (λ l. (x ⊕ y) ∷ l) (take-add n a b)

  drop-add : (n : ℕ) (a b : List A) → drop n (add_lists R a b) ≡ add_lists R (drop n a) (drop n b)
  unfolding add_lists
  drop-add zero a b = refl
  drop-add (suc n) [] b = refl
  drop-add (suc n) (x ∷ a) [] = sym (add-nil (drop n a))
  drop-add (suc n) (x ∷ a) (y ∷ b) = drop-add n a b

  module _ (g : A → A) where
    take-map : (n : ℕ) (a : List A) → take n (map g a) ≡ map g (take n a)
    take-map zero a = refl
    take-map (suc n) [] = refl
    take-map (suc n) (x ∷ a) = ap (λ l. g x ∷ l) (take-map n a)

    drop-map : (n : ℕ) (a : List A) → drop n (map g a) ≡ map g (drop n a)
    drop-map zero a = refl
    drop-map (suc n) [] = refl
    drop-map (suc n) (x ∷ a) = drop-map n a

  pub take_subtract : (n : ℕ) (a b : List A) → take n (subtract_lists R a b) ≡ subtract_lists R (take n a) (take n b)
  unfolding subtract_lists
  take_subtract n a b = take-add n a (map ⊖◌ b) ∙ ap (add_lists R (take n a)) (take-map ⊖◌ n b)

  pub drop_subtract : (n : ℕ) (a b : List A) → drop n (subtract_lists R a b) ≡ subtract_lists R (drop n a) (drop n b)
  unfolding subtract_lists
  drop_subtract n a b = drop-add n a (map ⊖◌ b) ∙ ap (add_lists R (drop n a)) (drop-map ⊖◌ n b)

  pub take-scale : (n : ℕ) (s : A) (a : List A) → take n (scale_list R s a) ≡ scale_list R s (take n a)
  unfolding scale_list
  take-scale n s a = take-map (λ x. s ⊗ x) n a

  pub drop_scale : (n : ℕ) (s : A) (a : List A) → drop n (scale_list R s a) ≡ scale_list R s (drop n a)
  unfolding scale_list
  drop_scale n s a = drop-map (λ x. s ⊗ x) n a

  -- ---- whole numbers in the ring

  pub map_ι_zeros : (n : ℕ) → map ι (replicate n (pos 0)) ≡ replicate n (ι (pos 0))
  map_ι_zeros zero = refl
  map_ι_zeros (suc n) = ap (λ l. ι (pos 0) ∷ l) (map_ι_zeros n)

  pub map_ι_add : (a b : List ℤ) → map ι (add_lists ℤ_ring a b) ≡ add_lists R (map ι a) (map ι b)
  unfolding add_lists
  map_ι_add [] b = refl
  map_ι_add (x ∷ a) [] = refl
  map_ι_add (x ∷ a) (y ∷ b) = ap₂ ◌∷◌ (ι_add x y) (map_ι_add a b)

  pub map_ι_scale : (s : ℤ) (a : List ℤ) → map ι (scale_list ℤ_ring s a) ≡ scale_list R (ι s) (map ι a)
  unfolding scale_list
  map_ι_scale s [] = refl
  map_ι_scale s (x ∷ a) = ap₂ ◌∷◌ (ι_mul s x) (map_ι_scale s a)

  pub map_ι_subtract : (a b : List ℤ) → map ι (subtract_lists ℤ_ring a b) ≡ subtract_lists R (map ι a) (map ι b)
  unfolding subtract_lists
  map_ι_subtract a b = map_ι_add a (map neg_ℤ b) ∙ ap (add_lists R (map ι a)) (opposites b)
    where
      opposites : (b : List ℤ) → map ι (map neg_ℤ b) ≡ map ⊖◌ (map ι b)
      opposites [] = refl
      opposites (x ∷ b) = ap₂ ◌∷◌ (ι_opposite R x) (opposites b)
