-- The walk over all pairs forms 01's two sums; so the product is symmetric, and zeros at the top of a list do not count.
use Rattle.std.specs.Prelude.{◌≡◌, Bool, true, false, pos, length, replicate}
use Rattle.std.proofs.Math.Path.{refl, sym, ap, ap₂}
use Rattle.std.proofs.Common.{◌∙◌, add_comm, eqb-true, ext_get_or}
use mathlib.Core.List.{List, [], ◌∷◌, ◌++◌}
use Rattle.std.proofs.Math.Bool.{cond}
use Prim.Native.Nat.{ℕ, zero, suc, ◌+◌, ◌-◌, ◌<◌}
use native.Mathlib.Omega.{arith}
use Rattle.std.proofs.Math.Nat.{zero-add as zero-add-ℕ}
use Rattle.std.proofs.Math.Dec.{eqb}
use Rattle.std.proofs.lemmas.Bool.{eqb-false}
use Rattle.std.proofs.Math.ListN.{get_or, length-replicate}
use Rattle.std.proofs.lemmas.List.{get_or-replicate}
use Rattle.ring.specs.definitions.Ring.{CommutativeRing}
use Rattle.ring.proofs.laws.Solver.{reify, solve}
use Rattle.chebyshev.proofs.laws.CoefficientLaws.{add-zero}
use Rattle.chebyshev.specs.definitions.Product.{distance, add_at, add_pair, Walk, visit, add_term, add_terms, product, add_at_by, add_pair_by, add_term_by, add_terms_by}
use Rattle.chebyshev.specs.definitions.TwoSums.{sum, sum_where, two_sums}
use Rattle.chebyshev.proofs.laws.ProductLaws.{get_d_add_at_same, get_d_add_at_other, length_add_at, length_add_pair, length_add_term, length-product}

module _ (R : CommutativeRing) where
  open R use {A, add as ◌⊕◌, mul as ◌⊗◌, ι, add_assoc, zero-add, zero-mul, mul_comm}

  infixl 6 ◌⊕◌
  infixl 7 ◌⊗◌
  -- ---- sums

  pub sum_zero : (n : ℕ) → sum R n (λ k. ι (pos 0)) ≡ ι (pos 0)
  unfolding sum
  sum_zero zero = refl
  sum_zero (suc n) = ap (λ s. ι (pos 0) ⊕ s) (sum_zero n) ∙ zero-add (ι (pos 0))

  pub sum_cong : (n : ℕ) (f g : ℕ → A) → ((k : ℕ) → f k ≡ g k) → sum R n f ≡ sum R n g
  unfolding sum
  sum_cong zero f g h = refl
  sum_cong (suc n) f g h = ap₂ ◌⊕◌ (h 0) (sum_cong n (λ k. f (suc k)) (λ k. g (suc k)) (λ k. h (suc k)))

  pub sum_add : (n : ℕ) (f g : ℕ → A) → sum R n (λ k. f k ⊕ g k) ≡ sum R n f ⊕ sum R n g
  unfolding sum
  sum_add zero f g = sym (zero-add (ι (pos 0)))
  sum_add (suc n) f g =
      ap (λ s. f 0 ⊕ g 0 ⊕ s) (sum_add n (λ k. f (suc k)) (λ k. g (suc k)))
      ∙ solve R (f 0 ∷ g 0 ∷ sum R n (λ k. f (suc k)) ∷ sum R n (λ k. g (suc k)) ∷ []) (search reify depth 20) (search reify depth 20) tt

  sum_swap : (m n : ℕ) (f : ℕ → ℕ → A) → sum R m (λ i. sum R n (λ j. f i j)) ≡ sum R n (λ j. sum R m (λ i. f i j))
  unfolding sum
  sum_swap zero n f = sym (sum_zero n)
  sum_swap (suc m) n f = ap (λ s. sum R n (λ j. f 0 j) ⊕ s) (sum_swap m n (λ i. f (suc i))) ∙ sym (sum_add n (λ j. f 0 j) (λ j. sum R m (λ i. f (suc i) j)))

  -- one more term in front, where f counts from j
  sum_shift : (n j : ℕ) (f : ℕ → ℕ → A) → f j 0 ⊕ sum R n (λ k. f (suc j + k) (suc k)) ≡ sum R (suc n) (λ k. f (j + k) k)
  unfolding sum
  sum_shift n j f =
      let e : j ≡ j + 0 = omega arith in
      ap₂ ◌⊕◌ (ap (λ (m : ℕ). f m 0) e) (sum_cong n (λ k. f (suc j + k) (suc k)) (λ k. f (j + suc k) (suc k)) (λ k. ap (λ (m : ℕ). f m (suc k)) (suc_add_suc k)))
    where
      suc_add_suc : (k : ℕ) → suc j + k ≡ j + suc k
      suc_add_suc k = omega arith

  -- ---- the walk, place by place

  get_d_add_at : (c : List A) (m k : ℕ) (v : A) → k < length c → get_or (add_at R c m v) k (ι (pos 0)) ≡ get_or c k (ι (pos 0)) ⊕ cond (eqb m k) v (ι (pos 0))
  get_d_add_at c m k v h = pick (eqb m k) refl
    where
      pick : (t : Bool) → eqb m k ≡ t → get_or (add_at R c m v) k (ι (pos 0)) ≡ get_or c k (ι (pos 0)) ⊕ cond t v (ι (pos 0))
      pick true e = rw (eqb-true m k e) (get_d_add_at_same R c k v h)
      pick false e = get_d_add_at_other R c m k v (λ q. eqb-false m k e (sym q)) ∙ sym (add-zero R (get_or c k (ι (pos 0))))

  -- what the pair (i, j) with the product v adds at place k
  abbrev contribution : ℕ → ℕ → ℕ → A → A
  contribution k i j v = cond (eqb (i + j) k) v (ι (pos 0)) ⊕ cond (eqb (distance i j) k) v (ι (pos 0))

  get_d_add_pair : (c : List A) (i j k : ℕ) (v : A) → k < length c → get_or (add_pair R c i j v) k (ι (pos 0)) ≡ get_or c k (ι (pos 0)) ⊕ contribution k i j v
  unfolding add_pair_by
  get_d_add_pair c i j k v h =
      get_d_add_at (add_at R c (i + j) v) (distance i j) k v (rw length_add_at h)
      ∙ ap (λ w. w ⊕ cond (eqb (distance i j) k) v (ι (pos 0))) (get_d_add_at c (i + j) k v h)
      ∙ add_assoc (get_or c k (ι (pos 0))) (cond (eqb (i + j) k) v (ι (pos 0))) (cond (eqb (distance i j) k) v (ι (pos 0)))

  get_d_add_term : (w : Walk A) (x : A) (i j : ℕ) (b : List A) (k : ℕ) → k < length w.0
      → get_or (add_term R w x i j b).0 k (ι (pos 0)) ≡ get_or w.0 k (ι (pos 0)) ⊕ sum R (length b) (λ n. contribution k i (j + n) (x ⊗ get_or b n (ι (pos 0))))
  unfolding add_term_by sum
  get_d_add_term w x i j [] k h = sym (add-zero R (get_or w.0 k (ι (pos 0))))
  get_d_add_term w x i j (y ∷ b) k h =
      get_d_add_term (visit R w i j (x ⊗ y)) x i (suc j) b k (rw length_add_pair h)
      ∙ ap (λ v. v ⊕ sum R (length b) (λ n. contribution k i (suc j + n) (x ⊗ get_or b n (ι (pos 0))))) (get_d_add_pair w.0 i j k (x ⊗ y) h)
      ∙ add_assoc (get_or w.0 k (ι (pos 0))) (contribution k i j (x ⊗ y)) (sum R (length b) (λ n. contribution k i (suc j + n) (x ⊗ get_or b n (ι (pos 0)))))
      ∙ ap (λ v. get_or w.0 k (ι (pos 0)) ⊕ v) (sum_shift (length b) j (λ m n. contribution k i m (x ⊗ get_or (y ∷ b) n (ι (pos 0)))))

  get_d_add_terms : (w : Walk A) (i : ℕ) (a b : List A) (k : ℕ) → k < length w.0
      → get_or (add_terms R w i a b).0 k (ι (pos 0)) ≡ get_or w.0 k (ι (pos 0)) ⊕ sum R (length a) (λ m. sum R (length b) (λ n. contribution k (i + m) n (get_or a m (ι (pos 0)) ⊗ get_or b n (ι (pos 0)))))
  unfolding add_terms_by sum
  get_d_add_terms w i [] b k h = sym (add-zero R (get_or w.0 k (ι (pos 0))))
  get_d_add_terms w i (x ∷ a) b k h =
      get_d_add_terms (add_term R w x i 0 b) (suc i) a b k (rw length_add_term h)
      ∙ ap (λ v. v ⊕ rest) (simp zero-add-ℕ at (get_d_add_term w x i 0 b k h))
      ∙ add_assoc (get_or w.0 k (ι (pos 0))) (sum R (length b) (λ n. contribution k i n (x ⊗ get_or b n (ι (pos 0))))) rest
      ∙ ap (λ v. get_or w.0 k (ι (pos 0)) ⊕ v) (sum_shift (length a) i (λ m n. sum R (length b) (λ j. contribution k m j (get_or (x ∷ a) n (ι (pos 0)) ⊗ get_or b j (ι (pos 0))))))
    where
      rest : A
      rest = sum R (length a) (λ m. sum R (length b) (λ n. contribution k (suc i + m) n (get_or a m (ι (pos 0)) ⊗ get_or b n (ι (pos 0)))))

  -- every place of C(a, b) is 01's two sums
  pub product_two_sums : (width : ℕ) (a b : List A) (k : ℕ) → k < width → get_or (product R width a b) k (ι (pos 0)) ≡ two_sums R k a b
  unfolding product two_sums sum_where
  product_two_sums width a b k h =
      simp (zero-add-ℕ, get_or-replicate) at (get_d_add_terms (replicate width (ι (pos 0)), 0) 0 a b k (rw length-replicate h))
      ∙ zero-add (sum R (length a) (λ i. sum R (length b) (λ j. by_sum i j ⊕ by_distance i j)))
      ∙ sum_cong (length a) _ _ (λ i. sum_add (length b) (by_sum i) (by_distance i))
      ∙ sum_add (length a) (λ i. sum R (length b) (by_sum i)) (λ i. sum R (length b) (by_distance i))
    where
      by_sum : ℕ → ℕ → A
      by_sum i j = cond (eqb (i + j) k) (get_or a i (ι (pos 0)) ⊗ get_or b j (ι (pos 0))) (ι (pos 0))

      by_distance : ℕ → ℕ → A
      by_distance i j = cond (eqb (distance i j) k) (get_or a i (ι (pos 0)) ⊗ get_or b j (ι (pos 0))) (ι (pos 0))

  pub sum_where_cong : (s t : ℕ → ℕ → Bool) → ((i j : ℕ) → s i j ≡ t i j) → (a b : List A) → sum_where R s a b ≡ sum_where R t a b
  unfolding sum_where
  sum_where_cong s t h a b =
      sum_cong (length a) _ _ (λ i. sum_cong (length b) _ _ (λ j. ap (λ c. cond c (get_or a i (ι (pos 0)) ⊗ get_or b j (ι (pos 0))) (ι (pos 0))) (h i j)))

  -- the lists change places
  pub sum_where_swap : (test : ℕ → ℕ → Bool) (a b : List A) → sum_where R test a b ≡ sum_where R (λ j i. test i j) b a
  unfolding sum_where
  sum_where_swap test a b =
      sum_swap (length a) (length b) (λ i j. cond (test i j) (get_or a i (ι (pos 0)) ⊗ get_or b j (ι (pos 0))) (ι (pos 0)))
      ∙ sum_cong (length b) _ _ (λ j. sum_cong (length a) _ _ (λ i. ap (λ v. cond (test i j) v (ι (pos 0))) (mul_comm (get_or a i (ι (pos 0))) (get_or b j (ι (pos 0))))))

  two_sums_symmetric : (k : ℕ) (a b : List A) → two_sums R k a b ≡ two_sums R k b a
  unfolding two_sums
  two_sums_symmetric k a b =
      ap₂ ◌⊕◌
      (sum_where_swap (λ i j. eqb (i + j) k) a b ∙ sum_where_cong _ _ (λ j i. ap (λ (m : ℕ). eqb m k) (add_comm i j)) b a)
      (sum_where_swap (λ i j. eqb (distance i j) k) a b ∙ sum_where_cong _ _ (λ j i. ap (λ (m : ℕ). eqb m k) (add_comm (i - j) (j - i))) b a)

  pub product_symmetric : (width : ℕ) (a b : List A) → product R width a b ≡ product R width b a
  product_symmetric width a b =
      ext_get_or (ι (pos 0)) (product R width a b) (product R width b a) (length-product R width a b ∙ sym (length-product R width b a))
      (λ k h. let l : k < width = rw length-product at h in product_two_sums width a b k l ∙ two_sums_symmetric k a b ∙ sym (product_two_sums width b a k l))

  -- ---- zeros at the top do not count

  add_at_zero : (c : List A) (k : ℕ) → add_at R c k (ι (pos 0)) ≡ c
  unfolding add_at_by
  add_at_zero [] k = refl
  add_at_zero (x ∷ c) zero = ap (λ v. v ∷ c) (add-zero R x)
  add_at_zero (x ∷ c) (suc k) = ap (λ l. x ∷ l) (add_at_zero c k)

  add_term_zero : (w : Walk A) (i j : ℕ) (b : List A) → (add_term R w (ι (pos 0)) i j b).0 ≡ w.0
  unfolding add_term_by add_pair_by
  add_term_zero w i j [] = refl
  add_term_zero w i j (y ∷ b) = add_term_zero (visit R w i j (ι (pos 0) ⊗ y)) i (suc j) b ∙ simp (zero-mul, add_at_zero) refl

  add_terms_zeros : (w : Walk A) (i : ℕ) (a : List A) (n : ℕ) (b : List A) → (add_terms R w i (a ++ replicate n (ι (pos 0))) b).0 ≡ (add_terms R w i a b).0
  unfolding add_terms_by
  add_terms_zeros w i [] zero b = refl
  add_terms_zeros w i [] (suc n) b = add_terms_zeros (add_term R w (ι (pos 0)) i 0 b) (suc i) [] n b ∙ add_term_zero w i 0 b
  add_terms_zeros w i (x ∷ a) n b = add_terms_zeros (add_term R w x i 0 b) (suc i) a n b

  pub product_zeros_left : (width : ℕ) (a : List A) (n : ℕ) (b : List A) → product R width (a ++ replicate n (ι (pos 0))) b ≡ product R width a b
  unfolding product
  product_zeros_left width a n b = add_terms_zeros (replicate width (ι (pos 0)), 0) 0 a n b

  pub product_zeros_right : (width : ℕ) (a b : List A) (n : ℕ) → product R width a (b ++ replicate n (ι (pos 0))) ≡ product R width a b
  product_zeros_right width a b n = product_symmetric width a (b ++ replicate n (ι (pos 0))) ∙ product_zeros_left width b n a ∙ product_symmetric width b a
