-- Laws of the walk over all pairs (Product.antt): its lengths, its steps, and its value, 2·value a·value b.
use Rattle.std.specs.Prelude.{◌≡◌, ◌≢◌, ℤ, pos, ◌*ℤ◌, length, get_or, take, drop, set, replicate}
use Rattle.std.proofs.Math.Path.{refl, sym, ap}
use Rattle.std.proofs.Common.{◌∙◌, drop-cons}
use mathlib.Core.List.{List, [], ◌∷◌, map}
use Prim.Native.Nat.{ℕ, zero, suc, ◌+◌, ◌<◌, ◌≤◌}
use native.Mathlib.Omega.{arith}
use Rattle.std.proofs.Math.Numerals.{add-one}
use Rattle.std.proofs.Math.ListN.{length-replicate, drop_of_length-le}
use Rattle.std.proofs.lemmas.List.{length-map}
use Rattle.ring.specs.definitions.Ring.{CommutativeRing}
use Rattle.ring.proofs.laws.Solver.{reify, solve}
use Rattle.ring.specs.definitions.Integer.{ℤ_ring}
use Rattle.chebyshev.specs.definitions.Recurrences.{first_kind}
use Rattle.chebyshev.proofs.laws.RecurrenceLaws.{first_product}
use Rattle.chebyshev.specs.definitions.Coefficients.{value_from, value}
use Rattle.chebyshev.proofs.laws.CoefficientLaws.{value_from_zeros, map_ι_zeros}
use Rattle.chebyshev.specs.definitions.Product.{distance, add_at, add_pair, Walk, visit, add_term, add_terms, product, add_at_by, add_pair_by, add_term_by, add_terms_by}

-- ---- the walk over any numbers

module _ {A : Type 0} (◌⊕◌ : A → A → A) where
  infixl 6 ◌⊕◌
  -- as code writes it; d stands for what is read where there is no place
  pub add_at_by_set : (c : List A) (k : ℕ) (v d : A) → add_at_by ◌⊕◌ c k v ≡ set c k (get_or c k d ⊕ v)
  unfolding add_at_by
  add_at_by_set [] k v d = refl
  add_at_by_set (x ∷ c) zero v d = refl
  add_at_by_set (x ∷ c) (suc k) v d = ap (λ l. x ∷ l) (add_at_by_set c k v d)

  pub length_add_at_by : (c : List A) (k : ℕ) (v : A) → length (add_at_by ◌⊕◌ c k v) ≡ length c
  unfolding add_at_by
  length_add_at_by [] k v = refl
  length_add_at_by (x ∷ c) zero v = refl
  length_add_at_by (x ∷ c) (suc k) v = ap suc (length_add_at_by c k v)

  pub length_add_pair_by : (c : List A) (i j : ℕ) (v : A) → length (add_pair_by ◌⊕◌ c i j v) ≡ length c
  unfolding add_pair_by
  length_add_pair_by c i j v = rw (length_add_at_by, length_add_at_by)

  module _ (◌⊗◌ : A → A → A) where
    infixl 7 ◌⊗◌
    pub length_add_term_by : (w : Walk A) (y : A) (i j : ℕ) (b : List A) → length (add_term_by ◌⊕◌ ◌⊗◌ w y i j b).0 ≡ length w.0
    unfolding add_term_by
    length_add_term_by w y i j [] = refl
    length_add_term_by w y i j (z ∷ b) =
        length_add_term_by (add_pair_by ◌⊕◌ w.0 i j (y ⊗ z), w.1 + 1) y i (suc j) b ∙ length_add_pair_by w.0 i j (y ⊗ z)

    pub length_add_terms_by : (w : Walk A) (i : ℕ) (a b : List A) → length (add_terms_by ◌⊕◌ ◌⊗◌ w i a b).0 ≡ length w.0
    unfolding add_terms_by
    length_add_terms_by w i [] b = refl
    length_add_terms_by w i (y ∷ a) b = length_add_terms_by (add_term_by ◌⊕◌ ◌⊗◌ w y i 0 b) (suc i) a b ∙ length_add_term_by w y i 0 b

    -- the list does not depend on the count
    term_list : (v w : Walk A) (y : A) (i j : ℕ) (b : List A) → v.0 ≡ w.0 → (add_term_by ◌⊕◌ ◌⊗◌ v y i j b).0 ≡ (add_term_by ◌⊕◌ ◌⊗◌ w y i j b).0
    unfolding add_term_by
    term_list v w y i j [] h = h
    term_list v w y i j (z ∷ b) h =
        term_list (add_pair_by ◌⊕◌ v.0 i j (y ⊗ z), v.1 + 1) (add_pair_by ◌⊕◌ w.0 i j (y ⊗ z), w.1 + 1) y i (suc j) b (ap (λ c. add_pair_by ◌⊕◌ c i j (y ⊗ z)) h)

    pub terms_list : (v w : Walk A) (i : ℕ) (a b : List A) → v.0 ≡ w.0 → (add_terms_by ◌⊕◌ ◌⊗◌ v i a b).0 ≡ (add_terms_by ◌⊕◌ ◌⊗◌ w i a b).0
    unfolding add_terms_by
    terms_list v w i [] b h = h
    terms_list v w i (y ∷ a) b h = terms_list (add_term_by ◌⊕◌ ◌⊗◌ v y i 0 b) (add_term_by ◌⊕◌ ◌⊗◌ w y i 0 b) (suc i) a b (term_list v w y i 0 b h)

    pub terms_by_step : (w : Walk A) (i : ℕ) (a b : List A) (d : A) → i < length a
        → add_terms_by ◌⊕◌ ◌⊗◌ w i (drop i a) b ≡ add_terms_by ◌⊕◌ ◌⊗◌ (add_term_by ◌⊕◌ ◌⊗◌ w (get_or a i d) i 0 b) (i + 1) (drop (i + 1) a) b
    unfolding add_terms_by
    terms_by_step w i a b d h = rw (drop-cons a i d h, add-one)

    pub terms_by_end : (w : Walk A) (i : ℕ) (a b : List A) → length a ≤ i → add_terms_by ◌⊕◌ ◌⊗◌ w i (drop i a) b ≡ w
    unfolding add_terms_by
    terms_by_end w i a b h = rw drop_of_length-le

module _ (R : CommutativeRing) where
  open R use {A, add as ◌⊕◌, mul as ◌⊗◌, ι, add_assoc, ι_add, ι_mul}

  infixl 6 ◌⊕◌
  infixl 7 ◌⊗◌
  -- ---- one place

  pub add_at_set : (c : List A) (k : ℕ) (v : A) → add_at R c k v ≡ set c k (get_or c k (ι (pos 0)) ⊕ v)
  add_at_set c k v = add_at_by_set ◌⊕◌ c k v (ι (pos 0))

  pub get_d_add_at_same : (c : List A) (k : ℕ) (v : A) → k < length c → get_or (add_at R c k v) k (ι (pos 0)) ≡ get_or c k (ι (pos 0)) ⊕ v
  unfolding add_at_by
  get_d_add_at_same [] k v h = absurd (omega arith)
  get_d_add_at_same (x ∷ c) zero v h = refl
  get_d_add_at_same (x ∷ c) (suc k) v h = get_d_add_at_same c k v (omega arith)

  pub get_d_add_at_other : (c : List A) (m k : ℕ) (v : A) → k ≢ m → get_or (add_at R c m v) k (ι (pos 0)) ≡ get_or c k (ι (pos 0))
  unfolding add_at_by
  get_d_add_at_other [] m k v h = refl
  get_d_add_at_other (x ∷ c) zero zero v h = absurd (h refl)
  get_d_add_at_other (x ∷ c) zero (suc k) v h = refl
  get_d_add_at_other (x ∷ c) (suc m) zero v h = refl
  get_d_add_at_other (x ∷ c) (suc m) (suc k) v h = get_d_add_at_other c m k v (omega arith)

  pub length_add_at : (c : List A) (k : ℕ) (v : A) → length (add_at R c k v) ≡ length c
  length_add_at = length_add_at_by ◌⊕◌

  value_from_add_at : (x : A) (m : ℕ) (c : List A) (k : ℕ) (v : A) → k < length c → value_from R x m (add_at R c k v) ≡ value_from R x m c ⊕ v ⊗ first_kind R x (m + k)
  unfolding value_from add_at_by
  value_from_add_at x m [] k v h = absurd (omega arith)
  value_from_add_at x m (y ∷ c) zero v h =
      let e : m + 0 ≡ m = omega arith in
      rw e (solve R (y ∷ v ∷ first_kind R x m ∷ value_from R x (suc m) c ∷ []) (search reify depth 20) (search reify depth 20) tt)
  value_from_add_at x m (y ∷ c) (suc k) v h =
      let e : m + suc k ≡ suc m + k = omega arith in
      rw e
      (ap (λ w. y ⊗ first_kind R x m ⊕ w) (value_from_add_at x (suc m) c k v (omega arith))
      ∙ sym (add_assoc (y ⊗ first_kind R x m) (value_from R x (suc m) c) (v ⊗ first_kind R x (suc m + k))))

  value_add_at : (x : A) (c : List A) (k : ℕ) (v : A) → k < length c → value R x (add_at R c k v) ≡ value R x c ⊕ v ⊗ first_kind R x k
  unfolding value
  value_add_at x c k v h =
      let e : 0 + k ≡ k = omega arith in
      rw e at (value_from_add_at x 0 c k v h)

  -- ---- one pair

  pub length_add_pair : (c : List A) (i j : ℕ) (v : A) → length (add_pair R c i j v) ≡ length c
  length_add_pair = length_add_pair_by ◌⊕◌

  value_add_pair : (x : A) (c : List A) (i j : ℕ) (v : A) → i + j < length c → value R x (add_pair R c i j v) ≡ value R x c ⊕ ι (pos 2) ⊗ (v ⊗ first_kind R x i ⊗ first_kind R x j)
  unfolding add_pair_by
  value_add_pair x c i j v h =
      value_add_at x (add_at R c (i + j) v) (distance i j) v (rw length_add_at (omega arith))
      ∙ ap (λ w. w ⊕ v ⊗ first_kind R x (distance i j)) (value_add_at x c (i + j) v h)
      ∙ solve R (v ∷ value R x c ∷ first_kind R x (i + j) ∷ first_kind R x (distance i j) ∷ []) (search reify depth 20) (search reify depth 20) tt
      ∙ ap (λ w. value R x c ⊕ v ⊗ w) (sym (first_product R x i j))
      ∙ solve R (v ∷ value R x c ∷ first_kind R x i ∷ first_kind R x j ∷ []) (search reify depth 20) (search reify depth 20) tt

  -- ---- terms

  pub length_add_term : (w : Walk A) (y : A) (i j : ℕ) (b : List A) → length (add_term R w y i j b).0 ≡ length w.0
  length_add_term = length_add_term_by ◌⊕◌ ◌⊗◌

  pub length-product : (width : ℕ) (a b : List A) → length (product R width a b) ≡ width
  unfolding product
  length-product width a b = length_add_terms_by ◌⊕◌ ◌⊗◌ (replicate width (ι (pos 0)), 0) 0 a b ∙ length-replicate width (ι (pos 0))

  value_add_term : (x : A) (w : Walk A) (y : A) (i j : ℕ) (b : List A) → i + j + length b ≤ length w.0
      → value R x (add_term R w y i j b).0 ≡ value R x w.0 ⊕ ι (pos 2) ⊗ (y ⊗ first_kind R x i ⊗ value_from R x j b)
  unfolding add_term_by value_from
  value_add_term x w y i j [] h = solve R (y ∷ value R x w.0 ∷ first_kind R x i ∷ []) (search reify depth 20) (search reify depth 20) tt
  value_add_term x w y i j (z ∷ b) h =
      value_add_term x (visit R w i j (y ⊗ z)) y i (suc j) b (rw length_add_pair (omega arith))
      ∙ ap (λ v. v ⊕ ι (pos 2) ⊗ (y ⊗ first_kind R x i ⊗ value_from R x (suc j) b)) (value_add_pair x w.0 i j (y ⊗ z) (omega arith))
      ∙ solve R (y ∷ z ∷ value R x w.0 ∷ first_kind R x i ∷ first_kind R x j ∷ value_from R x (suc j) b ∷ []) (search reify depth 20) (search reify depth 20) tt

  value_add_terms : (x : A) (w : Walk A) (i : ℕ) (a b : List A) → i + length a + length b ≤ suc (length w.0)
      → value R x (add_terms R w i a b).0 ≡ value R x w.0 ⊕ ι (pos 2) ⊗ (value_from R x i a ⊗ value R x b)
  unfolding add_terms_by value_from value
  value_add_terms x w i [] b h = solve R (value R x w.0 ∷ value R x b ∷ []) (search reify depth 20) (search reify depth 20) tt
  value_add_terms x w i (y ∷ a) b h =
      value_add_terms x (add_term R w y i 0 b) (suc i) a b (rw length_add_term (omega arith))
      ∙ ap (λ v. v ⊕ ι (pos 2) ⊗ (value_from R x (suc i) a ⊗ value R x b)) (value_add_term x w y i 0 b (omega arith))
      ∙ solve R (y ∷ value R x w.0 ∷ first_kind R x i ∷ value_from R x (suc i) a ∷ value R x b ∷ []) (search reify depth 20) (search reify depth 20) tt

  -- 2·value a·value b = value C(a, b), where the width holds all of C
  pub value_product : (x : A) (width : ℕ) (a b : List A) → length a + length b ≤ suc width → ι (pos 2) ⊗ value R x a ⊗ value R x b ≡ value R x (product R width a b)
  unfolding product value
  value_product x width a b h =
      solve R (value R x a ∷ value R x b ∷ []) (search reify depth 20) (search reify depth 20) tt
      ∙ ap (λ v. v ⊕ ι (pos 2) ⊗ (value R x a ⊗ value R x b)) (sym (value_from_zeros R x 0 width))
      ∙ sym (value_add_terms x (replicate width (ι (pos 0)), 0) 0 a b (rw length-replicate (omega arith)))

  -- ---- the walk's steps, for loops

  pub term_step : (w : Walk A) (y : A) (i j : ℕ) (b : List A) (k : ℕ) → k < length b
      → add_term R w y i j (drop k b) ≡ add_term R (visit R w i j (y ⊗ get_or b k (ι (pos 0)))) y i (j + 1) (drop (k + 1) b)
  unfolding add_term_by
  term_step w y i j b k h = rw (drop-cons b k (ι (pos 0)) h, add-one j, add-one k)

  pub term_end : (w : Walk A) (y : A) (i j : ℕ) (b : List A) (k : ℕ) → length b ≤ k → add_term R w y i j (drop k b) ≡ w
  unfolding add_term_by
  term_end w y i j b k h = rw drop_of_length-le

  -- a term cut at place k
  term_cut : (w : Walk A) (y : A) (i j k : ℕ) (b : List A) → k ≤ length b
      → add_term R (add_term R w y i j (take k b)) y i (j + k) (drop k b) ≡ add_term R w y i j b
  unfolding add_term_by
  term_cut w y i j zero b h = let e : j + 0 ≡ j = omega arith in rw e
  term_cut w y i j (suc k) [] h = absurd (omega arith)
  term_cut w y i j (suc k) (z ∷ b) h =
      let e : j + suc k ≡ suc j + k = omega arith in
      rw e (term_cut (visit R w i j (y ⊗ z)) y i (suc j) k b (omega arith))

  -- visits made before a term are added to its own
  term_after : (n : ℕ) (w : Walk A) (y : A) (i j : ℕ) (b : List A)
      → add_term R (w.0, n + w.1) y i j b ≡ ((add_term R w y i j b).0, n + (add_term R w y i j b).1)
  unfolding add_term_by
  term_after n w y i j [] = refl
  term_after n w y i j (z ∷ b) =
      let e : n + w.1 + 1 ≡ n + (w.1 + 1) = omega arith in
      rw e (term_after n (visit R w i j (y ⊗ z)) y i (suc j) b)

  -- a term whose visits are counted from 0, behind n others
  pub term_counted : (n : ℕ) (c : List A) (y : A) (i j : ℕ) (b d : List A) (m : ℕ) → (d, m) ≡ add_term R (c, 0) y i j b → (d, n + m) ≡ add_term R (c, n) y i j b
  term_counted n c y i j b d m h =
      let e : n + 0 ≡ n = omega arith in
      ap (λ w. (w.0, n + w.1)) h ∙ sym (term_after n (c, 0) y i j b) ∙ ap (λ (k : ℕ). add_term R (c, k) y i j b) e

  -- the two parts of a cut term, each counted from 0
  pub term_joined : (c : List A) (y : A) (i j k : ℕ) (b d e : List A) (m n : ℕ) → k ≤ length b
      → (d, m) ≡ add_term R (c, 0) y i j (take k b) → (e, n) ≡ add_term R (d, 0) y i (j + k) (drop k b) → (e, m + n) ≡ add_term R (c, 0) y i j b
  term_joined c y i j k b d e m n h first second =
      term_counted m d y i (j + k) (drop k b) e n second
      ∙ ap (λ w. add_term R w y i (j + k) (drop k b)) first
      ∙ term_cut (c, 0) y i j k b h

  pub terms_step : (w : Walk A) (i : ℕ) (a b : List A) → i < length a
      → add_terms R w i (drop i a) b ≡ add_terms R (add_term R w (get_or a i (ι (pos 0))) i 0 b) (i + 1) (drop (i + 1) a) b
  terms_step w i a b = terms_by_step ◌⊕◌ ◌⊗◌ w i a b (ι (pos 0))

  pub terms_end : (w : Walk A) (i : ℕ) (a b : List A) → length a ≤ i → add_terms R w i (drop i a) b ≡ w
  terms_end = terms_by_end ◌⊕◌ ◌⊗◌

  -- ---- whole numbers in the ring

  map_ι_add_at : (c : List ℤ) (k : ℕ) (v : ℤ) → map ι (add_at ℤ_ring c k v) ≡ add_at R (map ι c) k (ι v)
  unfolding add_at_by
  map_ι_add_at [] k v = refl
  map_ι_add_at (x ∷ c) zero v = ap (λ y. y ∷ map ι c) (ι_add x v)
  map_ι_add_at (x ∷ c) (suc k) v = ap (λ l. ι x ∷ l) (map_ι_add_at c k v)

  map_ι_add_pair : (c : List ℤ) (i j : ℕ) (v : ℤ) → map ι (add_pair ℤ_ring c i j v) ≡ add_pair R (map ι c) i j (ι v)
  unfolding add_pair_by
  map_ι_add_pair c i j v = map_ι_add_at (add_at ℤ_ring c (i + j) v) (distance i j) v ∙ ap (λ l. add_at R l (distance i j) (ι v)) (map_ι_add_at c (i + j) v)

  -- a walk over whole numbers, in the ring
  abbrev in_ring : Walk ℤ → Walk A
  in_ring w = (map ι w.0, w.1)

  map_ι_add_term : (w : Walk ℤ) (x : ℤ) (i j : ℕ) (b : List ℤ) → in_ring (add_term ℤ_ring w x i j b) ≡ add_term R (in_ring w) (ι x) i j (map ι b)
  unfolding add_term_by
  map_ι_add_term w x i j [] = refl
  map_ι_add_term w x i j (y ∷ b) =
      map_ι_add_term (visit ℤ_ring w i j (x *ℤ y)) x i (suc j) b
      ∙ ap (λ l. add_term R (l, w.1 + 1) (ι x) i (suc j) (map ι b)) (map_ι_add_pair w.0 i j (x *ℤ y) ∙ ap (add_pair R (map ι w.0) i j) (ι_mul x y))

  map_ι_add_terms : (w : Walk ℤ) (i : ℕ) (a b : List ℤ) → in_ring (add_terms ℤ_ring w i a b) ≡ add_terms R (in_ring w) i (map ι a) (map ι b)
  unfolding add_terms_by
  map_ι_add_terms w i [] b = refl
  map_ι_add_terms w i (x ∷ a) b = map_ι_add_terms (add_term ℤ_ring w x i 0 b) (suc i) a b ∙ ap (λ v. add_terms R v (suc i) (map ι a) (map ι b)) (map_ι_add_term w x i 0 b)

  map_ι_product : (width : ℕ) (a b : List ℤ) → map ι (product ℤ_ring width a b) ≡ product R width (map ι a) (map ι b)
  unfolding product
  map_ι_product width a b = ap (λ v. v.0) (map_ι_add_terms (replicate width (pos 0), 0) 0 a b) ∙ ap (λ l. (add_terms R (l, 0) 0 (map ι a) (map ι b)).0) (map_ι_zeros R width)

  pub value_product_whole : (x : A) (width : ℕ) (a b : List ℤ) → length a + length b ≤ suc width
      → ι (pos 2) ⊗ value R x (map ι a) ⊗ value R x (map ι b) ≡ value R x (map ι (product ℤ_ring width a b))
  value_product_whole x width a b h = value_product x width (map ι a) (map ι b) (simp length-map h) ∙ ap (value R x) (sym (map_ι_product width a b))
