-- Lists of which some coefficients are negated (Negation.antt): lengths, parts, weights and sums; their products.
use Rattle.std.specs.Prelude.{◌≡◌, Bool, not, ℤ, pos, nat_abs, ◌+ℤ◌, ◌*ℤ◌, length, take, drop}
use Rattle.std.proofs.Math.Path.{refl, sym, ap, ap₂}
use Rattle.std.proofs.Common.{◌∙◌}
use Rattle.std.proofs.Math.Bool.{true, false}
use mathlib.Core.List.{List, [], ◌∷◌, ◌++◌, map}
use Prim.Native.Nat.{ℕ, zero, suc, ◌+◌, ◌*◌, min}
use native.Mathlib.Omega.{arith}
use Rattle.std.proofs.Math.IntN.{neg_ℤ}
use Rattle.std.proofs.Math.ListN.{replicate}
use Rattle.ring.specs.laws.Parts.{abs_neg}
use Rattle.ring.specs.laws.Difference.{all1, all2, differences}
use Rattle.ring.specs.definitions.Integer.{ℤ_ring}
use Rattle.chebyshev.specs.definitions.Coefficients.{weight, add_lists, scale_list, subtract_lists}
use Rattle.chebyshev.specs.definitions.Negation.{none, every, odd, negated_if, negated_from}
use Rattle.chebyshev.specs.definitions.Product.{distance, add_at, add_pair, Walk, visit, add_term, add_terms, product, add_at_by, add_pair_by, add_term_by, add_terms_by}

-- ---- one coefficient

pub abs-negated : (b : Bool) (c : ℤ) → nat_abs (negated_if b c) ≡ nat_abs c
abs-negated true c = abs_neg c
abs-negated false c = refl

pub negated-zero : (b : Bool) → negated_if b (pos 0) ≡ pos 0
negated-zero true = refl
negated-zero false = refl

pub negated-add : (b : Bool) (x y : ℤ) → negated_if b x +ℤ negated_if b y ≡ negated_if b (x +ℤ y)
negated-add true = all2 _ (simp differences (omega arith))
negated-add false = λ x y. refl

pub negated_left : (b : Bool) (x y : ℤ) → negated_if b x *ℤ y ≡ negated_if b (x *ℤ y)
negated_left true = all2 _ (simp differences (omega arith))
negated_left false = λ x y. refl

pub negated_right : (b : Bool) (x y : ℤ) → x *ℤ negated_if b y ≡ negated_if b (x *ℤ y)
negated_right true = all2 _ (simp differences (omega arith))
negated_right false = λ x y. refl

pub negated_not : (b : Bool) (c : ℤ) → negated_if (not b) c ≡ neg_ℤ (negated_if b c)
negated_not true = all1 _ (simp differences (omega arith))
negated_not false = λ c. refl

-- ---- lists, negated at any places

module _ (chosen : ℕ → Bool) where
  pub length-negated : (k : ℕ) (a : List ℤ) → length (negated_from chosen k a) ≡ length a
  unfolding negated_from
  length-negated k [] = refl
  length-negated k (c ∷ a) = ap suc (length-negated (suc k) a)

  pub take-negated : (n k : ℕ) (a : List ℤ) → take n (negated_from chosen k a) ≡ negated_from chosen k (take n a)
  unfolding negated_from
  take-negated zero k a = refl
  take-negated (suc n) k [] = refl
  take-negated (suc n) k (c ∷ a) = ap (λ l. negated_if (chosen k) c ∷ l) (take-negated n (suc k) a)

  pub drop-negated : (n k : ℕ) (a : List ℤ) → drop n (negated_from chosen k a) ≡ negated_from chosen (k + n) (drop n a)
  unfolding negated_from
  drop-negated zero k a = let e : k + 0 ≡ k = omega arith in rw e
  drop-negated (suc n) k [] = refl
  drop-negated (suc n) k (c ∷ a) = let e : k + suc n ≡ suc k + n = omega arith in rw e (drop-negated n (suc k) a)

  pub weight-negated : (k : ℕ) (a : List ℤ) → weight (negated_from chosen k a) ≡ weight a
  unfolding negated_from weight
  weight-negated k [] = refl
  weight-negated k (c ∷ a) = ap₂ ◌+◌ (abs-negated (chosen k) c) (weight-negated (suc k) a)

  pub negated-zeros : (k n : ℕ) → negated_from chosen k (replicate n (pos 0)) ≡ replicate n (pos 0)
  unfolding negated_from
  negated-zeros k zero = refl
  negated-zeros k (suc n) = ap₂ ◌∷◌ (negated-zero (chosen k)) (negated-zeros (suc k) n)

  pub negated_append_zeros : (k n : ℕ) (a : List ℤ) → negated_from chosen k (a ++ replicate n (pos 0)) ≡ negated_from chosen k a ++ replicate n (pos 0)
  unfolding negated_from
  negated_append_zeros k n [] = negated-zeros k n
  negated_append_zeros k n (c ∷ a) = ap (λ l. negated_if (chosen k) c ∷ l) (negated_append_zeros (suc k) n a)

  pub negated_sum : (k : ℕ) (a b : List ℤ) → add_lists ℤ_ring (negated_from chosen k a) (negated_from chosen k b) ≡ negated_from chosen k (add_lists ℤ_ring a b)
  unfolding negated_from add_lists
  negated_sum k [] b = refl
  negated_sum k (x ∷ a) [] = refl
  negated_sum k (x ∷ a) (y ∷ b) = ap₂ ◌∷◌ (negated-add (chosen k) x y) (negated_sum (suc k) a b)

  pub negated-difference : (k : ℕ) (a b : List ℤ) → subtract_lists ℤ_ring (negated_from chosen k a) (negated_from chosen k b) ≡ negated_from chosen k (subtract_lists ℤ_ring a b)
  unfolding subtract_lists negated_from
  negated-difference k a b = ap (add_lists ℤ_ring (negated_from chosen k a)) (opposites k b) ∙ negated_sum k a (map neg_ℤ b)
    where
      swap : (t : Bool) (c : ℤ) → neg_ℤ (negated_if t c) ≡ negated_if t (neg_ℤ c)
      swap true c = refl
      swap false c = refl

      opposites : (k : ℕ) (b : List ℤ) → map neg_ℤ (negated_from chosen k b) ≡ negated_from chosen k (map neg_ℤ b)
      opposites k [] = refl
      opposites k (c ∷ b) = ap₂ ◌∷◌ (swap (chosen k) c) (opposites (suc k) b)

  -- so the weight of a difference stays
  pub difference-weight : (a b : List ℤ) {a' b' : List ℤ} → a' ≡ negated_from chosen 0 a → b' ≡ negated_from chosen 0 b
      → weight (subtract_lists ℤ_ring a' b') ≡ weight (subtract_lists ℤ_ring a b)
  difference-weight a b e e' =
      ap₂ (λ c c'. weight (subtract_lists ℤ_ring c c')) e e'
      ∙ ap weight (negated-difference 0 a b)
      ∙ weight-negated 0 (subtract_lists ℤ_ring a b)

  pub scale-negated : (k : ℕ) (c : ℤ) (a : List ℤ) → scale_list ℤ_ring c (negated_from chosen k a) ≡ negated_from chosen k (scale_list ℤ_ring c a)
  unfolding scale_list negated_from
  scale-negated k c [] = refl
  scale-negated k c (x ∷ a) = ap₂ ◌∷◌ (negated_right (chosen k) c x) (scale-negated (suc k) c a)

  -- a bare number, where place 0 is not chosen
  pub constant-negated : chosen 0 ≡ false → (c : ℤ) → c ∷ [] ≡ negated_from chosen 0 (c ∷ [])
  unfolding negated_from
  constant-negated e c = ap (λ b. negated_if b c ∷ []) (sym e)

  add_at_negated : (m : ℕ) (c : List ℤ) (k : ℕ) (v : ℤ) → negated_from chosen m (add_at ℤ_ring c k v) ≡ add_at ℤ_ring (negated_from chosen m c) k (negated_if (chosen (m + k)) v)
  unfolding negated_from add_at_by
  add_at_negated m [] k v = refl
  add_at_negated m (x ∷ c) zero v =
      let e : m + 0 ≡ m = omega arith in
      rw e (ap (λ z. z ∷ negated_from chosen (suc m) c) (sym (negated-add (chosen m) x v)))
  add_at_negated m (x ∷ c) (suc k) v =
      let e : m + suc k ≡ suc m + k = omega arith in
      rw e (ap (λ l. negated_if (chosen m) x ∷ l) (add_at_negated (suc m) c k v))

pub negated-none : (k : ℕ) (a : List ℤ) → negated_from none k a ≡ a
unfolding negated_from
negated-none k [] = refl
negated-none k (c ∷ a) = ap (λ l. c ∷ l) (negated-none (suc k) a)

pub negated-every : (k : ℕ) (a : List ℤ) → negated_from every k a ≡ map neg_ℤ a
unfolding negated_from
negated-every k [] = refl
negated-every k (c ∷ a) = ap (λ l. neg_ℤ c ∷ l) (negated-every (suc k) a)

-- ---- products

-- a_i and b_j negated at i and at j have the product a_i·b_j, negated at the place of the sum and at that of the difference alike
pub record Signs (s t u : ℕ → Bool) : Type 0 where
  pub at_sum : (i j : ℕ) (x y : ℤ) → negated_if (s i) x *ℤ negated_if (t j) y ≡ negated_if (u (i + j)) (x *ℤ y)
  pub at_distance : (i j : ℕ) (x y : ℤ) → negated_if (s i) x *ℤ negated_if (t j) y ≡ negated_if (u (distance i j)) (x *ℤ y)

pub signs_left : Signs every none every
signs_left = record { at_sum = λ i j x y. negated_left true x y; at_distance = λ i j x y. negated_left true x y }

pub signs_right : Signs none every every
signs_right = record { at_sum = λ i j x y. negated_right true x y; at_distance = λ i j x y. negated_right true x y }

pub signs_none : Signs none none none
signs_none = record { at_sum = λ i j x y. refl; at_distance = λ i j x y. refl }

pub signs_both : Signs every every none
signs_both = record { at_sum = λ i j x y. both x y; at_distance = λ i j x y. both x y }
  where
    both : (x y : ℤ) → neg_ℤ x *ℤ neg_ℤ y ≡ x *ℤ y
    both = all2 _ (simp differences (omega arith))

not_not : (b : Bool) → not (not b) ≡ b
not_not true = refl
not_not false = refl

pub odd_twice : (n m : ℕ) → odd (n + 2 * m) ≡ odd n
unfolding odd
odd_twice n zero = let e : n + 2 * 0 ≡ n = omega arith in rw e
odd_twice n (suc m) =
    let e : n + 2 * suc m ≡ suc (suc (n + 2 * m)) = omega arith in
    rw e (not_not (odd (n + 2 * m)) ∙ odd_twice n m)

-- i + j and |i − j| are both odd or both even
odd-distance : (i j : ℕ) → odd (i + j) ≡ odd (distance i j)
odd-distance i j = let e : i + j ≡ distance i j + 2 * min i j = omega arith in rw e (odd_twice (distance i j) (min i j))

odd_sum : (i j : ℕ) (x y : ℤ) → negated_if (odd i) x *ℤ negated_if (odd j) y ≡ negated_if (odd (i + j)) (x *ℤ y)
unfolding odd
odd_sum zero j x y = let e : 0 + j ≡ j = omega arith in rw e (negated_right (odd j) x y)
odd_sum (suc i) j x y =
    let e : suc i + j ≡ suc (i + j) = omega arith in
    rw (e, negated_not (odd i) x, negated_not (odd (i + j)) (x *ℤ y), negated_left true (negated_if (odd i) x) (negated_if (odd j) y)) (ap neg_ℤ (odd_sum i j x y))

pub signs_odd : Signs odd odd odd
signs_odd = record { at_sum = odd_sum; at_distance = λ i j x y. odd_sum i j x y ∙ ap (λ b. negated_if b (x *ℤ y)) (odd-distance i j) }

module _ {s t u : ℕ → Bool} (signs : Signs s t u) where
  add_pair_negated : (c : List ℤ) (i j : ℕ) (x y : ℤ)
      → negated_from u 0 (add_pair ℤ_ring c i j (x *ℤ y)) ≡ add_pair ℤ_ring (negated_from u 0 c) i j (negated_if (s i) x *ℤ negated_if (t j) y)
  unfolding add_pair_by
  add_pair_negated c i j x y =
      add_at_negated u 0 (add_at ℤ_ring c (i + j) (x *ℤ y)) (distance i j) (x *ℤ y)
      ∙ ap₂ (λ l v. add_at ℤ_ring l (distance i j) v)
      (add_at_negated u 0 c (i + j) (x *ℤ y) ∙ ap (add_at ℤ_ring (negated_from u 0 c) (i + j)) (ap (λ (k : ℕ). negated_if (u k) (x *ℤ y)) (omega arith) ∙ sym (signs.at_sum i j x y)))
      (ap (λ (k : ℕ). negated_if (u k) (x *ℤ y)) (omega arith) ∙ sym (signs.at_distance i j x y))

  -- a walk whose list is negated
  abbrev turned : Walk ℤ → Walk ℤ
  turned w = (negated_from u 0 w.0, w.1)

  add_term_negated : (w : Walk ℤ) (x : ℤ) (i j : ℕ) (b : List ℤ)
      → turned (add_term ℤ_ring w x i j b) ≡ add_term ℤ_ring (turned w) (negated_if (s i) x) i j (negated_from t j b)
  unfolding add_term_by negated_from
  add_term_negated w x i j [] = refl
  add_term_negated w x i j (y ∷ b) =
      add_term_negated (visit ℤ_ring w i j (x *ℤ y)) x i (suc j) b
      ∙ ap (λ l. add_term ℤ_ring (l, w.1 + 1) (negated_if (s i) x) i (suc j) (negated_from t (suc j) b)) (add_pair_negated w.0 i j x y)

  add_terms_negated : (w : Walk ℤ) (i : ℕ) (a b : List ℤ)
      → turned (add_terms ℤ_ring w i a b) ≡ add_terms ℤ_ring (turned w) i (negated_from s i a) (negated_from t 0 b)
  unfolding add_terms_by negated_from
  add_terms_negated w i [] b = refl
  add_terms_negated w i (x ∷ a) b =
      add_terms_negated (add_term ℤ_ring w x i 0 b) (suc i) a b
      ∙ ap (λ v. add_terms ℤ_ring v (suc i) (negated_from s (suc i) a) (negated_from t 0 b)) (add_term_negated w x i 0 b)

  pub product-negated : (width : ℕ) (a b : List ℤ) → product ℤ_ring width (negated_from s 0 a) (negated_from t 0 b) ≡ negated_from u 0 (product ℤ_ring width a b)
  unfolding product
  product-negated width a b =
      let z = replicate width (pos 0) in
      ap (λ l. (add_terms ℤ_ring (l, 0) 0 (negated_from s 0 a) (negated_from t 0 b)).0) (sym (negated-zeros u 0 width))
      ∙ sym (ap (λ v. v.0) (add_terms_negated (z, 0) 0 a b))
