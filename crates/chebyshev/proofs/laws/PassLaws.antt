-- A term of the walk over all pairs (Product.antt) is three passes (Passes.antt): over the places of the sums i+j, over those of the
-- differences i−j, which fall to 0, and over those of j−i, which rise from 1. Each place gets its numbers in the walk's order, so no
-- law of the numbers is needed.
use Rattle.std.specs.Prelude.{◌≡◌, ◌≢◌, get_or, take, drop}
use Rattle.std.proofs.Math.Path.{refl, sym, ap}
use Rattle.std.proofs.Common.{◌∙◌, length-take, drop_of_length-le, take-append-drop, drop-cons}
use mathlib.Core.List.{List, [], ◌∷◌, ◌++◌, reverse, reverse-cons}
use Prim.Native.Nat.{ℕ, zero, suc, ◌+◌, ◌<◌, ◌≤◌}
use native.Mathlib.Omega.{arith}
use Rattle.std.proofs.Math.Numerals.{add-one}
use Rattle.std.proofs.Math.ListN.{length, length-reverse}
use Rattle.chebyshev.specs.definitions.Product.{distance, Walk, add_at_by, add_pair_by, add_term_by}
use Rattle.chebyshev.specs.definitions.Passes.{add_from_by}
use Rattle.chebyshev.proofs.laws.ProductLaws.{length_add_at_by}

module _ {A : Type 0} (◌⊕◌ ◌⊗◌ : A → A → A) where
  infixl 7 ◌⊗◌
  abbrev at : List A → ℕ → A → List A
  at = add_at_by ◌⊕◌

  abbrev from : List A → A → ℕ → List A → List A
  from = add_from_by ◌⊕◌ ◌⊗◌

  -- ---- additions at two different places may be exchanged

  at_apart : (c : List A) (p q : ℕ) (u v : A) → p ≢ q → at (at c p u) q v ≡ at (at c q v) p u
  unfolding add_at_by
  at_apart [] p q u v h = refl
  at_apart (x ∷ c) zero zero u v h = absurd (h refl)
  at_apart (x ∷ c) zero (suc q) u v h = refl
  at_apart (x ∷ c) (suc p) zero u v h = refl
  at_apart (x ∷ c) (suc p) (suc q) u v h = ap (λ l. x ∷ l) (at_apart c p q u v (omega arith))

  -- q lies before the places of a pass
  from_below : (c : List A) (x : A) (p q : ℕ) (v : A) (b : List A) → q < p → from (at c q v) x p b ≡ at (from c x p b) q v
  unfolding add_from_by
  from_below c x p q v [] h = refl
  from_below c x p q v (y ∷ b) h =
      ap (λ l. from l x (suc p) b) (at_apart c q p v (x ⊗ y) (omega arith)) ∙ from_below (at c p (x ⊗ y)) x (suc p) q v b (omega arith)

  -- q lies behind them
  from_above : (c : List A) (x : A) (p q : ℕ) (v : A) (b : List A) → p + length b ≤ q → from (at c q v) x p b ≡ at (from c x p b) q v
  unfolding add_from_by
  from_above c x p q v [] h = refl
  from_above c x p q v (y ∷ b) h =
      ap (λ l. from l x (suc p) b) (at_apart c q p v (x ⊗ y) (omega arith)) ∙ from_above (at c p (x ⊗ y)) x (suc p) q v b (omega arith)

  -- ---- passes

  from_append : (c : List A) (x : A) (p : ℕ) (a b : List A) → from c x p (a ++ b) ≡ from (from c x p a) x (p + length a) b
  unfolding add_from_by
  from_append c x p [] b = let e : p + 0 ≡ p = omega arith in rw e
  from_append c x p (y ∷ a) b =
      let e : p + suc (length a) ≡ suc p + length a = omega arith in
      rw e (from_append (at c p (x ⊗ y)) x (suc p) a b)

  pub length_from : (c : List A) (x : A) (p : ℕ) (b : List A) → length (from c x p b) ≡ length c
  unfolding add_from_by
  length_from c x p [] = refl
  length_from c x p (y ∷ b) = length_from (at c p (x ⊗ y)) x (suc p) b ∙ length_add_at_by ◌⊕◌ c p (x ⊗ y)

  from_none : (x : A) (p : ℕ) (b : List A) → from [] x p b ≡ []
  unfolding add_from_by add_at_by
  from_none x p [] = refl
  from_none x p (y ∷ b) = from_none x (suc p) b

  from_behind : (z : A) (c : List A) (x : A) (p : ℕ) (b : List A) → from (z ∷ c) x (suc p) b ≡ z ∷ from c x p b
  unfolding add_from_by add_at_by
  from_behind z c x p [] = refl
  from_behind z c x p (y ∷ b) = from_behind z (at c p (x ⊗ y)) x (suc p) b

  -- as code has it, on a part of the list
  pub from_part : (c : List A) (x : A) (p : ℕ) (b : List A) → take p c ++ from (drop p c) x 0 b ≡ from c x p b
  from_part c x zero b = refl
  from_part [] x (suc p) b = from_none x 0 b ∙ sym (from_none x (suc p) b)
  from_part (z ∷ c) x (suc p) b = ap (λ l. z ∷ l) (from_part c x p b) ∙ sym (from_behind z c x p b)

  -- ---- a pass as a loop

  pub from_step : (c : List A) (x : A) (b : List A) (k : ℕ) (d : A) → k < length b
      → from c x k (drop k b) ≡ from (at c k (x ⊗ get_or b k d)) x (k + 1) (drop (k + 1) b)
  unfolding add_from_by
  from_step c x b k d h = rw (drop-cons b k d h, add-one k)

  pub from_end : (c : List A) (x : A) (p : ℕ) (b : List A) (k : ℕ) → length b ≤ k → from c x p (drop k b) ≡ c
  unfolding add_from_by
  from_end c x p b k h = rw (drop_of_length-le b {i = k} h)

  at_beyond : (c : List A) (k : ℕ) (v : A) → length c ≤ k → at c k v ≡ c
  unfolding add_at_by
  at_beyond [] k v h = refl
  at_beyond (x ∷ c) zero v h = absurd (omega arith)
  at_beyond (x ∷ c) (suc k) v h = ap (λ l. x ∷ l) (at_beyond c k v (omega arith))

  pub from_beyond : (c : List A) (x : A) (p : ℕ) (b : List A) → length c ≤ p → from c x p b ≡ c
  unfolding add_from_by
  from_beyond c x p [] h = refl
  from_beyond c x p (y ∷ b) h =
      ap (λ l. from l x (suc p) b) (at_beyond c p (x ⊗ y) h) ∙ from_beyond c x (suc p) b (omega arith)

  -- ---- the differences of a term

  -- x times the elements of b, at |i−j|, |i−(j+1)|, …
  unfoldable differences : List A → A → ℕ → ℕ → List A → List A
  differences c x i j [] = c
  differences c x i j (y ∷ b) = differences (at c (distance i j) (x ⊗ y)) x i (suc j) b

  -- a term: its sums first, then its differences
  term_differences : (w : Walk A) (x : A) (i j : ℕ) (b : List A) → (add_term_by ◌⊕◌ ◌⊗◌ w x i j b).0 ≡ differences (from w.0 x (i + j) b) x i j b
  unfolding add_term_by add_pair_by add_from_by differences
  term_differences w x i j [] = refl
  term_differences w x i j (y ∷ b) =
      let v = x ⊗ y in
      let c = at w.0 (i + j) v in
      let e : i + suc j ≡ suc (i + j) = omega arith in
      term_differences (at c (distance i j) v, w.1 + 1) x i (suc j) b
      ∙ ap (λ l. differences l x i (suc j) b) (from_below c x (i + suc j) (distance i j) v b (omega arith) ∙ ap (λ p. at (from c x p b) (distance i j) v) e)

  differences-append : (c : List A) (x : A) (i j : ℕ) (a b : List A) → differences c x i j (a ++ b) ≡ differences (differences c x i j a) x i (j + length a) b
  unfolding differences
  differences-append c x i j [] b = let e : j + 0 ≡ j = omega arith in rw e
  differences-append c x i j (y ∷ a) b =
      let e : j + suc (length a) ≡ suc j + length a = omega arith in
      rw e (differences-append (at c (distance i j) (x ⊗ y)) x i (suc j) a b)

  -- from j = i + 1 + m on: the places m + 1, m + 2, …
  differences_rise : (c : List A) (x : A) (i j m : ℕ) (b : List A) → j ≡ i + suc m → differences c x i j b ≡ from c x (suc m) b
  unfolding differences add_from_by
  differences_rise c x i j m [] h = refl
  differences_rise c x i j m (y ∷ b) h =
      let e : distance i j ≡ suc m = omega arith in
      ap (λ p. differences (at c p (x ⊗ y)) x i (suc j) b) e ∙ differences_rise (at c (suc m) (x ⊗ y)) x i (suc j) (suc m) b (omega arith)

  -- up to j = i: the places fall to 0
  differences_fall : (c : List A) (x : A) (i j : ℕ) (b : List A) → j + length b ≡ suc i → differences c x i j b ≡ from c x 0 (reverse b)
  unfolding differences add_from_by
  differences_fall c x i j [] h = refl
  differences_fall c x i j (y ∷ b) h =
      let v = x ⊗ y in
      let n = length (reverse b) in
      let m : n ≡ length b = length-reverse b in
      let e : distance i j ≡ 0 + n = omega arith in
      ap (λ p. differences (at c p v) x i (suc j) b) e
      ∙ differences_fall (at c (0 + n) v) x i (suc j) b (omega arith)
      ∙ from_above c x 0 (0 + n) v (reverse b) (omega arith)
      ∙ sym (ap (from c x 0) (reverse-cons y b) ∙ from_append c x 0 (reverse b) (y ∷ []))

  -- ---- a term in three passes

  pub term_passes : (w : Walk A) (x : A) (i : ℕ) (b : List A) → i < length b
      → (add_term_by ◌⊕◌ ◌⊗◌ w x i 0 b).0 ≡ from (from (from w.0 x i b) x 0 (reverse (take (suc i) b))) x 1 (drop (suc i) b)
  term_passes w x i b h =
      let z : i + 0 ≡ i = omega arith in
      let c = from w.0 x i b in
      let a = take (suc i) b in
      let d = drop (suc i) b in
      let n : length a ≡ suc i = simp length-take (omega arith) in
      term_differences w x i 0 b
      ∙ ap (λ p. differences (from w.0 x p b) x i 0 b) z
      ∙ ap (differences c x i 0) (sym (take-append-drop (suc i) b))
      ∙ differences-append c x i 0 a d
      ∙ differences_rise (differences c x i 0 a) x i (0 + length a) 0 d (omega arith)
      ∙ ap (λ l. from l x 1 d) (differences_fall c x i 0 a (omega arith))
