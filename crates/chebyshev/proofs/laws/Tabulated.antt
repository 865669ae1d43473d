-- Lists written place by place; and the walk over all pairs forms, place by place, the two sums of 01.
use Rattle.std.specs.Prelude.{◌≡◌, List, ◌∷◌, pos, length, get_or, take, drop}
use Rattle.std.proofs.Math.Path.{refl, ap}
use Rattle.std.proofs.Common.{sym, ◌∙◌, zero-add, suc-add, ext_get_or}
use Prim.Native.Nat.{ℕ, zero, suc, ◌+◌, ◌-◌, ◌<◌, min}
use native.Mathlib.Omega.{arith}
use Rattle.ring.specs.definitions.Ring.{CommutativeRing}
use Rattle.chebyshev.specs.definitions.Product.{product}
use Rattle.chebyshev.proofs.laws.ProductLaws.{length-product}
use Rattle.chebyshev.specs.definitions.TwoSums.{tabulate, two_sums, places_from}
use Rattle.chebyshev.proofs.laws.ProductSums.{product_two_sums}

module _ {A : Type 0} where
  pub length-tabulate : (n : ℕ) (f : ℕ → A) → length (tabulate n f) ≡ n
  unfolding tabulate
  length-tabulate zero f = refl
  length-tabulate (suc n) f = ap suc (length-tabulate n (λ k. f (suc k)))

  pub at_tabulate : (n : ℕ) (f : ℕ → A) (k : ℕ) (d : A) → k < n → get_or (tabulate n f) k d ≡ f k
  unfolding tabulate
  at_tabulate zero f k d h = absurd (omega arith)
  at_tabulate (suc n) f zero d h = refl
  at_tabulate (suc n) f (suc k) d h = at_tabulate n (λ k. f (suc k)) k d (omega arith)

  take-tabulate : (n m : ℕ) (f : ℕ → A) → take n (tabulate m f) ≡ tabulate (min n m) f
  unfolding tabulate
  take-tabulate zero m f = let e : min 0 m ≡ 0 = omega arith in rw e
  take-tabulate (suc n) zero f = let e : min (suc n) 0 ≡ 0 = omega arith in rw e
  take-tabulate (suc n) (suc m) f =
      let e : min (suc n) (suc m) ≡ suc (min n m) = omega arith in rw e (ap (λ l. f 0 ∷ l) (take-tabulate n m (λ k. f (suc k))))

  drop-tabulate : (s m : ℕ) (f : ℕ → A) → drop s (tabulate m f) ≡ tabulate (m - s) (λ k. f (s + k))
  unfolding tabulate
  drop-tabulate zero m f = let e : m - 0 ≡ m = omega arith in rw e (ap (tabulate m) (λ i k. f (sym (zero-add k) i)))
  drop-tabulate (suc s) zero f = let e : 0 - suc s ≡ 0 = omega arith in rw e
  drop-tabulate (suc s) (suc m) f =
      let e : suc m - suc s ≡ m - s = omega arith in
      rw e (drop-tabulate s m (λ k. f (suc k)) ∙ ap (tabulate (m - s)) (λ i k. f (sym (suc-add s k) i)))

module _ (R : CommutativeRing) (width : ℕ) where
  open R use {A, ι}

  -- the whole list
  pub product_tabulated : (a b : List A) → product R width a b ≡ tabulate width (λ k. two_sums R k a b)
  product_tabulated a b =
      let place : ℕ → A = λ k. two_sums R k a b in
      ext_get_or (ι (pos 0)) (product R width a b) (tabulate width place)
      (length-product R width a b ∙ sym (length-tabulate width place))
      (λ k h.
      let l : k < width = rw (length-product R) at h in
      product_two_sums R width a b k l ∙ sym (at_tabulate width place k (ι (pos 0)) l))

  -- a group of n places from `start` on, or as many as the list has there
  pub product-group : (n start : ℕ) (a b : List A) → take n (drop start (product R width a b)) ≡ places_from R (min n (width - start)) start a b
  product-group n start a b =
      ap (λ l. take n (drop start l)) (product_tabulated a b)
      ∙ ap (take n) (drop-tabulate start width (λ k. two_sums R k a b))
      ∙ take-tabulate n (width - start) (λ k. two_sums R (start + k) a b)
