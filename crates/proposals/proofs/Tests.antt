-- Where a loop over the shorter of two lists ends.
use mathlib.Core.Path.{◌≡◌, sym, subst}
use mathlib.Core.Bool.{Bool, true, false, not, ◌&&◌}
use mathlib.Core.Logic.{◌⊎◌, inl, inr}
use Prim.Native.Nat.{ℕ, ◌<◌, ◌≤◌, min}
use native.Mathlib.Omega.{arith}
use lib.Dec.{T, ltb, ltb→lt, nltb→le}
use lib.Ieee.Fits.{and_l, and_r}

pub one_ends : (k m n : ℕ) → min m n ≤ k → (m ≤ k) ⊎ (n ≤ k)
one_ends k m n h = go (ltb k m) (ltb→lt k m) (nltb→le k m)
  where
    go : (b : Bool) → (T b → k < m) → (T (not b) → m ≤ k) → (m ≤ k) ⊎ (n ≤ k)
    go true f g = let l : k < m = f tt in inr (omega arith)
    go false f g = inl (g tt)

-- the same of a test of both lengths
pub both_below : (k m n : ℕ) → ltb k m && ltb k n ≡ true → (k < m) × (k < n)
both_below k m n e =
    let t : T (ltb k m && ltb k n) = subst T (sym e) tt in
    (ltb→lt k m (and_l (ltb k m) (ltb k n) t), ltb→lt k n (and_r (ltb k m) (ltb k n) t))

pub not_both : (k m n : ℕ) → ltb k m && ltb k n ≡ false → (m ≤ k) ⊎ (n ≤ k)
not_both k m n e = go (ltb k m) (ltb k n) (nltb→le k m) (nltb→le k n) e
  where
    go : (a b : Bool) → (T (not a) → m ≤ k) → (T (not b) → n ≤ k) → a && b ≡ false → (m ≤ k) ⊎ (n ≤ k)
    go true true f g e = absurd (subst T e tt)
    go true false f g e = inr (g tt)
    go false b f g e = inl (f tt)
