-- How many times a number can be halved until it is 0, which is the number of its binary digits; at most n are counted.
use mathlib.Core.Path.{◌≡◌, refl}
use mathlib.Core.Bool.{Bool, true, false, cond}
use Prim.Native.Nat.{ℕ, zero, suc, ◌/◌, ◌^◌, ◌≤◌, ◌<◌}
use native.Mathlib.Omega.{arith}
use native.Mathlib.Nat.{pow-suc, pow-zero}
use lib.Dec.{eqb}
use borrow.Author.Tests.{eqb-true, eqb-false}

unfoldable pub halvings : ℕ → ℕ → ℕ
halvings zero d = 0
halvings (suc n) d = cond (eqb d 0) 0 (suc (halvings n (d / 2)))

pub halvings_at_most : (n d : ℕ) → halvings n d ≤ n
unfolding halvings
halvings_at_most zero d = omega arith
halvings_at_most (suc n) d = pick (eqb d 0) (halvings_at_most n (d / 2))
  where
    pick : (t : Bool) → halvings n (d / 2) ≤ n → cond t 0 (suc (halvings n (d / 2))) ≤ suc n
    pick true h = omega arith
    pick false h = omega arith

-- one more digit may be counted of what is no larger
one_more : (n d e : ℕ) → d < 2 ^ n → e ≤ d → halvings (suc n) e ≤ halvings n d
unfolding halvings
one_more zero d e h l = pick (eqb e 0) refl
  where
    pick : (t : Bool) → eqb e 0 ≡ t → cond t 0 1 ≤ 0
    pick true i = omega arith
    pick false i = absurd (eqb-false e 0 i (omega (arith, pow-zero 2)))
one_more (suc n) d e h l = pick (eqb e 0) refl (eqb d 0) refl (one_more n (d / 2) (e / 2) (omega (arith, pow-suc 2 n)) (omega arith))
  where
    pick : (t : Bool) → eqb e 0 ≡ t → (s : Bool) → eqb d 0 ≡ s → halvings (suc n) (e / 2) ≤ halvings n (d / 2)
        → cond t 0 (suc (halvings (suc n) (e / 2))) ≤ cond s 0 (suc (halvings n (d / 2)))
    pick true i s j rest = omega arith
    pick false i true j rest = let z = eqb-true d 0 j in absurd (eqb-false e 0 i (omega arith))
    pick false i false j rest = omega arith

pub halvings_fall : (n d e : ℕ) → 0 < d → d < 2 ^ n → e ≤ d / 2 → halvings n e < halvings n d
unfolding halvings
halvings_fall zero d e g h l = absurd (omega (arith, pow-zero 2))
halvings_fall (suc n) d e g h l = pick (eqb d 0) refl (one_more n (d / 2) e (omega (arith, pow-suc 2 n)) l)
  where
    pick : (t : Bool) → eqb d 0 ≡ t → halvings (suc n) e ≤ halvings n (d / 2) → halvings (suc n) e < cond t 0 (suc (halvings n (d / 2)))
    pick true i rest = let z = eqb-true d 0 i in absurd (omega arith)
    pick false i rest = omega arith
