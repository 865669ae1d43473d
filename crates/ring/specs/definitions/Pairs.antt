-- Fractions as pairs of a numerator and a denominator, not yet made equal where they are the same fraction.
use Rattle.std.specs.Prelude.{◌≡◌, Bool, ℕ, zero, suc, ◌+◌, ◌*◌, ℤ, pos, negsuc, nat_abs, ◌+ℤ◌, ◌*ℤ◌}
use Rattle.std.specs.Int.Signed.{le_z}

-- num / (1 + below)
pub record Pair : Type 0 where
  pub num : ℤ
  pub below : ℕ

abbrev pub pair : ℤ → ℕ → Pair
pair a b = record { num = a; below = b }

-- 1 + b as a whole number, and the denominator 1 + `den_product b d` of a product
unfoldable pub den : ℕ → ℤ
den b = pos (suc b)

unfoldable pub den_product : ℕ → ℕ → ℕ
den_product b d = b * d + b + d

-- the same fraction: a/b = c/d where a·d = c·b
abbrev pub cross : Pair → Pair → Type 0
cross x y = x.num *ℤ den y.below ≡ y.num *ℤ den x.below

abbrev pub sum_pair : Pair → Pair → Pair
sum_pair x y = pair (x.num *ℤ den y.below +ℤ y.num *ℤ den x.below) (den_product x.below y.below)

abbrev pub product_pair : Pair → Pair → Pair
product_pair x y = pair (x.num *ℤ y.num) (den_product x.below y.below)

-- 1/x, and 0 for x = 0
unfoldable pub invert : ℤ → ℕ → Pair
invert (pos zero) b = pair (pos 0) 0
invert (pos (suc n)) b = pair (pos (suc b)) n
invert (negsuc n) b = pair (negsuc b) n

abbrev pub inverse_pair : Pair → Pair
inverse_pair x = invert x.num x.below

abbrev pub abs_pair : Pair → Pair
abs_pair x = pair (pos (nat_abs x.num)) x.below

abbrev pub le_pair : Pair → Pair → Bool
le_pair x y = le_z (x.num *ℤ den y.below) (y.num *ℤ den x.below)
