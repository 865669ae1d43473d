-- Numbers in f64. "Coefficients stand for units over S." "each step rounded once": each operation is lib.Ieee's at binary64, and
-- no two are fused.
use Rattle.std.specs.Prelude.{Bool, true, false, ◌&&◌, cond, List, [], ◌∷◌, ℤ, pos, negsuc, Float}
use Rattle.std.specs.Float.{fin, binary64}
use Rattle.std.specs.Float.Ieee.{sub, div, neg, lt, of_int}
use Rattle.std.specs.Float.Ieee.Scale.{finite}

-- +0, 1, 2 and S = 2^20
abbrev pub nought : Float
nought = fin false 0 (pos 0)

abbrev pub one : Float
one = fin false 1 (pos 0)

abbrev pub two : Float
two = fin false 1 (pos 1)

abbrev pub scale_value : Float
scale_value = fin false 1 (pos 20)

-- 2^-24
abbrev pub settled_limit : Float
settled_limit = fin false 1 (negsuc 23)

-- whether a whole number is below zero
abbrev pub negative : ℤ → Bool
negative (pos n) = false
negative (negsuc n) = true

-- n units: n / S
unfoldable pub value_of : ℤ → Float
value_of n = div binary64 (of_int binary64 n) scale_value

-- |x|; a zero keeps its sign
unfoldable pub magnitude : Float → Float
magnitude x = cond (lt x nought) (neg x) x

-- the rounded absolute difference
unfoldable pub difference : Float → Float → Float
difference x y = magnitude (sub binary64 x y)

-- a NaN as y is passed over: it comes of a coefficient that is not finite, for which the round is refused
unfoldable pub greater : Float → Float → Float
greater x y = cond (lt x y) y x

-- no value is a NaN or an infinity
unfoldable pub all_finite : List Float → Bool
all_finite [] = true
all_finite (x ∷ a) = finite x && all_finite a
