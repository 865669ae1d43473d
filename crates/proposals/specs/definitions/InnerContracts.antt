-- What inner functions ask and give.
use Rattle.std.specs.Prelude.{◌≡◌, List, ℕ, ◌-◌, ◌^◌, ◌<◌, min, ℤ, pos, negsuc, length, get_or, Float}
use Rattle.proposals.specs.definitions.Units.{units_of}

-- a number whose size is cut at 2^29: a list with a larger one is refused by its weight all the same (UnitsLaws.antt)
abbrev pub limited : ℤ → ℤ
limited (pos n) = pos (min n (2 ^ 29))
limited (negsuc n) = negsuc (min n (2 ^ 29 - 1))

unfoldable pub limited_units : Float → ℤ
limited_units x = limited (units_of x)

-- what R relates each element of one list to, place by place, is another list
pub record Each {A B : Type 0} (R : A → B → Type 0) (xs : List A) (ys : List B) : Type 0 where
  pub long : length ys ≡ length xs
  pub at : (k : ℕ) (d : A) (e : B) → k < length xs → R (get_or xs k d) (get_or ys k e)
