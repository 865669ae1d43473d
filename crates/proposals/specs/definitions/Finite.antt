-- "a value isn't finite, while making": that every value of a product and of a round is finite, those on its way too.
use Rattle.std.specs.Prelude.{◌≡◌, Bool, true, ◌&&◌, List, [], ◌∷◌, ◌++◌, map, ℕ, length, replicate, Float}
use Rattle.std.specs.Float.{binary64}
use Rattle.std.specs.Float.Ieee.{add, mul}
use Rattle.std.specs.Float.Ieee.Scale.{finite}
use Rattle.chebyshev.specs.definitions.Product.{Walk, add_term_by, add_terms_by}
use Rattle.model.specs.definitions.Models.{coefficient_count}
use Rattle.proposals.specs.definitions.Values.{nought, difference, all_finite}
use Rattle.proposals.specs.definitions.Product.{product}
use Rattle.proposals.specs.definitions.Rounds.{two_less, improved, change_from}

-- ---- a product: every product of two elements, the sums after every pair, and the halves

-- the walk of pairs in f64: of one element with a list, and of a list with a list
abbrev pub walk_term : Walk Float → Float → ℕ → ℕ → List Float → Walk Float
walk_term = add_term_by (add binary64) (mul binary64)

abbrev pub walk_terms : Walk Float → ℕ → List Float → List Float → Walk Float
walk_terms = add_terms_by (add binary64) (mul binary64)

-- the walk adds "to zero"
abbrev pub from_zero : Walk Float
from_zero = (replicate coefficient_count nought, 0)

-- every product of x with an element of b, and every product of an element of a with one of b, is finite
abbrev pub products_finite : Float → List Float → Bool
products_finite x b = all_finite (map (mul binary64 x) b)

unfoldable pub all_products_finite : List Float → List Float → Bool
all_products_finite [] b = true
all_products_finite (x ∷ a) b = products_finite x b && all_products_finite a b

-- the list after any pair: those of a₀ are added, and of x those with b₀ (between a pair's two sums: half-pair-finite)
abbrev pub StatesFinite : List Float → List Float → Type 0
StatesFinite a b = (a₀ : List Float) (x : Float) (a₁ b₀ b₁ : List Float) → a ≡ a₀ ++ (x ∷ a₁) → b ≡ b₀ ++ b₁
    → all_finite (walk_term (walk_terms from_zero 0 a₀ b) x (length a₀) 0 b₀).0 ≡ true

pub record FiniteProduct (a b : List Float) : Type 0 where
  pub products : all_products_finite a b ≡ true
  pub states : StatesFinite a b
  pub result : all_finite (product a b) ≡ true

-- ---- a round, from w

-- the differences of which the change is the largest
unfoldable pub differences : List Float → List Float → List Float
differences [] b = []
differences (x ∷ a) [] = []
differences (x ∷ a) (y ∷ b) = difference x y ∷ differences a b

pub record FiniteThroughout (g w : List Float) : Type 0 where
  pub given : all_finite g ≡ true
  pub from : all_finite w ≡ true
  -- g·w
  pub inner : FiniteProduct g w
  -- 2 − g·w
  pub less : all_finite (two_less (product g w)) ≡ true
  -- w·(2 − g·w), the round's list
  pub outer : FiniteProduct w (two_less (product g w))
  pub made : all_finite (improved g w) ≡ true
  -- and what its change is the largest of
  pub compared : all_finite (differences (improved g w) w) ≡ true
  pub change : finite (change_from nought (improved g w) w) ≡ true
