-- A term of the walk over all pairs (Product.antt) in passes over places that follow one another.
use Rattle.std.specs.Prelude.{List, [], ◌∷◌, ℕ, suc}
use Rattle.chebyshev.specs.definitions.Product.{add_at_by}

-- x times the elements of b, added at the places p, p+1, … of a list; nothing where it has no such place
module _ {A : Type 0} (◌⊕◌ ◌⊗◌ : A → A → A) where
  infixl 7 ◌⊗◌
  unfoldable pub add_from_by : List A → A → ℕ → List A → List A
  add_from_by c x p [] = c
  add_from_by c x p (y ∷ b) = add_from_by (add_at_by ◌⊕◌ c p (x ⊗ y)) x (suc p) b
