-- A list of coefficients times 2·x.
use Rattle.std.specs.Prelude.{List, [], ◌∷◌, pos}
use Rattle.ring.specs.definitions.Ring.{CommutativeRing}
use Rattle.chebyshev.specs.definitions.Coefficients.{add_lists}

module _ (R : CommutativeRing) where
  open R use {A, mul as ◌⊗◌, ι}

  infixl 7 ◌⊗◌
  -- By the product rule 2·x·T_j = T_(j+1) + T_|j−1|: each place has the sum of its two neighbours, where place 0 has only one,
  -- and place 1 has e_0 twice.
  unfoldable pub neighbour_sums : List A → List A
  neighbour_sums [] = []
  neighbour_sums (e ∷ es) = add_lists R (ι (pos 0) ∷ (ι (pos 2) ⊗ e) ∷ es) es
