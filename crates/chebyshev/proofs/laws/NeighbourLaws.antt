-- Laws of a list times 2·x (Neighbours.antt): its value, its multiples, its places, its length, its weight, whole numbers
-- in the ring.
use Rattle.std.specs.Prelude.{◌≡◌, ℕ, suc, ◌*◌, ◌≤◌, ℤ, pos, ◌*ℤ◌, length, get_or}
use Rattle.std.proofs.Math.Path.{refl, sym, ap}
use Rattle.std.proofs.Common.{◌∙◌, ap₂}
use mathlib.Core.List.{List, [], ◌∷◌, map}
use native.Mathlib.Omega.{arith}
use Rattle.ring.specs.definitions.Ring.{CommutativeRing}
use Rattle.ring.specs.definitions.Integer.{ℤ_ring}
use Rattle.ring.specs.laws.Parts.{abs-mul}
use Rattle.ring.proofs.laws.Solver.{reify, solve}
use Rattle.chebyshev.specs.definitions.Recurrences.{first_kind}
use Rattle.chebyshev.specs.definitions.Coefficients.{value_from, value, add_lists, scale_list, weight}
use Rattle.chebyshev.specs.definitions.Neighbours.{neighbour_sums}
use Rattle.chebyshev.proofs.laws.CoefficientLaws.{value_from_add, length-add, get_d_add, scale-add, map_ι_add}
use Rattle.chebyshev.proofs.laws.Weight.{weight-add}

module _ (R : CommutativeRing) where
  open R use {A, add as ◌⊕◌, mul as ◌⊗◌, opp as ⊖◌, ι, zero-add, ι_mul}

  infixl 6 ◌⊕◌
  infixl 7 ◌⊗◌
  infix 8 ⊖◌
  -- Σ c_i·(T_(k+2+i) + T_(k+i)) = 2·x·Σ c_i·T_(k+1+i)
  value_from_neighbours : (x : A) (k : ℕ) (cs : List A)
      → value_from R x (suc (suc k)) cs ⊕ value_from R x k cs ≡ ι (pos 2) ⊗ x ⊗ value_from R x (suc k) cs
  unfolding value_from first_kind
  value_from_neighbours x k [] = solve R (x ∷ []) (search reify depth 20) (search reify depth 20) tt
  value_from_neighbours x k (c ∷ cs) =
      solve R (x ∷ c ∷ first_kind R x k ∷ first_kind R x (suc k) ∷ value_from R x (suc (suc (suc k))) cs ∷ value_from R x (suc k) cs ∷ []) (search reify depth 20) (search reify depth 20) tt
      ∙ ap (λ v. ι (pos 2) ⊗ x ⊗ (c ⊗ first_kind R x (suc k)) ⊕ v) (value_from_neighbours x (suc k) cs)
      ∙ solve R (x ∷ c ∷ first_kind R x (suc k) ∷ value_from R x (suc (suc k)) cs ∷ []) (search reify depth 20) (search reify depth 20) tt

  pub value_neighbours : (x : A) (e : List A) → value R x (neighbour_sums R e) ≡ ι (pos 2) ⊗ x ⊗ value R x e
  unfolding value value_from first_kind neighbour_sums
  value_neighbours x [] = solve R (x ∷ []) (search reify depth 20) (search reify depth 20) tt
  value_neighbours x (e ∷ es) =
      value_from_add R x 0 _ es
      ∙ solve R (x ∷ e ∷ value_from R x 2 es ∷ value_from R x 0 es ∷ []) (search reify depth 20) (search reify depth 20) tt
      ∙ ap (λ v. ι (pos 2) ⊗ x ⊗ e ⊕ v) (value_from_neighbours x 0 es)
      ∙ solve R (x ∷ e ∷ value_from R x 1 es ∷ []) (search reify depth 20) (search reify depth 20) tt

  pub map_ι_neighbours : (e : List ℤ) → map ι (neighbour_sums ℤ_ring e) ≡ neighbour_sums R (map ι e)
  unfolding neighbour_sums
  map_ι_neighbours [] = refl
  map_ι_neighbours (e ∷ es) =
      map_ι_add R (pos 0 ∷ (pos 2 *ℤ e) ∷ es) es ∙ ap (λ v. add_lists R (ι (pos 0) ∷ v ∷ map ι es) (map ι es)) (ι_mul (pos 2) e)

  pub scale_neighbours : (s : A) (e : List A) → neighbour_sums R (scale_list R s e) ≡ scale_list R s (neighbour_sums R e)
  unfolding neighbour_sums scale_list
  scale_neighbours s [] = refl
  scale_neighbours s (e ∷ es) =
      ap (λ l. add_lists R l (scale_list R s es)) (ap₂ (λ u v. u ∷ v ∷ scale_list R s es) zero twice)
      ∙ sym (scale-add R s (ι (pos 0) ∷ (ι (pos 2) ⊗ e) ∷ es) es)
    where
      zero : ι (pos 0) ≡ s ⊗ ι (pos 0)
      zero = solve R (s ∷ []) (search reify depth 20) (search reify depth 20) tt

      twice : ι (pos 2) ⊗ (s ⊗ e) ≡ s ⊗ (ι (pos 2) ⊗ e)
      twice = solve R (s ∷ e ∷ []) (search reify depth 20) (search reify depth 20) tt

  -- ---- the places

  pub neighbours_zeroth : (e : List A) → get_or (neighbour_sums R e) 0 (ι (pos 0)) ≡ get_or e 1 (ι (pos 0))
  unfolding neighbour_sums
  neighbours_zeroth [] = refl
  neighbours_zeroth (e ∷ es) = get_d_add R (ι (pos 0) ∷ (ι (pos 2) ⊗ e) ∷ es) es 0 ∙ zero-add (get_or es 0 (ι (pos 0)))

  pub neighbours_first : (e : List A) → get_or (neighbour_sums R e) 1 (ι (pos 0)) ≡ ι (pos 2) ⊗ get_or e 0 (ι (pos 0)) ⊕ get_or e 2 (ι (pos 0))
  unfolding neighbour_sums
  neighbours_first [] = solve R [] (search reify depth 20) (search reify depth 20) tt
  neighbours_first (e ∷ es) = get_d_add R (ι (pos 0) ∷ (ι (pos 2) ⊗ e) ∷ es) es 1

  pub neighbours_at : (e : List A) (i : ℕ)
      → get_or (neighbour_sums R e) (suc (suc i)) (ι (pos 0)) ≡ get_or e (suc i) (ι (pos 0)) ⊕ get_or e (suc (suc (suc i))) (ι (pos 0))
  unfolding neighbour_sums
  neighbours_at [] i = solve R [] (search reify depth 20) (search reify depth 20) tt
  neighbours_at (e ∷ es) i = get_d_add R (ι (pos 0) ∷ (ι (pos 2) ⊗ e) ∷ es) es (suc (suc i))

  pub length_neighbours : (e : A) (es : List A) → length (neighbour_sums R (e ∷ es)) ≡ suc (suc (length es))
  unfolding neighbour_sums
  length_neighbours e es = length-add R (ι (pos 0) ∷ (ι (pos 2) ⊗ e) ∷ es) es ∙ omega arith

pub weight_neighbours : (e : List ℤ) → weight (neighbour_sums ℤ_ring e) ≤ 2 * weight e
unfolding neighbour_sums weight
weight_neighbours [] = omega arith
weight_neighbours (e ∷ es) = omega (arith, weight-add (pos 0 ∷ (pos 2 *ℤ e) ∷ es) es, abs-mul (pos 2) e)
