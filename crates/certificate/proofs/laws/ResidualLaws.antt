-- The lists whose weights the tests take: elements, weights, and a group of places and the rest.
use Rattle.std.specs.Prelude.{◌≡◌, List, [], ◌∷◌, ◌++◌, ℕ, suc, ◌+◌, ◌*◌, ◌≤◌, max, ℤ, pos, ◌-ℤ◌, ◌*ℤ◌, length, get_or, take, drop}
use Rattle.std.proofs.Common.{ap, ap₂, ◌∙◌, arith, length-take, take_all, drop-drop}
use Rattle.ring.specs.definitions.Integer.{ℤ_ring}
use Rattle.chebyshev.specs.definitions.Coefficients.{weight, subtract_lists, scale_list}
use Rattle.chebyshev.proofs.laws.CoefficientLaws.{length_subtract, length-scale, get_d_subtract, get_d_scale, subtract_split, take-scale, drop_scale}
use Rattle.chebyshev.proofs.laws.Weight.{weight_subtract, weight-scale, weight_end, weight-difference, weight_subtract_none, weight_subtract_split}
use Rattle.chebyshev.specs.definitions.Product.{product}
use Rattle.chebyshev.proofs.laws.ProductEnd.{product_end}
use Rattle.model.specs.definitions.Models.{scale, product_size}
use Rattle.certificate.specs.definitions.Groups.{group}
use Rattle.certificate.specs.definitions.InnerContracts.{residual_list}

module _ (c f : List ℤ) where
  pub length_residual : length (residual_list c f) ≡ max (length c) (length f)
  length_residual = length_subtract ℤ_ring c (scale_list ℤ_ring (pos (2 * scale)) f) ∙ ap (max (length c)) (length-scale ℤ_ring (pos (2 * scale)) f)

  pub at_residual : (k : ℕ) → get_or (residual_list c f) k (pos 0) ≡ get_or c k (pos 0) -ℤ pos (2 * scale) *ℤ get_or f k (pos 0)
  at_residual k = get_d_subtract ℤ_ring c (scale_list ℤ_ring (pos (2 * scale)) f) k ∙ ap (λ z. get_or c k (pos 0) -ℤ z) (get_d_scale ℤ_ring (pos (2 * scale)) f k)

  pub weight_residual : weight (residual_list c f) ≤ weight c + 2 * scale * weight f
  weight_residual = omega (arith, weight_subtract c (scale_list ℤ_ring (pos (2 * scale)) f), weight-scale (pos (2 * scale)) f)

  -- where f is the shorter list, only its places differ from C
  pub residual_split : length f ≤ length c → residual_list c f ≡ residual_list (take (length f) c) f ++ drop (length f) c
  residual_split h =
      rw (length-scale ℤ_ring (pos (2 * scale)) f) at (subtract_split ℤ_ring c (scale_list ℤ_ring (pos (2 * scale)) f) (omega (arith, length-scale ℤ_ring (pos (2 * scale)) f)))

-- n places, and the rest
weight_residual_split : (c f : List ℤ) (n : ℕ) → weight (residual_list c f) ≡ weight (residual_list (take n c) (take n f)) + weight (residual_list (drop n c) (drop n f))
weight_residual_split c f n =
    weight_subtract_split n c (scale_list ℤ_ring (pos (2 * scale)) f)
    ∙ ap₂ (λ k l. weight (subtract_lists ℤ_ring (take n c) k) + weight (subtract_lists ℤ_ring (drop n c) l))
    (take-scale ℤ_ring n (pos (2 * scale)) f) (drop_scale ℤ_ring n (pos (2 * scale)) f)

-- from place `start` on
pub residual_group : (c f : List ℤ) (start n : ℕ)
    → weight (residual_list (drop start c) (drop start f))
    ≡ weight (residual_list (group n start c) (group n start f)) + weight (residual_list (drop (start + n) c) (drop (start + n) f))
residual_group c f start n =
    weight_residual_split (drop start c) (drop start f) n
    ∙ ap₂ (λ k l. weight (residual_list (group n start c) (group n start f)) + weight (residual_list k l)) (drop-drop n start c) (drop-drop n start f)

-- zeros of f do not count
weight_residual_none : (c f : List ℤ) → weight f ≡ 0 → weight (residual_list c f) ≡ weight c
weight_residual_none c f e = weight_subtract_none c (scale_list ℤ_ring (pos (2 * scale)) f) (omega (arith, weight-scale (pos (2 * scale)) f, e))

-- nor do those behind its first n places
pub weight_residual_take : (n : ℕ) (c f : List ℤ) → weight (drop n f) ≡ 0 → weight (residual_list c (take n f)) ≡ weight (residual_list c f)
weight_residual_take n c f e =
    let short : length (take n f) ≤ n = omega (arith, length-take n f) in
    omega (
      arith,
      weight_residual_split c f n,
      weight_residual_split c (take n f) n,
      ap (λ l. weight (residual_list (take n c) l)) (take_all n (take n f) short),
      weight_residual_none (drop n c) (drop n f) e,
      weight_residual_none (drop n c) (drop n (take n f)) (weight_end (take n f) n short),
    )

-- nothing is left where C and f have ended
pub residual_end : (a b f : List ℤ) (start : ℕ) → length a + length b ≤ suc start → length f ≤ start
    → weight (residual_list (drop start (product ℤ_ring product_size a b)) (drop start f)) ≡ 0
residual_end a b f start h l =
    weight_residual_none (drop start (product ℤ_ring product_size a b)) (drop start f) (weight_end f start l) ∙ product_end product_size start a b h

-- 2S·y stands at place 0 for the coefficient y
pub weight-constant : (y : ℤ) (c : List ℤ) → weight (residual_list c (y ∷ [])) ≡ weight (subtract_lists ℤ_ring ((pos (2 * scale) *ℤ y) ∷ []) c)
unfolding scale_list
weight-constant y c = weight-difference c ((pos (2 * scale) *ℤ y) ∷ [])
