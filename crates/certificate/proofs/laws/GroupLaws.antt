-- Document 02, S-17: groups of any length from 1 give the weight of the whole list.
use Rattle.std.specs.Prelude.{◌≡◌, refl, List, [], ◌∷◌, ℕ, zero, suc, ◌+◌, ◌*◌, ◌≤◌, ◌<◌, max, ℤ, length, drop}
use Rattle.std.proofs.Common.{sym, ◌∙◌, ap₂, arith, drop_of_length-le, drop-drop}
use Rattle.std.proofs.Math.Path.{ap}
use Rattle.ring.specs.definitions.Integer.{ℤ_ring}
use Rattle.integer.proofs.laws.RoundingLaws.{le-upℕ}
use Rattle.chebyshev.specs.definitions.Coefficients.{weight, add_lists, subtract_lists}
use Rattle.chebyshev.proofs.laws.Weight.{weight_subtract_split}
use Rattle.chebyshev.specs.definitions.Product.{product}
use Rattle.chebyshev.proofs.laws.ProductLaws.{length-product}
use Rattle.chebyshev.proofs.laws.Tabulated.{product-group}
use Rattle.model.specs.definitions.Models.{product_size}
use Rattle.certificate.specs.definitions.Groups.{group, product_group, weight_in_groups, group_count, constant_in_groups, difference_in_groups}

-- a group of C is that of the whole list
group_is : (n s : ℕ) (a b : List ℤ) → product_group n s a b ≡ group n s (product ℤ_ring product_size a b)
unfolding product_group
group_is n s a b = sym (product-group ℤ_ring product_size n s a b)

nothing : weight (subtract_lists ℤ_ring [] []) ≡ 0
unfolding weight subtract_lists add_lists
nothing = refl

groups_whole : (n count start : ℕ) (c d : List ℤ) → length c ≤ start + count * n → length d ≤ start + count * n
    → weight_in_groups n count start (λ s. subtract_lists ℤ_ring (group n s c) (group n s d)) ≡ weight (subtract_lists ℤ_ring (drop start c) (drop start d))
unfolding weight_in_groups
groups_whole n zero start c d hc hd = sym (rw (drop_of_length-le c {i = start} (omega arith), drop_of_length-le d {i = start} (omega arith)) nothing)
groups_whole n (suc count) start c d hc hd =
    ap (λ k. weight (subtract_lists ℤ_ring (group n start c) (group n start d)) + k)
    (groups_whole n count (start + n) c d (omega arith) (omega arith)
    ∙ sym (ap₂ (λ k l. weight (subtract_lists ℤ_ring k l)) (drop-drop n start c) (drop-drop n start d)))
    ∙ sym (weight_subtract_split n (drop start c) (drop start d))

module _ (n : ℕ) (some : 0 < n) where
  enough : (l : List ℤ) → (product_size ≤ 0 + group_count n l * n) × (length l ≤ 0 + group_count n l * n)
  enough l = let e = le-upℕ (max product_size (length l)) n some in (omega (arith, e), omega (arith, e))

  pub constant_groups : (z : ℤ) (a b : List ℤ)
      → constant_in_groups n z a b ≡ weight (subtract_lists ℤ_ring (z ∷ []) (product ℤ_ring product_size a b))
  unfolding constant_in_groups
  constant_groups z a b =
      ap (weight_in_groups n (group_count n (z ∷ [])) 0) (λ i s. subtract_lists ℤ_ring (group n s (z ∷ [])) (group_is n s a b i))
      ∙ groups_whole n (group_count n (z ∷ [])) 0 (z ∷ []) (product ℤ_ring product_size a b) (enough (z ∷ [])).1
      (omega (arith, (enough (z ∷ [])).0, length-product ℤ_ring product_size a b))

  pub difference_groups : (a b d : List ℤ)
      → difference_in_groups n a b d ≡ weight (subtract_lists ℤ_ring (product ℤ_ring product_size a b) d)
  unfolding difference_in_groups
  difference_groups a b d =
      ap (weight_in_groups n (group_count n d) 0) (λ i s. subtract_lists ℤ_ring (group_is n s a b i) (group n s d))
      ∙ groups_whole n (group_count n d) 0 (product ℤ_ring product_size a b) d
      (omega (arith, (enough d).0, length-product ℤ_ring product_size a b)) (enough d).1
