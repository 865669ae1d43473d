-- Of a good model the coefficients beyond the degree are zero, so that its elements, its value and its products may be taken of
-- its terms or of all its coefficients; how large its products are, and how many pairs their walk visits.
use Rattle.std.specs.Prelude.{◌≡◌, refl, true, List, [], ◌∷◌, ◌++◌, ℕ, zero, suc, ◌+◌, ◌*◌, ◌^◌, ◌≤◌, ℤ, pos, length, get_or}
use Rattle.std.proofs.Math.Path.{sym, ap₂}
use Rattle.std.proofs.Common.{◌∙◌, ap, arith, length-take, take-append-drop}
use Rattle.std.proofs.Math.Nat.{mul-le-mul}
use Rattle.std.proofs.Math.ListN.{replicate}
use Rattle.ring.specs.definitions.Integer.{ℤ_ring}
use Rattle.fraction.specs.definitions.Fraction.{ℚ, whole, ◌*ℚ◌}
use Rattle.integer.specs.definitions.FractionRing.{ℚ_ring}
use Rattle.chebyshev.specs.definitions.Coefficients.{weight}
use Rattle.chebyshev.proofs.laws.Weight.{weight-take, weight-zero}
use Rattle.chebyshev.specs.definitions.Product.{product}
use Rattle.chebyshev.proofs.laws.ProductSums.{product_zeros_left, product_zeros_right}
use Rattle.chebyshev.proofs.laws.PairVisits.{product_visits_lem}
use Rattle.chebyshev.proofs.laws.ProductLaws.{value_product_whole}
use Rattle.chebyshev.proofs.laws.ProductWeight.{weight-product}
use Rattle.model.specs.definitions.Models.{coefficient_count, product_size, max_weight, terms, beyond, good}
use Rattle.model.proofs.laws.ModelLaws.{good_is}
use Rattle.model.proofs.laws.ValueLaws.{value_at, value_at_append_zeros}
use Rattle.model.specs.definitions.Multiply.{product_list, product_visits}
use Rattle.model.specs.declared.types.Model.{Model}

pub get_d_append_zeros : (a : List ℤ) (n i : ℕ) → get_or (a ++ replicate n (pos 0)) i (pos 0) ≡ get_or a i (pos 0)
get_d_append_zeros [] zero i = refl
get_d_append_zeros [] (suc n) zero = refl
get_d_append_zeros [] (suc n) (suc i) = get_d_append_zeros [] n i
get_d_append_zeros (c ∷ a) n zero = refl
get_d_append_zeros (c ∷ a) n (suc i) = get_d_append_zeros a n i

module _ (m : Model) (h : good m ≡ true) where
  coefficients_terms : m.coefficients ≡ terms m ++ replicate (length (beyond m)) (pos 0)
  coefficients_terms =
      sym (take-append-drop (suc m.degree) m.coefficients)
      ∙ ap (λ l. terms m ++ l) (weight-zero (beyond m) (good_is m h).beyond-zero)

  pub length-terms : length (terms m) ≤ coefficient_count
  length-terms = omega (arith, length-take (suc m.degree) m.coefficients, (good_is m h).degree_fits)

  length_terms_is : length m.coefficients ≡ coefficient_count → length (terms m) ≡ m.degree + 1
  length_terms_is l = omega (arith, length-take (suc m.degree) m.coefficients, (good_is m h).degree_fits, l)

  pub weight-terms : weight (terms m) ≤ max_weight
  weight-terms = omega (arith, weight-take (suc m.degree) m.coefficients, (good_is m h).weight-fits)

  pub get_d_terms : (i : ℕ) → get_or m.coefficients i (pos 0) ≡ get_or (terms m) i (pos 0)
  get_d_terms i = ap (λ a. get_or a i (pos 0)) coefficients_terms ∙ get_d_append_zeros (terms m) (length (beyond m)) i

  pub value_terms : (x : ℚ) → value_at x m.coefficients ≡ value_at x (terms m)
  value_terms x = ap (value_at x) coefficients_terms ∙ value_at_append_zeros x (terms m) (length (beyond m))

module _ (a b : Model) (ha : good a ≡ true) (hb : good b ≡ true) where
  -- the list C of two good models is that of all their coefficients
  pub product_coefficients : product_list a b ≡ product ℤ_ring product_size a.coefficients b.coefficients
  unfolding product_list
  product_coefficients =
      sym (ap₂ (product ℤ_ring product_size) (coefficients_terms a ha) (coefficients_terms b hb)
      ∙ product_zeros_left ℤ_ring product_size (terms a) (length (beyond a)) (terms b ++ replicate (length (beyond b)) (pos 0))
      ∙ product_zeros_right ℤ_ring product_size (terms a) (terms b) (length (beyond b)))

  -- S-5, of models of degrees n and m: "exactly (n+1)·(m+1)"; every model of the code has 33 coefficients
  pub product_visits_is : length a.coefficients ≡ coefficient_count → length b.coefficients ≡ coefficient_count
      → product_visits a b ≡ (a.degree + 1) * (b.degree + 1)
  unfolding product_visits
  product_visits_is la lb = product_visits_lem ℤ_ring product_size (terms a) (terms b) ∙ ap₂ (λ (n m : ℕ). n * m) (length_terms_is a ha la) (length_terms_is b hb lb)

  pub weight-product_list : weight (product_list a b) ≤ 2 ^ 57
  unfolding product_list
  weight-product_list = omega (arith, weight-product product_size (terms a) (terms b), mul-le-mul (weight-terms a ha) (weight-terms b hb))

  -- 2·value a·value b = value C
  pub value_product_list : (x : ℚ) → whole (pos 2) *ℚ value_at x a.coefficients *ℚ value_at x b.coefficients ≡ value_at x (product_list a b)
  unfolding product_list
  value_product_list x =
      ap₂ (λ u v. whole (pos 2) *ℚ u *ℚ v) (value_terms a ha x) (value_terms b hb x)
      ∙ value_product_whole ℚ_ring x product_size (terms a) (terms b) (omega (arith, length-terms a ha, length-terms b hb))
