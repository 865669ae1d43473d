-- Good models by their terms, in the residuals of the tests; and how large the numbers of the tests become.
use mathlib.Core.Path.{◌≡◌, ◌∙◌, ap, ap₂}
use mathlib.Core.Bool.{true}
use mathlib.Core.List.{List, [], ◌∷◌}
use Prim.Native.Nat.{ℕ, suc, ◌*◌, ◌^◌, ◌≤◌, ◌<◌}
use native.Mathlib.Omega.{arith}
use native.Mathlib.Nat.{mul-le-mul}
use lib.IntN.{ℤ, pos}
use lib.ListN.{length}
use Rattle.ring.specs.definitions.Integer.{ℤ_ring}
use Rattle.chebyshev.specs.definitions.Coefficients.{weight, subtract_lists}
use Rattle.chebyshev.specs.definitions.Product.{product}
use Rattle.model.specs.definitions.Models.{scale, product_size, max_weight, terms, good}
use Rattle.model.proofs.laws.ModelLaws.{good_is}
use Rattle.model.specs.definitions.Multiply.{product_list}
use Rattle.model.proofs.laws.GoodLaws.{length-terms, weight-terms, weight-product_list}
use Rattle.model.specs.declared.types.Model.{Model}
use Rattle.certificate.specs.definitions.InnerContracts.{residual_list, ProductTerms, Subtrahend, Ready}
use Rattle.certificate.proofs.laws.ResidualLaws.{weight_residual, weight_residual_take, weight-constant}

residual_range : {part : List ℤ} {a b : Model} → Ready part a b → (f : List ℤ) → weight f ≤ max_weight
    → weight (residual_list (product_list a b) f) ≤ 2 ^ 58
residual_range {part} {a} {b} r f h = omega (arith, weight-product_list a b r.first_good r.second_good, weight_residual (product_list a b) f, h)

-- a constant as a list of one coefficient
pub constant : (n : ℕ) → n ≤ max_weight → Subtrahend (pos n ∷ [])
unfolding weight
constant n h = record { short = omega arith; weight-fits = omega arith }

-- x and y are the terms of a and b
module _ {part : List ℤ} {a b : Model} (r : Ready part a b) {x y : List ℤ} (ex : x ≡ terms a) (ey : y ≡ terms b) where
  pub factors : 0 < length x → 0 < length y → ProductTerms x y
  factors sx sy =
      let ha = r.first_good in
      let hb = r.second_good in record {
        first_some = sx;
        second_some = sy;
        whole = omega (arith, ap length ex, ap length ey, length-terms a ha, length-terms b hb);
        weights = rw (ex, ey) (mul-le-mul (weight-terms a ha) (weight-terms b hb));
      }

  product_is : product ℤ_ring product_size x y ≡ product_list a b
  unfolding product_list
  product_is = ap₂ (product ℤ_ring product_size) ex ey

  -- the weight of C − 2S·f, f by its terms, and of 2S·k − C; and how large they are
  module _ {n : ℕ} where
    pub of_model : (f : Model) → good f ≡ true → {z : List ℤ} → z ≡ terms f → n ≡ weight (residual_list (product ℤ_ring product_size x y) z)
        → (n ≡ weight (residual_list (product_list a b) f.coefficients)) × (n ≤ 2 ^ 58)
    of_model f h ez e =
        let is =
        e ∙ ap₂ (λ c l. weight (residual_list c l)) product_is ez
        ∙ weight_residual_take (suc f.degree) (product_list a b) f.coefficients (good_is f h).beyond-zero
        in
        (is, omega (arith, is, residual_range r f.coefficients (good_is f h).weight-fits))

    pub of_constant : (k : ℕ) → k ≤ max_weight → n ≡ weight (residual_list (product ℤ_ring product_size x y) (pos k ∷ []))
        → (n ≡ weight (subtract_lists ℤ_ring (pos (2 * scale * k) ∷ []) (product_list a b))) × (n ≤ 2 ^ 58)
    of_constant k h e =
        let is = e ∙ ap (λ c. weight (residual_list c (pos k ∷ []))) product_is in
        (is ∙ weight-constant (pos k) (product_list a b), omega (arith, is, residual_range r (pos k ∷ []) (constant k h).weight-fits))

pub subtrahend : (f : Model) → good f ≡ true → {z : List ℤ} → z ≡ terms f → Subtrahend z
subtrahend f h e = record { short = omega (arith, ap length e, length-terms f h); weight-fits = omega (arith, ap weight e, weight-terms f h) }

-- the error term M·e, where code holds a's weight as a number M and e is b's radius
pub error_range : (M : ℕ) (a b : Model) → good a ≡ true → good b ≡ true → M ≡ weight a.coefficients → (M ≤ 2 ^ 28) × (M * b.radius ≤ 2 ^ 56)
error_range M a b ha hb e =
    let fits : M ≤ 2 ^ 28 = omega (arith, (good_is a ha).weight-fits) in
    (fits, mul-le-mul fits (good_is b hb).radius_fits)
