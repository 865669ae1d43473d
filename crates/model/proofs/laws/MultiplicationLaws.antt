-- Laws of multiplication (Multiply.antt) for code that forms the product.
use Rattle.std.specs.Prelude.{◌≡◌, refl, Bool, true, false, not, cond, ◌&&◌, ℕ, suc, ◌+◌, ◌-◌, ◌*◌, ◌≤◌, max, ltb, eqb, take}
use Rattle.std.proofs.Common.{sym, ◌∙◌, ap, subst, arith, ltb-false, ne_eqb, le-ltb}
use Rattle.ring.specs.definitions.Integer.{ℤ_ring}
use Rattle.integer.specs.definitions.Rounding.{upℕ}
use Rattle.chebyshev.specs.definitions.Coefficients.{weight}
use Rattle.chebyshev.specs.definitions.Product.{product, product_walk}
use Rattle.chebyshev.proofs.laws.Weight.{weight_append_zeros}
use Rattle.model.specs.definitions.InnerContracts.{RoundedFrom, RoundedWalk, formed_outcome, unless_large}
use Rattle.model.specs.definitions.Intervals.{same_interval}
use Rattle.model.specs.definitions.Models.{scale, coefficient_count, product_size, max_degree, good, terms}
use Rattle.model.specs.definitions.Outcomes.{passing}
use Rattle.model.specs.definitions.Multiply.{bad_kept, kept_degree, product_degree, product_list, product_visits, product_loss, product_model, multiplication}
use Rattle.model.specs.definitions.Round.{rounded}
use Rattle.model.proofs.laws.FormedLaws.{formed_is}
use Rattle.model.proofs.laws.ModelLaws.{good_is}
use Rattle.model.specs.declared.types.Model.{Model}
use Rattle.model.specs.declared.round.Rounded.{Rounded}
use Rattle.model.specs.declared.multiply.RoundedProduct.{RoundedProduct}

-- a kept degree within the limit stands for itself
pub kept_is : (d n m : ℕ) → d ≤ max_degree → kept_degree d n m ≡ d
kept_is d n m h = rw (ne_eqb d 255 (λ e. omega arith))

-- between factors within the limit what a kept degree stands for is within it
pub kept_within : (d n m : ℕ) → bad_kept d ≡ false → n ≤ max_degree → m ≤ max_degree → kept_degree d n m ≤ max_degree
kept_within d n m h p q = by (eqb d 255) h
  where
    by : (t : Bool) → (not t && ltb max_degree d) ≡ false → cond t (max n m) d ≤ max_degree
    by true e = omega arith
    by false e = ltb-false max_degree d e

-- what the radii lose: 2(A·e_b + B·e_a + e_a·e_b)
abbrev pub radius_loss : Model → Model → ℕ
radius_loss a b = 2 * (weight a.coefficients * b.radius + weight b.coefficients * a.radius + a.radius * b.radius)

-- the walk of two models: the list C, rounded, and its visits
pub walk_rounded : {n : ℕ} (a b : Model) (r : RoundedProduct) → RoundedWalk (2 * scale) (product_walk ℤ_ring product_size (terms a) (terms b)) n r
    → RoundedFrom (2 * scale) (product_list a b) n r.rounded × (r.visits ≡ product_visits a b)
unfolding product_list product product_visits
walk_rounded {n} a b r w =
    (subst (λ c. RoundedFrom (2 * scale) c n r.rounded) (ap (λ v. v.0) w.walk_is) w.rounded_from, ap (λ v. v.1) w.walk_is)

-- the result from the rounded list C
pub product_formed : (d : ℕ) (a b : Model) (r : Rounded) → RoundedFrom (2 * scale) (product_list a b) (suc (product_degree d a b)) r
    → formed_outcome (product_degree d a b) r.coefficients r.weight (upℕ (r.loss + radius_loss a b) (2 * scale)) a.interval ≡ unless_large (product_model d a b)
unfolding product_model product_loss
product_formed d a b r f =
    let m = product_model d a b in
    let n = product_degree d a b in
    let w : r.weight ≡ weight m.coefficients = f.weight_is ∙ sym (weight_append_zeros (rounded (2 * scale) (take (suc n) (product_list a b))) (coefficient_count - suc n)) in
    let e : upℕ (r.loss + radius_loss a b) (2 * scale) ≡ m.radius = ap (λ l. upℕ (l + radius_loss a b) (2 * scale)) f.loss_is in
    (λ t. formed_outcome n r.coefficients (w t) (e t) a.interval) ∙ formed_is m r.coefficients (λ h. f.coefficients_are (omega arith))

-- of two good models on one interval and a kept degree within its limit only the result is tested
pub multiplication_of_good : (d : ℕ) (a b : Model) → good a ≡ true → good b ≡ true
    → same_interval a.interval b.interval ≡ true → bad_kept d ≡ false
    → unless_large (product_model (kept_degree d a.degree b.degree) a b) ≡ multiplication d a b
unfolding multiplication unless_large passing product_model
multiplication_of_good d a b p q s h =
    let n = kept_degree d a.degree b.degree in
    let k = kept_within d a.degree b.degree h (good_is a p).degree_fits (good_is b q).degree_fits in
    rw (p, q, s, h, kept_is n a.degree b.degree k)

-- 02, S-27: "in the library 255, means the larger degree of the two factors", whatever the models
pub larger_kept : (a b : Model) → multiplication 255 a b ≡ multiplication (max a.degree b.degree) a b
unfolding multiplication passing product_model
larger_kept a b = by (good a) refl (good b) refl
  where
    n : ℕ
    n = max a.degree b.degree

    by : (s : Bool) → good a ≡ s → (t : Bool) → good b ≡ t → multiplication 255 a b ≡ multiplication n a b
    by false p t q = rw p refl
    by true p false q = rw (p, q) refl
    by true p true q =
        let h : n ≤ max_degree = omega (arith, (good_is a p).degree_fits, (good_is b q).degree_fits) in
        rw (p, q, ne_eqb n 255 (λ e. omega arith), le-ltb max_degree n h) refl
