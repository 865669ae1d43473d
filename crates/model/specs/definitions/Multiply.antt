-- Document 01, "Plain operations": multiply.
use Rattle.std.specs.Prelude.{Bool, not, cond, ◌&&◌, List, [], ◌∷◌, ◌++◌, ℕ, suc, ◌+◌, ◌*◌, ◌-◌, min, max, ltb, eqb, ℤ, pos, replicate, take, drop}
use Rattle.ring.specs.definitions.Integer.{ℤ_ring}
use Rattle.integer.specs.definitions.Rounding.{upℕ}
use Rattle.chebyshev.specs.definitions.Coefficients.{weight}
use Rattle.chebyshev.specs.definitions.Product.{product, product_walk}
use Rattle.model.specs.definitions.Models.{scale, max_degree, coefficient_count, product_size, terms, make_model, zero_model}
use Rattle.model.specs.definitions.Models.{bad_place, different_place, large_place}
use Rattle.model.specs.definitions.Outcomes.{Outcome, outcome}
use Rattle.model.specs.definitions.Round.{rounded, rounding_loss}
use Rattle.model.specs.declared.types.Model.{Model}

-- "kept degree, in the library: 9, not 0 to 32 and not 255"
abbrev pub bad_kept : ℕ → Bool
bad_kept d = not (eqb d 255) && ltb max_degree d

-- the kept degree that d stands for between factors of degrees n and m; 02, S-27: "in the library 255, means the larger degree of
-- the two factors"
abbrev pub kept_degree : ℕ → ℕ → ℕ → ℕ
kept_degree d n m = cond (eqb d 255) (max n m) d

-- the list C of two models
unfoldable pub product_list : Model → Model → List ℤ
product_list a b = product ℤ_ring product_size (terms a) (terms b)

-- how many pairs the walk that forms it visits (02, S-5)
unfoldable pub product_visits : Model → Model → ℕ
product_visits a b = (product_walk ℤ_ring product_size (terms a) (terms b)).1

abbrev pub product_degree : ℕ → Model → Model → ℕ
product_degree d a b = min (kept_degree d a.degree b.degree) (a.degree + b.degree)

-- "E = Σ|C_k − 2S·c_k| over kept k + Σ|C_k| over dropped k + 2(A·e_b + B·e_a + e_a·e_b)"
unfoldable pub product_loss : ℕ → Model → Model → ℕ
product_loss n a b =
    rounding_loss (2 * scale) (take (suc n) (product_list a b))
    + weight (drop (suc n) (product_list a b))
    + 2 * (weight a.coefficients * b.radius + weight b.coefficients * a.radius + a.radius * b.radius)

-- "The result has degree min(d, sum of the degrees), coefficients c_k = near(C_k/(2S)), and radius up(E/(2S))"
unfoldable pub product_model : ℕ → Model → Model → Model
product_model d a b =
    let n = product_degree d a b in
    make_model n
    (rounded (2 * scale) (take (suc n) (product_list a b)) ++ replicate (coefficient_count - suc n) (pos 0))
    (upℕ (product_loss n a b) (2 * scale))
    a.interval

abbrev pub multiplication_places : ℕ → Model → Model → List (Bool × ℕ)
multiplication_places d a b =
    bad_place a ∷ bad_place b ∷ different_place a b ∷ (bad_kept d, 9) ∷ large_place (product_model d a b) ∷ []

unfoldable pub multiplication : ℕ → Model → Model → Outcome Model
multiplication d a b = outcome (multiplication_places d a b) (product_model d a b) zero_model
