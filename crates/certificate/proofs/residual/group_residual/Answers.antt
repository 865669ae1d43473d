-- `residual::group_residual` meets its contract.
use mathlib.Core.Path.{◌≡◌, sym, ◌∙◌, ap, ap₂}
use mathlib.Core.List.{List}
use Prim.Native.Nat.{ℕ, ◌+◌, ◌*◌, ◌-◌, ◌^◌, ◌≤◌, ◌<◌, min}
use native.Mathlib.Omega.{arith}
use lib.IntN.{ℤ}
use lib.ListN.{length, drop, length-take}
use Rattle.ring.specs.definitions.Integer.{ℤ_ring}
use Rattle.chebyshev.specs.definitions.Coefficients.{weight}
use Rattle.chebyshev.proofs.laws.Weight.{weight-take, weight-drop}
use Rattle.chebyshev.specs.definitions.Product.{product}
use Rattle.chebyshev.specs.definitions.TwoSums.{places_from}
use Rattle.chebyshev.proofs.laws.Tabulated.{product-group}
use Rattle.chebyshev.proofs.laws.ProductWeight.{weight-product}
use Rattle.model.specs.definitions.Models.{scale, product_size}
use Rattle.certificate.specs.definitions.Groups.{group}
use Rattle.certificate.specs.definitions.InnerContracts.{residual_list}
use Rattle.certificate.proofs.laws.ResidualLaws.{weight_residual}
use Rattle.certificate.proofs.residual.group_residual.Goals as goal

weight-group : (n start : ℕ) (l : List ℤ) → weight (group n start l) ≤ weight l
weight-group n start l = omega (arith, weight-take n (drop start l), weight-drop start l)

formed : (n start : ℕ) (a b : List ℤ) → start + n ≤ product_size → places_from ℤ_ring n start a b ≡ group n start (product ℤ_ring product_size a b)
formed n start a b h =
    let e : min n (product_size - start) ≡ n = omega (arith, h) in
    sym (product-group ℤ_ring product_size n start a b ∙ ap (λ (m : ℕ). places_from ℤ_ring m start a b) e)

-- for what `subtract` and `weigh` require
module _ (c : goal.After-window) where
  abbrev n : ℕ
  n = length c.args.part.now

  -- the group of C
  abbrev G : List ℤ
  G = c.form.new.part

  -- and what is subtracted from it
  abbrev own : List ℤ
  own = c.window.result.now

  G-is : G ≡ group n c.args.start (product ℤ_ring product_size c.args.a.now c.args.b.now)
  G-is = c.form.ensures ∙ formed n c.args.start c.args.a.now c.args.b.now c.requires.2

  length-G : length G ≡ n
  length-G = c.form.auto.part

  own_is : own ≡ group n c.args.start c.args.f.now
  own_is = c.window.ensures ∙ ap (λ (m : ℕ). group m c.args.start c.args.f.now) length-G

  own-short : length own ≤ length G
  own-short = omega (arith, ap length own_is, length-take n (drop c.args.start c.args.f.now), length-G)

  weights : weight G + 2 * scale * weight own < 2 ^ 63
  weights =
      let p = product ℤ_ring product_size c.args.a.now c.args.b.now in
      omega (
        arith,
        ap weight G-is,
        weight-group n c.args.start p,
        weight-product product_size c.args.a.now c.args.b.now,
        c.requires.0.weights,
        ap weight own_is,
        weight-group n c.args.start c.args.f.now,
        c.requires.1.weight-fits,
      )

pub weigh-requires : goal.weigh-requires
weigh-requires c =
    let d = c.before.before in omega (arith, ap weight c.subtract.ensures, weight_residual (G d) (own d), weights d)

-- each fact from its own call and none by `before`, so that a further call in the code changes no path here
pub returns : goal.returns
returns c =
    let a = c.args in
    let n : ℕ = length a.part.now in
    let first : c.form.new.part ≡ group n a.start (product ℤ_ring product_size a.a.now a.b.now) =
    c.form.ensures ∙ formed n a.start a.a.now a.b.now c.requires.2 in
    let own : c.window.result.now ≡ group n a.start a.f.now = c.window.ensures ∙ ap (λ (m : ℕ). group m a.start a.f.now) c.form.auto.part in
    omega (arith, c.weigh.ensures, ap weight (c.subtract.ensures ∙ ap₂ residual_list first own))

pub subtract-requires : goal.subtract-requires
subtract-requires c = (own-short c, weights c)
