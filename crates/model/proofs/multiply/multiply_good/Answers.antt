-- `multiply::multiply_good` meets its contract.
use Rattle.std.proofs.Common.{rules}
use mathlib.Core.Path.{◌≡◌, ◌∙◌, ap}
use Prim.Native.Nat.{suc, ◌+◌, ◌*◌}
use native.Mathlib.Omega.{arith}
use native.Mathlib.Numerals.{add-one}
use lib.ListN.{length, take}
use lib.Seq.{length-take-le}
use Rattle.integer.specs.definitions.Rounding.{upℕ}
use Rattle.chebyshev.proofs.laws.Weight.{weight-take}
use Rattle.model.specs.definitions.InnerContracts.{RoundedFrom, formed_outcome}
use Rattle.model.specs.definitions.Models.{scale}
use Rattle.model.proofs.laws.ModelLaws.{Good, good_is}
use Rattle.model.specs.definitions.Multiply.{product_degree, product_list, product_visits}
use Rattle.model.proofs.laws.GoodLaws.{weight-product_list}
use Rattle.model.proofs.laws.MultiplicationLaws.{kept_is, radius_loss, walk_rounded, product_formed}
use Rattle.model.proofs.laws.RoundingPassLaws.{rounded_loss}
use Rattle.model.specs.declared.types.Model.{Model}
use Rattle.model.proofs.multiply.multiply_good.Goals.{After-round_product-product}
use Rattle.model.proofs.multiply.multiply_good.Goals as goal

-- the terms of a good model, of which there are as many as its degree says
terms_length : (m : Model) → Good m → length m.coefficients ≡ 33 → length (take (m.degree + 1) m.coefficients) ≡ m.degree + 1
terms_length m h l = length-take-le (m.degree + 1) m.coefficients (omega (arith, h, l))

pub overflow_add-top : goal.overflow_add-top
overflow_add-top c = omega (arith, good_is c.args.a c.requires.first_good, good_is c.args.b c.requires.second_good)

pub shared_ref_as_front-round_product : goal.shared_ref_as_front-round_product
shared_ref_as_front-round_product c =
    let l : length c.args.a.coefficients ≡ 33 = search rules in
    omega (arith, good_is c.args.a c.requires.first_good, l)

pub shared_ref_as_front-round_product-2 : goal.shared_ref_as_front-round_product-2
shared_ref_as_front-round_product-2 c =
    let l : length c.args.b.coefficients ≡ 33 = search rules in
    omega (arith, good_is c.args.b c.requires.second_good, l)

pub round_product-product-requires-clause-factors : goal.round_product-product-requires-clause-factors
round_product-product-requires-clause-factors c =
    let p = good_is c.args.a c.requires.first_good in
    let q = good_is c.args.b c.requires.second_good in
    let n = terms_length c.args.a p (search rules) in
    let m = terms_length c.args.b q (search rules) in
    omega (arith, n, m, weight-take (c.args.a.degree + 1) c.args.a.coefficients, weight-take (c.args.b.degree + 1) c.args.b.coefficients, p, q)

pub radius_loss-requires : goal.radius_loss-requires
radius_loss-requires c = omega (arith, c.requires, good_is c.args.a c.requires.first_good, good_is c.args.b c.requires.second_good)

-- the walk, and the list C that it formed, rounded
module _ (c : After-round_product-product) where
  degree-is : c.min-degree.result ≡ product_degree c.args.kept c.args.a c.args.b
  degree-is = omega (arith, kept_is c.args.kept c.args.a.degree c.args.b.degree c.requires.kept_fits, c.min-degree.ensures)

  walked :
      RoundedFrom (2 * scale) (product_list c.args.a c.args.b) (suc (product_degree c.args.kept c.args.a c.args.b)) c.round_product-product.result.rounded
      × (c.round_product-product.result.visits ≡ product_visits c.args.a c.args.b)
  walked = walk_rounded c.args.a c.args.b c.round_product-product.result (simp (add-one, degree-is) at c.round_product-product.ensures)

pub overflow_add-loss : goal.overflow_add-loss
overflow_add-loss c =
    let at = (goal.at.overflow_add-loss c).After-round_product-product in
    omega (arith, c.radius_loss.ensures.1, rounded_loss (2 * scale) (omega arith) (product_list c.args.a c.args.b) _ c.round_product-product.result.rounded (walked at).0, weight-product_list c.args.a c.args.b c.requires.first_good c.requires.second_good)

pub returns : goal.returns
returns c =
    let at = (goal.at.returns c).After-round_product-product in
    let p = c.round_product-product.result.rounded in
    let n : c.radius_loss.result ≡ radius_loss c.args.a c.args.b = c.radius_loss.ensures.0 ∙ (λ t. 2 * (c.requires.first_weight t * c.args.b.radius + c.requires.second_weight t * c.args.a.radius + c.args.a.radius * c.args.b.radius)) in
    let e : c.up_unsigned-radius.result ≡ upℕ (p.loss + radius_loss c.args.a c.args.b) (2 * scale) = c.up_unsigned-radius.ensures ∙ ap (λ m. upℕ (p.loss + m) (2 * scale)) n in
    let o = c.formed-outcome.ensures ∙ (λ t. formed_outcome (degree-is at t) p.coefficients p.weight (e t) c.args.a.interval) ∙ product_formed c.args.kept c.args.a c.args.b p (walked at).0 in
    record { outcome_value = o; visits_value = (walked at).1 }
