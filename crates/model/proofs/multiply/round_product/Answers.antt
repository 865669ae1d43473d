-- `multiply::round_product` meets its contract: C ends where it is cut off, and the visits are those of the walk that formed it.
use mathlib.Core.Path.{◌≡◌, ap}
use mathlib.Core.List.{List}
use Prim.Native.Nat.{ℕ, ◌+◌, ◌-◌, ◌*◌, ◌^◌, ◌≤◌}
use native.Mathlib.Omega.{arith}
use native.Mathlib.Nat.{mul-le-mul}
use lib.IntN.{ℤ}
use lib.ListN.{length, take}
use lib.Seq.{length-take-le}
use lib.Signed.{lt_z_yes}
use Rattle.ring.specs.definitions.Integer.{ℤ_ring}
use Rattle.chebyshev.specs.definitions.Coefficients.{weight}
use Rattle.chebyshev.proofs.laws.Weight.{weight-take, weight-zeros}
use Rattle.chebyshev.specs.definitions.Product.{product}
use Rattle.chebyshev.proofs.laws.ProductLaws.{length-product}
use Rattle.chebyshev.proofs.laws.ProductWeight.{weight-product}
use Rattle.chebyshev.proofs.laws.ProductEnd.{product_end}
use Rattle.model.specs.definitions.Models.{scale, coefficient_count, product_size}
use Rattle.model.proofs.laws.RoundingPassLaws.{rounded_prefix}
use Rattle.model.proofs.multiply.round_product.Goals as goal
use Rattle.model.proofs.multiply.round_product.Lts
use Rattle.model.proofs.multiply.round_product.Reads
use Rattle.model.proofs.multiply.round_product.Tie

abbrev After-add_products-visits : Type 0
After-add_products-visits = Lts.After-add_products Tie.the-claims Reads.Pre Reads.Post Tie.handed_clauses

abbrev Start : Type 0
Start = Lts.Start Tie.the-claims Reads.Pre Reads.Post Tie.handed_clauses

module _ (s : Start) where
  abbrev a : List ℤ
  a = s.args.a.now

  abbrev b : List ℤ
  b = s.args.b.now

  abbrev end : ℕ
  end = length a + length b - 1

  abbrev C : List ℤ
  C = product ℤ_ring product_size a b

  weights : weight a * weight b ≤ 2 ^ 56
  weights = mul-le-mul s.requires.factors.first_light s.requires.factors.second_light

  lengths : length a * length b ≤ coefficient_count * coefficient_count
  lengths = mul-le-mul s.requires.factors.first_short s.requires.factors.second_short

  prefix-length : length (take end C) ≡ end
  prefix-length = length-take-le end C (omega (arith, length-product ℤ_ring product_size a b, s.requires))

-- the list that was formed
formed : (c : After-add_products-visits) → c.add_products-visits.new.c ≡ C c.before.before
unfolding product
formed c = ap (λ w. w.0) c.add_products-visits.ensures.result_after

pub round-rounded-requires : goal.round-rounded-requires
round-rounded-requires c =
    let s = c.before.before.before.before in
    rw (formed c.before.before) (record {
      kept_fits = omega (arith, s.requires);
      there = omega (arith, prefix-length s, s.requires);
      light = omega (arith, weight-take (end s) (C s), weight-product product_size (a s) (b s), weights s);
      divides = lt_z_yes tt;
    })

pub returns : goal.returns
unfolding product
returns c =
    let s = c.before.before.before.before.before in
    let p = c.before.before.before in
    let f = rounded_prefix (2 * scale) (C s) (end s) s.args.kept c.round-rounded.result (product_end product_size (end s) (a s) (b s) (omega arith)) (omega (arith, s.requires)) (rw (formed p) at c.round-rounded.ensures) in
    record { list = C s; walk_is = λ t. (C s, (p.add_products-visits.ensures.result_after t).1); rounded_from = f }

pub add_products-visits-requires : goal.add_products-visits-requires
add_products-visits-requires c =
    let s = c.before in
    record {
      b_len_bound = omega (arith, lengths s, s.requires);
      b_bound = omega (arith, weight-zeros 65, weights s, lengths s, s.requires);
      b_len_bound_2 = omega (arith, weight-zeros 65, weights s, lengths s, s.requires);
    }
