-- `products::add_pair` meets its contract: its two places, one after the other.
use Rattle.std.proofs.Common.{arith, ◌≡◌, ◌+◌}
use mir.Facts.{to_z-of_z}
use Rattle.ring.specs.definitions.Integer.{ℤ_ring}
use Rattle.chebyshev.specs.definitions.Product.{distance, add_pair_by}
use Rattle.chebyshev.proofs.laws.ProductLaws.{length_add_at}
use Rattle.chebyshev.proofs.laws.ProductWeight.{weight_add_at}
use Rattle.model.proofs.products.add_pair.Goals as goal

pub add_at-requires-2 : goal.add_at-requires-2
add_at-requires-2 c =
    let a = c.args in
    let first = rw (to_z-of_z c.ranges.v) at c.add_at.ensures in
    simp (to_z-of_z c.ranges.v, first)
    (omega (arith, c.abs_diff.ensures, length_add_at ℤ_ring a.c.now (a.i + a.j) a.v, weight_add_at a.c.now (a.i + a.j) a.v, c.requires))

pub returns : goal.returns
unfolding add_pair_by
returns c =
    let first = rw (to_z-of_z c.ranges.v) at c.add_at.ensures in
    let apart : c.abs_diff.result ≡ distance c.args.i c.args.j = omega (arith, c.abs_diff.ensures) in
    rw (to_z-of_z c.ranges.v, first, apart) at c.add_at-2.ensures
