-- `form::two_places` meets its contract: each place by its three walks.
use Rattle.std.proofs.Common.{rules}
use mathlib.Core.Path.{◌≡◌, ◌∙◌, ap}
use mathlib.Core.List.{List}
use Prim.Native.Nat.{ℕ, ◌+◌, ◌*◌, ◌^◌, ◌≤◌, ◌<◌}
use native.Mathlib.Omega.{arith}
use lib.IntN.{ℤ, nat_abs, ◌+ℤ◌}
use mir.Syntax.{w64}
use mir.Val.{SFits}
use mir.Facts.{to_z-of_z}
use Rattle.ring.specs.definitions.Integer.{ℤ_ring}
use Rattle.ring.specs.laws.Parts.{abs-add}
use Rattle.chebyshev.specs.definitions.Coefficients.{weight}
use Rattle.chebyshev.specs.definitions.Convolution.{convolution, correlation}
use Rattle.chebyshev.proofs.laws.ConvolutionLaws.{convolution_small, correlation_small}
use Rattle.chebyshev.specs.definitions.TwoSums.{two_sums}
use Rattle.groups.proofs.PlaceSums.{place_zero, place_positive}
use Rattle.groups.proofs.form.two_places.Goals as goal

module _ (a b : List ℤ) where
  -- place k + 1
  second_is : (k : ℕ) (x y z : ℤ) → x ≡ convolution ℤ_ring (k + 2) a b → y ≡ x +ℤ correlation ℤ_ring (k + 1) b a
      → z ≡ y +ℤ correlation ℤ_ring (k + 1) a b → z ≡ two_sums ℤ_ring (k + 1) a b
  second_is k x y z e f g =
      let n : k + 2 ≡ k + 1 + 1 = omega arith in
      place_positive a b (k + 1) (omega arith) x y z (e ∙ ap (λ (t : ℕ). convolution ℤ_ring t a b) n) f g

  module _ (small : weight a * weight b ≤ 2 ^ 56) where
    begun : (t : ℕ) (x : ℤ) → x ≡ convolution ℤ_ring t a b → nat_abs x ≤ 2 ^ 56
    begun t x e = omega (arith, ap nat_abs e, convolution_small t a b, small)

    more : (t k : ℕ) (x y : ℤ) → x ≡ convolution ℤ_ring t a b → y ≡ x +ℤ correlation ℤ_ring k b a → nat_abs y < 2 ^ 61
    more t k x y e f = omega (arith, begun t x e, ap nat_abs f, abs-add x (correlation ℤ_ring k b a), correlation_small k b a, small)

pub add_correlations-y-requires : goal.add_correlations-y-requires
add_correlations-y-requires c =
    let f = c.args.factors in
    let x = c.convolutions-x in (
      omega (arith, begun f.a.now f.b.now f.small (c.args.k + 1) x.result.first x.ensures.0),
      omega (arith, begun f.a.now f.b.now f.small (c.args.k + 2) x.result.second x.ensures.1),
    )

pub add_correlations-z-requires : goal.add_correlations-z-requires
add_correlations-z-requires c =
    let f = c.args.factors in
    let k = c.args.k in
    let x = c.convolutions-x in
    let y = c.add_correlations-y in (
      more f.a.now f.b.now f.small (k + 1) k x.result.first y.result.first x.ensures.0 y.ensures.0,
      more f.a.now f.b.now f.small (k + 2) (k + 1) x.result.second y.result.second x.ensures.1 y.ensures.1,
    )

pub returns-then-k-eq0 : goal.returns-then-k-eq0
returns-then-k-eq0 c =
    let f = c.args.factors in
    let x = c.convolutions-x in
    let y = c.add_correlations-y in
    let z = c.add_correlations-z in
    let first : SFits w64 y.result.first = search rules in
    let second : SFits w64 z.result.second = search rules in
    simp (to_z-of_z first, to_z-of_z second) (
      place_zero f.a.now f.b.now c.args.k (omega arith) x.result.first y.result.first x.ensures.0 y.ensures.0,
      second_is f.a.now f.b.now c.args.k x.result.second y.result.second z.result.second x.ensures.1 y.ensures.1 z.ensures.1,
    )

pub returns : goal.returns
returns c =
    let f = c.args.factors in
    let x = c.convolutions-x in
    let y = c.add_correlations-y in
    let z = c.add_correlations-z in (
      place_positive f.a.now f.b.now c.args.k (omega arith) x.result.first y.result.first z.result.first x.ensures.0 y.ensures.0 z.ensures.0,
      second_is f.a.now f.b.now c.args.k x.result.second y.result.second z.result.second x.ensures.1 y.ensures.1 z.ensures.1,
    )
