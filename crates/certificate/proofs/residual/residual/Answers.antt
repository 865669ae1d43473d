-- `residual::residual` meets its contract: what is summed and what is left of the residual's weight is the whole of it.
use mathlib.Core.Path.{◌≡◌, ◌∙◌, ap}
use mathlib.Core.List.{List}
use Prim.Native.Nat.{ℕ, ◌+◌, ◌^◌, ◌<◌}
use native.Mathlib.Omega.{arith}
use lib.IntN.{ℤ}
use lib.ListN.{length, take, drop, length-append, length-take, length-drop}
use lib.Seq.{length-take-le}
use Rattle.chebyshev.specs.definitions.Coefficients.{weight}
use Rattle.chebyshev.proofs.laws.ProductWeight.{weight-product}
use Rattle.model.specs.definitions.Models.{product_size}
use Rattle.certificate.specs.definitions.Groups.{group}
use Rattle.certificate.specs.definitions.InnerContracts.{residual_list}
use Rattle.certificate.proofs.laws.ResidualLaws.{weight_residual, residual_group, residual_end}
use Rattle.certificate.proofs.residual.residual.Invariants.{C}
use Rattle.certificate.proofs.residual.residual.Goals as goal

-- after a group
module _ (c : goal.After-part-1) where
  abbrev f : List ℤ
  f = c.args.f.now

  abbrev D : List ℤ
  D = C c.args.a.now c.args.b.now

  abbrev n : ℕ
  n = c.min-n.result

  abbrev here : ℕ
  here = c.loop-start.start

  first_part : length (take n c.loop-start.part) ≡ n
  first_part = length-take-le n c.loop-start.part (omega (arith, c.min-n.ensures))

  turn : c.loop-start.sum + c.group_residual-sum.result + weight (residual_list (drop (here + n) D) (drop (here + n) f)) ≡ weight (residual_list D f)
  turn =
      let e = c.group_residual-sum.ensures ∙ ap (λ (m : ℕ). weight (residual_list (group m here D) (group m here f))) first_part in
      omega (arith, c.loop-start.invariant.1, residual_group D f here n, e)

  whole-small : weight (residual_list D f) < 2 ^ 64
  whole-small =
      omega (arith, weight_residual D f, weight-product product_size c.args.a.now c.args.b.now, c.requires.1.weights, c.requires.2.weight-fits)

pub overflow_add-sum : goal.overflow_add-sum
overflow_add-sum c = omega (arith, turn c, whole-small c)

pub loop-start-preserved : goal.loop-start-preserved
loop-start-preserved c =
    let r = c.group_residual-sum in
    let p = c.loop-start.part in
    (omega (arith, length-append r.new.part (drop (n c) p), length-drop (n c) p, r.auto.part, first_part c, length-take (n c) p, c.loop-start.invariant.0), turn c)

pub returns : goal.returns
returns c =
    let a = c.args in
    let g = c.max-end.ensures in
    omega (arith, c.loop-start.invariant.1, residual_end a.a.now a.b.now a.f.now c.loop-start.start (omega (arith, g)) (omega (arith, g)))
