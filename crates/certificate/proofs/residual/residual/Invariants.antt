-- `residual::residual` meets its contract: what is summed and what is left of the residual's weight is the whole of it.
use mathlib.Core.Path.{◌≡◌}
use mathlib.Core.List.{List}
use Prim.Native.Nat.{◌+◌, ◌-◌}
use lib.IntN.{ℤ}
use lib.ListN.{length, drop}
use Rattle.ring.specs.definitions.Integer.{ℤ_ring}
use Rattle.chebyshev.specs.definitions.Coefficients.{weight}
use Rattle.chebyshev.specs.definitions.Product.{product}
use Rattle.model.specs.definitions.Models.{product_size}
use Rattle.certificate.specs.definitions.InnerContracts.{residual_list}
use Rattle.certificate.proofs.residual.residual.Given as goal

abbrev pub C : List ℤ → List ℤ → List ℤ
C a b = product ℤ_ring product_size a b

abbrev pub invariant-loop-start : goal.invariant-loop-start
invariant-loop-start l =
    (length l.part ≡ length l.initial.part) × (l.sum + weight (residual_list (drop l.start (C l.a l.b)) (drop l.start l.f)) ≡ weight (residual_list (C l.a l.b) l.f))

abbrev pub decreases-loop-start : goal.decreases-loop-start
decreases-loop-start l = l.end - l.start
