-- `products::add_products` meets its contract. The loop's invariant in rest form, as for a term: the terms that are left,
-- visited after the i · length b pairs that were, give all terms added to the list as it came.
use mathlib.Core.Path.{◌≡◌}
use mathlib.Core.List.{List}
use Prim.Native.Nat.{ℕ, ◌+◌, ◌*◌, ◌≤◌}
use lib.IntN.{ℤ}
use lib.ListN.{length, drop}
use Rattle.ring.specs.definitions.Integer.{ℤ_ring}
use Rattle.chebyshev.specs.definitions.Coefficients.{weight}
use Rattle.chebyshev.specs.definitions.Product.{add_terms}
use Rattle.model.proofs.products.add_products.Given as goal

pub record Walked (c₀ a b c : List ℤ) (visits i : ℕ) : Type 0 where
  pub size : length c ≡ length c₀
  pub count : visits ≡ i * length b
  pub rest : add_terms ℤ_ring (c, visits) i (drop i a) b ≡ add_terms ℤ_ring (c₀, 0) 0 a b
  pub bound : weight c + 2 * weight (drop i a) * weight b ≤ weight c₀ + 2 * weight a * weight b

abbrev pub invariant-loop-i : goal.invariant-loop-i
invariant-loop-i l = Walked l.initial.c l.a l.b l.c l.visits l.i
