-- `products::add_pairs` meets its contract. The loop's invariant in rest form: the pairs that are left, visited after the k
-- that were, give the whole term added to the list as it came, and no weight is above what the whole term may bring.
use mathlib.Core.Path.{◌≡◌}
use mathlib.Core.List.{List}
use Prim.Native.Nat.{ℕ, ◌+◌, ◌*◌, ◌≤◌}
use lib.IntN.{ℤ, nat_abs}
use lib.ListN.{length, drop}
use Rattle.ring.specs.definitions.Integer.{ℤ_ring}
use Rattle.chebyshev.specs.definitions.Coefficients.{weight}
use Rattle.chebyshev.specs.definitions.Product.{add_term}
use Rattle.model.proofs.products.add_pairs.Given as goal

pub record Walked (c₀ : List ℤ) (x : ℤ) (i j : ℕ) (b c : List ℤ) (k : ℕ) : Type 0 where
  pub size : length c ≡ length c₀
  pub rest : add_term ℤ_ring (c, k) x i (j + k) (drop k b) ≡ add_term ℤ_ring (c₀, 0) x i j b
  pub bound : weight c + 2 * nat_abs x * weight (drop k b) ≤ weight c₀ + 2 * nat_abs x * weight b

abbrev pub invariant-loop-k : goal.invariant-loop-k
invariant-loop-k l = Walked l.initial.c l.x l.i l.j l.b l.c l.k
