-- `root::total` meets its contract. The loop's invariant in rest form: what is summed and the sum of what is left is the
-- whole sum; k coefficients sum to at most k·2^31.
use mathlib.Core.Path.{◌≡◌}
use Prim.Native.Nat.{◌*◌, ◌^◌, ◌≤◌}
use lib.IntN.{nat_abs, ◌+ℤ◌}
use lib.ListN.{drop}
use Rattle.chebyshev.specs.definitions.Coefficients.{coefficient_sum}
use Rattle.certificate.proofs.root.total.Given as goal

abbrev pub invariant-loop-x : goal.invariant-loop-x
invariant-loop-x l = record {
  rest : l.sum +ℤ coefficient_sum (drop l.x-index l.coefficients) ≡ coefficient_sum l.coefficients;
  small : nat_abs l.sum ≤ l.x-index * 2 ^ 31;
}
