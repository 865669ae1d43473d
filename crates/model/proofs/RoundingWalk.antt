-- The walk of `round::round` over the kept numbers cs of a list, with the divisor d.
use mathlib.Core.Path.{◌≡◌, sym, ◌∙◌, ap}
use mathlib.Core.List.{List}
use Prim.Native.Nat.{ℕ, ◌+◌, ◌<◌, ◌≤◌}
use native.Mathlib.Omega.{arith}
use lib.IntN.{ℤ, pos, nat_abs}
use lib.ListN.{length, get_or, take, drop, set, replicate, length-replicate}
use lib.Seq.{length-take-le}
use Rattle.integer.proofs.laws.Filling as Filling
use Rattle.chebyshev.specs.definitions.Coefficients.{weight}
use Rattle.chebyshev.proofs.laws.Weight.{weight_step, weight_end}
use Rattle.model.specs.definitions.Models.{coefficient_count, max_weight}
use Rattle.model.specs.definitions.InnerContracts.{RoundedFrom}
use Rattle.model.specs.definitions.Round.{rounded, rounding_loss}
use Rattle.model.proofs.laws.RoundingPassLaws.{rounded_at, loss_at, rounded-length, rounded_at_lem, rounded-weight, loss_step, loss_end, loss_weight}

-- k of the numbers are rounded: their weight and their loss in rest form, with `dropped` lost besides; they are written as
-- long as their weight is within its limit
pub record Walk (d : ℕ) (cs : List ℤ) (dropped : ℕ) (out : List ℤ) (total loss k : ℕ) : Type 0 where
  pub within : k ≤ length cs
  pub weight_rest : total + weight (drop k (rounded d cs)) ≡ weight (rounded d cs)
  pub loss_rest : loss + rounding_loss d (drop k cs) ≡ rounding_loss d cs + dropped
  pub written : total ≤ max_weight → Filling.Filling (rounded d cs) (replicate coefficient_count (pos 0)) out 0 (length cs) k

pub begins : (d : ℕ) (cs : List ℤ) (dropped : ℕ) → length cs ≤ coefficient_count → Walk d cs dropped (replicate coefficient_count (pos 0)) 0 dropped 0
begins d cs dropped h = record {
  within = omega arith;
  weight_rest = omega arith;
  loss_rest = omega arith;
  written = λ _. Filling.begins (rounded d cs) (replicate coefficient_count (pos 0)) 0 (length cs) (rounded-length d cs) (rw length-replicate (omega arith));
}

-- a turn rounds x to q, of absolute value m, and loses n; q is stored where the weight stays within its limit
pub turn : {d : ℕ} {cs : List ℤ} {dropped : ℕ} {out : List ℤ} {total loss k : ℕ} (x q : ℤ) (m n : ℕ) (after : List ℤ) → 2 ≤ d → Walk d cs dropped out total loss k → k < length cs
    → x ≡ get_or cs k (pos 0) → q ≡ rounded_at d x → m ≡ nat_abs q → n ≡ loss_at d x → (total + m ≤ max_weight → after ≡ set out k q)
    → Walk d cs dropped after (total + m) (loss + n) (k + 1)
turn {d} {cs} {dropped} {out} {total} {loss} {k} x q m n after two w h ex eq em en stored =
    let q_is : q ≡ get_or (rounded d cs) k (pos 0) = eq ∙ ap (rounded_at d) ex ∙ sym (rounded_at_lem d two cs k) in record {
      within = omega arith;
      weight_rest = omega (arith, w.weight_rest, em, ap nat_abs q_is, weight_step (rounded d cs) k (omega (arith, rounded-length d cs)));
      loss_rest = omega (arith, w.loss_rest, en, ap (loss_at d) ex, loss_step d cs k h);
      written = λ l. rw (stored l) (Filling.turn k q (pos 0) (w.written (omega arith)) h (omega arith) q_is);
    }

-- the result, of the first n numbers of a list c
pub ends : {d : ℕ} (c : List ℤ) (n : ℕ) {out : List ℤ} {total loss k : ℕ} → n ≤ length c → Walk d (take n c) (weight (drop n c)) out total loss k → n ≤ k
    → RoundedFrom d c n (record { coefficients = out; weight = total; loss = loss })
ends {d} c n {out} {total} {loss} {k} h w l =
    let cs = take n c in
    let e : length cs ≡ n = length-take-le n c h in record {
      weight_is = omega (arith, w.weight_rest, weight_end (rounded d cs) k (omega (arith, rounded-length d cs)));
      loss_is = omega (arith, w.loss_rest, loss_end d cs k (omega arith));
      coefficients_are = λ b. Filling.padded coefficient_count (pos 0) (w.written b) (omega arith) ∙ rw e;
    }

-- neither sum is above the weight of all numbers
pub small : {d : ℕ} → 2 ≤ d → {cs : List ℤ} {dropped : ℕ} {out : List ℤ} {total loss k : ℕ} → Walk d cs dropped out total loss k → (total ≤ weight cs) × (loss ≤ weight cs + dropped)
small {d} two {cs} w = (omega (arith, w.weight_rest, rounded-weight d two cs), omega (arith, w.loss_rest, loss_weight d two cs))
