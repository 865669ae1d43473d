-- The walk of `convert::add_multiple`: it fills the places of a row with sums + p·row, two in each turn, the one that it writes and
-- the one behind it, where the row is zero.
use mathlib.Core.Path.{◌≡◌, refl, sym, ◌∙◌, ap, ap₂}
use mathlib.Core.List.{List, ◌++◌}
use Prim.Native.Nat.{ℕ, zero, suc, ◌+◌, ◌-◌, ◌*◌, ◌/◌, ◌%◌, ◌<◌, ◌≤◌, min}
use native.Mathlib.Omega.{arith}
use lib.IntN.{ℤ, pos, ◌+ℤ◌, ◌*ℤ◌}
use lib.ListN.{length, get_or, set, take, drop}
use lib.Seq.{length-take-le, get_or-take}
use Rattle.ring.specs.laws.Difference.{all2, differences}
use Rattle.ring.specs.definitions.Integer.{ℤ_ring}
use Rattle.integer.proofs.laws.Filling.{Filling, begins, turn, skip, next, ends}
use Rattle.chebyshev.specs.definitions.Coefficients.{add_lists, scale_list}
use Rattle.chebyshev.proofs.laws.CoefficientLaws.{length-add, length-scale, get_d_add, get_d_scale, add_split}
use Rattle.series.specs.definitions.InnerContracts.{Addable}

-- the places of the row in sums + p·row
abbrev pub filled : List ℤ → ℤ → List ℤ → List ℤ
filled sums p row = add_lists ℤ_ring (take (length row) sums) (scale_list ℤ_ring p row)

-- all places before j are filled, of which there are no more than the row's; m turns are left
pub record Walked (sums₀ : List ℤ) (p : ℤ) (row sums : List ℤ) (j : ℕ) : Type 0 where
  pub turns : (m : ℕ) × (j + 2 * m ≡ length row + 1)
  pub done : Filling (filled sums₀ p row) sums₀ sums 0 (length row) (min j (length row))

length_filled : (sums : List ℤ) (p : ℤ) (row : List ℤ) → length row ≤ length sums → length (filled sums p row) ≡ length row
length_filled sums p row h =
    length-add ℤ_ring (take (length row) sums) (scale_list ℤ_ring p row)
    ∙ omega (arith, length-take-le (length row) sums h, length-scale ℤ_ring p row)

-- where the row is zero, the sum stays
filled_zero : (sums : List ℤ) (p : ℤ) (row : List ℤ) (i : ℕ) → i < length row → get_or row i (pos 0) ≡ pos 0
    → get_or sums i (pos 0) ≡ get_or (filled sums p row) i (pos 0)
filled_zero sums p row i h z =
    sym (get_d_add ℤ_ring (take (length row) sums) (scale_list ℤ_ring p row) i
    ∙ ap₂ ◌+ℤ◌ (get_or-take (length row) sums i (pos 0) h) (get_d_scale ℤ_ring p row i ∙ ap (λ y. p *ℤ y) z)
    ∙ unchanged (get_or sums i (pos 0)) p)
  where
    unchanged : (x p : ℤ) → x +ℤ p *ℤ pos 0 ≡ x
    unchanged = all2 _ (simp differences (omega arith))

-- a place where the row is zero is passed over
pass : {sums₀ : List ℤ} (p : ℤ) (row : List ℤ) {sums : List ℤ} {i : ℕ} → Filling (filled sums₀ p row) sums₀ sums 0 (length row) i → i < length row
    → get_or row i (pos 0) ≡ pos 0 → Filling (filled sums₀ p row) sums₀ sums 0 (length row) (i + 1)
pass {sums₀} p row {sums} {i} f h z =
    skip i (pos 0) f h (omega arith) (next i (pos 0) f (omega arith) ∙ filled_zero sums₀ p row i h z)

-- before the first turn
pub start_at : {sums : List ℤ} {p : ℤ} {row : List ℤ} → Addable sums p row → (j : ℕ) → j ≡ 1 - length row % 2 → Walked sums p row sums j
start_at {sums} {p} {row} e j h = record { turns = ((length row + 1) / 2, omega arith); done = by (length row) refl j h }
  where
    none : Filling (filled sums p row) sums sums 0 (length row) 0
    none = begins (filled sums p row) sums 0 (length row) (length_filled sums p row e.room) (omega (arith, e.room))

    by : (n : ℕ) → length row ≡ n → (j : ℕ) → j ≡ 1 - length row % 2 → Filling (filled sums p row) sums sums 0 (length row) (min j (length row))
    by zero l j h = let q : min j (length row) ≡ 0 = omega arith in rw q none
    by (suc n) l zero h = let q : min 0 (length row) ≡ 0 = omega arith in rw q none
    by (suc zero) l (suc j) h = absurd (omega arith)
    by (suc (suc n)) l (suc j) h =
        let q : min (suc j) (length row) ≡ 0 + 1 = omega arith in
        rw q (pass p row none (omega arith) (e.alternate 0 (n / 2) (omega arith)))

-- a turn stores v at place j
pub turn_at : {sums₀ : List ℤ} {p : ℤ} {row sums : List ℤ} {j : ℕ} (v : ℤ) → Addable sums₀ p row → Walked sums₀ p row sums j → j < length row
    → v ≡ get_or (filled sums₀ p row) j (pos 0) → Walked sums₀ p row (set sums j v) (j + 2)
turn_at {sums₀} {p} {row} {sums} {j} v e w h ev = record { turns = (w.turns.0 - 1, omega (arith, w.turns.1)); done = by (length row - (j + 1)) refl }
  where
    at_j : min j (length row) ≡ j
    at_j = omega arith

    stored : Filling (filled sums₀ p row) sums₀ (set sums j v) 0 (length row) (j + 1)
    stored = turn j v (pos 0) (rw at_j at w.done) h (omega arith) ev

    by : (left : ℕ) → length row - (j + 1) ≡ left → Filling (filled sums₀ p row) sums₀ (set sums j v) 0 (length row) (min (j + 2) (length row))
    by zero l = let q : min (j + 2) (length row) ≡ j + 1 = omega arith in rw q stored
    by (suc left) l =
        let q : min (j + 2) (length row) ≡ j + 1 + 1 = omega arith in
        rw q (pass p row stored (omega arith) (e.alternate (j + 1) (w.turns.0 - 2) (omega (arith, w.turns.1))))

-- after the last turn; the places behind the row stay
pub end_at : {sums₀ : List ℤ} {p : ℤ} {row sums : List ℤ} {j : ℕ} → Addable sums₀ p row → Walked sums₀ p row sums j → length row ≤ j
    → sums ≡ add_lists ℤ_ring sums₀ (scale_list ℤ_ring p row)
end_at {sums₀} {p} {row} e w h = ends w.done (omega arith) ∙ all
  where
    all : filled sums₀ p row ++ drop (0 + length row) sums₀ ≡ add_lists ℤ_ring sums₀ (scale_list ℤ_ring p row)
    all =
        let n : 0 + length row ≡ length row = omega arith in
        let w : length (scale_list ℤ_ring p row) ≡ length row = length-scale ℤ_ring p row in
        rw n (sym (rw w at (add_split ℤ_ring sums₀ (scale_list ℤ_ring p row) (omega (arith, e.room)))))
