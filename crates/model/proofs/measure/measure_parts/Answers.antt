-- `measure::measure_parts` meets its contract. The loop's invariant in rest form: what is summed and what is left of the
-- weight, of all coefficients and of those beyond the degree n, is the whole of it.
use Rattle.std.proofs.Common.{rules, arith, ◌≡◌, ap, ℕ, suc, ◌+◌, ◌<◌, ◌≤◌, max, List, ℤ, pos, nat_abs, length, get_or, drop, w32, FitsSigned}
use lib.Dec.{eqb, leb}
use mathlib.Core.Bool.{◌&&◌}
use Rattle.std.proofs.Math.Bool.{and_assoc}
use mathlib.Core.Path.{◌∙◌}
use mir.Facts.{to_z-of_z}
use Rattle.chebyshev.specs.definitions.Coefficients.{weight}
use Rattle.chebyshev.proofs.laws.Weight.{weight_step, weight_end}
use Rattle.model.specs.definitions.Models.{max_degree, max_weight, parts_within_limits}
use Rattle.model.proofs.measure.measure_parts.Invariants.{left-beyond}
use Rattle.model.proofs.measure.measure_parts.Goals as goal
use Rattle.model.proofs.measure.measure_parts.Goals.{then-n-i, else-n-i}

within-degree : (n i : ℕ) (cs : List ℤ) → i ≤ n → left-beyond n i cs ≡ left-beyond n (i + 1) cs
within-degree n i cs h = let e : max i (suc n) ≡ max (i + 1) (suc n) = omega arith in ap (λ (k : ℕ). weight (drop k cs)) e

beyond-degree : (n i : ℕ) (cs : List ℤ) → i < length cs → n < i → left-beyond n i cs ≡ nat_abs (get_or cs i (pos 0)) + left-beyond n (i + 1) cs
beyond-degree n i cs l h =
    let e : max i (suc n) ≡ i = omega arith in
    let f : max (i + 1) (suc n) ≡ i + 1 = omega arith in
    rw (e, f) (weight_step cs i l)

pub loop-i-preserved : goal.loop-i-preserved
loop-i-preserved c =
    let cs = c.args.coefficients.now in
    let i = c.loop-i.i in
    let n = c.args.degree in
    let h : i < length cs = omega (arith, c.told-coefficients) in
    let fits : FitsSigned w32 (get_or cs i (pos 0)) = search rules in
    let s : c.unsigned_abs-size.result ≡ nat_abs (get_or cs i (pos 0)) = simp (to_z-of_z fits) at c.unsigned_abs-size.ensures.value in
    let b = c.unsigned_abs-size.ensures.bound in
    let t = weight_step cs i h in
    elim c.if-n-i.branch [
      | then-n-i w ↦ omega (arith, s, b, t, beyond-degree n i cs h w.if-n-i.true)
      | else-n-i w ↦ omega (arith, s, b, t, within-degree n i cs w.if-n-i.false)
    ]

-- after the loop
whole : (n i total beyond : ℕ) (cs : List ℤ) → length cs ≤ i → total + weight (drop i cs) ≡ weight cs → beyond + left-beyond n i cs ≡ left-beyond n 0 cs
    → (total ≡ weight cs) × (beyond ≡ weight (drop (suc n) cs))
whole n i total beyond cs h t b =
    let m : max 0 (suc n) ≡ suc n = omega arith in
    (omega (arith, weight_end cs i h), omega (arith, weight_end cs (max i (suc n)) (omega arith), ap (λ (k : ℕ). weight (drop k cs)) m))

pub returns : goal.returns
unfolding parts_within_limits
returns c =
    let n = c.args.degree in
    let w = c.loop-i.invariant in
    let (t, b) = whole n c.loop-i.i c.loop-i.total c.loop-i.beyond c.args.coefficients.now (omega (arith, c.told-coefficients)) w.0 w.1 in
    record {
      good_value = and_assoc (leb n max_degree) (leb c.loop-i.total max_weight) (eqb c.loop-i.beyond 0) ∙ (λ i. leb n max_degree && (leb (t i) max_weight && eqb (b i) 0));
      weight_value = t;
    }
