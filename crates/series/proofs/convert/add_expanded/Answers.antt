-- `convert::add_expanded` meets its contract: after k turns the first k terms are expanded.
use Rattle.std.proofs.Common.{rules}
use mathlib.Core.Path.{◌≡◌, sym, ◌∙◌, ap}
use mathlib.Core.List.{List}
use Prim.Native.Nat.{ℕ, suc, ◌+◌, ◌-◌, ◌*◌, ◌<◌, ◌≤◌}
use native.Mathlib.Omega.{arith}
use lib.IntN.{ℤ, pos}
use lib.ListN.{length, get_or, take, drop}
use mir.Syntax.{w32}
use mir.Val.{SFits}
use mir.Facts.{to_z-of_z}
use Rattle.ring.specs.definitions.Integer.{ℤ_ring}
use Rattle.integer.proofs.laws.Machine.{fits_widens}
use Rattle.chebyshev.specs.definitions.Coefficients.{add_lists, scale_list}
use Rattle.chebyshev.proofs.laws.CoefficientLaws.{length-add, length-scale, add-nil, add_lists_assoc}
use Rattle.chebyshev.proofs.laws.Weight.{weight-add, weight_step, weight-scale}
use Rattle.model.specs.definitions.Models.{max_degree}
use Rattle.series.specs.definitions.Table.{expansion_row}
use Rattle.series.specs.definitions.Convert.{expanded_from}
use Rattle.series.specs.definitions.InnerContracts.{Expandable}
use Rattle.series.proofs.laws.RowLaws.{length_row, row_alternate}
use Rattle.series.proofs.laws.ConversionLaws.{row_in_table, length_table, expanded_step, expanded_end, multiple_weight}
use Rattle.series.proofs.convert.add_expanded.Invariants.{Walked}
use Rattle.series.proofs.convert.add_expanded.Goals as goal

walk : {sums₀ ps sums table : List ℤ} {k : ℕ} → Expandable sums₀ ps table → Walked sums₀ ps sums k → k < length ps
    → Walked sums₀ ps (add_lists ℤ_ring sums (scale_list ℤ_ring (get_or ps k (pos 0)) (expansion_row k))) (k + 1)
walk {sums₀} {ps} {sums} {table} {k} e w h =
    let m = scale_list ℤ_ring (get_or ps k (pos 0)) (expansion_row k) in record {
      within = omega arith;
      size = length-add ℤ_ring sums m ∙ omega (arith, w.size, length-scale ℤ_ring (get_or ps k (pos 0)) (expansion_row k), length_row k, e.room);
      rest =
          add_lists_assoc ℤ_ring sums m (expanded_from (k + 1) (drop (k + 1) ps))
          ∙ ap (add_lists ℤ_ring sums) (sym (expanded_step ps k h))
          ∙ w.rest;
      bound =
          omega (arith, w.bound, weight-add sums m, multiple_weight k (get_or ps k (pos 0)) (omega (arith, e.few)), weight_step ps k h);
    }

-- the part of the table that is lent in turn k
lent : (k : ℕ) {sums ps table : List ℤ} → Expandable sums ps table → k < length ps
    → take (33 * k + k + 1 - 33 * k) (drop (33 * k) table) ≡ expansion_row k
lent k e h =
    let n : 33 * k + k + 1 - 33 * k ≡ suc k = omega arith in
    rw (n, e.table_is) (row_in_table k (omega (arith, e.few)))

pub slice_bounds-add_multiple-end : goal.slice_bounds-add_multiple-end
slice_bounds-add_multiple-end c = omega (arith, ap length c.requires.table_is ∙ length_table, c.requires.few)

pub add_multiple-requires : goal.add_multiple-requires
add_multiple-requires c =
    let k = c.loop-k.k in
    let ps = c.args.terms.now in
    let p = get_or ps k (pos 0) in
    let b : k ≤ max_degree = omega (arith, c.requires.few) in
    let f : SFits w32 p = search rules in
    rw (lent k c.requires (omega arith))
    (simp (to_z-of_z f, to_z-of_z (fits_widens f)) (record {
      room = omega (arith, length_row k, c.loop-k.invariant, c.requires);
      light =
          omega (arith, c.loop-k.invariant, c.requires, weight-scale p (expansion_row k), multiple_weight k p b, weight_step ps k (omega arith));
      alternate = λ i m e. row_alternate k i m b (e ∙ length_row k);
    }))

pub loop-k-preserved : goal.loop-k-preserved
loop-k-preserved c =
    let f : SFits w32 (get_or c.args.terms.now c.loop-k.k (pos 0)) = search rules in
    let e = rw (lent c.loop-k.k c.requires (omega arith)) at (simp (to_z-of_z f, to_z-of_z (fits_widens f)) at c.add_multiple.ensures) in
    rw e (walk c.requires c.loop-k.invariant (omega arith))

pub returns : goal.returns
returns c =
    let l = c.loop-k in
    sym (add-nil ℤ_ring l.sums)
    ∙ ap (add_lists ℤ_ring l.sums) (sym (expanded_end c.args.terms.now l.k (omega arith)))
    ∙ l.invariant.rest
