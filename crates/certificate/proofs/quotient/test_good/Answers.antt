-- `quotient::test_good` meets its contract: m is tested before N is formed, and N before b. m and N do not ask for the interval.
use Rattle.std.proofs.Common.{rules}
use mathlib.Core.Path.{sym, ◌∙◌}
use Prim.Native.Nat.{◌≤◌}
use native.Mathlib.Omega.{arith}
use Rattle.model.specs.definitions.Models.{max_weight}
use Rattle.model.proofs.laws.ModelLaws.{good_is}
use Rattle.certificate.specs.definitions.Tests.{placed}
use Rattle.certificate.proofs.laws.Stages.{displacement_bound, standard_good, quotient_contraction_standard, quotient_residual_standard}
use Rattle.certificate.proofs.laws.QuotientStages.{quotient_not_contracting, quotient_large_residual, quotient_formed}
use Rattle.certificate.proofs.quotient.test_good.Goals as goal

pub quotient_contraction-m-requires : goal.quotient_contraction-m-requires
quotient_contraction-m-requires c =
    let r = c.requires in
    record { room = r.room; first_good = standard_good c.args.f.interval c.args.w.candidate.now r.good_w; second_good = r.good_g }

pub returns-then-m-ge-SCALE : goal.returns-then-m-ge-SCALE
returns-then-m-ge-SCALE c =
    let a = c.args in
    let m = c.quotient_contraction-m in
    sym (quotient_not_contracting c.requires m.result (m.ensures ∙ quotient_contraction_standard a.f.interval a.g a.w.candidate.now) c.if-m-ge-SCALE.true)

pub quotient_residual-n-requires : goal.quotient_residual-n-requires
quotient_residual-n-requires c =
    let r = c.requires in
    (record { room = search rules; first_good = r.good_g; second_good = standard_good c.args.f.interval c.args.h.candidate.now r.good_h }, r.good_f)

pub returns-then-n-gt-MAX_RADIUS : goal.returns-then-n-gt-MAX_RADIUS
returns-then-n-gt-MAX_RADIUS c =
    let a = c.args in
    let m = c.quotient_contraction-m in
    let n = c.quotient_residual-n in
    sym (quotient_large_residual c.requires m.result (m.ensures ∙ quotient_contraction_standard a.f.interval a.g a.w.candidate.now) c.if-m-ge-SCALE.false
    n.result (n.ensures ∙ quotient_residual_standard a.f.interval a.f a.g a.h.candidate.now) c.if-n-gt-MAX_RADIUS.true)

pub displacement-b-requires : goal.displacement-b-requires
displacement-b-requires c =
    (omega (arith, c.args.w.weighed, (good_is (placed c.args.f c.args.w.candidate.now) c.requires.good_w).weight-fits), c.if-n-gt-MAX_RADIUS.false)

pub radius_for-radius-requires : goal.radius_for-radius-requires
radius_for-radius-requires c =
    let a = c.args in
    let fits : a.w.weight ≤ max_weight = omega (arith, c.args.w.weighed, (good_is (placed a.f a.w.candidate.now) c.requires.good_w).weight-fits) in
    (omega (arith, c.displacement-b.ensures, displacement_bound a.w.weight c.quotient_residual-n.result fits c.if-n-gt-MAX_RADIUS.false), c.if-m-ge-SCALE.false)

pub returns : goal.returns
returns c =
    let a = c.args in
    let m = c.quotient_contraction-m in
    let n = c.quotient_residual-n in
    c.formed.ensures
    ∙ sym (quotient_formed c.requires m.result (m.ensures ∙ quotient_contraction_standard a.f.interval a.g a.w.candidate.now) c.if-m-ge-SCALE.false
    n.result (n.ensures ∙ quotient_residual_standard a.f.interval a.f a.g a.h.candidate.now) c.if-n-gt-MAX_RADIUS.false
    a.w.weight c.displacement-b.result c.radius_for-radius.result
    c.args.w.weighed c.displacement-b.ensures c.radius_for-radius.ensures)
