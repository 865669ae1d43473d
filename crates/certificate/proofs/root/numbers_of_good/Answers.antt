-- `root::numbers_of_good` meets its contract: m is tested before N is formed, and N before b. m and N do not ask for the interval.
use Rattle.std.proofs.Common.{rules}
use mathlib.Core.Path.{◌≡◌, sym, ◌∙◌, ap}
use native.Mathlib.Omega.{arith}
use lib.IntN.{ℤ, pos}
use lib.Signed.{le_z}
use mir.Syntax.{w64}
use mir.Val.{SFits, to_z, of_z}
use mir.Facts.{to_z-of_z}
use Rattle.model.specs.definitions.Outcomes.{accepted}
use Rattle.model.proofs.laws.ModelLaws.{good_is}
use Rattle.certificate.specs.definitions.Tests.{scratch_size, placed}
use Rattle.certificate.specs.definitions.InnerContracts.{root_reach, make_reach}
use Rattle.certificate.proofs.laws.NumbersStages.{numbers_helper, numbers_not_contracting, numbers_large_residual, numbers_reached}
use Rattle.certificate.proofs.laws.RootStages.{root_reached_is, root_numbers_last}
use Rattle.certificate.proofs.laws.Stages.{standard_good, root_contraction_standard, root_residual_standard}
use Rattle.certificate.proofs.root.numbers_of_good.Goals as goal
use Rattle.certificate.proofs.root.numbers_of_good.Goals.{After-displacement-b}

-- the code's test of the sign
sign : (z : ℤ) {s : ℤ} → SFits w64 z → z ≡ s → le_z (to_z w64 (of_z w64 z)) (pos 0) ≡ le_z s (pos 0)
sign z fits e = ap (λ t. le_z t (pos 0)) (to_z-of_z fits ∙ e)

pub returns-then-total-le0 : goal.returns-then-total-le0
returns-then-total-le0 c = sym (numbers_helper c.requires (sym (sign c.total.result (record { sfits = c.total.type_inv }) c.total.ensures) ∙ c.if-total-le0.true))

pub root_contraction-m-requires : goal.root_contraction-m-requires
root_contraction-m-requires c =
    let r = c.requires in
    let i = c.args.f.interval in
    record { room = r.room; first_good = standard_good i c.args.w.candidate.now r.good_w; second_good = standard_good i c.args.h.now r.good_h }

pub returns-then-m-ge-SCALE : goal.returns-then-m-ge-SCALE
returns-then-m-ge-SCALE c =
    let a = c.args in
    let m = c.root_contraction-m in
    sym (numbers_not_contracting c.requires (sym (sign c.total.result (record { sfits = c.total.type_inv }) c.total.ensures) ∙ c.if-total-le0.false)
    m.result (m.ensures ∙ root_contraction_standard a.f.interval a.h.now a.w.candidate.now) c.if-m-ge-SCALE.true)

pub root_residual-n-requires : goal.root_residual-n-requires
root_residual-n-requires c =
    let r = c.requires in
    let good_h = standard_good c.args.f.interval c.args.h.now r.good_h in
    (record { room = search rules; first_good = good_h; second_good = good_h }, r.good_f)

pub returns-then-n-gt-MAX_RADIUS : goal.returns-then-n-gt-MAX_RADIUS
returns-then-n-gt-MAX_RADIUS c =
    let a = c.args in
    let m = c.root_contraction-m in
    let n = c.root_residual-n in
    sym (numbers_large_residual c.requires (sym (sign c.total.result (record { sfits = c.total.type_inv }) c.total.ensures) ∙ c.if-total-le0.false)
    m.result (m.ensures ∙ root_contraction_standard a.f.interval a.h.now a.w.candidate.now) c.if-m-ge-SCALE.false
    n.result (n.ensures ∙ root_residual_standard a.f.interval a.f a.h.now) c.if-n-gt-MAX_RADIUS.true)

pub displacement-b-requires : goal.displacement-b-requires
displacement-b-requires c =
    (omega (arith, c.args.w.weighed, (good_is (placed c.args.f c.args.w.candidate.now) c.requires.good_w).weight-fits), c.if-n-gt-MAX_RADIUS.false)

reached : (c : After-displacement-b) → root_reach scratch_size c.args.f c.args.h.now c.args.w.candidate.now
    ≡ accepted (make_reach c.args.w.weight c.root_contraction-m.result c.root_residual-n.result c.displacement-b.result)
reached c =
    let a = c.args in
    let m = c.root_contraction-m in
    let n = c.root_residual-n in
    numbers_reached c.requires (sym (sign c.total.result (record { sfits = c.total.type_inv }) c.total.ensures) ∙ c.if-total-le0.false)
    m.result (m.ensures ∙ root_contraction_standard a.f.interval a.h.now a.w.candidate.now) c.if-m-ge-SCALE.false
    n.result (n.ensures ∙ root_residual_standard a.f.interval a.f a.h.now) c.if-n-gt-MAX_RADIUS.false
    a.w.weight c.displacement-b.result c.args.w.weighed c.displacement-b.ensures

pub invariant_of-result : goal.invariant_of-result
invariant_of-result c =
    let a = c.args in
    let m = c.root_contraction-m.result in
    let n = c.root_residual-n.result in
    let b = c.displacement-b.result in
    record { last = root_numbers_last scratch_size a.f a.h.now a.w.candidate.now a.w.weight m n b (root_reached_is scratch_size a.f a.h.now a.w.candidate.now a.w.weight m n b (reached c)) }

pub returns : goal.returns
returns c = sym (reached c.before)
