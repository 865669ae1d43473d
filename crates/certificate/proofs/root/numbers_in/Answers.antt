-- `root::numbers_in` meets its contract: model and candidates are measured in operand order.
use mathlib.Core.Path.{◌≡◌, sym, ◌∙◌, ap}
use Prim.Native.Nat.{ℕ}
use Rattle.model.specs.definitions.Outcomes.{number_of, refused}
use Rattle.model.proofs.laws.ModelLaws.{good_ends_lem}
use Rattle.certificate.specs.definitions.InnerContracts.{zero_reach}
use Rattle.certificate.proofs.Refusing.{reach_refused}
use Rattle.certificate.proofs.laws.NumbersStages.{numbers_bad_f, numbers_bad_h, numbers_bad_w}
use Rattle.certificate.proofs.laws.Stages.{candidate_good, candidate_fault}
use Rattle.certificate.proofs.root.numbers_in.Goals as goal

-- a refusal and the number that is due
refusing : {a b : ℕ} → a ≡ b → refused a zero_reach ≡ refused b zero_reach
refusing e = ap (λ (k : ℕ). refused k zero_reach) e

pub returns-in_err-checked_weight : goal.returns-in_err-checked_weight
returns-in_err-checked_weight c =
    let a = c.args in
    let bad = c.in_err-checked_weight.ensures.err in
    reach_refused c.from_residual.result _ c.from_residual.ensures ∙ refusing bad.1 ∙ sym (numbers_bad_f a.f a.h a.w bad.0)

pub returns-in_err-checked_candidate : goal.returns-in_err-checked_candidate
returns-in_err-checked_candidate c =
    let a = c.args in
    let i = a.f.interval in
    let good_f = c.in_ok-checked_weight.ensures.ok.0 in
    let bad = c.in_err-checked_candidate.ensures.err in
    let r = c.from_residual-in_err-checked_candidate in
    reach_refused r.result _ r.ensures
    ∙ refusing (ap number_of bad.1 ∙ candidate_fault i a.h bad.0)
    ∙ sym (numbers_bad_h a.f a.h a.w good_f (candidate_good i a.h (good_ends_lem a.f good_f) ∙ bad.0))

pub returns-in_err-checked_candidate-2 : goal.returns-in_err-checked_candidate-2
returns-in_err-checked_candidate-2 c =
    let a = c.args in
    let i = a.f.interval in
    let good_f = c.in_ok-checked_weight.ensures.ok.0 in
    let ends = good_ends_lem a.f good_f in
    let bad = c.in_err-checked_candidate-2.ensures.err in
    let r = c.from_residual-in_err-checked_candidate-2 in
    reach_refused r.result _ r.ensures
    ∙ refusing (ap number_of bad.1 ∙ candidate_fault i a.w bad.0)
    ∙ sym (numbers_bad_w a.f a.h a.w good_f (candidate_good i a.h ends ∙ c.in_ok-checked_candidate.ensures.ok.0) (candidate_good i a.w ends ∙ bad.0))

pub numbers_of_good-requires : goal.numbers_of_good-requires
numbers_of_good-requires c =
    let a = c.args in
    let i = a.f.interval in
    let good_f = c.in_ok-checked_weight.ensures.ok.0 in
    let ends = good_ends_lem a.f good_f in
    let w = c.in_ok-checked_candidate-2.ensures.ok in record {
      room = c.requires;
      good_f = good_f;
      good_h = candidate_good i a.h ends ∙ c.in_ok-checked_candidate.ensures.ok.0;
      good_w = candidate_good i a.w ends ∙ w.0;
    }
