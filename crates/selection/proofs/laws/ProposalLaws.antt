-- One proposal: where it or the scratch is short, where it passes, and what a test that passes says of its coefficients.
use Rattle.std.specs.Prelude.{◌≡◌, Bool, List, Result, Ok, Err, IfOk, ℕ, ◌≤◌, ◌<◌, ltb, ℤ, length, take, drop}
use Rattle.std.specs.Result.{result_map_both}
use Rattle.std.proofs.Math.Path.{refl, ap}
use Rattle.std.proofs.Common.{sym, ◌∙◌, arith, ltb-true, ltb-false, le-ltb, lt-ltb}
use Rattle.std.proofs.Math.Bool.{true, false, cond}
use Rattle.model.specs.definitions.Models.{product_size, make_model, zero_model}
use Rattle.model.specs.definitions.Area.{candidate_size, area_candidate}
use Rattle.model.proofs.laws.AreaLaws.{candidate_front}
use Rattle.model.specs.definitions.Outcomes.{Outcome, accepted, refused, map_outcome, judged}
use Rattle.model.proofs.laws.PlaceLaws.{refused_not_accepted}
use Rattle.model.specs.definitions.Allowed.{AllowsAt}
use Rattle.model.specs.declared.types.Model.{Model}
use Rattle.model.specs.declared.types.Candidate.{Candidate}
use Rattle.model.specs.declared.types.Refusal.{Refusal}
use Rattle.certificate.specs.definitions.Tests.{scratch_size, Certificate, zero_certificate, refused_test, test_of}
use Rattle.certificate.specs.declared.types.Certificate.{Certificate as CodeCertificate}
use Rattle.certificate.specs.definitions.Quotient.{quotient_test, quotient_model}
use Rattle.certificate.specs.definitions.Promise.{QuotientAllowed}
use Rattle.certificate.proofs.laws.GroupTheorem.{quotient_as_65, quotient_below_16}
use Rattle.certificate.proofs.laws.QuotientConditions.{quotient_passes}
use Rattle.certificate.proofs.laws.PromiseLaws.{quotient_allowed}
use Rattle.selection.specs.definitions.Proposal.{proposal_size, proposed_answer, proposed_helper, proposal_needing, proposal_test, result_radius, proposal_radius}
use Rattle.selection.specs.definitions.Promise.{part_model}

-- ---- the scratch

module _ (f g : Model) (s : List ℤ) where
  pub proposal_as_65 : {len former : ℕ} → scratch_size ≤ len → product_size ≤ former → proposal_test len f g s ≡ proposal_needing product_size former f g s
  unfolding proposal_needing
  proposal_as_65 room room' =
      ap (cond (ltb (length s) proposal_size) (refused 1 zero_certificate))
      (quotient_as_65 f g (proposed_answer s) (proposed_helper s) room room')

  -- a proposal that is short is refused with 1 too
  pub proposal_below_16 : (len : ℕ) → len < scratch_size → proposal_test len f g s ≡ refused 1 zero_certificate
  unfolding proposal_needing
  proposal_below_16 len e =
      ap (cond (ltb (length s) proposal_size) (refused 1 zero_certificate))
      (quotient_below_16 f g (proposed_answer s) (proposed_helper s) len e)
      ∙ either (ltb (length s) proposal_size)
    where
      either : (t : Bool) → cond t (refused 1 zero_certificate) (refused 1 zero_certificate) ≡ refused 1 zero_certificate
      either true = refl
      either false = refl

-- ---- short and long

module _ (len : ℕ) (f g : Model) (s : List ℤ) where
  pub proposal_short : length s < proposal_size → proposal_test len f g s ≡ refused 1 zero_certificate
  unfolding proposal_needing
  proposal_short e = rw (lt-ltb (length s) proposal_size e)

  pub proposal_long : proposal_size ≤ length s → proposal_test len f g s ≡ quotient_test len f g (proposed_answer s) (proposed_helper s)
  unfolding proposal_needing
  proposal_long e = rw (le-ltb (length s) proposal_size e)

  pub short_radius : length s < proposal_size → proposal_radius len f g s ≡ refused 1 0
  unfolding zero_model
  short_radius e = ap (map_outcome result_radius) (proposal_short e)

  -- the code's candidates are read from two parts of the proposal
  pub test_read : (h w : Candidate) → proposal_size ≤ length s → h ≡ area_candidate (take candidate_size s)
      → w ≡ area_candidate (take candidate_size (drop candidate_size s)) → {o : Outcome Certificate} → o ≡ quotient_test len f g h w
      → o ≡ proposal_test len f g s
  test_read h w long eh ew e =
      let i = eh ∙ candidate_front candidate_size s (omega arith) in
      let j = ew ∙ candidate_front candidate_size (drop candidate_size s) (omega arith) in
      e ∙ (λ k. quotient_test len f g (i k) (j k)) ∙ sym (proposal_long long)

  -- and its radius from the test's result
  pub proposal_read : (t : Result CodeCertificate Refusal) → test_of t ≡ proposal_test len f g s
      → judged 0 (result_map_both (λ (c : CodeCertificate). c.model.radius) (λ (r : Refusal). r) t) ≡ proposal_radius len f g s
  unfolding zero_model
  proposal_read (Ok c) e = ap (map_outcome result_radius) e
  proposal_read (Err r) e = ap (map_outcome result_radius) e

  pub passed_radius : (c : Certificate) → accepted c ≡ proposal_test len f g s → accepted (result_radius c) ≡ proposal_radius len f g s
  passed_radius c e = ap (map_outcome result_radius) e

  pub refused_radius : (n : ℕ) → refused_test n ≡ proposal_test len f g s → refused n 0 ≡ proposal_radius len f g s
  unfolding zero_model
  refused_radius n e = ap (map_outcome result_radius) e

-- ---- a proposal that passes

module _ (len : ℕ) (f g : Model) (s : List ℤ) {c : Certificate} (passes : proposal_test len f g s ≡ accepted c) where
  -- it is not short
  pub passes_long : proposal_size ≤ length s
  passes_long = go (ltb (length s) proposal_size) refl
    where
      go : (t : Bool) → ltb (length s) proposal_size ≡ t → proposal_size ≤ length s
      go true e = absurd (refused_not_accepted (sym (proposal_short len f g s (ltb-true (length s) proposal_size e)) ∙ passes))
      go false e = ltb-false (length s) proposal_size e

  test_passes : quotient_test len f g (proposed_answer s) (proposed_helper s) ≡ accepted c
  test_passes = sym (proposal_long len f g s passes_long) ∙ passes

  -- the test's result is the proposed h with the radius
  pub proposal_result : c.model ≡ make_model (proposed_answer s).degree (proposed_answer s).coefficients c.model.radius f.interval
  unfolding quotient_model
  proposal_result =
      let same = (quotient_passes len f g (proposed_answer s) (proposed_helper s) test_passes).1 in rw same

-- ---- what is promised of it

-- of the part, where it is promised of the same coefficients with any degree
part_allowed : {f g q : Model} {n : ℕ} {cs : List ℤ} {e : ℕ} → q ≡ make_model n cs e f.interval → QuotientAllowed f g q
    → QuotientAllowed f g (part_model cs e f.interval)
unfolding AllowsAt
part_allowed same a = record {
  divisor = a.divisor;
  quotient = λ x u v on hu hv.
      rw same at (a.quotient x u v on hu hv);
}

module _ (len : ℕ) (f g : Model) (s : List ℤ) where
  pub proposal_allowed : {c : Certificate} → proposal_test len f g s ≡ accepted c
      → QuotientAllowed f g (part_model (proposed_answer s).coefficients c.model.radius f.interval)
  proposal_allowed passes =
      part_allowed (proposal_result len f g s passes) (quotient_allowed len f g (proposed_answer s) (proposed_helper s) (test_passes len f g s passes))

  -- of the code's test, from what is promised of its result
  pub proposal_promised : (t : Result CodeCertificate Refusal) → test_of t ≡ proposal_test len f g s → IfOk t (λ c. QuotientAllowed f g c.model)
      → IfOk t (λ c. QuotientAllowed f g (part_model (proposed_answer s).coefficients c.model.radius f.interval))
  proposal_promised (Ok c) e promise = part_allowed (proposal_result len f g s (sym e)) promise
  proposal_promised (Err r) e promise = tt
