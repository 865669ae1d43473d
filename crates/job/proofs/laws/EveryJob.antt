-- Requirement 3 of every list of bytes, from its definition alone: over areas that are long enough, a job that ends with the results rs
-- is accepted with their count, and they are the models in the work area; a job that meets no refusal is such a job.
use Rattle.std.specs.Prelude.{◌≡◌, Bool, List, ◌⊎◌, ℕ, ℤ, length}
use Rattle.std.proofs.Common.{sym, ◌∙◌, ap, subst, inl, inr}
use Rattle.model.specs.definitions.Outcomes.{Passed, First}
use Rattle.model.proofs.laws.PlaceLaws.{none_first, first_or_passed}
use Rattle.model.specs.declared.types.Model.{Model}
use Rattle.job.specs.definitions.Outcomes.{JobOutcome, accepted}
use Rattle.job.specs.definitions.Run.{job_outcome}
use Rattle.job.specs.definitions.Order.{EndsWith, Meets}
use Rattle.job.specs.definitions.Work.{models_in}
use Rattle.job.specs.definitions.Requirement.{Made, Results, Requirement3}
use Rattle.job.proofs.laws.OrderLaws.{accepted_exactly, accepted_unless_refused}
use Rattle.job.proofs.laws.Accepted.{accepted_read}
use Rattle.job.proofs.laws.MadeUnique.{made_unique}
use Rattle.job.proofs.laws.WorkLaws.{length-models_in}

module _ {areas : List (Bool × ℕ)} {job : List ℕ} {answer : JobOutcome ℕ} {work : List ℤ} (claim : Requirement3 areas job answer work) where
  module _ (fit : Passed areas) {rs : List Model} (ends : EndsWith job rs) where
    ends_so : job_outcome job ≡ accepted rs
    ends_so = (accepted_exactly job rs).1 ends

    meets_none : (n k : ℕ) → ¬ Meets areas job n k
    meets_none n k (inl m) = none_first fit m.0
    meets_none n k (inr m) = (accepted_unless_refused job).0 (rs, ends_so) n k m.1

    answered : (count : ℕ) × (answer ≡ accepted count)
    answered = claim.accepts meets_none

    abbrev results : Results job answered.0 work
    results = claim.results answered.0 answered.1

    models_are : models_in work answered.0 ≡ rs
    models_are =
        let r = accepted_read job rs ends_so in
        let e : r.0 ≡ results.commands = cc (r.1, results.read) in
        made_unique results.made (subst (λ l. Made l rs) e r.2)

    count_is : answered.0 ≡ length rs
    count_is = sym (length-models_in work answered.0) ∙ ap length models_are

    pub ends_accepted : answer ≡ accepted (length rs)
    ends_accepted = answered.1 ∙ ap accepted count_is

    pub ends_models : models_in work (length rs) ≡ rs
    ends_models = ap (models_in work) (sym count_is) ∙ models_are

  -- "it is accepted if it meets no numbered refusal", with the results at whose end it comes
  pub none_accepted : ((n k : ℕ) → ¬ Meets areas job n k) → (rs : List Model) × EndsWith job rs × (answer ≡ accepted (length rs))
  none_accepted none = by (first_or_passed areas)
    where
      by : ((n : ℕ) × First areas n) ⊎ Passed areas → (rs : List Model) × EndsWith job rs × (answer ≡ accepted (length rs))
      by (inl m) = absurd (none m.0 0 (inl (m.1, λ t. 0)))
      by (inr fit) =
          let a = (accepted_unless_refused job).1 (λ n k m. none n k (inr (fit, m))) in
          let ends = (accepted_exactly job a.0).0 a.1 in
          (a.0, ends, ends_accepted fit ends)
