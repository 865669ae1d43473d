-- Requirement 3 put to use on the job of ExampleJob.antt, from its definition alone and over areas that are long enough: the job is
-- accepted with its thirteen results, each is the model that 01 gives for it, and allows its exact value at 1/3.
use Rattle.std.specs.Prelude.{◌≡◌, refl, Bool, List, ℕ, ◌<◌, ℤ}
use Rattle.std.proofs.Common.{ap, sym, ◌∙◌}
use Rattle.std.proofs.Math.Path.{subst⁻¹}
use Rattle.std.specs.Int.Signed.{le_z_yes}
use Rattle.fraction.proofs.laws.FractionLaws.{whole_is}
use Rattle.ring.proofs.laws.PairLaws.{den_is}
use Rattle.integer.proofs.laws.FractionOrder.{fraction_le, fraction_neg}
use Rattle.model.specs.definitions.Outcomes.{Passed}
use Rattle.model.specs.definitions.Allowed.{Allows, OnInterval}
use Rattle.job.specs.definitions.Outcomes.{JobOutcome, accepted}
use Rattle.job.specs.definitions.Order.{EndsWith}
use Rattle.job.proofs.laws.OrderLaws.{accepted_exactly}
use Rattle.job.proofs.laws.EveryJob.{ends_accepted, ends_models}
use Rattle.job.specs.definitions.Work.{stored_result, models_in}
use Rattle.job.specs.definitions.Requirement.{Permitted, Overlaps, Results, Requirement3}
use Rattle.job.proofs.laws.WorkLaws.{models_in_at}
use Rattle.job.specs.definitions.Operations.{result_at}
use Rattle.model.specs.definitions.Intervals.{standard_interval}
use Rattle.model.proofs.laws.StandardInterval.{on_standard}
use Rattle.model.specs.declared.types.Model.{Model}
use Rattle.job.specs.definitions.ExactValues.{Exact}
use Rattle.job.proofs.laws.ExampleJob.{example_job, example_commands, example_results, example_read, example_run}
use Rattle.job.proofs.laws.ExampleValues.{upto_at, third, example_value, example_exact}
use Rattle.job.proofs.laws.ExampleBoxes.{example_box, example_permitted}
use Rattle.job.proofs.laws.ExactAllowed.{exact_allowed}

inside : OnInterval standard_interval third
inside = on_standard (simp (whole_is, fraction_neg, fraction_le, den_is) (le_z_yes tt)) (simp (whole_is, fraction_le, den_is) (le_z_yes tt))

-- all its results are on −S and S
all_standard : (i : ℕ) → i < 13 → (result_at example_results i).interval ≡ standard_interval
all_standard = upto_at (λ i. (result_at example_results i).interval ≡ standard_interval) 13 (((((((((((((tt, refl), refl), refl), refl), refl), refl), refl), refl), refl), refl), refl), refl), refl)

-- ---- what the definition says of it

module _ {areas : List (Bool × ℕ)} {answer : JobOutcome ℕ} {work : List ℤ} (claim : Requirement3 areas example_job answer work)
    (fit : Passed areas) where
  ends : EndsWith example_job example_results
  ends = (accepted_exactly example_job example_results).0 example_run

  -- it is accepted with thirteen results, and these are its models
  pub example_answer : answer ≡ accepted 13
  example_answer = ends_accepted claim fit ends

  pub example_models : models_in work 13 ≡ example_results
  example_models = ends_models claim fit ends

  abbrev results : Results example_job 13 work
  results = claim.results 13 example_answer

  commands_are : results.commands ≡ example_commands
  commands_are = cc (results.read, example_read)

  inside_at : (i : ℕ) → i < 13 → OnInterval (stored_result work i).interval third
  inside_at i h =
      let e : stored_result work i ≡ result_at example_results i = sym (models_in_at work 13 i h) ∙ ap (λ l. result_at l i) example_models in
      subst⁻¹ (λ k. OnInterval k third) (ap (λ (m : Model). m.interval) e ∙ all_standard i h) inside

  -- its exact values at 1/3 are allowed by the models in the work area
  pub example_allowed : (i : ℕ) → i < 13 → Allows (stored_result work i) third (example_value i)
  example_allowed i h =
      exact_allowed claim example_answer third h (inside_at i h)
      (subst⁻¹ (λ l. Exact l third example_value i) commands_are (example_exact i h))

  -- and its boxes overlap them
  pub example_overlaps : (i : ℕ) → i < 13 → Overlaps (example_box i) (stored_result work i) third
  example_overlaps i h =
      (results.vouched i h third (inside_at i h)).overlaps example_box
      (subst⁻¹ (λ l. Permitted l third example_box i) commands_are (example_permitted i h))
