-- The numbers of an answer: at most 32 results, and a refused command has at most the number 33, since every command between
-- the edition and the end makes a result.
use Rattle.std.specs.Prelude.{◌≡◌, Bool, List, [], ◌∷◌, ℕ, ◌+◌, ◌≤◌, eqb, ℤ, length}
use Rattle.std.proofs.Math.Path.{refl}
use Rattle.std.proofs.Math.Bool.{true, false}
use Rattle.std.proofs.Common.{true≢false, eqb-true, length-append}
use native.Mathlib.Omega.{arith}
use Rattle.std.proofs.lemmas.Bool.{not-false}
use Rattle.model.specs.declared.types.Model.{Model}
use Rattle.job.specs.definitions.Operations.{operation}
use Rattle.job.specs.definitions.Decode.{maker_at, command_at}
use Rattle.job.specs.definitions.Reading.{shape_at, max_results, bad_kind, is_end}
use Rattle.model.specs.definitions.Outcomes.{payload}
use Rattle.job.specs.definitions.Outcomes.{JobOutcome, accepted, refused, counted, refused_command, result_count}
use Rattle.job.specs.definitions.Run.{job_outcome}
use Rattle.job.specs.definitions.Work.{areas_fit, check_outcome, check_needing}
use Rattle.job.specs.definitions.Reports.{report_fits, report_outcome}
use Rattle.job.specs.declared.types.Report.{Report}
use Rattle.job.specs.definitions.Order.{results_after, Reaches, start, next}
use Rattle.job.proofs.laws.OrderLaws.{reaches_bounds, refused_exactly, accepted_exactly}
use Rattle.job.proofs.laws.CommandLaws.{command_readable}
use Rattle.job.specs.declared.types.Kind.{Kind}
use Rattle.job.specs.declared.types.Kind.TheVariants.{End, Edition, Result, Unknown}

more_results : (job : List ℕ) (k at : ℕ) (rs : List Model) → k ≤ length rs + 1 → (kind : Kind) → is_end kind ≡ false → bad_kind k kind ≡ false
    → k + 1 ≤ length (results_after (command_at kind job at) rs) + 1
more_results job k at rs h End e b = absurd (true≢false e)
more_results job k at rs h Edition e b = omega (arith, eqb-true k 0 (not-false (eqb k 0) b))
more_results job k at rs h (Result o) e b = omega (arith, length-append rs ((payload (operation (maker_at o job at) rs)).model ∷ []))
more_results job k at rs h Unknown e b = absurd (true≢false b)

reaches_number : {job : List ℕ} {k : ℕ} {rs : List Model} {at : ℕ} → Reaches job k rs at → k ≤ length rs + 1
reaches_number start = omega arith
reaches_number {job} (next {k} {rs} {at} r f e) = more_results job k at rs (reaches_number r) (shape_at job k (length rs) at).kind e (command_readable job k rs at f).kind_good

pub record Small (o : JobOutcome ℕ) : Type 0 where
  pub results : result_count o ≤ max_results
  pub number : refused_command o ≤ max_results + 1

module _ (job : List ℕ) where
  outcome_small : (o : JobOutcome (List Model)) → job_outcome job ≡ o → Small (counted o)
  outcome_small (accepted rs) e =
      let m = (accepted_exactly job rs).0 e in
      let b = reaches_bounds m.2 in
      record { results = b.results; number = omega arith }
  outcome_small (refused n k) e =
      let m = (refused_exactly job n k).0 e in
      let b = reaches_bounds m.2 in
      record { results = omega arith; number = omega (arith, b.results, reaches_number m.2) }

  pub answer_small : (w s : List ℤ) → Small (counted (check_outcome job w s))
  unfolding check_needing
  answer_small w s = by (areas_fit w s) refl
    where
      by : (t : Bool) → areas_fit w s ≡ t → Small (counted (check_outcome job w s))
      by true e = rw e (outcome_small (job_outcome job) refl)
      by false e = rw e (record { results = omega arith; number = omega arith })

  -- with report records too
  pub report_small : (report : Report) (w s : List ℤ) (room : List ℕ) → Small (counted (report_outcome report job w s room))
  unfolding report_outcome
  report_small report w s room = by (report_fits report w s room) refl
    where
      by : (t : Bool) → report_fits report w s room ≡ t → Small (counted (report_outcome report job w s room))
      by true e = rw e (outcome_small (job_outcome job) refl)
      by false e = rw e (record { results = omega arith; number = omega arith })
