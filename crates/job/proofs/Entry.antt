-- The entry: what it answers and leaves where an area is too short, and after the run of a job.
use mathlib.Core.Path.{◌≡◌, refl, ap, sym, ◌∙◌}
use mathlib.Core.Bool.{true, false}
use mathlib.Core.Logic.{inl}
use mathlib.Core.List.{List, ◌++◌}
use Prim.Native.Nat.{ℕ, ◌≤◌}
use Rattle.std.specs.Prelude.{Result, Err}
use Rattle.std.proofs.Common.{rules}
use lib.IntN.{ℤ}
use lib.ListN.{length, drop}
use lib.Seq.{drop_at}
use Rattle.model.specs.declared.types.Refusal.TheVariants.{ShortArea}
use Rattle.certificate.specs.definitions.Tests.{scratch_size, scratch_after}
use Rattle.certificate.proofs.laws.Stages.{scratch_cleared, scratch_twice}
use Rattle.integer.specs.definitions.Lists.{zeros}
use Rattle.integer.proofs.laws.Clearing.{length-zeros}
use Rattle.job.specs.definitions.Outcomes.{job_outcome_of, counted}
use Rattle.job.specs.definitions.Run.{job_outcome}
use Rattle.job.specs.definitions.Work.{work_size, work_with, results_in}
use Rattle.job.specs.definitions.Reports.{job_certificates, zero_bytes, room_size, room_with, report_fits, report_places, report_outcome, report_work, report_scratch, room_after}
use Rattle.job.specs.declared.types.Report.{Report}
use Rattle.job.proofs.laws.ReportLaws.{report_fit, report_short}
use Rattle.job.specs.definitions.Requirement.{Requirement3}
use Rattle.job.proofs.laws.RequirementLaws.{refused_required, required_behind}
use Rattle.job.specs.definitions.InnerContracts.{Clear}
use Rattle.job.specs.declared.types.RefusedCommand.{RefusedCommand}
use Rattle.job.proofs.LoopStates.{Ran}
use Rattle.job.proofs.laws.RecordLaws.{length-zero_bytes}

-- an area whose first n numbers were cleared
module _ (n : ℕ) (w w' : List ℤ) (e : w' ≡ zeros n ++ drop n w) where
  cleared_behind : drop n w' ≡ drop n w
  cleared_behind = ap (λ (l : List ℤ). drop n l) e ∙ drop_at (zeros n) (drop n w) n (length-zeros n)

  pub cleared_is : w' ≡ zeros n ++ drop n w'
  cleared_is = e ∙ ap (λ (l : List ℤ). zeros n ++ l) (sym cleared_behind)

pub cleared_clear : (s s' : List ℤ) → s' ≡ scratch_after s → scratch_size ≤ length s' → Clear s'
cleared_clear s s' e h = record { long = h; clear = ap scratch_after e ∙ scratch_twice s ∙ sym e }

-- a room whose 32 records were cleared
module _ (n : ℕ) (room room' : List ℕ) (e : room' ≡ zero_bytes n ++ drop n room) where
  room_cleared_behind : drop n room' ≡ drop n room
  room_cleared_behind = ap (λ (l : List ℕ). drop n l) e ∙ drop_at (zero_bytes n) (drop n room) n (length-zero_bytes n)

  pub room_cleared_is : room' ≡ zero_bytes n ++ drop n room'
  room_cleared_is = e ∙ ap (λ (l : List ℕ). zero_bytes n ++ l) (sym room_cleared_behind)

module _ (report : Report) (job : List ℕ) (w s : List ℤ) (room : List ℕ) where
  -- the check answers r and leaves these areas
  abbrev pub Leaves : Result ℕ RefusedCommand → List ℤ → List ℤ → List ℕ → Type 0
  Leaves r w' s' room' =
      record {
        result_value : job_outcome_of r ≡ counted (report_outcome report job w s room);
        work_after : w' ≡ report_work report job w s room;
        scratch_after : s' ≡ report_scratch report w s room;
        room_after : room' ≡ room_after report job w s room;
        requirement3 : Requirement3 (report_places report w s room) job (job_outcome_of r) w';
      }

  pub untouched : report_fits report w s room ≡ false → Leaves (Err (record { refusal = ShortArea; command = 0 })) w s room
  unfolding report_outcome report_work report_scratch room_after
  untouched e =
      let claim = refused_required {job = job} (inl (report_short report w s room e, refl)) 1 0 w in
      simp e (record { result_value = refl; work_after = refl; scratch_after = refl; room_after = refl; requirement3 = claim })

  module _ (fit : report_fits report w s room ≡ true) where
    pub long_work : work_size ≤ length w
    long_work = search rules

    pub long_scratch : scratch_size ≤ length s
    long_scratch = search rules

    pub long_room : room_size report ≤ length room
    long_room = search rules

    pub ran_leaves : (w₁ w₂ s₁ : List ℤ) (room₁ room₂ : List ℕ) (r : Result ℕ RefusedCommand)
        → w₁ ≡ zeros work_size ++ drop work_size w → room₁ ≡ zero_bytes (room_size report) ++ drop (room_size report) room
        → Ran report job w₁ room₁ r w₂ room₂ → s₁ ≡ scratch_after s → Leaves r w₂ s₁ room₂
    unfolding report_outcome report_work report_scratch room_after
    ran_leaves w₁ w₂ s₁ room₁ room₂ r e er ran es =
        let claim = required_behind (report_places report w s room) (report_fit report w s room fit) ran.claim in
        simp fit (
        record {
          result_value = ran.answer;
          work_after = ran.work_is ∙ ap (λ (l : List ℤ). work_with (results_in (job_outcome job)) ++ l) (cleared_behind work_size w w₁ e);
          scratch_after = es ∙ scratch_cleared s long_scratch;
          room_after =
              ran.room_is
              ∙ ap (λ (l : List ℕ). room_with report (job_certificates job) ++ l) (room_cleared_behind (room_size report) room room₁ er);
          requirement3 = claim;
        }
        )
