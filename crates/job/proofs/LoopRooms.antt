-- The room along the loop over a job's commands: what a command adds to it, and what it holds where the job ends or is refused.
use mathlib.Core.Path.{◌≡◌, ap, ap₂, sym, ◌∙◌}
use mathlib.Core.List.{List, ◌++◌, map}
use Prim.Native.Nat.{ℕ, ◌+◌, ◌≤◌}
use native.Mathlib.Omega.{arith}
use lib.ListN.{length, drop, length-append}
use Rattle.certificate.specs.definitions.Tests.{Certificate}
use Rattle.model.specs.declared.types.Model.{Model}
use Rattle.job.specs.definitions.Reading.{max_results}
use Rattle.job.specs.definitions.Outcomes.{refused}
use Rattle.job.specs.definitions.Step.{Step, over, command}
use Rattle.job.specs.definitions.Run.{job_outcome}
use Rattle.job.specs.definitions.Order.{Reaches}
use Rattle.job.specs.definitions.InnerContracts.{recorded_from, added_at}
use Rattle.job.specs.definitions.Reports.{certificate_by, job_certificates, zero_bytes, room_size, room_with}
use Rattle.job.proofs.laws.Accepted.{Reached}
use Rattle.job.proofs.laws.CertificateLaws.{Stops, MovesOn, certificates_count, certificates_end, certificates_refused, certificates_none}
use Rattle.job.proofs.laws.RecordLaws.{room_empty}
use Rattle.job.specs.declared.types.Report.{Report}
use Rattle.job.proofs.Rooms.{room_behind, recorded_holds}

-- before command k the room holds the records of the results rs, with u behind; the command writes those of what it adds
module _ (report : Report) {job : List ℕ} {k : ℕ} {rs : List Model} {at count : ℕ} {room room' : List ℕ} (u : List ℕ) (there : Reached job k rs at)
    (count_is : count ≡ length rs) (room_is : room ≡ room_with report (map (certificate_by rs) there.cs) ++ u)
    (wrote : room' ≡ recorded_from report room count (added_at job k rs at)) where
  abbrev made : List Certificate
  made = map (certificate_by rs) there.cs

  made_count : length made ≡ length rs
  made_count = certificates_count there

  -- a command that does not move on leaves the room
  room_kept : (s : Step (List Model)) → command job k rs at ≡ s → Stops s → room' ≡ room
  unfolding recorded_from
  room_kept s e stops =
      wrote ∙ ap (λ (l : List Certificate). recorded_from report room count l) (certificates_none job k rs at s e stops)

  -- one that does adds its record
  pub room_again : {rs' : List Model} {next : ℕ} → (m : MovesOn job k rs at there rs' next) → length rs' ≤ max_results
      → room' ≡ room_with report (map (certificate_by rs') m.there.cs) ++ u
  room_again {rs'} m few =
      let new : List Certificate = added_at job k rs at in
      let all : length (map (certificate_by rs') m.there.cs) ≡ length rs' = certificates_count m.there in
      let sum : length (map (certificate_by rs') m.there.cs) ≡ length made + length new = ap length m.added ∙ length-append made new in
      wrote
      ∙ recorded_holds report new made count room u (count_is ∙ sym made_count) (omega (arith, few, all, sum)) room_is
      ∙ ap (λ (l : List Certificate). room_with report l ++ u) (sym m.added)

  -- the job ends
  pub room_ended : Reaches job k rs at → command job k rs at ≡ over → room' ≡ room_with report (job_certificates job) ++ u
  room_ended r e =
      room_kept over e tt ∙ room_is ∙ ap (λ (l : List Certificate). room_with report l ++ u) (sym (certificates_end r there e))

  -- it is refused, and the room cleared
  pub room_refused : {n : ℕ} {room'' : List ℕ} → length rs ≤ max_results → command job k rs at ≡ Step.refused n → job_outcome job ≡ refused n k
      → room'' ≡ zero_bytes (room_size report) ++ drop (room_size report) room' → room'' ≡ room_with report (job_certificates job) ++ u
  room_refused {n} few e o c =
      let after : drop (room_size report) room' ≡ u =
      ap (λ (l : List ℕ). drop (room_size report) l) (room_kept (Step.refused n) e tt)
      ∙ room_behind report made room u (omega (arith, few, made_count)) room_is in
      c
      ∙ ap₂ (λ (x y : List ℕ). x ++ y)
      (sym (room_empty report) ∙ ap (λ (l : List Certificate). room_with report l) (sym (certificates_refused job o))) after
