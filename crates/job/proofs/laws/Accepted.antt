-- An accepted job reads well, and its results are made by the commands that its bytes hold.
use Rattle.std.specs.Prelude.{◌≡◌, refl, Bool, true, false, List, [], ◌∷◌, ◌++◌}
use Rattle.std.proofs.Common.{ap, ◌∙◌, true≢false, arith}
use Rattle.std.proofs.Math.Path.{sym}
use Prim.Native.Nat.{ℕ, suc, ◌+◌, ◌-◌}
use Rattle.std.proofs.Math.ListN.{length}
use Rattle.model.specs.definitions.Outcomes.{passing, Passed}
use Rattle.model.proofs.laws.PlaceLaws.{passing_passed, passed_append}
use Rattle.model.specs.declared.types.Model.{Model}
use Rattle.job.specs.definitions.Decode.{Command, edition, result, finish, unknown, command_at}
use Rattle.job.specs.definitions.Reading.{shape_at, command_read, next_at, bad_kind, bad_names, is_end, reading_places}
use Rattle.job.specs.definitions.Outcomes.{accepted}
use Rattle.job.specs.definitions.Run.{job_outcome}
use Rattle.job.specs.definitions.Reader.{JobReading, well, ill, read_on, read_from, job_reading, ReadsWell}
use Rattle.job.specs.definitions.Order.{operation_places, results_after, command_places, is_last, Reaches, start, next}
use Rattle.job.proofs.laws.CommandLaws.{is_end_is, operation_passed, command_readable, command_passed}
use Rattle.job.proofs.laws.OrderLaws.{reaches_bounds, accepted_exactly}
use Rattle.job.specs.definitions.Requirement.{Made, nothing, one_more}
use Rattle.job.proofs.laws.MadeLaws.{made_length}
use Rattle.job.specs.declared.types.Kind.{Kind}
use Rattle.job.specs.declared.types.Kind.TheVariants.{End, Edition, Result, Unknown}

-- the commands of the results after a command
abbrev pub commands_after : Command → List Command → List Command
commands_after edition cs = cs
commands_after (result m) cs = cs ++ (result m ∷ [])
commands_after finish cs = cs
commands_after unknown cs = cs

module _ (on : List Command → JobReading) (cs : List Command) (job : List ℕ) (k at : ℕ) where
  pub reads_on : (kind : Kind) → is_end kind ≡ false → bad_kind k kind ≡ false
      → read_on k on cs (command_at kind job at) ≡ on (commands_after (command_at kind job at) cs)
  reads_on End e b = absurd (true≢false e)
  reads_on Edition e b = refl
  reads_on (Result o) e b = refl
  reads_on Unknown e b = absurd (true≢false b)

pub made_after : {cs : List Command} {rs : List Model} (c : Command) → Made cs rs → bad_names c (length rs) ≡ false
    → Passed (operation_places c rs) → Made (commands_after c cs) (results_after c rs)
made_after edition d n f = d
made_after {cs} {rs} (result m) d n f = one_more d m n (operation_passed m rs f)
made_after finish d n f = d
made_after unknown d n f = d

-- command k, reached with the results rs: reading comes there with their commands cs
pub record Reached (job : List ℕ) (k : ℕ) (rs : List Model) (at : ℕ) : Type 0 where
  pub cs : List Command
  pub made : Made cs rs
  pub left : read_from (length job + 1 - k) job k cs at ≡ job_reading job

module _ {job : List ℕ} {k : ℕ} {rs : List Model} {at : ℕ} (r : Reaches job k rs at) (h : Reached job k rs at) where
  abbrev c : Command
  c = command_read job k (length rs) at

  abbrev kind : Kind
  kind = (shape_at job k (length rs) at).kind

  abbrev pub onward : List Command → JobReading
  onward cs = read_from (length job + 1 - (k + 1)) job (k + 1) cs (next_at job k (length rs) at)

  abbrev reading : List (Bool × ℕ)
  reading = reading_places job k (length rs) at

  -- how reading goes on there
  pub reads_there : passing reading (read_on k onward h.cs c) (λ n. ill n k) ≡ job_reading job
  unfolding read_from
  reads_there =
      let b = reaches_bounds r in
      let f : length job + 1 - k ≡ suc (length job + 1 - (k + 1)) = omega (arith, b) in
      sym (ap (λ (f : ℕ). read_from f job k h.cs at) f ∙ rw (made_length h.made)) ∙ h.left

  module _ (f : Passed (command_places job k rs at)) where
    pub by_reading : read_on k onward h.cs c ≡ job_reading job
    unfolding command_places
    by_reading = sym (passing_passed reading _ _ ((passed_append reading (operation_places c rs)).0 f).0) ∙ reads_there

    abbrev pub reached_next : is_last job k rs at ≡ false → Reached job (k + 1) (results_after c rs) (next_at job k (length rs) at)
    reached_next e = record {
      cs = commands_after c h.cs;
      made = made_after c h.made (command_readable job k rs at f).names_good (command_passed job k rs at f);
      left = sym (reads_on onward h.cs job k at kind e (command_readable job k rs at f).kind_good) ∙ by_reading;
    }

    pub reached_end : is_last job k rs at ≡ true → job_reading job ≡ well h.cs
    reached_end e = sym by_reading ∙ ap (λ (x : Kind). read_on k onward h.cs (command_at x job at)) (is_end_is kind e)

pub reached : {job : List ℕ} {k : ℕ} {rs : List Model} {at : ℕ} → Reaches job k rs at → Reached job k rs at
unfolding job_reading
reached {job} start = record { cs = []; made = nothing; left = ap (λ (f : ℕ). read_from f job 0 [] 0) (omega arith) }
reached (next r f e) = reached_next r (reached r) f e

-- ---- an accepted job

module _ (job : List ℕ) (rs : List Model) (h : job_outcome job ≡ accepted rs) where
  -- its results are made by the commands that its bytes hold
  pub accepted_read : (cs : List Command) × (job_reading job ≡ well cs) × Made cs rs
  accepted_read =
      let m = (accepted_exactly job rs).0 h in
      let d = reached m.2 in
      (d.cs, reached_end m.2 d m.3 m.4, d.made)

  pub accepted_reads_well : ReadsWell job
  accepted_reads_well = (accepted_read.0, accepted_read.1)
