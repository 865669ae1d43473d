-- Documents 02, S-24 and S-27: a job without command 0x14 that is not of edition 2 has its former outcome. The former places of
-- reading and the run stand here written out, the table of commands in FormerCommands, what each command gave in FormerOperations.
use Rattle.std.specs.Prelude.{◌≡◌, Bool, true, false, not, ◌&&◌, ◌⊎◌, leb, ltb, eqb, length}
use Rattle.std.proofs.Math.Path.{refl, ap}
use Rattle.std.proofs.Common.{sym, ◌∙◌, subst, true≢false, inl, inr, arith, ltb-true, ltb-false, eq-eqb, eqb-true, ne_eqb, length-append}
use mathlib.Core.List.{List, [], ◌∷◌, ◌++◌}
use Prim.Native.Nat.{ℕ, zero, suc, ◌+◌}
use Rattle.std.proofs.lemmas.Bool.{not-true}
use Rattle.std.proofs.Math.ListN.{get_or-append}
use Rattle.std.proofs.lemmas.List.{get_or_at}
use Rattle.integer.proofs.laws.Machine.{both_true}
use Rattle.model.specs.definitions.Models.{zero_model}
use Rattle.model.specs.definitions.Outcomes.{payload, passing, Passed, First}
use Rattle.model.proofs.laws.PlaceLaws.{passing_passed, passing_first, first_or_passed}
use Rattle.model.specs.declared.types.Model.{Model}
use Rattle.job.specs.definitions.Bytes.{byte_at}
use Rattle.job.specs.definitions.Decode.{command_bytes, kind_in, edition_of, Command, edition, result, finish, unknown}
use Rattle.job.specs.definitions.Operations.{result_at, operation}
use Rattle.job.specs.definitions.Order.{operation_places, results_after, Reaches, start, next}
use Rattle.job.specs.definitions.Outcomes.{JobOutcome, accepted}
use Rattle.job.specs.definitions.Reading.{bad_names, command_read, reading_places}
use Rattle.job.specs.definitions.Run.{onward, run, job_outcome}
use Rattle.job.specs.definitions.Step.{Step, more, over, refused, resulting, performed, command}
use Rattle.job.proofs.laws.CommandLaws.{operation_passed, command_readable, command_passed}
use Rattle.job.proofs.laws.ExampleJob.{example_job, example_results, example_run}
use Rattle.job.proofs.laws.FormerCommands.{FormerRow, former_edition, former_row, present_row, row_former, FormerCommand, present_operands}
use Rattle.job.proofs.laws.FormerOperations.{FormerModel, FormerResults, former_operation, operation_former, result_former}
use Rattle.job.proofs.laws.OrderLaws.{moves_on}
use Rattle.job.specs.declared.types.Kind.TheVariants.{Edition}

-- ---- the run

-- the operation's answer becomes the next result; the next command stands at n
abbrev pub former_performed : Command → List Model → ℕ → Step (List Model)
former_performed edition rs n = more rs n
former_performed (result m) rs n = resulting rs n (former_operation m rs)
former_performed finish rs n = over
former_performed unknown rs n = refused 9

-- command k at a position, after the results rs
module _ (job : List ℕ) (k : ℕ) (rs : List Model) (at : ℕ) where
  -- the places that reading a command of a row passes through
  abbrev pub former_reading_places : FormerRow → List (Bool × ℕ)
  former_reading_places r =
      let behind = at + 1 + r.width in
      (leb (length job) at, 10)
      ∷ (r.misplaced k, 9)
      ∷ (ltb (length job) behind, 10)
      ∷ (r.values, 9)
      ∷ (r.names (length rs), 12)
      ∷ (r.makes && leb 32 (length rs), 13)
      ∷ (r.ends && ltb behind (length job), 11)
      ∷ []

  unfoldable pub former_command : Step (List Model)
  former_command =
      let r = former_row job at (byte_at job at) in
      passing (former_reading_places r) (former_performed r.command rs (at + 1 + r.width)) refused

unfoldable pub former_run : ℕ → List ℕ → ℕ → List Model → ℕ → JobOutcome (List Model)
former_run zero job k rs at = JobOutcome.refused 10 k
former_run (suc f) job k rs at = onward (former_run f job) k rs (former_command job k rs at)

unfoldable pub former_job_outcome : List ℕ → JobOutcome (List Model)
former_job_outcome job = former_run (length job + 1) job 0 [] 0

-- ---- a job in the former format

-- no command that is reached has this byte; among the operands it may stand
abbrev pub WithoutLoadOn : List ℕ → Type 0
WithoutLoadOn job = (k : ℕ) (rs : List Model) (at : ℕ) → Reaches job k rs at → ¬ (byte_at job at ≡ 0x14)

-- nor is it of edition 2
pub record FormerFormat (job : List ℕ) : Type 0 where
  pub without : WithoutLoadOn job
  pub edition : ¬ (edition_of job ≡ 2)

-- a job that has no such byte at all has no such command
abbrev pub lacks_byte : List ℕ → Bool
lacks_byte [] = true
lacks_byte (b ∷ bs) = not (eqb b 0x14) && lacks_byte bs

pub lacks_without : (job : List ℕ) → lacks_byte job ≡ true → WithoutLoadOn job
lacks_without job e k rs at r = absent job at e
  where
    absent : (bs : List ℕ) (i : ℕ) → lacks_byte bs ≡ true → ¬ (byte_at bs i ≡ 0x14)
    absent [] i e z = omega arith
    absent (b ∷ bs) zero e z = true≢false (sym (eq-eqb b 0x14 z) ∙ not-true (eqb b 0x14) (both_true (not (eqb b 0x14)) (lacks_byte bs) e).0)
    absent (b ∷ bs) (suc i) e z = absent bs i (both_true (not (eqb b 0x14)) (lacks_byte bs) e).1 z

former_more : (rs : List Model) (m : Model) → FormerResults rs → FormerModel m → FormerResults (rs ++ (m ∷ []))
former_more rs m all p i h = by (ltb i (length rs)) refl
  where
    by : (t : Bool) → ltb i (length rs) ≡ t → FormerModel (result_at (rs ++ (m ∷ [])) i)
    by true e = let g = ltb-true i (length rs) e in subst FormerModel (sym (get_or-append rs (m ∷ []) zero_model i g)) (all i g)
    by false e =
        let s : length rs ≡ i = omega (arith, ltb-false i (length rs) e, length-append rs (m ∷ [])) in
        subst FormerModel (sym (get_or_at rs m [] zero_model i s)) p

after_former : (c : Command) (rs : List Model) → FormerCommand c → bad_names c (length rs) ≡ false → Passed (operation_places c rs)
    → FormerResults rs → FormerResults (results_after c rs)
after_former edition rs p n f all = all
after_former (result m) rs p n f all =
    former_more rs (payload (operation m rs)).model all
    (result_former rs all m p n (sym (operation_former rs all m p n) ∙ operation_passed m rs f))
after_former finish rs p n f all = all
after_former unknown rs p n f all = all

module _ (job : List ℕ) (format : FormerFormat job) where
  one : eqb (edition_of job) 2 ≡ false
  one = ne_eqb (edition_of job) 2 format.edition

  read_operands : {k : ℕ} {rs : List Model} {at : ℕ} → Reaches job k rs at → FormerCommand (command_read job k (length rs) at)
  read_operands {k} {rs} {at} r = present_operands job at one (byte_at job at) (format.without k rs at r)

  pub reaches_former : {k : ℕ} {rs : List Model} {at : ℕ} → Reaches job k rs at → FormerResults rs
  reaches_former start = λ i h. absurd (omega arith)
  reaches_former (next {k} {rs} {at} r f e) =
      after_former (command_read job k (length rs) at) rs (read_operands r) (command_readable job k rs at f).names_good (command_passed job k rs at f) (reaches_former r)

  module _ {k : ℕ} {rs : List Model} {at : ℕ} (r : Reaches job k rs at) where
    performed_former : (c : Command) (n : ℕ) → FormerCommand c → bad_names c (length rs) ≡ false → performed c rs n ≡ former_performed c rs n
    performed_former edition n p b = refl
    performed_former (result m) n p b = ap (resulting rs n) (operation_former rs (reaches_former r) m p b)
    performed_former finish n p b = refl
    performed_former unknown n p b = refl

    -- of places that are not all passed no more counts
    passing_same : (ps : List (Bool × ℕ)) (a b : Step (List Model)) → (Passed ps → a ≡ b) → passing ps a refused ≡ passing ps b refused
    passing_same ps a b h = by (first_or_passed ps)
      where
        by : ((n : ℕ) × First ps n) ⊎ Passed ps → passing ps a refused ≡ passing ps b refused
        by (inl f) = passing_first a refused f.1 ∙ sym (passing_first b refused f.1)
        by (inr p) = passing_passed ps a refused p ∙ h p ∙ sym (passing_passed ps b refused p)

    -- what a command of a row does
    abbrev did : FormerRow → Step (List Model)
    did x = passing (former_reading_places job k rs at x) (former_performed x.command rs (at + 1 + x.width)) refused

    -- the edition's row: at the first command the edition is not 2, behind it both refuse the byte
    edition_former : did (present_row job at Edition) ≡ did (former_edition job at)
    unfolding passing
    edition_former = by (eqb k 0) refl
      where
        first : {j : ℕ} {ms : List Model} {p : ℕ} → Reaches job j ms p → j ≡ 0 → p ≡ 0
        first start e = refl
        first (next s f l) e = absurd (omega arith)

        only_one : (t : Bool) → (not t && not false) ≡ not t
        only_one true = refl
        only_one false = refl

        values : (b : ℕ) → eqb b 2 ≡ false → (not (eqb b 1) && not (eqb b 2)) ≡ not (eqb b 1)
        values b e = rw e (only_one (eqb b 1))

        by : (t : Bool) → eqb k 0 ≡ t → did (present_row job at Edition) ≡ did (former_edition job at)
        by true e = rw (values (byte_at job (at + 1)) (ap (λ i. eqb (byte_at job (i + 1)) 2) (first r (eqb-true k 0 e)) ∙ one))
        by false e = rw e

    pub command_former : command job k rs at ≡ former_command job k rs at
    unfolding command reading_places former_command
    command_former =
        let b = byte_at job at in
        let row = present_row job at (kind_in command_bytes b) in
        passing_same (former_reading_places job k rs at row) _ _
        (λ p. performed_former row.command (at + 1 + row.width) (read_operands r) p.1.1.1.1.0)
        ∙ row_former job at one did edition_former b (format.without k rs at r)

  run_former : (f k : ℕ) (rs : List Model) (at : ℕ) → Reaches job k rs at → run f job k rs at ≡ former_run f job k rs at
  unfolding run former_run
  run_former zero k rs at r = refl
  run_former (suc f) k rs at r =
      by (λ rs' at' r'. run_former f (k + 1) rs' at' r') (command job k rs at) refl ∙ ap (onward (former_run f job) k rs) (command_former r)
    where
      by : ((rs' : List Model) (at' : ℕ) → Reaches job (k + 1) rs' at' → run f job (k + 1) rs' at' ≡ former_run f job (k + 1) rs' at')
          → (s : Step (List Model)) → command job k rs at ≡ s → onward (run f job) k rs s ≡ onward (former_run f job) k rs s
      by on (more rs' at') e = on rs' at' (moves_on r e).1
      by on over e = refl
      by on (refused n) e = refl

  pub job_former : job_outcome job ≡ former_job_outcome job
  unfolding job_outcome former_job_outcome
  job_former = run_former (length job + 1) 0 [] 0 start

-- ---- two jobs

-- one of today's examples, and one that ends behind a byte 0x14, which was unknown
pub former_examples : (former_job_outcome example_job ≡ accepted example_results)
    × (former_job_outcome (0x01 ∷ 1 ∷ 0x14 ∷ []) ≡ JobOutcome.refused 9 1)
    × (job_outcome (0x01 ∷ 1 ∷ 0x14 ∷ []) ≡ JobOutcome.refused 10 1)
unfolding job_outcome run command reading_places former_job_outcome former_run former_command passing
former_examples = (sym (job_former example_job (record { without = lacks_without example_job refl; edition = λ e. omega arith })) ∙ example_run, refl, refl)
