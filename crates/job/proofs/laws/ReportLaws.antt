-- The entry that writes report records: its lent areas, "after the scratch" the room; and the empty report, with which it is the check of a job.
use Rattle.std.specs.Prelude.{◌≡◌, refl, Bool, true, false, not, ◌&&◌, ℕ, ◌≤◌, ◌<◌, leb, ℤ, length}
use Rattle.std.proofs.Common.{ap, ◌∙◌, true≢false, arith, le-leb}
use Rattle.std.proofs.lemmas.Bool.{false≢true, lt-leb}
use mathlib.Core.List.{List, [], ◌∷◌, ◌++◌}
use Rattle.std.proofs.Math.ListN.{drop}
use Rattle.model.specs.definitions.Outcomes.{Passed, First, here, later}
use Rattle.certificate.specs.definitions.Tests.{scratch_size, Certificate}
use Rattle.job.specs.definitions.Outcomes.{JobOutcome, refused}
use Rattle.job.specs.definitions.Requirement.{Requirement3}
use Rattle.job.specs.definitions.Work.{work_size, area_place, area_places, areas_fit, check_outcome, check_needing, work_after, work_needing, scratch_after_job}
use Rattle.job.proofs.laws.RequirementLaws.{required_before}
use Rattle.job.specs.definitions.Reports.{zero_bytes, room_size, room_with, report_fits, report_places, report_outcome, report_work, report_scratch, room_after}
use Rattle.job.proofs.laws.RecordLaws.{room_empty}
use Rattle.job.proofs.laws.CertificateLaws.{certificates_refused}
use Rattle.job.specs.declared.types.Report.{Report}
use Rattle.job.specs.declared.types.Report.TheVariants.{Empty}

-- three tests that are to hold
module _ where
  abbrev Tests : Bool → Bool → Bool → List (Bool × ℕ)
  Tests a b c = (not a, 1) ∷ (not b, 1) ∷ (not c, 1) ∷ []

  none_fails : (a b c : Bool) → ((a && b) && c) ≡ true → Passed (Tests a b c)
  none_fails true true true e = (refl, (refl, (refl, tt)))
  none_fails true true false e = absurd (false≢true e)
  none_fails true false c e = absurd (false≢true e)
  none_fails false b c e = absurd (false≢true e)

  one_fails : (a b c : Bool) → ((a && b) && c) ≡ false → First (Tests a b c) 1
  one_fails true true true e = absurd (true≢false e)
  one_fails true true false e = later refl (later refl (here refl refl))
  one_fails true false c e = later refl (here refl refl)
  one_fails false b c e = here refl refl

module _ (report : Report) (w s : List ℤ) (room : List ℕ) where
  pub report_fit : report_fits report w s room ≡ true → Passed (report_places report w s room)
  report_fit e = none_fails (leb work_size (length w)) (leb scratch_size (length s)) (leb (room_size report) (length room)) e

  pub report_short : report_fits report w s room ≡ false → First (report_places report w s room) 1
  report_short e = one_fails (leb work_size (length w)) (leb scratch_size (length s)) (leb (room_size report) (length room)) e

-- ---- a room that is long enough changes nothing else: "A refused job yields its number and command to both."

and_true : (a : Bool) → (a && true) ≡ a
and_true true = refl
and_true false = refl

and_false : (a : Bool) → (a && false) ≡ false
and_false true = refl
and_false false = refl

pub short_room : (report : Report) (w s : List ℤ) (room : List ℕ) → length room < room_size report → report_fits report w s room ≡ false
short_room report w s room h = rw (lt-leb (room_size report) (length room) h) (and_false (areas_fit w s))

module _ (report : Report) (job : List ℕ) (w s : List ℤ) (room : List ℕ) where
  module _ (roomy : room_size report ≤ length room) where
    fits_alike : report_fits report w s room ≡ areas_fit w s
    fits_alike = rw (le-leb (room_size report) (length room) roomy) (and_true (areas_fit w s))

    pub report_outcome_lem : report_outcome report job w s room ≡ check_outcome job w s
    unfolding report_outcome check_needing
    report_outcome_lem = rw fits_alike

    pub report_work_lem : report_work report job w s room ≡ work_after job w s
    unfolding report_work work_needing
    report_work_lem = rw fits_alike

    pub report_scratch_lem : report_scratch report w s room ≡ scratch_after_job w s
    unfolding report_scratch scratch_after_job
    report_scratch_lem = rw fits_alike

  -- "number 1 if shorter, … touching nothing"
  pub record Untouched : Type 0 where
    pub outcome : report_outcome report job w s room ≡ refused 1 0
    pub work : report_work report job w s room ≡ w
    pub scratch : report_scratch report w s room ≡ s
    pub room_left : room_after report job w s room ≡ room

  pub short_untouched : report_fits report w s room ≡ false → Untouched
  unfolding report_outcome report_work report_scratch room_after
  short_untouched e = record { outcome = rw e; work = rw e; scratch = rw e; room_left = rw e }

  -- "as is all the room after any other refusal"
  pub refused_room : {n k : ℕ} → report_fits report w s room ≡ true → report_outcome report job w s room ≡ refused n k
      → room_after report job w s room ≡ zero_bytes (room_size report) ++ drop (room_size report) room
  unfolding report_outcome room_after
  refused_room e o =
      let r = rw e at o in
      rw e (ap (λ (l : List ℕ). l ++ drop (room_size report) room) (ap (λ (l : List Certificate). room_with report l) (certificates_refused job r) ∙ room_empty report))

-- ---- the empty report

-- the room's place is passed
pub room_passed : (room : List ℕ) → Passed (area_place (room_size Empty) (length room) ∷ [])
room_passed room = (ap not (le-leb 0 (length room) (omega arith)), tt)

pub required_empty : (job : List ℕ) (w s : List ℤ) (room : List ℕ) {answer : JobOutcome ℕ} {work : List ℤ}
    → Requirement3 (report_places Empty w s room) job answer work → Requirement3 (area_places w s) job answer work
required_empty job w s room r = required_before (area_places w s) (area_place (room_size Empty) (length room) ∷ []) (room_passed room) r
