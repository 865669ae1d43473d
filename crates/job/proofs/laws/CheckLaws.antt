-- The order of 01's table at the entry: "lent areas, work area before scratch" come before the job; and how long the scratch must be.
use Rattle.std.specs.Prelude.{◌≡◌, refl, Bool, true, false, not, ◌&&◌, List, [], ◌∷◌, ◌↔◌, ℕ, ◌≤◌, ◌<◌, leb, ℤ, length}
use Rattle.std.proofs.Common.{ap₂, sym, ◌∙◌, true≢false, inl, inr, arith}
use Rattle.std.proofs.lemmas.Bool.{false≢true}
use borrow.Author.Tests.{le-leb, lt-leb}
use Rattle.model.specs.definitions.Outcomes.{Passed, First, here, later}
use Rattle.model.specs.definitions.Models.{product_size}
use Rattle.certificate.specs.definitions.Tests.{scratch_size}
use Rattle.model.specs.declared.types.Model.{Model}
use Rattle.job.specs.definitions.Outcomes.{JobOutcome, accepted, refused}
use Rattle.job.specs.definitions.Run.{job_outcome}
use Rattle.job.specs.definitions.Order.{EndsWith, Meets}
use Rattle.job.proofs.laws.OrderLaws.{refused_exactly, accepted_exactly}
use Rattle.job.specs.definitions.Work.{work_size, area_places, areas_fit, check_outcome, work_after, check_needing, work_needing}

-- two tests that are to hold
module _ where
  abbrev Tests : Bool → Bool → List (Bool × ℕ)
  Tests a b = (not a, 1) ∷ (not b, 1) ∷ []

  both_hold : (a b : Bool) → Passed (Tests a b) → (a && b) ≡ true
  both_hold true true f = refl
  both_hold true false f = absurd (true≢false f.1.0)
  both_hold false b f = absurd (true≢false f.0)

  none_fails : (a b : Bool) → (a && b) ≡ true → Passed (Tests a b)
  none_fails true true e = (refl, (refl, tt))
  none_fails true false e = absurd (false≢true e)
  none_fails false b e = absurd (false≢true e)

  one_fails : (a b : Bool) → (a && b) ≡ false → First (Tests a b) 1
  one_fails true true e = absurd (true≢false e)
  one_fails true false e = later refl (here refl refl)
  one_fails false b e = here refl refl

  failing : (a b : Bool) {n : ℕ} → First (Tests a b) n → ((a && b) ≡ false) × (n ≡ 1)
  failing true true (here p e) = absurd (false≢true p)
  failing true true (later p (here q e)) = absurd (false≢true q)
  failing true true (later p (later q f)) = elim f [ ]
  failing true false (here p e) = absurd (false≢true p)
  failing true false (later p (here q e)) = (refl, sym e)
  failing true false (later p (later q f)) = elim f [ ]
  failing false b (here p e) = (refl, sym e)
  failing false b (later p f) = absurd (true≢false p)

-- the places of areas that are long enough, or not
pub areas_fit_lem : (w s : List ℤ) → areas_fit w s ≡ true → Passed (area_places w s)
areas_fit_lem w s e = none_fails (leb work_size (length w)) (leb scratch_size (length s)) e

pub areas_short : (w s : List ℤ) → areas_fit w s ≡ false → First (area_places w s) 1
areas_short w s e = one_fails (leb work_size (length w)) (leb scratch_size (length s)) e

module _ (job : List ℕ) (w s : List ℤ) where
  abbrev a : Bool
  a = leb work_size (length w)

  abbrev b : Bool
  b = leb scratch_size (length s)

  fit : areas_fit w s ≡ true → check_outcome job w s ≡ job_outcome job
  unfolding check_needing
  fit e = rw e

  short : areas_fit w s ≡ false → check_outcome job w s ≡ refused 1 0
  unfolding check_needing
  short e = rw e

  -- a check is refused with (n, k) exactly if that is the refusal that the job over these areas meets
  pub check_refused_exactly : (n k : ℕ) → (check_outcome job w s ≡ refused n k) ↔ Meets (area_places w s) job n k
  check_refused_exactly n k = (into (areas_fit w s) refl, from)
    where
      into : (t : Bool) → areas_fit w s ≡ t → check_outcome job w s ≡ refused n k → Meets (area_places w s) job n k
      into true e h = inr (areas_fit_lem w s e, (refused_exactly job n k).0 (sym (fit e) ∙ h))
      into false e h =
          let x : ◌≡◌ {A = JobOutcome (List Model)} (refused 1 0) (refused n k) = sym (short e) ∙ h in
          let y : 1 ≡ n = cc x in
          let z : k ≡ 0 = cc x in
          inl (rw (← y) (areas_short w s e), z)

      from : Meets (area_places w s) job n k → check_outcome job w s ≡ refused n k
      from (inl f) = let g = failing a b f.0 in short g.0 ∙ ap₂ refused (sym g.1) (sym f.1)
      from (inr f) = fit (both_hold a b f.0) ∙ (refused_exactly job n k).1 f.1

  pub check_accepted_exactly : (rs : List Model) → (check_outcome job w s ≡ accepted rs) ↔ (Passed (area_places w s) × EndsWith job rs)
  check_accepted_exactly rs = (into (areas_fit w s) refl, λ f. fit (both_hold a b f.0) ∙ (accepted_exactly job rs).1 f.1)
    where
      into : (t : Bool) → areas_fit w s ≡ t → check_outcome job w s ≡ accepted rs → Passed (area_places w s) × EndsWith job rs
      into true e h = (areas_fit_lem w s e, (accepted_exactly job rs).0 (sym (fit e) ∙ h))
      into false e h = let x : refused 1 0 ≡ accepted rs = sym (short e) ∙ h in let z : ◌≡◌ {A = ℕ} 0 1 = cc x in absurd (omega arith)

-- 02, S-17: "With 16 or more, answers agree with those that 65 gave on the same other input". A job's outcome has no length of a
-- scratch in it; that its tests give what 65 gave: `quotient_operation_as_65`, `root_operation_as_65` (MakerLaws).
module _ (job : List ℕ) (w s former : List ℤ) (room : scratch_size ≤ length s) (room' : product_size ≤ length former) where
  pub check_as_65 : check_outcome job w s ≡ check_needing product_size job w former
  unfolding check_needing
  check_as_65 = rw (le-leb scratch_size (length s) room, le-leb product_size (length former) room')

  pub work_as_65 : work_after job w s ≡ work_needing product_size job w former
  unfolding work_needing
  work_as_65 = rw (le-leb scratch_size (length s) room, le-leb product_size (length former) room')

-- "Number 1 is now given below 16", whatever the work area
pub check_below_16 : (job : List ℕ) (w s : List ℤ) → length s < scratch_size → check_outcome job w s ≡ refused 1 0
check_below_16 job w s e = short job w s (rw (lt-leb scratch_size (length s) e) (and_false (leb work_size (length w))))
  where
    and_false : (t : Bool) → (t && false) ≡ false
    and_false true = refl
    and_false false = refl
