-- Requirement 3 put to use, continued: boxes formed by 01's rules, result after result, overlap the models of an accepted job.
-- The rules (`Formed`) are those of any boxes, by maker, so that a rule that `Permitted` narrows is noticed.
use Rattle.std.specs.Prelude.{◌≡◌, refl, Bool, List, ℕ, zero, suc, ◌<◌, ℤ}
use Rattle.std.proofs.Common.{arith, leb-false}
use Rattle.fraction.specs.definitions.Fraction.{ℚ}
use Rattle.job.specs.definitions.Operations.{Maker, load, add, subtract, multiply, quotient, root}
use Rattle.job.specs.definitions.Decode.{Command, result}
use Rattle.job.specs.definitions.Reader.{command_for}
use Rattle.job.specs.definitions.Outcomes.{JobOutcome, accepted}
use Rattle.job.specs.definitions.Work.{stored_result}
use Rattle.job.proofs.laws.CommandLaws.{both_below}
use Rattle.job.specs.definitions.Requirement.{Box, Permitted, load_box, add_box, subtract_box, multiply_box, quotient_box, root_box, Overlaps, Requirement3}
use Rattle.job.specs.definitions.FormedBoxes.{Formed}
use Rattle.job.proofs.laws.ExactAllowed.{OnResult, vouched_for, cs}
use Rattle.job.proofs.laws.ExactExists.{named, maker}

-- ---- an accepted job

module _ {areas : List (Bool × ℕ)} {job : List ℕ} {answer : JobOutcome ℕ} {work : List ℤ} (claim : Requirement3 areas job answer work)
    {count : ℕ} (e : answer ≡ accepted count) where
  abbrev commands : List Command
  commands = cs claim e

  module _ (x : ℚ) (box : ℕ → Box)
      (formed : (i : ℕ) → i < count → (m : Maker) → command_for commands i ≡ result m → Formed x box i m) where
    abbrev Fits : ℕ → Type 0
    Fits i = Permitted commands x box i

    by_maker : (i : ℕ) (m : Maker) → command_for commands i ≡ result m → Formed x box i m → ((j : ℕ) → j < i → Fits j) → Fits i
    by_maker i (load m) f g r = load_box i m (box i).low f g.0 refl g.1
    by_maker i (add j k) f g r =
        let b = both_below i j k (named claim e i (add j k) f) in
        add_box i j k f (r j b.0) (r k b.1) g.0 g.1
    by_maker i (subtract j k) f g r =
        let b = both_below i j k (named claim e i (subtract j k) f) in
        subtract_box i j k f (r j b.0) (r k b.1) g.0 g.1
    by_maker i (multiply j k d) f g r =
        let b = both_below i j k (named claim e i (multiply j k d) f) in
        multiply_box i j k d f (r j b.0) (r k b.1) g
    by_maker i (quotient j k h w) f g r =
        let b = both_below i j k (named claim e i (quotient j k h w) f) in
        quotient_box i j k h w f (r j b.0) (r k b.1) g.0 g.1
    by_maker i (root rule j h w) f g r =
        root_box i j rule h w f (r j (leb-false i j (named claim e i (root rule j h w) f))) g.0 g.1 g.2

    fits : (n i : ℕ) → i < n → i < count → Fits i
    fits zero i lt h = absurd (omega arith)
    fits (suc n) i lt h =
        let m = maker claim e i h in
        by_maker i m.0 m.1 (formed i h m.0 m.1) (λ j b. fits n j (omega arith) (omega arith))

    -- the box of each result overlaps its model in the work area
    pub formed_overlaps : (i : ℕ) → i < count → OnResult claim e x i → Overlaps (box i) (stored_result work i) x
    formed_overlaps i h on = ((vouched_for claim e).vouched i h x on).overlaps box (fits (suc i) i (omega arith) h)
