-- Requirement 3 of an accepted job, of the models as left in the work area.
use mathlib.Core.Path.{◌≡◌, refl, subst, subst⁻¹}
use mathlib.Core.Bool.{false}
use mathlib.Core.List.{List, []}
use Prim.Native.Nat.{ℕ, ◌<◌}
use native.Mathlib.Omega.{arith}
use borrow.Author.Tests.{leb-false}
use lib.IntN.{ℤ}
use lib.ListN.{length}
use Rattle.ring.proofs.laws.OrderedRingLaws.{lt-le}
use Rattle.fraction.specs.definitions.Fraction.{ℚ}
use Rattle.integer.proofs.laws.FractionOrder.{ℚ_ordered}
use Rattle.model.specs.definitions.Allowed.{Allows, OnInterval}
use Rattle.model.specs.declared.types.Model.{Model}
use Rattle.job.specs.definitions.Operations.{Maker, quotient, root, result_at, names_bad}
use Rattle.job.specs.definitions.Decode.{Command, result}
use Rattle.job.specs.definitions.Outcomes.{accepted}
use Rattle.job.specs.definitions.Run.{job_outcome}
use Rattle.job.specs.definitions.Reader.{command_for}
use Rattle.job.specs.definitions.Work.{stored_result}
use Rattle.job.specs.definitions.InnerContracts.{Holds}
use Rattle.job.proofs.laws.CommandLaws.{both_below}
use Rattle.job.specs.definitions.Requirement.{Overlaps, Made, Results, Requirement3}
use Rattle.job.proofs.laws.MadeLaws.{made_maker}
use Rattle.job.proofs.laws.Accepted.{accepted_read}
use Rattle.job.proofs.laws.Claim.{overlaps, divisor_nonzero, radicand_positive}
use Rattle.job.proofs.Results.{result_held, models_held}

module _ (job : List ℕ) (rs : List Model) (e : job_outcome job ≡ accepted rs) (work t : List ℤ) (holds : Holds work (length rs) rs t) where
  abbrev cs : List Command
  cs = (accepted_read job rs e).0

  all_made : Made cs rs
  all_made = (accepted_read job rs e).2

  -- the results that a command names stand before its own
  named : (i : ℕ) (m : Maker) → command_for cs i ≡ result m → names_bad m i ≡ false
  named i m f = (made_maker all_made i m f).names

  -- what a stored result allows, its result allows
  allowed : (x v : ℚ) (i : ℕ) → i < length rs → Allows (stored_result work i) x v → Allows (result_at rs i) x v
  allowed x v i h = subst (λ (m : Model). Allows m x v) (result_held holds i h)

  -- on its stored interval, on its own
  here : (x : ℚ) (i : ℕ) → i < length rs → OnInterval (stored_result work i).interval x → OnInterval (result_at rs i).interval x
  here x i h = subst (λ (m : Model). OnInterval m.interval x) (result_held holds i h)

  results : Results job (length rs) work
  results = record {
    commands = cs;
    read = (accepted_read job rs e).1;
    made = subst⁻¹ (Made cs) (models_held holds) all_made;
    vouched = λ i h x on. record {
      overlaps = λ box p. subst⁻¹ (λ (m : Model). Overlaps (box i) m x) (result_held holds i h) (overlaps all_made x box p (here x i h on));
      divisor = λ j k d w f v a.
          divisor_nonzero all_made x i j k d w f (here x i h on) v (allowed x v k (omega (arith, both_below i j k (named i (quotient j k d w) f))) a);
      radicand = λ j rule d w f v a n.
          let p =
          radicand_positive all_made x i j rule d w f (here x i h on) v (allowed x v j (omega (arith, leb-false i j (named i (root rule j d w) f))) a) in
          n (lt-le ℚ_ordered p);
    };
  }

  pub requirement : Requirement3 [] job (accepted (length rs)) work
  requirement = record {
    accepts = λ h. (length rs, refl);
    results = λ count f. let n : length rs ≡ count = cc f in subst (λ (m : ℕ). Results job m work) n results;
  }
