-- Each result of an accepted job is a good model: no later command refuses it with 2 or 18, and there are fractions of its interval,
-- of which requirement 3 speaks.
use Rattle.std.specs.Prelude.{◌≡◌, true, List, ℕ, ◌<◌, ℤ, pos, length, ◌≤ℤ◌, ◌<ℤ◌}
use Rattle.std.proofs.Common.{sym, ◌∙◌, ap, arith}
use Rattle.fraction.specs.definitions.Fraction.{whole, ◌*ℚ◌}
use Rattle.ring.specs.laws.Difference.{all2, differences}
use Rattle.fraction.proofs.laws.FractionLaws.{*ℚ_comm}
use Rattle.integer.proofs.laws.FractionOrder.{ℚ_ordered, whole_le}
use Rattle.ring.proofs.laws.OrderedRingLaws.{le_of_eq}
use Rattle.model.specs.definitions.Allowed.{OnInterval}
use Rattle.model.specs.definitions.Evaluate.{point}
use Rattle.model.specs.definitions.Models.{scale, good}
use Rattle.model.specs.definitions.Outcomes.{Outcome, accepted}
use Rattle.model.specs.definitions.Load.{loading}
use Rattle.model.specs.definitions.Add.{addition, subtraction}
use Rattle.model.specs.definitions.Multiply.{multiplication}
use Rattle.model.proofs.laws.EvaluationError.{point-scale}
use Rattle.model.proofs.laws.ModelLaws.{good_is}
use Rattle.model.proofs.laws.GoodResults.{loading-good, addition-good, subtraction-good, multiplication-good}
use Rattle.model.specs.declared.types.Model.{Model}
use Rattle.certificate.specs.definitions.Tests.{scratch_size, Certificate}
use Rattle.certificate.proofs.laws.TestFits.{quotient_good, root_good}
use Rattle.job.specs.definitions.Operations.{Maker, load, add, subtract, multiply, quotient, root, result_at, operation}
use Rattle.job.specs.definitions.Decode.{Command}
use Rattle.job.specs.definitions.InnerContracts.{untested_outcome}
use Rattle.job.specs.definitions.Work.{stored_result}
use Rattle.job.specs.definitions.Requirement.{Made, Results}
use Rattle.job.proofs.laws.MakerLaws.{untested_accepted, load_operation, add-operation, subtract_operation, multiply_operation, quotient_operation, root_operation}
use Rattle.job.proofs.laws.MadeLaws.{made_maker, made_by_maker}
use Rattle.job.proofs.laws.WorkLaws.{length-models_in, models_in_at}

-- what a maker gives, whatever results it is given
module _ (rs : List Model) {c : Certificate} where
  given : (m : Maker) (o : Outcome Model) → operation m rs ≡ untested_outcome o → operation m rs ≡ accepted c → o ≡ accepted c.model
  given m o is e = untested_accepted o (sym is ∙ e)

  pub maker_good : (m : Maker) → operation m rs ≡ accepted c → good c.model ≡ true
  maker_good (load m) e = loading-good m (given (load m) (loading m) (load_operation m rs) e)
  maker_good (add i j) e =
      addition-good (result_at rs i) (result_at rs j) (given (add i j) (addition (result_at rs i) (result_at rs j)) (add-operation i j rs) e)
  maker_good (subtract i j) e =
      subtraction-good (result_at rs i) (result_at rs j) (given (subtract i j) (subtraction (result_at rs i) (result_at rs j)) (subtract_operation i j rs) e)
  maker_good (multiply i j d) e =
      multiplication-good d (result_at rs i) (result_at rs j) (given (multiply i j d) (multiplication d (result_at rs i) (result_at rs j)) (multiply_operation i j d rs) e)
  maker_good (quotient i j h w) e =
      quotient_good scratch_size (result_at rs i) (result_at rs j) h w (sym (quotient_operation i j h w rs) ∙ e)
  maker_good (root rule i h w) e =
      root_good rule scratch_size (result_at rs i) h w (sym (root_operation rule i h w rs) ∙ e)

pub made_good : {cs : List Command} {rs : List Model} → Made cs rs → (i : ℕ) → i < length rs → good (result_at rs i) ≡ true
made_good {cs} {rs} made i h =
    let (m, e) = made_by_maker made i h in
    let r = made_maker made i m e in
    ap good r.gives ∙ maker_good rs m r.succeeds

-- as left in the work area
pub results_good : {job : List ℕ} {count : ℕ} {work : List ℤ} → Results job count work → (i : ℕ) → i < count → good (stored_result work i) ≡ true
results_good {count = count} {work = work} r i h =
    ap good (sym (models_in_at work count i h)) ∙ made_good r.made i (omega (arith, length-models_in work count))

-- ---- a fraction of each interval

less : (l u : ℤ) → l <ℤ u → l ≤ℤ u
less = all2 _ (simp differences (omega arith))

-- l/S is one
start-on : (m : Model) → good m ≡ true → OnInterval m.interval (point m.interval.lower)
start-on m g =
    let l = m.interval.lower in
    let e : whole (pos scale) *ℚ point l ≡ whole l = *ℚ_comm _ _ ∙ point-scale l in record {
      above = le_of_eq ℚ_ordered (sym e);
      below = rw e ((whole_le l m.interval.upper).1 (less l m.interval.upper (good_is m g).ends.ordered));
    }

pub results_start : {job : List ℕ} {count : ℕ} {work : List ℤ} → Results job count work → (i : ℕ) → i < count
    → let m = stored_result work i in OnInterval m.interval (point m.interval.lower)
results_start {work = work} r i h = start-on (stored_result work i) (results_good r i h)
