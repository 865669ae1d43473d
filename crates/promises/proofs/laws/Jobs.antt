-- The promises about jobs are kept. What the claim of the contracts says is taken from the claim alone.
use Rattle.std.specs.Prelude.{◌≡◌, Bool, List, ℕ, ℤ}
use Rattle.job.specs.definitions.Outcomes.{JobOutcome, accepted}
use Rattle.job.specs.definitions.Requirement.{Requirement3}
use Rattle.job.proofs.laws.CheckLaws as checks
use Rattle.job.proofs.laws.EveryJob as every
use Rattle.job.proofs.laws.ExactAllowed as exact
use Rattle.job.proofs.laws.ExactChosen as chosen
use Rattle.job.proofs.laws.ExactExists as values
use Rattle.job.proofs.laws.FormedBoxes as boxes
use Rattle.job.proofs.laws.GoodResults as results
use Rattle.job.proofs.laws.MakerLaws as makers
use Rattle.job.proofs.laws.MeetsNone as meets
use Rattle.job.proofs.laws.OrderLaws as order
use Rattle.promises.specs.definitions.Jobs.{Requirement3Says, Requirement3Gives, JobPromises}

module _ (areas : List (Bool × ℕ)) (job : List ℕ) (answer : JobOutcome ℕ) (work : List ℤ) (claim : Requirement3 areas job answer work) where
  says : Requirement3Says areas job answer work claim
  says = record {
    accepts = claim.accepts;
    read = λ count e. (claim.results count e).read;
    made = λ count e. (claim.results count e).made;
    overlaps = λ count e i h x on box p.
        let o = ((claim.results count e).vouched i h x on).overlaps box p in (o.v, o.lies.above, o.lies.below, o.allowed);
    divisor = λ count e i h x on. ((claim.results count e).vouched i h x on).divisor;
    radicand = λ count e i h x on. ((claim.results count e).vouched i h x on).radicand;
    ends_accepted = λ fit rs ends. every.ends_accepted claim fit ends;
    ends_models = λ fit rs ends. every.ends_models claim fit ends;
    none_accepted = every.none_accepted claim;
  }

  gives : (count : ℕ) (e : answer ≡ accepted count) → Requirement3Gives areas job answer work claim count e
  gives count e = record {
    exact_allowed = λ x v i h on p. exact.exact_allowed claim e x h on p;
    exact_values = λ x choice. values.exact_values claim e x choice;
    formed_overlaps = λ x box formed i h on. let o = boxes.formed_overlaps claim e x box formed i h on in (o.v, o.lies, o.allowed);
    exact_chosen = λ x v i p. chosen.exact_chosen p;
    exact_follows = λ x v i p. chosen.exact_follows p;
    exact_divisor = λ x v i j k h w hi hk on f p. exact.exact_divisor claim e x hi hk on f p;
    accepted_meets_none = meets.accepted_meets_none claim count e;
    results_good = results.results_good (claim.results count e);
    results_start = results.results_start (claim.results count e);
  }

pub jobs_kept : JobPromises
jobs_kept = record {
  requirement_3 = says;
  requirement_3_gives = gives;
  refused_exactly = order.refused_exactly;
  accepted_exactly = order.accepted_exactly;
  check_refused_exactly = checks.check_refused_exactly;
  check_accepted_exactly = checks.check_accepted_exactly;
  check_as_65 = checks.check_as_65;
  work_as_65 = checks.work_as_65;
  check_below_16 = checks.check_below_16;
  quotient_operation_as_65 = λ i j h w rs former k. makers.quotient_operation_as_65 i j h w rs k;
  root_operation_as_65 = λ rule i h w rs former k. makers.root_operation_as_65 rule i h w rs k;
  tight_operation = λ i h w rs c e. makers.tight_operation i h w rs e;
}
