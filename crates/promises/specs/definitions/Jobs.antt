-- Requirement 3, and what else 01 and 02 say of jobs.
use Rattle.std.specs.Prelude.{◌≡◌, Bool, true, List, ◌↔◌, ℕ, ◌≤◌, ◌<◌, ℤ, pos, length}
use Rattle.fraction.specs.definitions.Fraction.{ℚ, whole, ◌≤ℚ◌, ◌<ℚ◌}
use Rattle.model.specs.definitions.Models.{good}
use Rattle.model.specs.definitions.Outcomes.{Outcome, Passed}
use Rattle.model.specs.definitions.Allowed.{Allows, OnInterval}
use Rattle.model.specs.definitions.Evaluate.{point}
use Rattle.model.specs.declared.types.Candidate.{Candidate}
use Rattle.model.specs.declared.types.Model.{Model}
use Rattle.certificate.specs.definitions.Tests.{Certificate}
use Rattle.certificate.specs.definitions.Quotient.{quotient_needing}
use Rattle.certificate.specs.definitions.Root.{root_needing}
use Rattle.certificate.specs.declared.types.RootRule.{RootRule}
use Rattle.certificate.specs.declared.types.RootRule.TheVariants.{ByDiscriminant, ByLeastRadius}
use Rattle.job.specs.definitions.Operations.{Maker, quotient, root, result_at, operation}
use Rattle.job.specs.definitions.Decode.{Command, result}
use Rattle.job.specs.definitions.Reader.{job_reading, well, command_for}
use Rattle.job.specs.definitions.Outcomes.{JobOutcome, accepted, refused}
use Rattle.job.specs.definitions.Run.{job_outcome}
use Rattle.job.specs.definitions.Order.{RefusesAt, EndsWith, Meets}
use Rattle.job.specs.definitions.Work.{stored_result, models_in, area_places, check_outcome, check_needing, work_after, work_needing}
use Rattle.job.specs.definitions.Requirement.{Made, Box, Lies, Permitted, Requirement3}
use Rattle.job.specs.definitions.ExactValues.{Exact, value_by, Follows, FormedFrom, Chosen}
use Rattle.job.specs.definitions.FormedBoxes.{Formed}

-- the commands of an accepted job, of which the claim in the contracts of `check` and `ferruntzo_check` speaks
abbrev pub commands_of : {areas : List (Bool × ℕ)} {job : List ℕ} {answer : JobOutcome ℕ} {work : List ℤ}
    → Requirement3 areas job answer work → {count : ℕ} → answer ≡ accepted count → List Command
commands_of claim {count} e = (claim.results count e).commands

-- ---- what the claim in the contracts says, sentence by sentence

pub record Requirement3Says (areas : List (Bool × ℕ)) (job : List ℕ) (answer : JobOutcome ℕ) (work : List ℤ)
    (claim : Requirement3 areas job answer work) : Type 0 where
  -- "it is accepted if it meets no numbered refusal,"
  pub accepts : ((n k : ℕ) → ¬ Meets areas job n k) → (count : ℕ) × (answer ≡ accepted count)
  -- "and if it is accepted, its results are exactly those that document 01 gives for its commands."
  pub read : (count : ℕ) (e : answer ≡ accepted count) → job_reading job ≡ well (commands_of claim e)
  pub made : (count : ℕ) (e : answer ≡ accepted count) → Made (commands_of claim e) (models_in work count)
  -- "Of each result the following then holds at every fraction" of its own interval (S-24). "Whichever boxes document 01 permits
  -- there …, its box overlaps its model plus or minus its radius, both as left in the work area."
  pub overlaps : (count : ℕ) (e : answer ≡ accepted count) (i : ℕ) → i < count
      → (x : ℚ) → OnInterval (stored_result work i).interval x
      → (box : ℕ → Box) → Permitted (commands_of claim e) x box i
      → (v : ℚ) × ((box i).low ≤ℚ v) × (v ≤ℚ (box i).high) × Allows (stored_result work i) x v
  -- "If it is a quotient, no value that the divisor's model allows there is zero;"
  pub divisor : (count : ℕ) (e : answer ≡ accepted count) (i : ℕ) → i < count
      → (x : ℚ) → OnInterval (stored_result work i).interval x
      → (j k : ℕ) (h w : Candidate) → command_for (commands_of claim e) i ≡ result (quotient j k h w)
      → (v : ℚ) → Allows (stored_result work k) x v → ¬ (v ≡ whole (pos 0))
  -- "if a root, no value that the model under the root allows there is negative."
  pub radicand : (count : ℕ) (e : answer ≡ accepted count) (i : ℕ) → i < count
      → (x : ℚ) → OnInterval (stored_result work i).interval x
      → (j : ℕ) (rule : RootRule) (h w : Candidate) → command_for (commands_of claim e) i ≡ result (root rule j h w)
      → (v : ℚ) → Allows (stored_result work j) x v → ¬ (v <ℚ whole (pos 0))
  -- with the order of refusals, for every list of bytes: a job that ends with the results rs is accepted with their count, and
  -- they are the models in the work area
  pub ends_accepted : Passed areas → (rs : List Model) → EndsWith job rs → answer ≡ accepted (length rs)
  pub ends_models : Passed areas → (rs : List Model) → EndsWith job rs → models_in work (length rs) ≡ rs
  -- and one that meets no refusal is such a job
  pub none_accepted : ((n k : ℕ) → ¬ Meets areas job n k) → (rs : List Model) × EndsWith job rs × (answer ≡ accepted (length rs))

-- ---- what follows from it, for every job and every answer of which the claim holds

module _ (areas : List (Bool × ℕ)) (job : List ℕ) (answer : JobOutcome ℕ) (work : List ℤ)
    (claim : Requirement3 areas job answer work) (count : ℕ) (e : answer ≡ accepted count) where
  pub record Requirement3Gives : Type 0 where
    -- an exact value of a result, formed without boxes and without models but those of the loads, is allowed by its model
    pub exact_allowed : (x : ℚ) (v : ℕ → ℚ) (i : ℕ) → i < count → OnInterval (stored_result work i).interval x
        → Exact (commands_of claim e) x v i → Allows (stored_result work i) x (v i)
    -- for every choice of values that the loads allow, and of fractions whose squares stand under roots, there are such values
    pub exact_values : (x : ℚ) (choice : ℕ → ℚ) → (v : ℕ → ℚ) × Follows (commands_of claim e) choice count v
        × ((i : ℕ) → i < count → OnInterval (stored_result work i).interval x → Chosen (commands_of claim e) x choice v i
        → Exact (commands_of claim e) x v i × Allows (stored_result work i) x (v i))
    -- exact values are such a choice
    pub exact_chosen : (x : ℚ) (v : ℕ → ℚ) (i : ℕ) → Exact (commands_of claim e) x v i → Chosen (commands_of claim e) x v v i
    pub exact_follows : (x : ℚ) (v : ℕ → ℚ) (i : ℕ) → Exact (commands_of claim e) x v i → (r : ℕ) (m : Maker)
        → FormedFrom (commands_of claim e) i r → command_for (commands_of claim e) r ≡ result m → v r ≡ value_by v v r m
    -- boxes that follow 01's rules at every result overlap the models
    pub formed_overlaps : (x : ℚ) (box : ℕ → Box)
        → ((i : ℕ) → i < count → (m : Maker) → command_for (commands_of claim e) i ≡ result m → Formed x box i m)
        → (i : ℕ) → i < count → OnInterval (stored_result work i).interval x
        → (v : ℚ) × Lies v (box i) × Allows (stored_result work i) x v
    pub exact_divisor : (x : ℚ) (v : ℕ → ℚ) (i j k : ℕ) (h w : Candidate) → i < count → k < count
        → OnInterval (stored_result work i).interval x → command_for (commands_of claim e) i ≡ result (quotient j k h w)
        → Exact (commands_of claim e) x v k → ¬ (v k ≡ whole (pos 0))
    pub accepted_meets_none : (n k : ℕ) → ¬ RefusesAt job n k
    -- every result is a good model, and its interval has a fraction
    pub results_good : (i : ℕ) → i < count → good (stored_result work i) ≡ true
    pub results_start : (i : ℕ) → i < count
        → OnInterval (stored_result work i).interval (point (stored_result work i).interval.lower)

-- ---- the whole

pub record JobPromises : Type 0 where
  pub requirement_3 : (areas : List (Bool × ℕ)) (job : List ℕ) (answer : JobOutcome ℕ) (work : List ℤ)
      (claim : Requirement3 areas job answer work) → Requirement3Says areas job answer work claim
  pub requirement_3_gives : (areas : List (Bool × ℕ)) (job : List ℕ) (answer : JobOutcome ℕ) (work : List ℤ)
      (claim : Requirement3 areas job answer work) (count : ℕ) (e : answer ≡ accepted count)
      → Requirement3Gives areas job answer work claim count e
  -- 01, "Refused, and where": the order of the table over a whole job
  pub refused_exactly : (job : List ℕ) (n k : ℕ) → (job_outcome job ≡ refused n k) ↔ RefusesAt job n k
  pub accepted_exactly : (job : List ℕ) (rs : List Model) → (job_outcome job ≡ accepted rs) ↔ EndsWith job rs
  -- "lent areas, work area before scratch", first
  pub check_refused_exactly : (job : List ℕ) (w s : List ℤ) (n k : ℕ)
      → (check_outcome job w s ≡ refused n k) ↔ Meets (area_places w s) job n k
  pub check_accepted_exactly : (job : List ℕ) (w s : List ℤ) (rs : List Model)
      → (check_outcome job w s ≡ accepted rs) ↔ (Passed (area_places w s) × EndsWith job rs)
  -- 02, S-17: with 16 or more as with 65, of a job and of each test in it
  pub check_as_65 : (job : List ℕ) (w s former : List ℤ) → 16 ≤ length s → 65 ≤ length former
      → check_outcome job w s ≡ check_needing 65 job w former
  pub work_as_65 : (job : List ℕ) (w s former : List ℤ) → 16 ≤ length s → 65 ≤ length former
      → work_after job w s ≡ work_needing 65 job w former
  pub check_below_16 : (job : List ℕ) (w s : List ℤ) → length s < 16 → check_outcome job w s ≡ refused 1 0
  pub quotient_operation_as_65 : (i j : ℕ) (h w : Candidate) (rs : List Model) (former : ℕ) → 65 ≤ former
      → operation (quotient i j h w) rs ≡ quotient_needing 65 former (result_at rs i) (result_at rs j) h w
  pub root_operation_as_65 : (rule : RootRule) (i : ℕ) (h w : Candidate) (rs : List Model) (former : ℕ) → 65 ≤ former
      → operation (root rule i h w) rs ≡ root_needing rule 65 former (result_at rs i) h w
  -- 02, S-22, in a job
  pub tight_operation : (i : ℕ) (h w : Candidate) (rs : List Model) (c : Certificate)
      → operation (root ByLeastRadius i h w) rs ≡ Outcome.accepted c
      → (d : Certificate) × (operation (root ByDiscriminant i h w) rs ≡ Outcome.accepted d)
      × (c.model.radius ≤ d.model.radius)
