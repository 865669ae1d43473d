-- Requirement 3 as one definition, `Requirement3`, the owner's sentences beside its fields, 01's beside what they speak of. What
-- else a reader believes, besides the library's numbers and lists:
--   the commands in the bytes, signed numbers among them: Bytes, Decode, Reading, Reader; the types of src/types.rt
--   what each command gives: Operations; model's Models, Intervals (18 and 19), src/types.rt, Load, Add, Multiply;
--     certificate's Tests, Quotient, Root, src/types.rt; radius's LeastRadius, src/types.rt; chebyshev's Coefficients, Product;
--     integer's Rounding, Ring, Integer
--   what refusals there are, and their order: `Meets` of Order, `area_places` of Work, with a report `report_places` of Reports;
--     model's Outcomes
--   what the code's answer means: `job_outcome_of` of Outcomes; for C, `answer_in`, `exported_places` of ferruntzo's Jobs, with a
--     report `exported_report_places`
--   where the models stand in the work area: `stored_result`, `models_in` of Work; model's Area
--   what a model allows, and where: model's Allowed, Intervals; chebyshev's Allows, Coefficients, Recurrences
--   fractions, their order and division: integer's Fraction, Pairs, FractionRing
use Rattle.std.specs.Prelude.{◌≡◌, Bool, false, ◌⊎◌, List, [], ◌∷◌, ◌++◌, ℕ, ◌<◌, ℤ, pos, length}
use Rattle.fraction.specs.definitions.Fraction.{ℚ, whole, ◌+ℚ◌, ◌-ℚ◌, ◌*ℚ◌, ◌≤ℚ◌, ◌<ℚ◌, ◌/ℚ◌}
use Rattle.model.specs.definitions.Allowed.{Allows, OnInterval}
use Rattle.model.specs.definitions.Outcomes.{Outcome}
use Rattle.certificate.specs.definitions.Tests.{Certificate}
use Rattle.certificate.specs.declared.types.RootRule.{RootRule}
use Rattle.model.specs.declared.types.Candidate.{Candidate}
use Rattle.model.specs.declared.types.Model.{Model}
use Rattle.job.specs.definitions.Operations.{Maker, load, add, subtract, multiply, quotient, root, names_bad, operation}
use Rattle.job.specs.definitions.Decode.{Command, result}
use Rattle.job.specs.definitions.Reader.{job_reading, well, command_for}
use Rattle.job.specs.definitions.Outcomes.{JobOutcome, accepted}
use Rattle.job.specs.definitions.Order.{Meets}
use Rattle.job.specs.definitions.Work.{stored_result, models_in}

-- "each of its results is exactly the loaded model, or what the operation or test of its command gives for the results, d and
-- blocks it names": the results rs are made by the commands cs, one after the other, each from those before it
pub data Made : List Command → List Model → Type 0 where
  nothing : Made [] []
  one_more : {cs : List Command} {rs : List Model} {c : Certificate} → Made cs rs → (m : Maker) → names_bad m (length rs) ≡ false
      → operation m rs ≡ Outcome.accepted c → Made (cs ++ (result m ∷ [])) (rs ++ (c.model ∷ []))

-- "A box is two fractions, low ≤ high."
pub record Box : Type 0 where
  pub low : ℚ
  pub high : ℚ
  pub ordered : low ≤ℚ high

-- a fraction lies in a box
pub record Lies (v : ℚ) (b : Box) : Type 0 where
  pub above : b.low ≤ℚ v
  pub below : v ≤ℚ b.high

-- a box contains the four products, or quotients, of the ends of two others
pub record ContainsFour (op : ℚ → ℚ → ℚ) (a b c : Box) : Type 0 where
  pub low_low : Lies (op a.low b.low) c
  pub low_high : Lies (op a.low b.high) c
  pub high_low : Lies (op a.high b.low) c
  pub high_high : Lies (op a.high b.high) c

-- "For one result and one x, it and every result it is formed from get one box each": `box` gives each result number its box,
-- so "a load named twice keeps its box". The boxes of result i and of all that it is formed from, "the results that its
-- command names and … all that those are formed from", are permitted at x. cs are the commands of the results, read from the
-- job's bytes; d, h and w play no part.
pub data Permitted (cs : List Command) (x : ℚ) (box : ℕ → Box) : ℕ → Type 0 where
  -- "Load: any fraction that the loaded model allows at x, as low and as high."
  load_box : (i : ℕ) (m : Model) (v : ℚ) → command_for cs i ≡ result (load m)
      → Allows m x v → (box i).low ≡ v → (box i).high ≡ v
      → Permitted cs x box i
  -- "Add and subtract: the exact ends, low + low and high + high, or low − high and high − low."
  add_box : (i j k : ℕ) → command_for cs i ≡ result (add j k) → Permitted cs x box j → Permitted cs x box k
      → (box i).low ≡ (box j).low +ℚ (box k).low → (box i).high ≡ (box j).high +ℚ (box k).high
      → Permitted cs x box i
  subtract_box : (i j k : ℕ) → command_for cs i ≡ result (subtract j k) → Permitted cs x box j → Permitted cs x box k
      → (box i).low ≡ (box j).low -ℚ (box k).high → (box i).high ≡ (box j).high -ℚ (box k).low
      → Permitted cs x box i
  -- "Multiply: any box that contains the four products of ends. d plays no part."
  multiply_box : (i j k d : ℕ) → command_for cs i ≡ result (multiply j k d) → Permitted cs x box j → Permitted cs x box k
      → ContainsFour ◌*ℚ◌ (box j) (box k) (box i)
      → Permitted cs x box i
  -- "Quotient: the box of g excludes 0, and the new box is any that contains the four quotients of ends."
  quotient_box : (i j k : ℕ) (h w : Candidate) → command_for cs i ≡ result (quotient j k h w)
      → Permitted cs x box j → Permitted cs x box k
      → ¬ Lies (whole (pos 0)) (box k)
      → ContainsFour ◌/ℚ◌ (box j) (box k) (box i)
      → Permitted cs x box i
  -- "Root: low = 0 or low > 0 with low² ≤ the old low, and high ≥ 0 with high² ≥ the old high." For 0x21 and 0x22; 02, S-22: "A
  -- job using it is as certain as any other."
  root_box : (i j : ℕ) (rule : RootRule) (h w : Candidate) → command_for cs i ≡ result (root rule j h w) → Permitted cs x box j
      → ((box i).low ≡ whole (pos 0)) ⊎ ((whole (pos 0) <ℚ (box i).low) × (((box i).low *ℚ (box i).low) ≤ℚ (box j).low))
      → whole (pos 0) ≤ℚ (box i).high → (box j).high ≤ℚ ((box i).high *ℚ (box i).high)
      → Permitted cs x box i

-- "… overlaps its model plus or minus its radius when some fraction lies in the box and is allowed by that model at x."
pub record Overlaps (b : Box) (m : Model) (x : ℚ) : Type 0 where
  pub v : ℚ
  pub lies : Lies v b
  pub allowed : Allows m x v

-- what is vouched for of result i at one fraction x, the models being "as left in the work area"
pub record Vouched (cs : List Command) (work : List ℤ) (i : ℕ) (x : ℚ) : Type 0 where
  -- "Whichever boxes document 01 permits there for it and all it is formed from, … its box overlaps its model"
  pub overlaps : (box : ℕ → Box) → Permitted cs x box i → Overlaps (box i) (stored_result work i) x
  -- "If it is a quotient, no value that the divisor's model allows there is zero;"
  pub divisor : (j k : ℕ) (h w : Candidate) → command_for cs i ≡ result (quotient j k h w)
      → (v : ℚ) → Allows (stored_result work k) x v → ¬ (v ≡ whole (pos 0))
  -- "if a root, no value that the model under the root allows there is negative."
  pub radicand : (j : ℕ) (rule : RootRule) (h w : Candidate) → command_for cs i ≡ result (root rule j h w)
      → (v : ℚ) → Allows (stored_result work j) x v → ¬ (v <ℚ whole (pos 0))

-- what is vouched for of an accepted job
pub record Results (job : List ℕ) (count : ℕ) (work : List ℤ) : Type 0 where
  pub commands : List Command
  pub read : job_reading job ≡ well commands
  -- "its results are exactly those that document 01 gives for its commands." (`work_after` of Work has the rest of the area.)
  pub made : Made commands (models_in work count)
  -- "Of each result the following then holds at every fraction from -1 to 1.", with S-24 "at fractions of its own interval in
  -- place of -1 to 1"
  pub vouched : (i : ℕ) → i < count → (x : ℚ) → OnInterval (stored_result work i).interval x → Vouched commands work i x

-- "For every list of bytes …, whatever the lent areas held before:" of the places that the areas can be refused at, the bytes,
-- the answer, and the work area as left
pub record Requirement3 (areas : List (Bool × ℕ)) (job : List ℕ) (answer : JobOutcome ℕ) (work : List ℤ) : Type 0 where
  -- "it is accepted if it meets no numbered refusal,"
  pub accepts : ((n k : ℕ) → ¬ Meets areas job n k) → (count : ℕ) × (answer ≡ accepted count)
  -- "and if it is accepted, …"
  pub results : (count : ℕ) → answer ≡ accepted count → Results job count work
