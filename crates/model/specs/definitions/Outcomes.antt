-- What an entry answers: it accepts with its values, or refuses with a number of document 01's table "Refused, and where", to
-- which the change requests of document 02 add theirs.
use Rattle.std.specs.Prelude.{◌≡◌, Bool, true, false, cond, List, [], ◌∷◌, ℕ, Result, Ok, Err}
use Rattle.model.specs.definitions.Models.{zero_model}
use Rattle.model.specs.declared.types.Model.{Model}
use Rattle.model.specs.declared.types.Refusal.{Refusal}
use Rattle.model.specs.declared.types.Refusal.TheVariants.{ShortArea, BadModel, LargeResult, PointOutside}
use Rattle.model.specs.declared.types.Refusal.TheVariants.{NotContracting, LargeResidual, HelperNotPositive}
use Rattle.model.specs.declared.types.Refusal.TheVariants.{NegativeDiscriminant, BadValue, JobEnds, BytesAfterEnd}
use Rattle.model.specs.declared.types.Refusal.TheVariants.{NotAResult, TooManyResults, BadSeries, NotFinite, LargeProposal}
use Rattle.model.specs.declared.types.Refusal.TheVariants.{NoRadius, BadEnds, DifferentIntervals, ShortOutput}

-- "A refused operation gives its number beside the zero model …; refused evaluation gives bounds 0 and 0. Any other number an
-- entry answers, or a record holds, is zero on refusal too."
pub data Outcome (A : Type 0) : Type 0 where
  accepted : A → Outcome A
  refused : ℕ → A → Outcome A

-- the number that an entry answers: that of the refusal, or 0
abbrev pub number : {A : Type 0} → Outcome A → ℕ
number (accepted a) = 0
number (refused n a) = n

-- what is given beside it: the values, or zeros
abbrev pub payload : {A : Type 0} → Outcome A → A
payload (accepted a) = a
payload (refused n a) = a

-- the same number beside other values
abbrev pub map_outcome : {A B : Type 0} → (A → B) → Outcome A → Outcome B
map_outcome f (accepted a) = accepted (f a)
map_outcome f (refused n a) = refused n (f a)

-- The places of the table that are passed through, in their order: a condition and its number. The first condition that holds
-- refuses with its number; where none does, a is what comes of it.
unfoldable pub passing : {A : Type 0} → List (Bool × ℕ) → A → (ℕ → A) → A
passing [] a refusing = a
passing (p ∷ ps) a refusing = cond p.0 (refusing p.1) (passing ps a refusing)

-- no condition holds
abbrev pub Passed : List (Bool × ℕ) → Type 0
Passed [] = Unit {0}
Passed (p ∷ ps) = (p.0 ≡ false) × Passed ps

-- the first place whose condition holds has number n
pub data First : List (Bool × ℕ) → ℕ → Type 0 where
  here : {p : Bool × ℕ} {ps : List (Bool × ℕ)} {n : ℕ} → p.0 ≡ true → p.1 ≡ n → First (p ∷ ps) n
  later : {p : Bool × ℕ} {ps : List (Bool × ℕ)} {n : ℕ} → p.0 ≡ false → First ps n → First (p ∷ ps) n

-- the outcome of an operation that passes through places; z is zero in place of the values a
abbrev pub outcome : {A : Type 0} → List (Bool × ℕ) → A → A → Outcome A
outcome ps a z = passing ps (accepted a) (λ n. refused n z)

-- ---- what the code's answers mean

-- the numbers of the table, 14 of request S-3, 15 and 16 of S-19, 17 of S-22, 18 and 19 of S-24, 20 of S-27
abbrev pub number_of : Refusal → ℕ
number_of ShortArea = 1
number_of BadModel = 2
number_of LargeResult = 3
number_of PointOutside = 4
number_of NotContracting = 5
number_of LargeResidual = 6
number_of HelperNotPositive = 7
number_of NegativeDiscriminant = 8
number_of BadValue = 9
number_of JobEnds = 10
number_of BytesAfterEnd = 11
number_of NotAResult = 12
number_of TooManyResults = 13
number_of BadSeries = 14
number_of NotFinite = 15
number_of LargeProposal = 16
number_of NoRadius = 17
number_of BadEnds = 18
number_of DifferentIntervals = 19
number_of ShortOutput = 20

abbrev pub verdict_number : {A : Type 0} → Result A Refusal → ℕ
verdict_number (Ok a) = 0
verdict_number (Err r) = number_of r

-- the values, or the refusal beside z, the zeros in their place
abbrev pub judged : {A : Type 0} → A → Result A Refusal → Outcome A
judged z (Ok a) = accepted a
judged z (Err r) = refused (number_of r) z

abbrev pub outcome_of : Result Model Refusal → Outcome Model
outcome_of r = judged zero_model r
