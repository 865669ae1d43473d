-- Exact values: what a job's commands mean in fractions, with no boxes and no models but those of the loads. `v` gives each
-- result number its value; cs are the commands of the results.
use Rattle.std.specs.Prelude.{◌≡◌, List, ◌⊎◌, ℕ, ◌<◌, pos}
use Rattle.fraction.specs.definitions.Fraction.{ℚ, whole, ◌+ℚ◌, ◌-ℚ◌, ◌*ℚ◌, ◌≤ℚ◌, ∣◌∣ℚ, ◌/ℚ◌}
use Rattle.model.specs.definitions.Allowed.{Allows}
use Rattle.certificate.specs.declared.types.RootRule.{RootRule}
use Rattle.model.specs.declared.types.Candidate.{Candidate}
use Rattle.model.specs.declared.types.Model.{Model}
use Rattle.job.specs.definitions.Operations.{Maker, load, add, subtract, multiply, quotient, root, Making}
use Rattle.job.specs.definitions.Operations.{of_none, of_one, of_two, making_for}
use Rattle.job.specs.definitions.Decode.{Command, result}
use Rattle.job.specs.definitions.Reader.{command_for}

-- v i is an exact value of result i at x, and so are the values of all that it is formed from
pub data Exact (cs : List Command) (x : ℚ) (v : ℕ → ℚ) : ℕ → Type 0 where
  load_value : (i : ℕ) (m : Model) → command_for cs i ≡ result (load m) → Allows m x (v i) → Exact cs x v i
  add_value : (i j k : ℕ) → command_for cs i ≡ result (add j k) → Exact cs x v j → Exact cs x v k
      → v i ≡ v j +ℚ v k → Exact cs x v i
  subtract_value : (i j k : ℕ) → command_for cs i ≡ result (subtract j k) → Exact cs x v j → Exact cs x v k
      → v i ≡ v j -ℚ v k → Exact cs x v i
  multiply_value : (i j k d : ℕ) → command_for cs i ≡ result (multiply j k d) → Exact cs x v j → Exact cs x v k
      → v i ≡ v j *ℚ v k → Exact cs x v i
  quotient_value : (i j k : ℕ) (h w : Candidate) → command_for cs i ≡ result (quotient j k h w) → Exact cs x v j → Exact cs x v k
      → ¬ (v k ≡ whole (pos 0)) → v i ≡ v j /ℚ v k → Exact cs x v i
  root_value : (i j : ℕ) (rule : RootRule) (h w : Candidate) → command_for cs i ≡ result (root rule j h w) → Exact cs x v j
      → whole (pos 0) ≤ℚ v i → v i *ℚ v i ≡ v j → Exact cs x v i

-- ---- values by a choice: `choice i` is the value taken for a load, and for a root a fraction whose square is under it

-- the value of result i by its command
abbrev pub value_by : (ℕ → ℚ) → (ℕ → ℚ) → ℕ → Maker → ℚ
value_by choice v i (load m) = choice i
value_by choice v i (add j k) = v j +ℚ v k
value_by choice v i (subtract j k) = v j -ℚ v k
value_by choice v i (multiply j k d) = v j *ℚ v k
value_by choice v i (quotient j k h w) = v j /ℚ v k
value_by choice v i (root rule j h w) = ∣ choice i ∣ℚ

-- the first n values are those of their commands
abbrev pub Follows : List Command → (ℕ → ℚ) → ℕ → (ℕ → ℚ) → Type 0
Follows cs choice n v = (i : ℕ) → i < n → (m : Maker) → command_for cs i ≡ result m → v i ≡ value_by choice v i m

-- what is asked of the choice
abbrev pub Suits : ℚ → (ℕ → ℚ) → (ℕ → ℚ) → ℕ → Maker → Type 0
Suits x choice v i (load m) = Allows m x (choice i)
Suits x choice v i (add j k) = Unit {0}
Suits x choice v i (subtract j k) = Unit {0}
Suits x choice v i (multiply j k d) = Unit {0}
Suits x choice v i (quotient j k h w) = Unit {0}
Suits x choice v i (root rule j h w) = v j ≡ choice i *ℚ choice i

-- a making names result j
abbrev pub NamedBy : Making → ℕ → Type 0
NamedBy (of_none g) j = ⊥
NamedBy (of_one i g) j = j ≡ i
NamedBy (of_two i k g) j = (j ≡ i) ⊎ (j ≡ k)

-- result i is result r, or formed from it: "A result is formed from the results that its command names and from all that those
-- are formed from."
pub data FormedFrom (cs : List Command) : ℕ → ℕ → Type 0 where
  itself : (i : ℕ) → FormedFrom cs i i
  through : (i j r : ℕ) (m : Maker) → command_for cs i ≡ result m → NamedBy (making_for m) j → FormedFrom cs j r → FormedFrom cs i r

-- the choice suits result i and all that it is formed from
abbrev pub Chosen : List Command → ℚ → (ℕ → ℚ) → (ℕ → ℚ) → ℕ → Type 0
Chosen cs x choice v i = (r : ℕ) (m : Maker) → FormedFrom cs i r → command_for cs r ≡ result m → Suits x choice v r m
