-- "until settled, for at most 12 rounds": how the rounds (Rounds.antt) end, after how many, and what holds of the last one.
use Rattle.std.specs.Prelude.{◌≡◌, Bool, true, false, List, ◌⊎◌, ℕ, zero, suc, ◌≤◌, ◌<◌, Float}
use Rattle.std.specs.Float.{binary64}
use Rattle.std.specs.Float.Ieee.{div, le}
use Rattle.proposals.specs.definitions.Values.{nought, one, settled_limit}
use Rattle.proposals.specs.definitions.Rounds.{round_of, next_round, finite_round}
use Rattle.proposals.specs.definitions.Reciprocal.{constant_list, first_value}
use Rattle.proposals.specs.declared.types.Round.{Round}
use Rattle.proposals.specs.definitions.Rounds.{Made}
use Rattle.proposals.specs.declared.types.Ending.{Ending}
use Rattle.proposals.specs.declared.types.Ending.TheVariants.{Settled, GivenUp}

-- "settled, with the last change, … or given up, with the last change": the change that an outcome carries
abbrev pub change_in : Ending → Float
change_in (Settled d) = d
change_in (GivenUp d) = d

-- "w starts at the constant 1/g_0"
abbrev pub start_of : List Float → Round
start_of g = round_of (constant_list (div binary64 one (first_value g))) nought

-- k rounds from r on
unfoldable pub iterated : ℕ → List Float → Round → Round
iterated zero g r = r
iterated (suc k) g r = iterated k g (next_round g r)

-- "once that is at most 2^-24"
abbrev pub settles : Round → Bool
settles r = le r.change settled_limit

-- m comes of at most n rounds from r on
pub record Ends (n : ℕ) (g : List Float) (r : Round) (m : Made) : Type 0 where
  -- how many rounds were made, and that the last one is the record's
  pub count : ℕ
  pub within : count ≤ n
  pub reached : m.round ≡ iterated count g r
  -- every round before the last was finite and did not settle
  pub before : (i : ℕ) → 0 < i → i < count → (finite_round (iterated i g r) ≡ true) × (settles (iterated i g r) ≡ false)
  -- whether the last one was finite is what m says
  pub last : 0 < count → finite_round m.round ≡ m.finite
  pub not_finite : m.finite ≡ false → 0 < count
  -- and either outcome carries the last change
  pub settled : (d : Float) → m.ending ≡ Settled d
      → (d ≡ m.round.change) × (0 < count) × (m.finite ≡ true) × (settles m.round ≡ true)
  pub given_up : (d : Float) → m.ending ≡ GivenUp d
      → (d ≡ m.round.change) × (m.finite ≡ true → (count ≡ n) × ((n ≡ 0) ⊎ (settles m.round ≡ false)))
