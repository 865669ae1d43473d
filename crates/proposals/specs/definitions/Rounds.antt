-- "w becomes w times (2 − g·w), until settled, for at most 12 rounds."
use Rattle.std.specs.Prelude.{Bool, true, false, ◌&&◌, cond, List, [], ◌∷◌, map, ℕ, zero, suc, Float, Result, Ok, Err}
use Rattle.std.specs.Float.{binary64}
use Rattle.std.specs.Float.Ieee.{sub, le}
use Rattle.std.specs.Float.Ieee.Scale.{finite}
use Rattle.proposals.specs.definitions.Values.{nought, two, settled_limit, difference, greater, all_finite}
use Rattle.proposals.specs.definitions.Product.{product}
use Rattle.proposals.specs.declared.types.Round.{Round}
use Rattle.proposals.specs.declared.types.FiniteRounds.{FiniteRounds}
use Rattle.model.specs.declared.types.Refusal.{Refusal}
use Rattle.model.specs.declared.types.Refusal.TheVariants.{NotFinite}
use Rattle.proposals.specs.declared.types.Ending.{Ending}
use Rattle.proposals.specs.declared.types.Ending.TheVariants.{Settled, GivenUp}

-- 2 − c: the constant 2 has 2 at place 0, and 0 at the others
unfoldable pub two_less : List Float → List Float
two_less [] = []
two_less (c ∷ cs) = sub binary64 two c ∷ map (sub binary64 nought) cs

-- w times (2 − g·w)
unfoldable pub improved : List Float → List Float → List Float
improved g w = product w (two_less (product g w))

-- the largest of d and the rounded absolute differences
unfoldable pub change_from : Float → List Float → List Float → Float
change_from d [] b = d
change_from d (x ∷ a) [] = d
change_from d (x ∷ a) (y ∷ b) = change_from (greater d (difference x y)) a b

-- "It keeps the f64 coefficients and the largest change in one record."
abbrev pub round_of : List Float → Float → Round
round_of w d = record { coefficients = w; change = d }

-- "a change being its round's largest rounded absolute difference"
unfoldable pub next_round : List Float → Round → Round
next_round g r =
    let w = improved g r.coefficients in
    round_of w (change_from nought w r.coefficients)

-- "a value isn't finite"; the change is one of the values. What was not finite inside the round shows here (FiniteMaking.antt).
unfoldable pub finite_round : Round → Bool
finite_round r = all_finite r.coefficients && finite r.change

-- what comes of the rounds: whether they are finite (if not, number 15 is due), how they ended, and the last round
pub record Made : Type 0 where
  pub finite : Bool
  pub ending : Ending
  pub round : Round

abbrev pub made_of : Bool → Ending → Round → Made
made_of b e r = record { finite = b; ending = e; round = r }

-- "for at most 12 rounds"
abbrev pub max_rounds : ℕ
max_rounds = 12

-- "either settled, with the last change, once that is at most 2^-24, or given up, with the last change"
unfoldable pub rounds : ℕ → List Float → Round → Made
rounds zero g r = made_of true (GivenUp r.change) r
rounds (suc n) g r =
    let s = next_round g r in
    cond (finite_round s)
    (cond (le s.change settled_limit) (made_of true (Settled s.change) s) (rounds n g s))
    (made_of false (GivenUp s.change) s)

-- what the code has of them
abbrev pub found_finite : Made → Result FiniteRounds Refusal
found_finite m = cond m.finite (Ok (record { ending = m.ending; round = m.round })) (Err NotFinite)
