-- Steps of the loops over rounds and changes; what is made is finite, and its outcome carries the record's change.
use Rattle.std.specs.Prelude.{◌≡◌, refl, Bool, true, false, cond, List, [], ◌∷◌, map, ℕ, zero, suc, ◌+◌, ◌<◌, ◌≤◌, T, length, get_or, drop, set, Float}
use Rattle.std.proofs.Common.{sym, ◌∙◌, subst, add-one, drop_of_length-le, drop-cons}
use Rattle.std.specs.Float.{nan, binary64}
use Rattle.std.specs.Float.Ieee.{sub, le}
use Rattle.std.specs.Float.Ieee.Bits.{is_true}
use Rattle.std.specs.Float.Ieee.Fits.{and_l}
use Rattle.std.specs.Float.Ieee.Scale.{finite}
use Rattle.proposals.specs.definitions.Values.{nought, two, settled_limit, difference, greater, all_finite}
use Rattle.proposals.specs.definitions.Rounds.{two_less, change_from, next_round, finite_round, made_of, rounds}
use Rattle.proposals.specs.definitions.Endings.{change_in}
use Rattle.proposals.specs.declared.types.Round.{Round}
use Rattle.proposals.specs.definitions.Rounds.{Made}
use Rattle.proposals.specs.declared.types.Ending.TheVariants.{Settled, GivenUp}

pub two_less-set : (c : List Float) → set (map (sub binary64 nought) c) 0 (sub binary64 two (get_or c 0 nan)) ≡ two_less c
unfolding two_less
two_less-set [] = refl
two_less-set (x ∷ c) = refl

-- ---- the change

-- a turn takes the first of what is left of both lists, until nothing is left
pub change_turn : (d x y : Float) {u v : Float} {a a' b b' : List Float} → a ≡ u ∷ a' → b ≡ v ∷ b' → x ≡ difference u v → y ≡ greater d x
    → change_from y a' b' ≡ change_from d a b
unfolding change_from
change_turn d x y ea eb ex ey = rw (ea, eb, ey, ex)

pub change_none : (d : Float) (a b : List Float) → a ≡ [] → change_from d a b ≡ d
unfolding change_from
change_none d a b e = rw e

-- the same by places
change_step : (d : Float) (a b : List Float) (k : ℕ) → k < length a → k < length b
    → change_from d (drop k a) (drop k b) ≡ change_from (greater d (difference (get_or a k nan) (get_or b k nan))) (drop (k + 1) a) (drop (k + 1) b)
unfolding change_from
change_step d a b k h l = rw (drop-cons a k nan h, drop-cons b k nan l, add-one k)

pub change_end : (d : Float) (a b : List Float) (k : ℕ) → length a ≤ k → change_from d (drop k a) (drop k b) ≡ d
unfolding change_from
change_end d a b k h = rw (drop_of_length-le a {i = k} h)

pub change_again : (a b : List Float) (k : ℕ) (d₀ d x y : Float) → k < length a → k < length b → change_from d (drop k a) (drop k b) ≡ change_from d₀ a b
    → x ≡ difference (get_or a k nan) (get_or b k nan) → y ≡ greater d x → change_from y (drop (k + 1) a) (drop (k + 1) b) ≡ change_from d₀ a b
change_again a b k d₀ d x y h l i ex ey = rw (ey, ex) (sym (change_step d a b k h l)) ∙ i

-- ---- a round, as the loop takes it: n rounds are left, n' after it

module _ (g : List Float) (r s : Round) (n n' : ℕ) (e : s ≡ next_round g r) (l : n ≡ suc n') where
  pub round_not_finite : finite_round s ≡ false → rounds n g r ≡ made_of false (GivenUp s.change) s
  unfolding rounds
  round_not_finite f = rw (l, ← e, f)

  pub round_settled : finite_round s ≡ true → le s.change settled_limit ≡ true → rounds n g r ≡ made_of true (Settled s.change) s
  unfolding rounds
  round_settled f h = rw (l, ← e, f, h)

  pub round_again : finite_round s ≡ true → le s.change settled_limit ≡ false → rounds n g r ≡ rounds n' g s
  unfolding rounds
  round_again f h = rw (l, ← e, f, h)

pub rounds_end : (g : List Float) (r : Round) (n : ℕ) → n ≡ 0 → rounds n g r ≡ made_of true (GivenUp r.change) r
unfolding rounds
rounds_end g r n e = rw e

-- ---- what is made is finite, where it says so

finite_in_round : (r : Round) → finite_round r ≡ true → all_finite r.coefficients ≡ true
unfolding finite_round
finite_in_round r e = is_true (all_finite r.coefficients) (and_l (all_finite r.coefficients) (finite r.change) (subst T (sym e) tt))

abbrev pub FiniteIn : Made → Type 0
FiniteIn m = m.finite ≡ true → all_finite m.round.coefficients ≡ true

one_round : (n : ℕ) (g : List Float) (r : Round) → (finite_round (next_round g r) ≡ true → FiniteIn (rounds n g (next_round g r))) → FiniteIn (rounds (suc n) g r)
unfolding rounds
one_round n g r rest = go (finite_round (next_round g r)) (le (next_round g r).change settled_limit) refl
  where
    s : Round
    s = next_round g r

    go : (b c : Bool) → finite_round s ≡ b → FiniteIn (cond b (cond c (made_of true (Settled s.change) s) (rounds n g s)) (made_of false (GivenUp s.change) s))
    go true true e h = finite_in_round s e
    go true false e h = rest e h
    go false c e h = absurd (subst T (sym h) tt)

pub rounds_finite : (n : ℕ) (g : List Float) (r : Round) → FiniteIn (rounds (suc n) g r)
unfolding rounds
rounds_finite zero g r = one_round 0 g r (λ e h. finite_in_round (next_round g r) e)
rounds_finite (suc n) g r = one_round (suc n) g r (λ e. rounds_finite n g (next_round g r))

-- ---- the outcome's change is the record's

pub rounds_change : (n : ℕ) (g : List Float) (r : Round) → change_in (rounds n g r).ending ≡ (rounds n g r).round.change
unfolding rounds
rounds_change zero g r = refl
rounds_change (suc n) g r = go (finite_round s) (le s.change settled_limit) (rounds_change n g (next_round g r))
  where
    s : Round
    s = next_round g r

    go : (b c : Bool) → change_in (rounds n g s).ending ≡ (rounds n g s).round.change
        → let m = cond b (cond c (made_of true (Settled s.change) s) (rounds n g s)) (made_of false (GivenUp s.change) s) in change_in m.ending ≡ m.round.change
    go true true h = refl
    go true false h = h
    go false c h = refl
