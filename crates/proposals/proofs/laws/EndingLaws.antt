-- How the rounds end (Rounds.antt): after how many, and what holds of the last one.
use Rattle.std.specs.Prelude.{◌≡◌, Bool, true, false, cond, List, Float}
use Rattle.std.proofs.Math.Path.{refl, ap}
use Rattle.std.proofs.Common.{sym, ◌∙◌, true≢false, eq-or-lt_of_le}
use Rattle.std.proofs.Math.Logic.{inl, inr}
use Prim.Native.Nat.{ℕ, zero, suc, ◌≤◌, ◌<◌}
use native.Mathlib.Omega.{arith}
use Rattle.std.specs.Float.Ieee.{eq}
use Rattle.proposals.specs.definitions.Values.{nought}
use Rattle.proposals.specs.definitions.Rounds.{next_round, finite_round, made_of, max_rounds, rounds}
use Rattle.proposals.specs.definitions.Reciprocal.{first_value, reciprocal_rounds}
use Rattle.proposals.specs.definitions.Endings.{change_in, start_of, iterated, settles, Ends}
use Rattle.proposals.specs.declared.types.Round.{Round}
use Rattle.proposals.specs.definitions.Rounds.{Made}
use Rattle.proposals.specs.declared.types.Ending.TheVariants.{Settled, GivenUp}

apart : (x y : Float) → GivenUp x ≡ Settled y → ⊥
apart x y e = let z : ◌≡◌ {A = ℕ} 0 1 = cc in omega arith

none_ends : (g : List Float) (r : Round) → Ends 0 g r (made_of true (GivenUp r.change) r)
unfolding iterated
none_ends g r = record {
  count = 0;
  within = omega arith;
  reached = refl;
  before = λ i p q. absurd (omega arith);
  last = λ p. absurd (omega arith);
  not_finite = λ e. absurd (true≢false e);
  settled = λ d e. absurd (apart r.change d e);
  given_up = λ d e. (sym (ap change_in e), λ f. (refl, inl refl));
}

module _ (n : ℕ) (g : List Float) (r : Round) where
  not_finite_ends : finite_round (next_round g r) ≡ false → Ends (suc n) g r (made_of false (GivenUp (next_round g r).change) (next_round g r))
  unfolding iterated
  not_finite_ends b = record {
    count = 1;
    within = omega arith;
    reached = refl;
    before = λ i p q. absurd (omega arith);
    last = λ p. b;
    not_finite = λ e. omega arith;
    settled = λ d e. absurd (apart (next_round g r).change d e);
    given_up = λ d e. (sym (ap change_in e), λ f. absurd (true≢false (sym f)));
  }

  settled_ends : finite_round (next_round g r) ≡ true → settles (next_round g r) ≡ true → Ends (suc n) g r (made_of true (Settled (next_round g r).change) (next_round g r))
  unfolding iterated
  settled_ends b c = record {
    count = 1;
    within = omega arith;
    reached = refl;
    before = λ i p q. absurd (omega arith);
    last = λ p. b;
    not_finite = λ e. omega arith;
    settled = λ d e. (sym (ap change_in e), omega arith, refl, c);
    given_up = λ d e. absurd (apart d (next_round g r).change (sym e));
  }

  -- the round goes on, to an end that comes of n rounds
  later_ends : (m : Made) → finite_round (next_round g r) ≡ true → settles (next_round g r) ≡ false → Ends n g (next_round g r) m → Ends (suc n) g r m
  unfolding iterated
  later_ends m b c rest = record {
    count = suc rest.count;
    within = omega (arith, rest.within);
    reached = rest.reached;
    before = earlier;
    last = λ p. ends rest.count refl;
    not_finite = λ e. omega arith;
    settled = λ d e. let h = rest.settled d e in (h.0, omega arith, h.2, h.3);
    given_up = λ d e. (
      (rest.given_up d e).0,
      λ f. let h = (rest.given_up d e).1 f in (ap suc h.0, inr (elim h.1 [ inl z ↦ ap settles (at_once (h.0 ∙ z)) ∙ c | inr o ↦ o ])),
    );
  }
    where
      earlier : (i : ℕ) → 0 < i → i < suc rest.count → (finite_round (iterated i g r) ≡ true) × (settles (iterated i g r) ≡ false)
      earlier zero p q = absurd (omega arith)
      earlier (suc zero) p q = (b, c)
      earlier (suc (suc i)) p q = rest.before (suc i) (omega arith) (omega arith)

      -- this round is the last
      at_once : rest.count ≡ 0 → m.round ≡ next_round g r
      at_once e = rest.reached ∙ ap (λ (k : ℕ). iterated k g (next_round g r)) e

      sound : rest.count ≡ 0 → (x : Bool) → m.finite ≡ x → true ≡ m.finite
      sound e true f = sym f
      sound e false f = absurd (omega (arith, rest.not_finite f))

      ends : (k : ℕ) → rest.count ≡ k → finite_round m.round ≡ m.finite
      ends zero e = ap finite_round (at_once e) ∙ b ∙ sound e m.finite refl
      ends (suc k) e = rest.last (omega arith)

-- the rounds end after at most n
pub rounds_end_within : (n : ℕ) (g : List Float) (r : Round) → Ends n g r (rounds n g r)
unfolding rounds
rounds_end_within zero g r = none_ends g r
rounds_end_within (suc n) g r = go (finite_round s) (settles s) refl refl (rounds_end_within n g (next_round g r))
  where
    s : Round
    s = next_round g r

    go : (b c : Bool) → finite_round s ≡ b → settles s ≡ c → Ends n g s (rounds n g s)
        → Ends (suc n) g r (cond b (cond c (made_of true (Settled s.change) s) (rounds n g s)) (made_of false (GivenUp s.change) s))
    go true true e f rest = settled_ends n g r e f
    go true false e f rest = later_ends n g r (rounds n g s) e f rest
    go false c e f rest = not_finite_ends n g r e

-- where m is finite, every round was
pub every_round_finite : (n : ℕ) (g : List Float) (r : Round) (m : Made) (e : Ends n g r m) → m.finite ≡ true → (i : ℕ) → 0 < i → i ≤ e.count
    → finite_round (iterated i g r) ≡ true
every_round_finite n g r m e f i p q =
    elim (eq-or-lt_of_le q) [
      | inl z ↦
          let c : 0 < e.count = omega arith in
          ap (λ (k : ℕ). finite_round (iterated k g r)) z ∙ ap finite_round (sym e.reached) ∙ e.last c ∙ f
      | inr l ↦ (e.before i p l).0
    ]

-- "for at most 12 rounds"
pub reciprocal_ends : (g : List Float) → eq (first_value g) nought ≡ false → Ends max_rounds g (start_of g) (reciprocal_rounds g)
unfolding reciprocal_rounds
reciprocal_ends g e = rw e (rounds_end_within max_rounds g (start_of g))
