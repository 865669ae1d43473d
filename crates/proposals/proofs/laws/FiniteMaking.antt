-- "Number 15: … a value isn't finite, while making": where the makers find their lists finite, every value that they made was, in every
-- round (FiniteLaws.antt says it of one round).
use Rattle.std.specs.Prelude.{◌≡◌, refl, Bool, true, false, List, ◌∷◌, ◌++◌, ℕ, zero, suc, ◌+◌, ◌<◌, T, length, Float}
use Rattle.std.proofs.Common.{sym, ◌∙◌, ap, true≢false, arith}
use Rattle.std.proofs.lemmas.List.{length-map}
use Rattle.std.specs.Float.Ieee.{eq}
use Rattle.std.specs.Float.Ieee.Bits.{is_true}
use Rattle.std.specs.Float.Ieee.Fits.{and_l, and_r}
use Rattle.std.specs.Float.Ieee.Scale.{finite}
use Rattle.model.specs.definitions.Models.{coefficient_count}
use Rattle.model.specs.declared.types.Model.{Model}
use Rattle.proposals.specs.definitions.Values.{nought, value_of, all_finite}
use Rattle.proposals.specs.definitions.Product.{product}
use Rattle.proposals.specs.definitions.Rounds.{two_less, improved, change_from, next_round, finite_round, max_rounds}
use Rattle.proposals.specs.definitions.Reciprocal.{constant_list, first_value, zero_round, reciprocal_rounds, values_of}
use Rattle.proposals.specs.definitions.Endings.{start_of, iterated, Ends}
use Rattle.proposals.specs.definitions.Finite.{walk_term, walk_terms, from_zero, StatesFinite, FiniteProduct, FiniteThroughout}
use Rattle.proposals.proofs.laws.FiniteWalk.{state_finite}
use Rattle.proposals.proofs.laws.FiniteLaws.{passes, walk_finite, product_finite, length_two_less, length-product, round_finite, round_differences_finite}
use Rattle.proposals.proofs.laws.EndingLaws.{every_round_finite, reciprocal_ends}
use Rattle.proposals.specs.declared.types.Round.{Round}
use Rattle.proposals.specs.definitions.Rounds.{Made}
use Rattle.proposals.specs.declared.types.Ending.{Ending}
use Rattle.proposals.specs.declared.types.Ending.TheVariants.{Settled, GivenUp}

-- ---- a product

product_states : (a b : List Float) → all_finite (product a b) ≡ true → StatesFinite a b
product_states a b h a₀ x a₁ b₀ b₁ ea eb =
    let z : 0 + length a₀ ≡ length a₀ = omega arith in
    let k : T (all_finite (walk_terms from_zero 0 (a₀ ++ (x ∷ a₁)) (b₀ ++ b₁)).0) = rw (← ea, ← eb) (walk_finite coefficient_count a b h) in
    is_true (all_finite (walk_term (walk_terms from_zero 0 a₀ b) x (length a₀) 0 b₀).0) (rw eb (rw z at (state_finite from_zero 0 a₀ x a₁ b₀ b₁ k)))

pub finite_product : (a b : List Float) → length a ≡ coefficient_count → length b ≡ coefficient_count → all_finite (product a b) ≡ true → FiniteProduct a b
finite_product a b la lb h = record {
  products = product_finite a b (omega arith) (omega arith) h;
  states = product_states a b h;
  result = h;
}

-- ---- a round, from w

pub round_throughout : (g : List Float) (r : Round) → length g ≡ coefficient_count → length r.coefficients ≡ coefficient_count
    → finite_round (next_round g r) ≡ true → FiniteThroughout g r.coefficients
unfolding finite_round next_round improved
round_throughout g r lg lw h =
    let w = r.coefficients in
    let t = two_less (product g w) in
    let u = improved g w in
    let lt : length t ≡ coefficient_count = length_two_less (product g w) ∙ length-product g w in
    let all = round_finite g w r.change lg lw h in
    let last : all_finite (product w t) ≡ true = is_true (all_finite u) (and_l (all_finite u) (finite (change_from nought u w)) (passes h)) in
    record {
      given = all.2;
      from = all.3;
      inner = finite_product g w lg lw all.0;
      less = all.1;
      outer = finite_product w t lw lt last;
      made = last;
      compared = round_differences_finite g w r.change lg lw h;
      change = is_true (finite (change_from nought u w)) (and_r (all_finite u) (finite (change_from nought u w)) (passes h));
    }

-- ---- the rounds

pub iterated_next : (i : ℕ) (g : List Float) (r : Round) → iterated (suc i) g r ≡ next_round g (iterated i g r)
unfolding iterated
iterated_next zero g r = refl
iterated_next (suc i) g r = iterated_next i g (next_round g r)

length_next : (g : List Float) (r : Round) → length (next_round g r).coefficients ≡ coefficient_count
unfolding next_round improved
length_next g r = length-product r.coefficients (two_less (product g r.coefficients))

pub length-iterated : (i : ℕ) (g : List Float) (r : Round) → length r.coefficients ≡ coefficient_count → length (iterated i g r).coefficients ≡ coefficient_count
unfolding iterated
length-iterated zero g r l = l
length-iterated (suc i) g r l = length-iterated i g (next_round g r) (length_next g r)

-- every round of which m comes, where m is finite: round i + 1 is made from w = iterated i g r
pub rounds_throughout : (n : ℕ) (g : List Float) (r : Round) (m : Made) (e : Ends n g r m) → length g ≡ coefficient_count → length r.coefficients ≡ coefficient_count
    → m.finite ≡ true → (i : ℕ) → i < e.count → FiniteThroughout g (iterated i g r).coefficients
rounds_throughout n g r m e lg lr f i l =
    let h : finite_round (next_round g (iterated i g r)) ≡ true = ap finite_round (sym (iterated_next i g r)) ∙ every_round_finite n g r m e f (suc i) (omega arith) (omega arith) in
    round_throughout g (iterated i g r) lg (length-iterated i g r lr) h

-- and there is one, if one is allowed
pub some_rounds : (n : ℕ) (g : List Float) (r : Round) (m : Made) (e : Ends (suc n) g r m) → 0 < e.count
some_rounds n g r m e = go m.ending m.finite refl refl
  where
    go : (x : Ending) (b : Bool) → m.ending ≡ x → m.finite ≡ b → 0 < e.count
    go (Settled d) b h f = (e.settled d h).1
    go (GivenUp d) true h f = omega (arith, ((e.given_up d h).1 f).0)
    go (GivenUp d) false h f = e.not_finite f

-- ---- the maker of reciprocals

length-start : (g : List Float) → length (start_of g).coefficients ≡ coefficient_count
unfolding constant_list
length-start g = refl

pub finite_throughout : (g : List Float) (e : Ends max_rounds g (start_of g) (reciprocal_rounds g)) → length g ≡ coefficient_count → (reciprocal_rounds g).finite ≡ true
    → (i : ℕ) → i < e.count → FiniteThroughout g (iterated i g (start_of g)).coefficients
finite_throughout g e lg f i l = rounds_throughout max_rounds g (start_of g) (reciprocal_rounds g) e lg (length-start g) f i l

-- where it found no value that is not finite, g_0 is not zero (and so there were rounds: reciprocal-ends, some-rounds)
pub finite_first : (g : List Float) → (reciprocal_rounds g).finite ≡ true → eq (first_value g) nought ≡ false
unfolding reciprocal_rounds
finite_first g f = go (eq (first_value g) nought) refl
  where
    go : (b : Bool) → eq (first_value g) nought ≡ b → b ≡ false
    go true e = absurd (true≢false (sym (rw e at f)))
    go false e = refl

-- ---- the maker of quotients

length-zero : (g : List Float) → eq (first_value g) nought ≡ true → length (reciprocal_rounds g).round.coefficients ≡ coefficient_count
unfolding reciprocal_rounds zero_round
length-zero g e = rw e refl

-- w
pub length_made : (g : List Float) → length (reciprocal_rounds g).round.coefficients ≡ coefficient_count
length_made g = go (eq (first_value g) nought) refl
  where
    go : (b : Bool) → eq (first_value g) nought ≡ b → length (reciprocal_rounds g).round.coefficients ≡ coefficient_count
    go true e = length-zero g e
    go false e =
        let h = reciprocal_ends g e in
        ap (λ (r : Round). length r.coefficients) h.reached ∙ length-iterated h.count g (start_of g) (length-start g)

pub quotient_throughout : (f g : List Float) → length f ≡ coefficient_count → all_finite (product f (reciprocal_rounds g).round.coefficients) ≡ true
    → FiniteProduct f (reciprocal_rounds g).round.coefficients
quotient_throughout f g lf h = finite_product f (reciprocal_rounds g).round.coefficients lf (length_made g) h

-- ---- of models

pub length_values : (g : Model) → length g.coefficients ≡ coefficient_count → length (values_of g) ≡ coefficient_count
length_values g l = length-map g.coefficients value_of ∙ l

-- every value of every round of which w comes (and there is one: making-ends)
pub making_finite : (g : Model) → length g.coefficients ≡ coefficient_count → (reciprocal_rounds (values_of g)).finite ≡ true
    → (e : Ends max_rounds (values_of g) (start_of (values_of g)) (reciprocal_rounds (values_of g))) → (i : ℕ) → i < e.count
    → FiniteThroughout (values_of g) (iterated i (values_of g) (start_of (values_of g))).coefficients
making_finite g l f e i k = finite_throughout (values_of g) e (length_values g l) f i k

-- where the rounds were found finite, how they ended, and that one was made
pub making_ends : (g : Model) → (reciprocal_rounds (values_of g)).finite ≡ true → Ends max_rounds (values_of g) (start_of (values_of g)) (reciprocal_rounds (values_of g))
making_ends g f = reciprocal_ends (values_of g) (finite_first (values_of g) f)

pub making_rounds : (g : Model) (e : Ends max_rounds (values_of g) (start_of (values_of g)) (reciprocal_rounds (values_of g))) → 0 < e.count
making_rounds g e = some_rounds 11 (values_of g) (start_of (values_of g)) (reciprocal_rounds (values_of g)) e

pub quotient_making_finite : (f g : Model) → length f.coefficients ≡ coefficient_count
    → all_finite (product (values_of f) (reciprocal_rounds (values_of g)).round.coefficients) ≡ true
    → FiniteProduct (values_of f) (reciprocal_rounds (values_of g)).round.coefficients
quotient_making_finite f g l h = quotient_throughout (values_of f) (values_of g) (length_values f l) h
