-- What the makers answer, by what code finds: a list in units (Units.antt) is refused or goes on.
use borrow.Author.Tests.{lt-ltb, le-ltb}
use Rattle.std.specs.Prelude.{◌≡◌, Bool, false, ◌&&◌, cond, ℕ, ◌≤◌, ◌<◌, ◌^◌, T, ltb, ℤ, Result, Ok, Err}
use Rattle.std.proofs.Math.Path.{refl, ap, subst}
use Rattle.std.proofs.Common.{sym, ◌∙◌}
use Rattle.std.proofs.Math.Bool.{true}
use mathlib.Core.List.{List, map}
use Rattle.std.specs.Float.Ieee.{Float, div, eq}
use Rattle.std.specs.Float.{binary64}
use Rattle.chebyshev.specs.definitions.Coefficients.{weight}
use Rattle.model.specs.definitions.Intervals.{same_interval}
use Rattle.model.specs.definitions.Models.{fault, good, max_weight}
use Rattle.model.specs.definitions.Outcomes.{Outcome, accepted, refused, passing, number_of}
use Rattle.model.proofs.laws.OutcomeLaws.{judged_injective}
use Rattle.model.specs.declared.types.Model.{Model}
use Rattle.model.specs.declared.types.Candidate.{Candidate}
use Rattle.model.specs.declared.types.Refusal.{Refusal}
use Rattle.proposals.specs.definitions.Values.{nought, one, all_finite}
use Rattle.proposals.specs.definitions.Product.{product}
use Rattle.proposals.specs.definitions.Rounds.{Made, rounds, round_of, made_of, found_finite}
use Rattle.proposals.specs.declared.types.FiniteRounds.{FiniteRounds}
use Rattle.model.specs.declared.types.Refusal.TheVariants.{NotFinite}
use Rattle.proposals.specs.definitions.Units.{units_of, candidate_in, zero_candidate, in_units, in_units_of}
use Rattle.proposals.specs.definitions.Reciprocal.{values_of, first_value, constant_list, zero_round, reciprocal_rounds, Reciprocal, make_reciprocal, refused_reciprocal, reciprocal_proposal, reciprocal_of}
use Rattle.proposals.specs.definitions.Quotient.{Quotient, quotient_record, make_quotient, refused_quotient, quotient_proposal, quotient_of}
use Rattle.proposals.specs.definitions.Endings.{change_in}
use Rattle.proposals.specs.definitions.InnerContracts.{limited_units}
use Rattle.proposals.proofs.laws.UnitsLaws.{limited_list, weight_over, weight_within}
use Rattle.proposals.proofs.laws.RoundsLaws.{FiniteIn, rounds_finite, rounds_change}
use Rattle.proposals.specs.declared.types.Ending.TheVariants.{GivenUp}

-- ---- a list in units: u is the list that code has, with sizes cut at 2^29, and t its weight

pub units_not_finite : (v : List Float) → all_finite v ≡ false → refused 15 zero_candidate ≡ in_units v
unfolding in_units passing
units_not_finite v f = rw f

module _ (v : List Float) (u : List ℤ) (t : ℕ) (f : all_finite v ≡ true) (eu : u ≡ map limited_units v) (et : t ≡ weight u) where
  pub units_too_large : 2 ^ 28 < t → refused 16 zero_candidate ≡ in_units v
  unfolding in_units passing
  units_too_large h = rw (f, lt-ltb max_weight (weight (map units_of v)) (weight_over v t (et ∙ ap weight eu) h))

  pub units_accepted : t ≤ 2 ^ 28 → accepted (candidate_in u) ≡ in_units v
  unfolding in_units passing
  units_accepted h =
      let w : weight (map units_of v) ≤ 2 ^ 28 = weight_within v t (et ∙ ap weight eu) h in
      rw (f, le-ltb max_weight (weight (map units_of v)) w, eu ∙ limited_list v w)

-- ---- what is made is finite, where it says so, and its outcome carries the record's change

pub made_finite : (g : List Float) → FiniteIn (reciprocal_rounds g)
unfolding reciprocal_rounds
made_finite g = go (eq (first_value g) nought)
  where
    go : (b : Bool) → FiniteIn (cond b (made_of false (GivenUp nought) zero_round) (rounds 12 g (round_of (constant_list (div binary64 one (first_value g))) nought)))
    go true h = absurd (subst T (sym h) tt)
    go false h = rounds_finite 11 g (round_of (constant_list (div binary64 one (first_value g))) nought) h

-- "The outcome is either settled, with the last change, … or given up, with the last change": it is the record's
pub made_change : (g : List Float) → change_in (reciprocal_rounds g).ending ≡ (reciprocal_rounds g).round.change
unfolding reciprocal_rounds zero_round
made_change g = go (eq (first_value g) nought)
  where
    go : (b : Bool) → let m = cond b (made_of false (GivenUp nought) zero_round) (rounds 12 g (round_of (constant_list (div binary64 one (first_value g))) nought)) in change_in m.ending ≡ m.round.change
    go true = refl
    go false = rounds_change 12 g (round_of (constant_list (div binary64 one (first_value g))) nought)

-- ---- a list in units, and what comes behind it

-- the refusal of a list with zeros z, or what k makes of it
abbrev pub then_units : {A : Type 0} → (Candidate → Outcome A) → A → Outcome Candidate → Outcome A
then_units k z (accepted c) = k c
then_units k z (refused n c) = refused n z

module _ {A : Type 0} (k : Candidate → Outcome A) (z : A) (o : Outcome Candidate) where
  pub units_go_on : (c : Candidate) → accepted c ≡ o → k c ≡ then_units k z o
  units_go_on c e = ap (then_units k z) e

  pub units_stop : (c : Candidate) (r : Refusal) → refused (number_of r) c ≡ o → refused (number_of r) z ≡ then_units k z o
  units_stop c r e = ap (then_units k z) e

-- a list that is finite
finite_units : {A : Type 0} (k : Candidate → Outcome A) (z : A) (v : List Float) → all_finite v ≡ true
    → then_units k z (in_units v) ≡ cond (ltb max_weight (weight (map units_of v))) (refused 16 z) (k (candidate_in (map units_of v)))
unfolding in_units passing
finite_units k z v f = rw f (go (ltb max_weight (weight (map units_of v))))
  where
    go : (b : Bool) → then_units k z (cond b (refused 16 zero_candidate) (accepted (candidate_in (map units_of v)))) ≡ cond b (refused 16 z) (k (candidate_in (map units_of v)))
    go true = refl
    go false = refl

-- ---- the maker of reciprocals

module _ (g : Model) where
  pub reciprocal_of_bad : good g ≡ false → refused (fault g) refused_reciprocal ≡ reciprocal_proposal g
  unfolding reciprocal_proposal passing
  reciprocal_of_bad b = rw b

  module _ (m : Made) (b : good g ≡ true) (em : m ≡ reciprocal_rounds (values_of g)) where
    pub reciprocal_not_finite : m.finite ≡ false → refused 15 refused_reciprocal ≡ reciprocal_proposal g
    unfolding reciprocal_proposal passing
    reciprocal_not_finite f = rw (b, ← em, f)

    pub reciprocal_in_units : m.finite ≡ true
        → then_units (λ c. accepted (make_reciprocal m.ending m.round c)) refused_reciprocal (in_units m.round.coefficients) ≡ reciprocal_proposal g
    unfolding reciprocal_proposal passing
    reciprocal_in_units f =
        let v = m.round.coefficients in
        let a : all_finite v ≡ true = subst FiniteIn (sym em) (made_finite (values_of g)) f in
        finite_units (λ c. accepted (make_reciprocal m.ending m.round c)) refused_reciprocal v a ∙ rw (b, ← em, f)

-- ---- the maker of quotients

module _ (f g : Model) where
  pub quotient_of_bad : good f ≡ false → refused (fault f) refused_quotient ≡ quotient_proposal f g
  unfolding quotient_proposal passing
  quotient_of_bad b = rw b

  module _ (bf : good f ≡ true) where
    pub quotient_by_bad : good g ≡ false → refused (fault g) refused_quotient ≡ quotient_proposal f g
    unfolding quotient_proposal passing
    quotient_by_bad b = rw (bf, b)

    pub quotient_different : good g ≡ true → same_interval f.interval g.interval ≡ false → refused 19 refused_quotient ≡ quotient_proposal f g
    unfolding quotient_proposal passing
    quotient_different bg e = rw (bf, bg, e)

    module _ (m : Made) (bg : good g ≡ true) (same : same_interval f.interval g.interval ≡ true) (em : m ≡ reciprocal_rounds (values_of g)) where
      pub quotient_not_finite : m.finite ≡ false → refused 15 refused_quotient ≡ quotient_proposal f g
      unfolding quotient_proposal passing
      quotient_not_finite e = rw (bf, bg, same, ← em, e)

      pub quotient_in_units : (q : List Float) → q ≡ product (values_of f) m.round.coefficients → m.finite ≡ true
          → then_units (λ h. then_units (λ w. accepted (make_quotient m.ending (quotient_record q m.round) h w)) refused_quotient (in_units m.round.coefficients)) refused_quotient (in_units q)
          ≡ quotient_proposal f g
      unfolding quotient_proposal passing
      quotient_in_units q eq e = go (all_finite q) refl
        where
          v : List Float
          v = m.round.coefficients

          second : Candidate → Candidate → Outcome Quotient
          second h w = accepted (make_quotient m.ending (quotient_record q m.round) h w)

          first : Candidate → Outcome Quotient
          first h = then_units (second h) refused_quotient (in_units v)

          finite : all_finite v ≡ true
          finite = subst FiniteIn (sym em) (made_finite (values_of g)) e

          go : (b : Bool) → all_finite q ≡ b → then_units first refused_quotient (in_units q) ≡ quotient_proposal f g
          go true a =
              let h = candidate_in (map units_of q) in
              finite_units first refused_quotient q a
              ∙ ap (cond (ltb max_weight (weight (map units_of q))) (refused 16 refused_quotient)) (finite_units (second h) refused_quotient v finite)
              ∙ rw (bf, bg, same, ← em, e, ← eq, a)
          go false a = ap (then_units first refused_quotient) (sym (units_not_finite q a)) ∙ rw (bf, bg, same, ← em, e, ← eq, a)

-- "Number 15: … while making. Number 16: … after it.": a value of w or of f·w that is not finite, whatever the lists weigh
pub not_finite_before_weight : (f g : Model) → good f ≡ true → good g ≡ true → same_interval f.interval g.interval ≡ true
    → (reciprocal_rounds (values_of g)).finite && all_finite (product (values_of f) (reciprocal_rounds (values_of g)).round.coefficients) ≡ false
    → quotient_proposal f g ≡ refused 15 refused_quotient
unfolding quotient_proposal passing
not_finite_before_weight f g bf bg same h = rw (bf, bg, same, h)

-- ---- what code has of the rounds

module _ (m : Made) where
  abbrev kept : FiniteRounds
  kept = record { ending = m.ending; round = m.round }

  pub found : (r : FiniteRounds) → Ok r ≡ found_finite m → made_of true r.ending r.round ≡ m
  found r e = go m.finite refl e
    where
      go : (b : Bool) → m.finite ≡ b → Ok r ≡ cond b (Ok kept) (Err NotFinite) → made_of true r.ending r.round ≡ m
      go true f e = let h : r ≡ kept = cc in λ i. record { finite = sym f i; ending = (h i).ending; round = (h i).round }
      go false f e = absurd (cc)

  pub not_found : (e : Refusal) → Err e ≡ found_finite m → (m.finite ≡ false) × (number_of e ≡ 15)
  not_found e h = go m.finite refl h
    where
      go : (b : Bool) → m.finite ≡ b → Err e ≡ cond b (Ok kept) (Err NotFinite) → (m.finite ≡ false) × (number_of e ≡ 15)
      go true f h = absurd (cc)
      go false f h = let k : e ≡ NotFinite = cc in (f, ap number_of k)

-- ---- no two answers of code have one meaning

pub in_units_of_injective : (r s : Result Candidate Refusal) → in_units_of r ≡ in_units_of s → r ≡ s
in_units_of_injective r s e = judged_injective zero_candidate r s e

pub reciprocal_of_injective : (r s : Result Reciprocal Refusal) → reciprocal_of r ≡ reciprocal_of s → r ≡ s
reciprocal_of_injective r s e = judged_injective refused_reciprocal r s e

pub quotient_of_injective : (r s : Result Quotient Refusal) → quotient_of r ≡ quotient_of s → r ≡ s
quotient_of_injective r s e = judged_injective refused_quotient r s e
