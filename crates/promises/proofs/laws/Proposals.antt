-- The promises about made proposals are kept.
use Rattle.std.specs.Prelude.{◌≡◌, refl, true, false, List, ℕ, ◌<◌, Float}
use Rattle.std.proofs.Common.{sym, ◌∙◌, ap, subst, inl, inr, arith}
use Rattle.std.specs.Float.Ieee.{eq, le}
use Rattle.proposals.specs.definitions.Values.{nought, settled_limit}
use Rattle.proposals.specs.definitions.Reciprocal.{constant_list, first_value, reciprocal_rounds}
use Rattle.proposals.specs.definitions.Endings.{start_of, iterated, Ends}
use Rattle.proposals.proofs.laws.BitsLaws as bits
use Rattle.proposals.proofs.laws.EndingLaws as endings
use Rattle.proposals.proofs.laws.ExactCase as exact
use Rattle.proposals.proofs.laws.ExactQuotient as quotients
use Rattle.proposals.proofs.laws.FiniteMaking as finite
use Rattle.proposals.proofs.laws.FiniteWalk as walks
use Rattle.proposals.proofs.laws.MakerLaws as makers
use Rattle.proposals.proofs.laws.UnitsLaws as units
use Rattle.proposals.proofs.laws.ValueExact as values
use Rattle.promises.specs.definitions.Proposals.{TwelveRounds, FiniteMaking, Units, NoRounding, MadeProposals}

-- ---- rounds

module _ (g : List Float) (e : eq (first_value g) nought ≡ false) where
  ends : Ends 12 g (start_of g) (reciprocal_rounds g)
  ends = endings.reciprocal_ends g e

  some : 0 < ends.count
  some = finite.some_rounds 11 g (start_of g) (reciprocal_rounds g) ends

twelve : TwelveRounds
unfolding reciprocal_rounds
twelve = record {
  rounds_made = λ g e. let r = ends g e in (r.count, some g e, r.within, r.reached, r.before);
  start_is = λ g. refl;
  settled_tells = λ g d e h. let (same, made, finite, settles) = (ends g e).settled d h in (same, finite, subst (λ (x : Float). le x settled_limit ≡ true) (sym same) settles);
  given_up_tells = λ g d e h f.
      let r = ends g e in
      let (same, last) = r.given_up d h in
      let (all, left) = last f in (
        same,
        r.reached ∙ ap (λ (k : ℕ). iterated k g (start_of g)) all,
        subst (λ (x : Float). le x settled_limit ≡ false) (sym same) (elim left [ inl z ↦ absurd (omega (arith, z)) | inr s ↦ s ]),
      );
  made_change = makers.made_change;
  last_finite = λ g e. (ends g e).last (some g e);
  first_zero = λ g e. rw e refl;
}

-- ---- finite values

making : FiniteMaking
making = record {
  making_finite = λ g l f.
      let e = finite.making_ends g f in (
        e.count,
        finite.making_rounds g e,
        e.reached,
        λ i k.
            let t = finite.making_finite g l f e i k in
            (t.given, t.from, t.inner.products, t.inner.states, t.inner.result, t.less, t.outer.products, t.outer.states, t.made, t.compared, t.change),
      );
  quotient_making_finite = λ f g l h. let t = finite.quotient_making_finite f g l h in (t.products, t.states);
  half_pair_finite = walks.half_pair_finite;
}

-- ---- units

in_units : Units
in_units = record {
  units_nearest = units.units_nearest;
  units_even = units.units_even;
  units_unique = units.units_unique;
  bits_value = bits.bits_value;
  value_exact = values.value_exact;
  units_back = values.units_back;
}

-- ---- the exact case

no_rounding : NoRounding
unfolding constant_list
no_rounding = record {
  exact_proposal = λ g j b c l u. exact.exact_proposal g j (record { power = record { is_good = b; constant = c }; from = l; to = u });
  exact_quotient = λ f g j a b c l u h.
      let s = quotients.exact_quotient f g j (record { power = record { is_good = b; constant = c }; from = l; to = u }) a h in
      (s.ending, s.round, s.quotient, s.h, s.w, s.exact);
  exact_value_lem = exact.exact_value_lem;
  below_the_exact_case = λ g j b c l. exact.below_the_exact_case g j (record { is_good = b; constant = c }) l;
}

pub proposals_kept : MadeProposals
proposals_kept = record { twelve_rounds = twelve; finite_making = making; in_units = in_units; no_rounding = no_rounding }
