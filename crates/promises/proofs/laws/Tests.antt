-- The promises about the tests are kept.
use Rattle.std.specs.Prelude.{◌≡◌, refl, Bool, true, false, cond, List, [], ◌∷◌, ◌↔◌, ◌⊎◌, ℕ}
use Rattle.std.proofs.Common.{sym, ◌∙◌, ap, inl, inr}
use Rattle.model.specs.definitions.Outcomes.{Outcome, accepted, refused, number, outcome, passing}
use Rattle.model.proofs.laws.PlaceLaws.{refused_not_accepted}
use Rattle.model.specs.declared.types.Candidate.{Candidate}
use Rattle.model.specs.declared.types.Model.{Model}
use Rattle.certificate.specs.definitions.Tests.{Certificate, zero_certificate}
use Rattle.certificate.specs.definitions.Quotient.{quotient_test, quotient_needing}
use Rattle.certificate.specs.definitions.Root.{root_test, root_needing}
use Rattle.certificate.proofs.laws.GroupTheorem as groups
use Rattle.certificate.proofs.laws.PromiseLaws as promised
use Rattle.certificate.proofs.laws.QuotientIntegral as integrals
use Rattle.certificate.proofs.laws.QuotientSound as quotients
use Rattle.certificate.proofs.laws.QuotientTheorem as quotient
use Rattle.certificate.proofs.laws.RootRadius as radii
use Rattle.certificate.proofs.laws.RootSound as roots
use Rattle.certificate.proofs.laws.RootTheorem as root
use Rattle.certificate.proofs.laws.TestFits as fits
use Rattle.certificate.proofs.laws.TightTheorem as tight
use Rattle.certificate.specs.declared.types.RootRule.{RootRule}
use Rattle.certificate.specs.declared.types.RootRule.TheVariants.{ByDiscriminant}
use Rattle.promises.specs.definitions.Tests.{QuotientPasses, RootPasses, Requirement2, TighterRoots, SoundTests, GroupLengths}

-- ---- what is not accepted is refused, with zeros

abbrev Either : Outcome Certificate → Type 0
Either o = ((c : Certificate) × (o ≡ accepted c)) ⊎ ((n : ℕ) × (o ≡ refused n zero_certificate))

either : (ps : List (Bool × ℕ)) (c : Certificate) → Either (outcome ps c zero_certificate)
unfolding passing
either [] c = inl (c, refl)
either (p ∷ ps) c = pick p.0 (either ps c)
  where
    pick : (t : Bool) → Either (outcome ps c zero_certificate) → Either (cond t (refused p.1 zero_certificate) (outcome ps c zero_certificate))
    pick true e = inr (p.1, refl)
    pick false e = e

-- of an outcome o that is accepted exactly where P holds
refused_otherwise : (o : Outcome Certificate) (P : Type 0) → Either o
    → ((c : Certificate) → o ≡ accepted c → P) → (P → (c : Certificate) × (o ≡ accepted c))
    → ((n : ℕ) × (o ≡ refused n zero_certificate)) ↔ (¬ P)
refused_otherwise o P cases only if = (
  λ r p. refused_not_accepted (sym r.1 ∙ (if p).1),
  λ none. elim cases [ inl a ↦ absurd (none (only a.0 a.1)) | inr r ↦ r ],
)

quotient_either : (len : ℕ) (f g : Model) (h w : Candidate) → Either (quotient_test len f g h w)
unfolding quotient_needing
quotient_either len f g h w = either _ _

root_either : (rule : RootRule) (len : ℕ) (f : Model) (h w : Candidate) → Either (root_test rule len f h w)
unfolding root_needing
root_either rule len f h w = either _ _

-- ---- requirement 2

pub requirement_2 : Requirement2
requirement_2 = record {
  quotient_accepted = λ len f g h w t c. (
    λ e. let (holds, same) = quotient.quotient_accepted_only len f g h w t.enough t.good_f t.good_g t.good_h t.good_w t.same e in (holds, same),
    λ p. quotient.quotient_accepted len f g h w t.enough t.good_f t.good_g t.good_h t.good_w t.same p.0 ∙ ap accepted (sym p.1),
  );
  quotient_refused = λ len f g h w t.
      refused_otherwise (quotient_test len f g h w) (QuotientPasses f g h w) (quotient_either len f g h w)
      (λ c e. (quotient.quotient_accepted_only len f g h w t.enough t.good_f t.good_g t.good_h t.good_w t.same e).0)
      (λ p. (_, quotient.quotient_accepted len f g h w t.enough t.good_f t.good_g t.good_h t.good_w t.same p));
  root_accepted = λ len f h w t c. (
    λ e. let (holds, same) = root.root_accepted_only len f h w t.enough t.good_f t.good_h t.good_w e in (holds, same),
    λ p. root.root_accepted len f h w t.enough t.good_f t.good_h t.good_w p.0 ∙ ap accepted (sym p.1),
  );
  root_refused = λ len f h w t.
      refused_otherwise (root_test ByDiscriminant len f h w) (RootPasses f h w) (root_either ByDiscriminant len f h w)
      (λ c e. (root.root_accepted_only len f h w t.enough t.good_f t.good_h t.good_w e).0)
      (λ p. (_, root.root_accepted len f h w t.enough t.good_f t.good_h t.good_w p));
  root_radius_lem = λ len f h w t p. root.root_holds_radius len f h w t.enough t.good_f t.good_h t.good_w p;
}

-- ---- 02, S-22

pub tighter_roots : TighterRoots
tighter_roots = record {
  tight_accepted = λ len f h w t c. (
    λ e. let (holds, same) = tight.tight_accepted_only len f h w t.enough t.good_f t.good_h t.good_w e in
        (holds.0, c.model.radius, holds.1.within, holds.1.satisfies, holds.1.least, same),
    λ p. tight.tight_accepted len f h w t.enough t.good_f t.good_h t.good_w p.1
        (p.0, record { within = p.2; satisfies = p.3; least = p.4 }) ∙ ap accepted (sym p.5),
  );
  tight_refused = λ len f h w t n. (
    λ e. (tight.tight_refused len f h w t.enough t.good_f t.good_h t.good_w n).0 (17, e),
    λ none. tight.tight_none len f h w t.enough t.good_f t.good_h t.good_w n none,
  );
  tight_refused_with_17 = λ len f h w t n k e.
      ap number (sym e ∙ tight.tight_none len f h w t.enough t.good_f t.good_h t.good_w n
      ((tight.tight_refused len f h w t.enough t.good_f t.good_h t.good_w n).0 (k, e)));
  tight_not_larger = λ len len' f h w c d e k. tight.tight_not_larger len f h w e len' k;
  tight_same_but_radius = λ len len' f h w c d e k.
      let s = tight.tight_same_but_radius len f h w e len' k in
      (ap (λ t. t.model.degree) s, ap (λ t. t.model.coefficients) s, ap (λ t. t.model.interval) s, ap (λ t. t.m) s, ap (λ t. t.N) s, ap (λ t. t.b) s);
  tight_implies_root = λ len f h w c e. (_, tight.tight_implies_root len f h w e);
  root_never_large = λ rule len f h w. radii.root_never_large len f h w rule;
}

-- ---- what an accepted result means

pub tests_sound : SoundTests
tests_sound = record {
  quotient_sound = λ len f g h w c e x u v on. quotients.quotient_sound len f g h w e x on u v;
  quotient_nonzero = λ len f g h w c e x v on. quotients.quotient_nonzero len f g h w e x on v;
  root_positive = λ rule len f h w c e x v on a. (roots.root_sound rule len f h w e x v on a).positive;
  root_sound = λ rule len f h w c e x v y on a nonneg square. (promised.root_allowed rule len f h w e).root x v y on a nonneg square;
  root_overlap = λ rule len f h w c e x v on a. roots.root_overlap rule len f h w e x v on a;
  quotient_interval = λ len f g h w c e. quotients.quotient_interval len f g h w e;
  root_interval = λ rule len f h w c e. roots.root_interval rule len f h w e;
  quotient_integrated = λ len f g h w q e c i u v hu hv x on k p. integrals.quotient_integrated len f g h w e i u v hu hv x on k p;
  quotient_good = λ len f g h w c e. fits.quotient_good len f g h w e;
  root_good = λ rule len f h w c e. fits.root_good rule len f h w e;
}

-- ---- 02, S-17

pub group_lengths : GroupLengths
group_lengths = record {
  quotient_groups_as_65 = λ size len former s l k f g h w. groups.quotient_groups_as_65 f g h w l k size s;
  quotient_as_65 = λ len former l k f g h w. groups.quotient_as_65 f g h w l k;
  quotient_below_16 = λ len l f g h w. groups.quotient_below_16 f g h w len l;
  root_groups_as_65 = λ rule size len former s l k f h w. groups.root_groups_as_65 rule f h w l k size s;
  root_as_65 = λ rule len former l k f h w. groups.root_as_65 rule f h w l k;
  root_below_16 = λ rule len l f h w. groups.root_below_16 rule f h w len l;
}
