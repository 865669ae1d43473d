-- What the tests' contracts promise of a test that passes.
use Rattle.std.specs.Prelude.{◌≡◌, [], map, ℕ, pos, Result, Ok, Err, IfOk}
use Rattle.std.proofs.Common.{sym, ◌∙◌, ap, subst, inr}
use Rattle.std.proofs.Math.Path.{subst⁻¹}
use Rattle.fraction.specs.definitions.Fraction.{ℚ, whole, ◌+ℚ◌, ◌*ℚ◌, ◌/ℚ◌, ◌≤ℚ◌, ◌<ℚ◌}
use Rattle.integer.specs.definitions.FractionRing.{ℚ_ring}
use Rattle.ring.proofs.laws.OrderedRingLaws.{le_refl, le_of_eq}
use Rattle.integer.proofs.laws.FractionOrder.{ℚ_ordered}
use Rattle.integer.proofs.laws.FractionSolver.{reifyℚ, solveℚ}
use Rattle.chebyshev.specs.definitions.Coefficients.{value}
use Rattle.model.specs.definitions.Allowed.{position, Allows, OnInterval}
use Rattle.model.specs.definitions.Outcomes.{Outcome, accepted}
use Rattle.model.specs.declared.types.Candidate.{Candidate}
use Rattle.model.specs.declared.types.Model.{Model}
use Rattle.model.specs.declared.types.Refusal.{Refusal}
use Rattle.certificate.specs.definitions.Tests.{Certificate, certificate_of, test_of}
use Rattle.certificate.specs.definitions.Quotient.{quotient_test}
use Rattle.certificate.specs.definitions.Root.{root_test}
use Rattle.certificate.specs.definitions.RootBounds.{RootBounds, of_units}
use Rattle.certificate.specs.definitions.Promise.{QuotientAllowed, RootBox, centre, RootAllowed}
use Rattle.certificate.specs.declared.types.RootRule.{RootRule}
use Rattle.certificate.specs.declared.types.Certificate.{Certificate as CodeCertificate}
use Rattle.certificate.proofs.laws.QuotientSound.{quotient_nonzero, quotient_sound}
use Rattle.certificate.proofs.laws.RootSound.{root_interval, root_coefficients, root_sound, root_overlap}

-- what holds of the result of every test that passes holds of the code's result where it has one
pub test_promised : (P : Model → Type 0) (t : Result CodeCertificate Refusal) {o : Outcome Certificate} → test_of t ≡ o
    → ((c : Certificate) → o ≡ accepted c → P c.model) → IfOk t (λ c. P c.model)
test_promised P (Ok c) e claim = claim (certificate_of c) (sym e)
test_promised P (Err r) e claim = tt

pub quotient_allowed : (len : ℕ) (f g : Model) (h w : Candidate) {c : Certificate} → quotient_test len f g h w ≡ accepted c
    → QuotientAllowed f g c.model
quotient_allowed len f g h w passes = record {
  divisor = λ x v on hv. quotient_nonzero len f g h w passes x on v hv;
  quotient = λ x u v on hu hv. quotient_sound len f g h w passes x on u v hu hv;
}

module _ (rule : RootRule) (len : ℕ) (f : Model) (h w : Candidate) {c : Certificate} (passes : root_test rule len f h w ≡ accepted c) where
  positive : (x v : ℚ) → OnInterval f.interval x → Allows f x v → whole (pos 0) <ℚ v
  positive x v on hv = (root_sound rule len f h w passes x v on hv).positive

  -- y is its own box
  exact : (x v y : ℚ) → OnInterval f.interval x → Allows f x v → whole (pos 0) ≤ℚ y → y *ℚ y ≡ v → Allows c.model x y
  exact x v y on hv nonneg square =
      let o = root_overlap rule len f h w passes x v on hv y y v v (inr (above, le_of_eq ℚ_ordered square)) nonneg (le_of_eq ℚ_ordered (sym square))
      (le_refl ℚ_ordered y) (le_refl ℚ_ordered v) (le_refl ℚ_ordered v) in
      subst (Allows c.model x) (ℚ_ordered.le_antisym o.0 y o.2 o.1) o.3
    where
      no_square : whole (pos 0) *ℚ whole (pos 0) ≡ whole (pos 0)
      no_square = solveℚ [] (search reifyℚ depth 20) (search reifyℚ depth 20) tt

      -- y is not 0, since v is not
      above : whole (pos 0) <ℚ y
      above k =
          let none : y ≡ whole (pos 0) = ℚ_ordered.le_antisym y (whole (pos 0)) k nonneg in
          positive x v on hv (le_of_eq ℚ_ordered (sym square ∙ ap (λ z. z *ℚ z) none ∙ no_square))

  pub root_allowed : RootAllowed f c.model
  root_allowed = record {
    radicand = positive;
    root = exact;
    bounds = λ x v on hv.
        subst⁻¹ (λ i. RootBounds (of_units (value ℚ_ring (position i x) (map whole c.model.coefficients))) (of_units (whole (pos c.model.radius))) v)
        (root_interval rule len f h w passes)
        (subst⁻¹ (λ cs. RootBounds (of_units (value ℚ_ring (position f.interval x) (map whole cs))) (of_units (whole (pos c.model.radius))) v)
        (root_coefficients rule len f h w passes) (root_sound rule len f h w passes x v on hv));
    overlap = λ x v low high l u on hv above below b.
        root_overlap rule len f h w passes x v on hv low high l u b.low_fits b.high_nonneg b.high_fits b.ordered above below;
  }

-- ---- the promises put to use

pub allowed_quotient : {f g q : Model} → QuotientAllowed f g q → (x u v : ℚ) → OnInterval f.interval x → Allows f x u → Allows g x v
    → (¬ (v ≡ whole (pos 0))) × Allows q x (u /ℚ v)
allowed_quotient a x u v on hu hv = (a.divisor x v on hv, a.quotient x u v on hu hv)

pub allowed_root : {f h : Model} → RootAllowed f h → (x v y : ℚ) → OnInterval f.interval x → Allows f x v → whole (pos 0) ≤ℚ y → y *ℚ y ≡ v
    → (whole (pos 0) <ℚ v) × Allows h x y
allowed_root a x v y on hv nonneg square = (a.radicand x v on hv, a.root x v y on hv nonneg square)

-- of a root that may be no fraction: where it lies, and what each of its boxes holds
pub allowed_near : {f h : Model} → RootAllowed f h → (x v low high l u : ℚ) → OnInterval f.interval x → Allows f x v → l ≤ℚ v → v ≤ℚ u
    → RootBox low high l u
    → (whole (pos 0) <ℚ v) × (v ≤ℚ (centre h x +ℚ of_units (whole (pos h.radius))) *ℚ (centre h x +ℚ of_units (whole (pos h.radius))))
    × ((r : ℚ) × (low ≤ℚ r) × (r ≤ℚ high) × Allows h x r)
allowed_near a x v low high l u on hv above below b =
    let near = a.bounds x v on hv in (near.positive, near.above, a.overlap x v low high l u on hv above below b)
