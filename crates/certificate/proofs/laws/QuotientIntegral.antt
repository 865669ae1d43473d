-- The example of request S-8: "A customer integrates a feed which is itself a certified quotient, so no list of coefficients
-- describes it." What is summed over the strips is the quotient itself, of any values that f and g allow.
use Rattle.std.specs.Prelude.{◌≡◌, ℕ, ◌<◌}
use Rattle.std.proofs.Common.{sym, subst}
use Rattle.fraction.specs.definitions.Fraction.{ℚ, ◌/ℚ◌}
use Rattle.model.specs.definitions.Outcomes.{accepted}
use Rattle.model.specs.definitions.Allowed.{OnInterval}
use Rattle.model.specs.definitions.Integrate.{integration}
use Rattle.model.specs.definitions.Strips.{Chooses, StripsWithin}
use Rattle.model.proofs.laws.StripsSound.{integration_strips}
use Rattle.model.specs.declared.types.Candidate.{Candidate}
use Rattle.model.specs.declared.types.Model.{Model}
use Rattle.certificate.specs.definitions.Tests.{Certificate}
use Rattle.certificate.specs.definitions.Quotient.{quotient_test}
use Rattle.certificate.proofs.laws.QuotientSound.{quotient_interval, quotient_sound}

pub quotient_integrated : (len : ℕ) (f g : Model) (h w : Candidate) {q : Certificate} → quotient_test len f g h w ≡ accepted q
    → {c : Model} → integration q.model ≡ accepted c → (u v : ℚ → ℚ) → Chooses f u → Chooses g v
    → (x : ℚ) → OnInterval f.interval x → (k : ℕ) → 0 < k → StripsWithin q.model c (λ y. u y /ℚ v y) x k
quotient_integrated len f g h w {q} passes e u v hu hv x on =
    let (of_f, of_g) = quotient_interval len f g h w passes in
    integration_strips q.model e (λ y. u y /ℚ v y)
    (λ y here.
    let on_f = subst (λ i. OnInterval i y) of_f here in
    quotient_sound len f g h w passes y on_f (u y) (v y) (hu y on_f) (hv y (subst (λ i. OnInterval i y) of_g here)))
    x (subst (λ i. OnInterval i x) (sym of_f) on)
