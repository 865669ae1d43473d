-- The numbers of an accepted test are within their limits: m < S, N ≤ 2^28, and b is at most the radius.
use Rattle.std.specs.Prelude.{◌≡◌, ℕ, ◌+◌, ◌*◌, ◌-◌, ◌≤◌, ◌<◌}
use Rattle.std.proofs.Common.{ap, arith, mul-le-mul_left, mul-le-mul_right, le_of_mul-le-mul_right}
use Rattle.std.proofs.Math.Path.{subst⁻¹}
use Rattle.integer.specs.definitions.Rounding.{upℕ}
use Rattle.integer.proofs.laws.RoundingLaws.{le-upℕ}
use Rattle.chebyshev.specs.definitions.Coefficients.{weight}
use Rattle.model.specs.definitions.Models.{scale}
use Rattle.model.specs.definitions.Outcomes.{accepted}
use Rattle.model.proofs.laws.ModelLaws.{good_is}
use Rattle.model.specs.declared.types.Candidate.{Candidate}
use Rattle.model.specs.declared.types.Model.{Model}
use Rattle.certificate.specs.definitions.Tests.{Certificate, placed}
use Rattle.certificate.specs.definitions.Promise.{NumbersFit}
use Rattle.certificate.specs.definitions.Quotient.{quotient_test, quotient_model, quotient_contraction}
use Rattle.certificate.specs.definitions.Root.{root_test, root_model, root_contraction, rule_radius}
use Rattle.certificate.specs.declared.types.RootRule.{RootRule}
use Rattle.certificate.specs.declared.types.RootRule.TheVariants.{ByDiscriminant, ByLeastRadius}
use Rattle.certificate.proofs.laws.QuotientConditions.{quotient_displacement, quotient_passes}
use Rattle.certificate.proofs.laws.RootConditions.{RuleHolds, root_displacement, root_passes}
use Rattle.certificate.proofs.laws.TestFits.{quotient_good, root_good}

-- a quotient by at most S of at least b·S, rounded up
up_not_below : (b n d : ℕ) → 0 < d → d ≤ scale → b * scale ≤ n → b ≤ upℕ n d
up_not_below b n d h le e =
    let p : b * d ≤ b * scale = mul-le-mul_left b le in
    le_of_mul-le-mul_right {k = d} (omega (arith, p, le-upℕ n d h)) h

least_not_below : (M b r k : ℕ) → k ≤ scale → 2 * M * (r * r) + b * (scale * scale) ≤ k * scale * r → b ≤ r
least_not_below M b r k le e = let p : k * r ≤ scale * r = mul-le-mul_right r le in omega (arith, p)

rule_not_below : (rule : RootRule) (M m b : ℕ) → m < scale → RuleHolds rule M m b → b ≤ rule_radius rule M m b
rule_not_below ByDiscriminant M m b h holds = up_not_below b (2 * b * scale) (scale - m) (omega arith) (omega arith) (omega arith)
rule_not_below ByLeastRadius M m b h holds = least_not_below M b _ (scale - m) (omega arith) holds.satisfies

pub quotient_numbers : (len : ℕ) (f g : Model) (h w : Candidate) {c : Certificate} → quotient_test len f g h w ≡ accepted c → NumbersFit c
unfolding quotient_model
quotient_numbers len f g h w {c} e =
    let p = quotient_passes len f g h w e in
    let k = good_is c.model (quotient_good len f g h w e) in
    let m : ℕ = quotient_contraction g (placed f w) in
    let b : ℕ = quotient_displacement f g h w in
    record {
      degree = k.degree_fits;
      contraction = omega (arith, ap (λ (x : Certificate). x.m) p.1, p.0.contraction);
      residual = omega (arith, ap (λ (x : Certificate). x.N) p.1, p.0.residual);
      displacement =
          subst⁻¹ (λ (x : Certificate). x.b ≤ x.model.radius) p.1
          (up_not_below b (b * scale) (scale - m) (omega (arith, p.0.contraction)) (omega arith) (omega arith));
      radius = k.radius_fits;
    }

pub root_numbers : (rule : RootRule) (len : ℕ) (f : Model) (h w : Candidate) {c : Certificate} → root_test rule len f h w ≡ accepted c → NumbersFit c
unfolding root_model
root_numbers rule len f h w {c} e =
    let p = root_passes rule len f h w e in
    let k = good_is c.model (root_good rule len f h w e) in
    record {
      degree = k.degree_fits;
      contraction = omega (arith, ap (λ (x : Certificate). x.m) p.2, p.0.numbers.contraction);
      residual = omega (arith, ap (λ (x : Certificate). x.N) p.2, p.0.numbers.residual);
      displacement =
          subst⁻¹ (λ (x : Certificate). x.b ≤ x.model.radius) p.2
          (rule_not_below rule (weight w.coefficients) (root_contraction (placed f h) (placed f w)) (root_displacement f h w)
          p.0.numbers.contraction p.0.holds);
      radius = k.radius_fits;
    }
