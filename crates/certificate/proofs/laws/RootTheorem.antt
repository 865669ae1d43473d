-- The root tests in 01's whole numbers, with C( , ) formed by its two sums: for good models, good candidates and enough scratch,
-- a candidate is accepted exactly where the test holds and the stated radius is within 2^28, with exactly that radius. 0x21's is
-- within 2^27 wherever its test holds. TightTheorem.antt has what is 0x22's own.
use Rattle.std.specs.Prelude.{◌≡◌, ◌↔◌, true, ℕ, ◌^◌, ◌≤◌}
use Rattle.std.proofs.Common.{◌∙◌, ap}
use Rattle.chebyshev.specs.definitions.Coefficients.{weight}
use Rattle.model.specs.definitions.Models.{good}
use Rattle.model.specs.definitions.Outcomes.{accepted}
use Rattle.model.specs.declared.types.Candidate.{Candidate}
use Rattle.model.specs.declared.types.Model.{Model}
use Rattle.certificate.specs.definitions.Tests.{scratch_size, displacement, Certificate, placed}
use Rattle.certificate.specs.definitions.Root.{rule_radius, root_model, root_contraction, root_residual, root_certificate, root_test}
use Rattle.certificate.specs.declared.types.RootRule.{RootRule}
use Rattle.certificate.specs.declared.types.RootRule.TheVariants.{ByDiscriminant}
use Rattle.certificate.specs.definitions.TwoSums.{root_m, root_N, root_b, root_radius, RootNumbersHold, RootHolds, root_given}
use Rattle.certificate.proofs.laws.TwoSumsLaws.{product_list-good}
use Rattle.certificate.proofs.laws.RootConditions.{NumbersConditions, RootConditions, RuleHolds, root_displacement, root_passes, root_result_lem}
use Rattle.certificate.proofs.laws.RootRadius.{root_radius_bound, root_fits}

pub contraction_is : (h w : Model) → good h ≡ true → good w ≡ true → root_contraction h w ≡ root_m h w
unfolding root_m root_contraction
contraction_is h w gh gw = rw (product_list-good w h gw gh)

residual_is : (f h : Model) → good h ≡ true → root_residual f h ≡ root_N f h
unfolding root_N root_residual
residual_is f h gh = rw (product_list-good h h gh gh)

module _ (len : ℕ) (f : Model) (h w : Candidate) (enough : scratch_size ≤ len) (gf : good f ≡ true) (gh : good (placed f h) ≡ true) (gw : good (placed f w) ≡ true) where
  -- the candidates on f's interval
  abbrev h' : Model
  h' = placed f h

  abbrev w' : Model
  w' = placed f w

  pub numbers_hold : NumbersConditions len f h w ↔ RootNumbersHold f h' w'
  numbers_hold =
      rw (← contraction_is h' w' gh gw, ← residual_is f h' gh) (
        λ c. (c.helper, c.contraction, c.residual),
        λ t. record { scratch = enough; good_f = gf; good_h = gh; good_w = gw; helper = t.0; contraction = t.1; residual = t.2 },
      )

  abbrev M : ℕ
  M = weight w.coefficients

  pub displacement_is : root_displacement f h w ≡ root_b f h' w'
  unfolding root_b displacement
  displacement_is = rw (residual_is f h' gh)

  -- by either rule, in these numbers
  module _ (rule : RootRule) where
    conditions_hold : RootConditions rule len f h w ↔ (RootNumbersHold f h' w' × RuleHolds rule M (root_m h' w') (root_b f h' w'))
    conditions_hold = (
      λ c. (numbers_hold.0 c.numbers, rw (← contraction_is h' w' gh gw, ← displacement_is) c.holds),
      λ t. record { numbers = numbers_hold.1 t.0; holds = rw (contraction_is h' w' gh gw, displacement_is) t.1 },
    )

    abbrev radius : ℕ
    radius = rule_radius rule M (root_m h' w') (root_b f h' w')

    given_is : root_certificate rule f h w ≡ root_given f h' w' radius
    unfolding root_model
    given_is = rw (displacement_is, contraction_is h' w' gh gw, residual_is f h' gh)

    pub rule_accepted : RootNumbersHold f h' w' × RuleHolds rule M (root_m h' w') (root_b f h' w') → root_test rule len f h w ≡ accepted (root_given f h' w' radius)
    rule_accepted t =
        let c = conditions_hold.1 t in root_result_lem rule len f h w c (root_fits len f h w rule c) ∙ ap accepted given_is

    pub rule_accepted_only : {c : Certificate} → root_test rule len f h w ≡ accepted c
        → (RootNumbersHold f h' w' × RuleHolds rule M (root_m h' w') (root_b f h' w')) × (c ≡ root_given f h' w' radius)
    rule_accepted_only e =
        let (conditions, small, same) = root_passes rule len f h w e in (conditions_hold.0 conditions, same ∙ given_is)

  -- "which these limits keep at or below 2^27"
  pub root_holds_radius : RootHolds f h' w' → root_radius f h' w' ≤ 2 ^ 27
  unfolding root_radius root_model
  root_holds_radius t = rw (← contraction_is h' w' gh gw, ← displacement_is) (root_radius_bound len f h w ByDiscriminant ((conditions_hold ByDiscriminant).1 t))

  -- accepted where the test holds, with "radius up(2·b·S/(S−m))"
  pub root_accepted : RootHolds f h' w' → root_test ByDiscriminant len f h w ≡ accepted (root_given f h' w' (root_radius f h' w'))
  unfolding root_radius
  root_accepted t = rule_accepted ByDiscriminant t

  -- and only there
  pub root_accepted_only : {c : Certificate} → root_test ByDiscriminant len f h w ≡ accepted c → RootHolds f h' w' × (c ≡ root_given f h' w' (root_radius f h' w'))
  unfolding root_radius
  root_accepted_only e = rule_accepted_only ByDiscriminant e
