-- The quotient test in 01's whole numbers, with C( , ) formed by its two sums: for good models, good candidates and enough
-- scratch, a candidate is accepted exactly where the test holds and the stated radius is within 2^28, with exactly that radius.
use Rattle.std.specs.Prelude.{◌≡◌, ◌↔◌, true, ℕ, ◌≤◌}
use Rattle.std.proofs.Common.{sym, ◌∙◌, ap}
use borrow.Author.Tests.{ltb-false, le-ltb}
use Rattle.model.specs.definitions.Intervals.{same_interval}
use Rattle.model.specs.definitions.Models.{max_radius, good}
use Rattle.model.specs.definitions.Outcomes.{accepted}
use Rattle.model.specs.declared.types.Candidate.{Candidate}
use Rattle.model.specs.declared.types.Model.{Model}
use Rattle.certificate.specs.definitions.Tests.{scratch_size, displacement, Certificate, placed}
use Rattle.certificate.specs.definitions.Quotient.{quotient_test, quotient_contraction, quotient_residual, quotient_model, quotient_certificate}
use Rattle.certificate.specs.definitions.TwoSums.{quotient_m, quotient_N, quotient_b, quotient_radius, QuotientHolds, quotient_given}
use Rattle.certificate.proofs.laws.TwoSumsLaws.{product_list-good}
use Rattle.certificate.proofs.laws.Stages.{large_radius}
use Rattle.certificate.proofs.laws.QuotientConditions.{QuotientConditions, quotient_result, quotient_passes, quotient_result_lem}

contraction_is : (g w : Model) → good g ≡ true → good w ≡ true → quotient_contraction g w ≡ quotient_m g w
unfolding quotient_m quotient_contraction
contraction_is g w gg gw = rw (product_list-good w g gw gg)

residual_is : (f g h : Model) → good g ≡ true → good h ≡ true → quotient_residual f g h ≡ quotient_N f g h
unfolding quotient_N quotient_residual
residual_is f g h gg gh = rw (product_list-good g h gg gh)

module _ (len : ℕ) (f g : Model) (h w : Candidate) (enough : scratch_size ≤ len)
    (gf : good f ≡ true) (gg : good g ≡ true) (gh : good (placed f h) ≡ true) (gw : good (placed f w) ≡ true)
    (same : same_interval f.interval g.interval ≡ true) where
  -- the candidates on f's interval
  abbrev h' : Model
  h' = placed f h

  abbrev w' : Model
  w' = placed f w

  given_is : quotient_certificate f g h w ≡ quotient_given f g h' w'
  unfolding quotient_radius quotient_b displacement quotient_model
  given_is = rw (← contraction_is g w' gg gw, ← residual_is f g h' gg gh)

  conditions_holds : QuotientConditions len f g h w ↔ QuotientHolds f g h' w'
  unfolding quotient_radius quotient_b displacement quotient_model
  conditions_holds =
      let radius = (quotient_result f g h w).radius in
      let large = large_radius h' radius gh in
      rw (← contraction_is g w' gg gw, ← residual_is f g h' gg gh) (
        λ c. (c.contraction, c.residual, ltb-false max_radius radius (sym large ∙ c.result)),
        λ t. record {
          scratch = enough;
          good_f = gf;
          good_g = gg;
          good_h = gh;
          good_w = gw;
          same_interval_lem = same;
          contraction = t.0;
          residual = t.1;
          result = large ∙ le-ltb max_radius radius t.2;
        },
      )

  -- accepted where the test holds
  pub quotient_accepted : QuotientHolds f g h' w' → quotient_test len f g h w ≡ accepted (quotient_given f g h' w')
  quotient_accepted t = quotient_result_lem len f g h w (conditions_holds.1 t) ∙ ap accepted given_is

  -- and only there
  pub quotient_accepted_only : {c : Certificate} → quotient_test len f g h w ≡ accepted c → QuotientHolds f g h' w' × (c ≡ quotient_given f g h' w')
  quotient_accepted_only e =
      let (conditions, same) = quotient_passes len f g h w e in (conditions_holds.0 conditions, same ∙ given_is)
