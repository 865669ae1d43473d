-- `add::combine_models` meets its contract: the tests in the order of the definition's places.
use mathlib.Core.Path.{◌≡◌, refl, ◌∙◌, ap}
use mir.Facts.{to_z-of_z}
use Rattle.chebyshev.specs.definitions.Coefficients.{weight}
use Rattle.model.specs.definitions.InnerContracts.{combination, combined_model, formed_outcome}
use Rattle.model.specs.definitions.Models.{zero_model}
use Rattle.model.specs.definitions.Outcomes.{passing}
use Rattle.model.proofs.Refusing.{passed_up}
use Rattle.model.proofs.laws.ModelLaws.{good_is}
use Rattle.model.proofs.laws.IntervalLaws.{differ, alike}
use Rattle.model.proofs.laws.FormedLaws.{formed_is}
use Rattle.model.proofs.laws.CombinationLaws.{combination_of_good}
use Rattle.model.proofs.add.combine_models.Goals as goal

pub returns-in_err-checked_weight : goal.returns-in_err-checked_weight
unfolding combination passing
returns-in_err-checked_weight c =
    rw (passed_up zero_model c.from_residual.result c.in_err-checked_weight.field-0.0 c.from_residual.ensures, c.in_err-checked_weight.ensures.err.0, c.in_err-checked_weight.ensures.err.1)

pub returns-in_err-checked_weight-2 : goal.returns-in_err-checked_weight-2
unfolding combination passing
returns-in_err-checked_weight-2 c =
    rw (passed_up zero_model c.from_residual-in_err-checked_weight-2.result c.in_err-checked_weight-2.field-0.0 c.from_residual-in_err-checked_weight-2.ensures, c.in_ok-checked_weight.ensures.ok.0, c.in_err-checked_weight-2.ensures.err.0, c.in_err-checked_weight-2.ensures.err.1)

pub returns-then-ne : goal.returns-then-ne
unfolding combination passing
returns-then-ne c =
    rw (c.in_ok-checked_weight.ensures.ok.0, c.in_ok-checked_weight-2.ensures.ok.0, differ c.args.a.interval c.args.b.interval c.ne.ensures c.if-ne.true)

pub combine-sum-requires : goal.combine-sum-requires
combine-sum-requires c =
    simp (to_z-of_z c.ranges.sign) (record {
      first_light = (good_is c.args.a c.in_ok-checked_weight.ensures.ok.0).weight-fits;
      second_light = (good_is c.args.b c.in_ok-checked_weight-2.ensures.ok.0).weight-fits;
      unit = c.requires;
    })

pub returns : goal.returns
unfolding combined_model
returns c =
    let a = c.args.a in
    let b = c.args.b in
    let sign = c.args.sign in
    let m = combined_model sign a b in
    let cs : c.combine-sum.result.coefficients ≡ m.coefficients = rw (to_z-of_z c.ranges.sign) at c.combine-sum.ensures.coefficients_value in
    let w : c.combine-sum.result.weight ≡ weight m.coefficients = c.combine-sum.ensures.weight_value ∙ ap weight cs in
    c.formed.ensures
    ∙ (λ t. formed_outcome (c.max-degree.ensures t) (cs t) (w t) m.radius a.interval)
    ∙ formed_is m m.coefficients (λ h. refl)
    ∙ combination_of_good sign a b c.in_ok-checked_weight.ensures.ok.0 c.in_ok-checked_weight-2.ensures.ok.0 (alike a.interval b.interval c.ne.ensures c.if-ne.false)
