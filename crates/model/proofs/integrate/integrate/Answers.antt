-- `integrate::integrate` meets its contract: the tests are those of the definition, and 2·a_0 fits 32 bits.
use mathlib.Core.Path.{◌≡◌, ◌∙◌, ap}
use mathlib.Core.Bool.{true}
use Prim.Native.Nat.{ℕ, suc, ◌+◌, ◌*◌, ◌^◌, ◌≤◌}
use native.Mathlib.Nat.{mul-le-mul}
use native.Mathlib.Omega.{arith}
use lib.IntN.{ℤ, pos, ◌*ℤ◌}
use lib.ListN.{get_or, take, set}
use mir.Syntax.{w32}
use mir.Val.{SFits}
use mir.Facts.{to_z-of_z}
use Rattle.ring.specs.laws.Parts.{abs-mul}
use Rattle.integer.proofs.laws.Machine.{abs-fits}
use Rattle.chebyshev.specs.definitions.Coefficients.{weight}
use Rattle.chebyshev.proofs.laws.Weight.{weight_at}
use Rattle.model.specs.definitions.Models.{scale, max_weight, good, zero_model}
use Rattle.model.specs.definitions.Intervals.{extent}
use Rattle.model.specs.definitions.InnerContracts.{rounded_integral, formed_outcome}
use Rattle.model.proofs.laws.IntervalLaws.{extent-fits}
use Rattle.integer.specs.definitions.Rounding.{upℕ}
use Rattle.integer.proofs.laws.RoundingLaws.{upℕ_least}
use Rattle.model.specs.definitions.Outcomes.{passing}
use Rattle.model.proofs.Refusing.{passed_up}
use Rattle.model.proofs.laws.ModelLaws.{Good, good_is}
use Rattle.model.specs.definitions.Integrate.{integral_model, integration}
use Rattle.model.proofs.laws.IntegralLaws.{integral_doubled, weight_doubled, integration_formed, integration_degree}
use Rattle.model.specs.declared.types.Model.{Model}
use Rattle.model.proofs.integrate.integrate.Goals as goal

-- a good model: 2·a_0 fits 32 bits, and e·(u−l) 64
module _ {a : Model} (g : Good a) where
  abbrev x : ℤ
  x = get_or a.coefficients 0 (pos 0)

  fits-x : SFits w32 x
  fits-x = abs-fits w32 x (omega (arith, weight_at a.coefficients 0, g.weight-fits))

  fits-double : SFits w32 (pos 2 *ℤ x)
  fits-double = abs-fits w32 (pos 2 *ℤ x) (omega (arith, abs-mul (pos 2) x, weight_at a.coefficients 0, g.weight-fits))

  extent-small : extent a.interval ≤ 2 ^ 29
  extent-small = extent-fits g.ends

  spread-small : {n : ℕ} → n ≡ extent a.interval → a.radius * n ≤ 2 ^ 57
  spread-small {n} e =
      let h : n ≤ 2 ^ 29 = omega (arith, e, extent-small) in
      omega (arith, mul-le-mul g.radius_fits h)

  spread-bound : {n : ℕ} → n ≡ extent a.interval → upℕ (a.radius * n) scale ≤ 2 ^ 57
  spread-bound {n} e = upℕ_least (a.radius * n) scale (2 ^ 57) (omega arith) (omega (arith, spread-small e))

pub overflow_mul-doubled : goal.overflow_mul-doubled
overflow_mul-doubled c =
    let g = good_is c.args.a c.in_ok-checked_weight.ensures.ok.0 in
    simp (to_z-of_z (fits-x g)) (fits-double g)

pub rounded_integral-result-requires : goal.rounded_integral-result-requires
rounded_integral-result-requires c =
    let g = good_is c.args.a c.in_ok-checked_weight.ensures.ok.0 in
    simp (to_z-of_z (fits-x g), to_z-of_z (fits-double g)) (record {
      degree_fits = omega arith;
      light = omega (arith, weight_doubled c.args.a.coefficients, g.weight-fits);
      extent-fits = omega (arith, c.extent-extent.ensures, extent-small g);
    })

pub overflow_mul-a : goal.overflow_mul-a
overflow_mul-a c = omega (arith, spread-small (good_is c.args.a c.in_ok-checked_weight.ensures.ok.0) c.extent-extent.ensures)

pub overflow_add-radius : goal.overflow_add-radius
overflow_add-radius c =
    let g = good_is c.args.a c.in_ok-checked_weight.ensures.ok.0 in
    omega (arith, c.up_unsigned-spread.ensures, spread-bound g c.extent-extent.ensures, g)

pub overflow_add-radius-2 : goal.overflow_add-radius-2
overflow_add-radius-2 c =
    let g = good_is c.args.a c.in_ok-checked_weight.ensures.ok.0 in
    omega (arith, c.up_unsigned-spread.ensures, spread-bound g c.extent-extent.ensures, g)

pub returns : goal.returns
returns c =
    let m = c.args.a in
    let p : good c.args.a ≡ true = c.in_ok-checked_weight.ensures.ok.0 in
    let g = good_is c.args.a p in
    let r = c.rounded_integral-result in
    let e : c.extent-extent.result ≡ extent c.args.a.interval = c.extent-extent.ensures in
    let weight_is : r.result.weight ≡ weight (integral_model m).coefficients =
    (simp (to_z-of_z (fits-x g), to_z-of_z (fits-double g)) at r.ensures.weight_value)
    ∙ ap (λ (n : ℕ). weight (rounded_integral n (take (suc m.degree) (set m.coefficients 0 (pos 2 *ℤ x g))))) e
    ∙ ap weight (integral_doubled m) in
    let coefficients_are : r.result.weight ≤ max_weight → r.result.coefficients ≡ (integral_model m).coefficients = λ h.
    (simp (to_z-of_z (fits-x g), to_z-of_z (fits-double g)) at r.ensures.coefficients_value) h
    ∙ ap (λ (n : ℕ). rounded_integral n (take (suc m.degree) (set m.coefficients 0 (pos 2 *ℤ x g)))) e
    ∙ integral_doubled m in
    let spread : c.up_unsigned-spread.result ≡ upℕ (m.radius * extent m.interval) scale = c.up_unsigned-spread.ensures ∙ ap (λ (n : ℕ). upℕ (m.radius * n) scale) e in
    c.formed.ensures
    ∙ ap (λ (n : ℕ). formed_outcome (m.degree + 1) r.result.coefficients r.result.weight (n + m.degree + 1) m.interval) spread
    ∙ integration_formed m _ _ p weight_is coefficients_are

pub returns-then-a-eq-MAX_DEGREE : goal.returns-then-a-eq-MAX_DEGREE
returns-then-a-eq-MAX_DEGREE c = integration_degree c.args.a c.in_ok-checked_weight.ensures.ok.0 (omega arith)

pub returns-in_err-checked_weight : goal.returns-in_err-checked_weight
unfolding integration passing
returns-in_err-checked_weight c =
    rw (passed_up zero_model c.from_residual.result c.in_err-checked_weight.field-0.0 c.from_residual.ensures, c.in_err-checked_weight.ensures.err.0, c.in_err-checked_weight.ensures.err.1)

pub overflow_add-a : goal.overflow_add-a
overflow_add-a c = omega (arith, (good_is c.args.a c.in_ok-checked_weight.ensures.ok.0).degree_fits)
