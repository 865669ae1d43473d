-- `RootNumbers::least_radius` meets its contract: the radius is at most S.
use Rattle.std.proofs.Common.{◌≡◌, ℕ, Ok, Err, Option, Some, None, refl}
use mathlib.Core.Path.{sym, ◌∙◌, ap}
use native.Mathlib.Omega.{arith}
use Rattle.std.specs.Option.{ok_or}
use Rattle.model.proofs.Refusing.{passed_up}
use Rattle.model.specs.definitions.Outcomes.{refused, number_of, judged}
use Rattle.model.specs.declared.types.Refusal.{Refusal}
use Rattle.certificate.proofs.laws.RootEnd.{least_refused, least_passed, least_small}
use Rattle.certificate.proofs.root_end.RootNumbers.least_radius.Goals as goal

-- what `ok_or` was given
given_some : (o : Option ℕ) (e : Refusal) (x : ℕ) → ok_or o e ≡ Ok x → o ≡ Some x
given_some (Some y) e x h = cc
given_some None e x h = cc

given_none : (o : Option ℕ) (e r : Refusal) → ok_or o e ≡ Err r → (o ≡ None) × (r ≡ e)
given_none (Some y) e r h = cc
given_none None e r h = (refl, cc)

pub returns-in_err-radius : goal.returns-in_err-radius
returns-in_err-radius c =
    let s = c.args.self in
    let none = given_none c.least_radius-least.result _ _ (sym c.ok_or.ensures.value ∙ c.in_err-radius.was) in
    let refusal : judged 0 c.from_residual.result ≡ refused 17 0 = passed_up 0 c.from_residual.result _ c.from_residual.ensures ∙ ap (λ (k : Refusal). refused (number_of k) 0) none.1 in
    refusal ∙ sym (least_refused s.weight s.contraction s.displacement (sym c.least_radius-least.ensures ∙ none.0))

pub overflow_cast-result : goal.overflow_cast-result
overflow_cast-result c =
    let s = c.args.self in
    let some = given_some c.least_radius-least.result _ _ (sym c.ok_or.ensures.value ∙ c.in_ok-radius.was) in
    omega (arith, least_small s.weight s.contraction s.displacement _ (sym c.least_radius-least.ensures ∙ some))

pub returns : goal.returns
returns c =
    let s = c.args.self in
    let some = given_some c.least_radius-least.result _ _ (sym c.ok_or.ensures.value ∙ c.in_ok-radius.was) in
    sym (least_passed s.weight s.contraction s.displacement _ (sym c.least_radius-least.ensures ∙ some))
