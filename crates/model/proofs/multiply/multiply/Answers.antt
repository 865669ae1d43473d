-- `multiply::multiply` meets its contract: the tests in the order of the definition's places.
use mathlib.Core.Path.{◌≡◌, sym, ◌∙◌, ap}
use mathlib.Core.Bool.{false}
use Prim.Native.Nat.{ℕ}
use native.Mathlib.Omega.{arith}
use Rattle.model.specs.definitions.InnerContracts.{unless_large}
use Rattle.model.specs.definitions.Models.{zero_model}
use Rattle.model.specs.definitions.Outcomes.{passing}
use Rattle.model.specs.definitions.Multiply.{bad_kept, product_model, multiplication}
use Rattle.model.proofs.Refusing.{passed_up}
use Rattle.model.proofs.laws.IntervalLaws.{differ, alike}
use Rattle.model.proofs.laws.MultiplicationLaws.{kept_within, multiplication_of_good}
use Rattle.model.proofs.laws.ModelLaws.{good_is}
use Rattle.model.proofs.multiply.multiply.Goals as goal

pub returns-in_err-weight_a : goal.returns-in_err-weight_a
unfolding multiplication passing
returns-in_err-weight_a c =
    rw (passed_up zero_model c.from_residual.result c.in_err-weight_a.field-0.0 c.from_residual.ensures, c.in_err-weight_a.ensures.err.0, c.in_err-weight_a.ensures.err.1)

pub returns-in_err-weight_b : goal.returns-in_err-weight_b
unfolding multiplication passing
returns-in_err-weight_b c =
    rw (passed_up zero_model c.from_residual-in_err-weight_b.result c.in_err-weight_b.field-0.0 c.from_residual-in_err-weight_b.ensures, c.in_ok-weight_a.ensures.ok.0, c.in_err-weight_b.ensures.err.0, c.in_err-weight_b.ensures.err.1)

pub returns-then-ne : goal.returns-then-ne
unfolding multiplication passing
returns-then-ne c =
    rw (c.in_ok-weight_a.ensures.ok.0, c.in_ok-weight_b.ensures.ok.0, differ c.args.a.interval c.args.b.interval c.ne.ensures c.if-ne.true)

pub returns-then-is_bad_kept : goal.returns-then-is_bad_kept
unfolding multiplication passing
returns-then-is_bad_kept c =
    rw (c.in_ok-weight_a.ensures.ok.0, c.in_ok-weight_b.ensures.ok.0, alike c.args.a.interval c.args.b.interval c.ne.ensures c.if-ne.false, ← c.is_bad_kept.ensures, c.if-is_bad_kept.true)

pub multiply_good-requires : goal.multiply_good-requires
multiply_good-requires c =
    let (p, first) = c.in_ok-weight_a.ensures.ok in
    let (q, second) = c.in_ok-weight_b.ensures.ok in
    let h : bad_kept c.args.kept ≡ false = sym c.is_bad_kept.ensures ∙ c.if-is_bad_kept.false in
    record {
      first_good = p;
      second_good = q;
      first_weight = first;
      second_weight = second;
      kept_fits = omega (arith, c.kept_degree-degree.ensures, kept_within c.args.kept c.args.a.degree c.args.b.degree h (good_is c.args.a p).degree_fits (good_is c.args.b q).degree_fits);
    }

pub returns : goal.returns
returns c =
    let h : bad_kept c.args.kept ≡ false = sym c.is_bad_kept.ensures ∙ c.if-is_bad_kept.false in
    c.multiply_good.ensures.outcome_value
    ∙ ap (λ (n : ℕ). unless_large (product_model n c.args.a c.args.b)) c.kept_degree-degree.ensures
    ∙ multiplication_of_good c.args.kept c.args.a c.args.b c.in_ok-weight_a.ensures.ok.0 c.in_ok-weight_b.ensures.ok.0 (alike c.args.a.interval c.args.b.interval c.ne.ensures c.if-ne.false) h
