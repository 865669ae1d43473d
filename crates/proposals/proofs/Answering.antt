-- What the makers store has degrees that 32-bit numbers hold, and what the lengths of their areas tell.
use borrow.Author.Tests.{leb-true}
use Rattle.std.specs.Prelude.{Result, Ok, Err, IfOk}
use Rattle.std.specs.Result.{result_unwrap_or}
use Rattle.std.proofs.Common.{rules}
use mathlib.Core.Path.{◌≡◌, sym, ◌∙◌, subst}
use mathlib.Core.Bool.{true, ◌&&◌}
use mathlib.Core.List.{List}
use Prim.Native.Nat.{ℕ, ◌≤◌}
use native.Mathlib.Omega.{arith}
use lib.IntN.{ℤ}
use lib.ListN.{length}
use lib.Ieee.{Float}
use Rattle.model.specs.definitions.Models.{max_degree}
use Rattle.model.specs.definitions.Area.{model_size, candidate_size, fits}
use Rattle.model.specs.definitions.Outcomes.{payload, judged}
use Rattle.model.proofs.laws.AreaLaws.{fit_last}
use Rattle.model.proofs.laws.OutcomeLaws.{held_judged}
use Rattle.model.proofs.laws.ResultLaws.{outcome-payload}
use Rattle.model.specs.declared.types.Model.{Model}
use Rattle.model.specs.declared.types.Candidate.{Candidate}
use Rattle.model.specs.declared.types.Refusal.{Refusal}
use Rattle.proposals.specs.definitions.Units.{zero_candidate, in_units, in_units_of}
use Rattle.proposals.specs.definitions.Reciprocal.{Reciprocal, refused_reciprocal, reciprocal_proposal, reciprocal_of}
use Rattle.proposals.specs.definitions.Quotient.{Quotient, refused_quotient, quotient_proposal, quotient_of}
use Rattle.proposals.specs.definitions.Areas.{round_size, quotient_size, outcome_size, reciprocal_fits, quotient_fits}

-- ---- degrees

abbrev pub of_units : Candidate → Type 0
of_units c = c.degree ≤ max_degree

abbrev pub of_reciprocal : Reciprocal → Type 0
of_reciprocal r = r.w.degree ≤ max_degree

abbrev pub of_quotient : Quotient → Type 0
of_quotient q = (q.h.degree ≤ max_degree) × (q.w.degree ≤ max_degree)

pub zero_list : of_units zero_candidate
unfolding zero_candidate
zero_list = omega arith

pub zero_reciprocal : of_reciprocal refused_reciprocal
unfolding refused_reciprocal
zero_reciprocal = zero_list

pub zero_quotient : of_quotient refused_quotient
unfolding refused_quotient
zero_quotient = (zero_list, zero_list)

pub list_degree : (r : Result Candidate Refusal) (v : List Float) → in_units_of r ≡ in_units v → IfOk r of_units
unfolding in_units
list_degree r v e = held_judged of_units zero_candidate r e (outcome-payload of_units _ _ _ (λ p. (omega arith)) zero_list)

pub reciprocal_degree : (r : Result Reciprocal Refusal) (g : Model) → reciprocal_of r ≡ reciprocal_proposal g → IfOk r of_reciprocal
unfolding reciprocal_proposal
reciprocal_degree r g e = held_judged of_reciprocal refused_reciprocal r e (outcome-payload of_reciprocal _ _ _ (λ p. (omega arith)) zero_reciprocal)

pub quotient_degrees : (r : Result Quotient Refusal) (f g : Model) → quotient_of r ≡ quotient_proposal f g → IfOk r of_quotient
unfolding quotient_proposal
quotient_degrees r f g e = held_judged of_quotient refused_quotient r e (outcome-payload of_quotient _ _ _ (λ p. (omega arith, omega arith)) zero_quotient)

-- ---- what is stored: the values, or zeros in their place

module _ {A : Type 0} {v d : A} (z : A) where
  pub stored : (r : Result A Refusal) → v ≡ result_unwrap_or r d → d ≡ z → v ≡ payload (judged z r)
  stored (Ok a) e f = e
  stored (Err k) e f = e ∙ f

  pub stored_holds : (P : A → Type 0) (r : Result A Refusal) → v ≡ result_unwrap_or r d → d ≡ z → IfOk r P → P z → P v
  stored_holds P (Ok a) e f h k = subst P (sym e) (search rules)
  stored_holds P (Err n) e f h k = subst P (sym (e ∙ f)) k

-- ---- areas that have their numbers

pub reciprocal_fits_lem : (g : List ℤ) (r : List Float) (w : List ℤ) (o : List ℕ) → reciprocal_fits g r w o ≡ true → model_size ≤ length g
reciprocal_fits_lem g r w o h =
    let t = fits model_size g in
    let u = t && fits round_size r in
    leb-true model_size (length g) (fit_last t round_size r (fit_last u candidate_size w (fit_last (u && fits candidate_size w) outcome_size o h).0).0).0

pub quotient_fits_lem : (f g : List ℤ) (r : List Float) (h w : List ℤ) (o : List ℕ) → quotient_fits f g r h w o ≡ true → (model_size ≤ length f) × (model_size ≤ length g)
quotient_fits_lem f g r h w o e =
    let t = fits model_size f && fits model_size g in
    let u = t && fits quotient_size r in
    let v = u && fits candidate_size h in
    let both = (fit_last t quotient_size r (fit_last u candidate_size h (fit_last v candidate_size w (fit_last (v && fits candidate_size w) outcome_size o e).0).0).0).0 in
    let p = fit_last (fits model_size f) model_size g both in
    (leb-true model_size (length f) p.0, p.1)
