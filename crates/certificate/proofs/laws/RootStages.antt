-- What a root test up to N and b says of the whole test.
use Rattle.std.specs.Prelude.{◌≡◌, ℕ}
use Rattle.std.proofs.Common.{sym, ◌∙◌, arith}
use Rattle.std.proofs.Math.Path.{ap}
use Rattle.chebyshev.specs.definitions.Coefficients.{weight}
use Rattle.model.proofs.laws.ModelLaws.{good_is}
use Rattle.model.specs.definitions.Outcomes.{accepted, refused}
use Rattle.model.proofs.laws.PlaceLaws.{outcome_accepted, outcome_behind, outcome_refused}
use Rattle.model.specs.declared.types.Candidate.{Candidate}
use Rattle.model.specs.declared.types.Model.{Model}
use Rattle.certificate.specs.definitions.Root.{root_places, root_contraction, root_residual, root_test, root_needing}
use Rattle.certificate.specs.declared.types.RootRule.{RootRule}
use Rattle.certificate.specs.definitions.Tests.{displacement, make_certificate, zero_certificate, placed, with_radius, refused_test}
use Rattle.certificate.specs.definitions.InnerContracts.{RootLast as RootLastOf, Reach, make_reach, zero_reach, root_reach}
use Rattle.certificate.specs.definitions.RootEnd.{RootLast, rule_outcome}
use Rattle.certificate.proofs.laws.Stages.{displacement_bound}
use Rattle.certificate.proofs.laws.RootConditions.{NumbersConditions, numbers_conditions}
use Rattle.certificate.proofs.laws.RootRadius.{gap_bound}
use Rattle.certificate.proofs.laws.RootEnd.{root_end, end_refused, end_passed}
use Rattle.certificate.proofs.laws.Discriminant.{weight_positive}

module _ (len : ℕ) (f : Model) (h w : Candidate) where
  -- where the places through N are passed, the rest decides
  pub root_behind : (rule : RootRule) → NumbersConditions len f h w → let n = root_residual f (placed f h) in
      root_test rule len f h w ≡ root_end rule (placed f h) (weight w.coefficients) (root_contraction (placed f h) (placed f w)) n (displacement (placed f w) n)
  unfolding root_needing root_places
  root_behind rule c = outcome_behind (root_places len f h w) _ _ zero_certificate ((numbers_conditions len f h w).1 c)

  pub record RootReached (M m n b : ℕ) : Type 0 where
    pub conditions : NumbersConditions len f h w
    pub is_M : M ≡ weight w.coefficients
    pub is_m : m ≡ root_contraction (placed f h) (placed f w)
    pub is_n : n ≡ root_residual f (placed f h)
    pub is_b : b ≡ displacement (placed f w) n
    pub last : (rule : RootRule) → root_test rule len f h w ≡ root_end rule (placed f h) M m n b

  pub root_reached_is : (M m n b : ℕ) → root_reach len f h w ≡ accepted (make_reach M m n b) → RootReached M m n b
  unfolding root_reach
  root_reached_is M m n b e =
      let (passed, same) = outcome_accepted (root_places len f h w) _ zero_reach e in
      let e_m : M ≡ weight w.coefficients = ap (λ (r : Reach). r.M) same in
      let em : m ≡ root_contraction (placed f h) (placed f w) = ap (λ (r : Reach). r.m) same in
      let en : n ≡ root_residual f (placed f h) = ap (λ (r : Reach). r.N) same in
      let eb : b ≡ displacement (placed f w) n = ap (λ (r : Reach). r.b) same ∙ ap (displacement (placed f w)) (sym en) in
      let conditions = (numbers_conditions len f h w).0 passed in record {
        conditions = conditions;
        is_M = e_m;
        is_m = em;
        is_n = en;
        is_b = eb;
        last = λ rule. rw (eb, en, em, e_m) (root_behind rule conditions);
      }

  -- what the last places are given
  pub root_numbers_last : (M m n b : ℕ) → RootReached M m n b → RootLast M m b
  unfolding displacement
  root_numbers_last M m n b r =
      let c = r.conditions in
      let of_w = good_is (placed f w) c.good_w in record {
        positive = omega (arith, r.is_M, weight_positive w.coefficients c.helper);
        weight-fits = omega (arith, r.is_M, of_w);
        contracting = omega (arith, r.is_m, c.contraction);
        displaced = omega (arith, r.is_b, displacement_bound (weight w.coefficients) n of_w.weight-fits (omega (arith, r.is_n, c.residual)));
        square = rw (r.is_m, r.is_M) (gap_bound len f h w c);
      }

  pub root_last : (M m n b : ℕ) → RootReached M m n b → RootLastOf (placed f h) M m b
  root_last M m n b r =
      let l = root_numbers_last M m n b r in
      record {
        good_h = r.conditions.good_h;
        positive = l.positive;
        weight-fits = l.weight-fits;
        contracting = l.contracting;
        displaced = l.displaced;
        square = l.square;
      }

  -- the whole test, where the places through N are passed
  module _ (rule : RootRule) {M m n b : ℕ} (r : RootReached M m n b) where
    pub root_rule_refused : {k : ℕ} → rule_outcome rule M m b ≡ refused k 0 → root_test rule len f h w ≡ refused_test k
    root_rule_refused e = r.last rule ∙ end_refused rule (placed f h) M m n b e

    pub root_rule_passed : (e : ℕ) → rule_outcome rule M m b ≡ accepted e → root_test rule len f h w ≡ accepted (make_certificate (with_radius (placed f h) e) m n b)
    root_rule_passed e same = r.last rule ∙ end_passed rule (placed f h) M m n b (root_numbers_last M m n b r) r.conditions.good_h e same

  pub root_refused_is : (rule : RootRule) (k : ℕ) → root_reach len f h w ≡ refused k zero_reach → root_test rule len f h w ≡ refused_test k
  unfolding root_reach root_needing root_places
  root_refused_is rule k e = outcome_refused (root_places len f h w) _ _ zero_reach _ zero_certificate e
