-- The last places of the root tests, after N and b: the discriminant, tested by a quotient, or the least radius; and the radius,
-- which is never too large.
use Rattle.std.specs.Prelude.{◌≡◌, true, [], ◌∷◌, ℕ, ◌*◌, ◌-◌, ◌/◌, ◌^◌, ◌≤◌, ◌<◌, Some, None}
use Rattle.std.proofs.Common.{◌∙◌, arith}
use borrow.Author.Tests.{lt-ltb, le-ltb}
use Rattle.integer.specs.definitions.Rounding.{upℕ}
use Rattle.integer.proofs.laws.RoundingLaws.{upℕ_least}
use Rattle.model.specs.definitions.Models.{scale, max_radius, good}
use Rattle.model.specs.definitions.Outcomes.{Outcome, accepted, refused, passing, outcome}
use Rattle.model.proofs.laws.PlaceLaws.{outcome_accepted, outcome_refused}
use Rattle.radius.specs.definitions.LeastRadius.{least_radius}
use Rattle.radius.proofs.laws.LeastLaws.{least_found}
use Rattle.model.specs.declared.types.Model.{Model}
use Rattle.certificate.specs.definitions.Tests.{with_radius, Certificate, make_certificate, zero_certificate, refused_test}
use Rattle.certificate.specs.definitions.Root.{rule_place, rule_radius, root_last_places, root_model}
use Rattle.certificate.specs.definitions.InnerContracts.{RootLast as RootLastOf, passed_test}
use Rattle.certificate.specs.definitions.RootEnd.{RootLast, rule_outcome}
use Rattle.certificate.specs.declared.types.RootRule.{RootRule}
use Rattle.certificate.specs.declared.types.RootRule.TheVariants.{ByDiscriminant, ByLeastRadius}
use Rattle.certificate.proofs.laws.Stages.{large_radius}
use Rattle.certificate.proofs.laws.RootConditions.{rule_holds}
use Rattle.certificate.proofs.laws.RootRadius.{numerator_bound}
use Rattle.certificate.proofs.laws.Discriminant.{discriminant_quotient, discriminant_test}

module _ {M m b : ℕ} (r : RootLast M m b) where
  -- of a root that the discriminant allows
  discriminant_small : 8 * b * M ≤ (scale - m) * (scale - m) → upℕ (2 * b * scale) (scale - m) ≤ 2 ^ 27
  discriminant_small d =
      let gap : 0 < scale - m = omega (arith, r.contracting) in
      upℕ_least (2 * b * scale) (scale - m) (2 ^ 27) gap (numerator_bound (scale - m) b M gap r.square d)

  pub discriminant_refused : (scale - m) * (scale - m) / (8 * M) < b → rule_outcome ByDiscriminant M m b ≡ refused 8 0
  unfolding passing
  discriminant_refused e = rw (discriminant_test b M m r.positive ∙ lt-ltb _ b e)

  module _ (enough : b ≤ (scale - m) * (scale - m) / (8 * M)) (e : ℕ) (is_e : e ≡ upℕ (2 * b * scale) (scale - m)) where
    discriminant : 8 * b * M ≤ (scale - m) * (scale - m)
    discriminant = (discriminant_quotient b M m r.positive).1 enough

    pub discriminant_radius : e ≤ 2 ^ 27
    discriminant_radius = rw is_e (discriminant_small discriminant)

    pub discriminant_passed : rule_outcome ByDiscriminant M m b ≡ accepted e
    unfolding passing
    discriminant_passed = rw (← is_e, le-ltb ((scale - m) * (scale - m)) (8 * b * M) discriminant)

  -- by either rule
  rule_small : (rule : RootRule) (e : ℕ) → rule_outcome rule M m b ≡ accepted e → e ≤ 2 ^ 27
  rule_small ByDiscriminant e same =
      let (passed, is) = outcome_accepted (rule_place ByDiscriminant M m b ∷ []) (rule_radius ByDiscriminant M m b) 0 same in
      rw is (discriminant_small ((rule_holds ByDiscriminant M m b).0 passed.0))
  rule_small ByLeastRadius e same =
      let (passed, is) = outcome_accepted (rule_place ByLeastRadius M m b ∷ []) (rule_radius ByLeastRadius M m b) 0 same in
      omega (arith, is, ((rule_holds ByLeastRadius M m b).0 passed.0).within)

module _ (M m b : ℕ) where
  pub least_refused : least_radius M m b ≡ None → rule_outcome ByLeastRadius M m b ≡ refused 17 0
  unfolding passing
  least_refused e = rw e

  pub least_passed : (e : ℕ) → least_radius M m b ≡ Some e → rule_outcome ByLeastRadius M m b ≡ accepted e
  unfolding passing
  least_passed e found = rw found

  pub least_small : (e : ℕ) → least_radius M m b ≡ Some e → e ≤ scale
  least_small e found = (least_found M m b e found).within

-- ---- a root test behind N and b, where M is the weight of w

abbrev pub root_end : RootRule → Model → ℕ → ℕ → ℕ → ℕ → Outcome Certificate
root_end rule h M m n b = outcome (root_last_places rule h M m b) (make_certificate (root_model rule h M m b) m n b) zero_certificate

module _ (rule : RootRule) (h : Model) (M m n b : ℕ) where
  pub end_refused : {k : ℕ} → rule_outcome rule M m b ≡ refused k 0 → root_end rule h M m n b ≡ refused_test k
  end_refused e = outcome_refused (rule_place rule M m b ∷ []) _ _ _ _ zero_certificate e

  pub end_passed : RootLast M m b → good h ≡ true → (e : ℕ) → rule_outcome rule M m b ≡ accepted e
      → root_end rule h M m n b ≡ accepted (make_certificate (with_radius h e) m n b)
  unfolding passing root_model
  end_passed r good_h e same =
      let (passed, is) = outcome_accepted (rule_place rule M m b ∷ []) (rule_radius rule M m b) 0 same in
      rw (passed.0, ← is, large_radius h e good_h, le-ltb max_radius e (omega (arith, rule_small r rule e same)))

-- ---- the same of the whole answer

module _ {h : Model} {M m b : ℕ} (r : RootLastOf h M m b) where
  last : RootLast M m b
  last = record { positive = r.positive; weight-fits = r.weight-fits; contracting = r.contracting; displaced = r.displaced; square = r.square }

  pub root_end_refused : (n : ℕ) → (scale - m) * (scale - m) / (8 * M) < b → root_end ByDiscriminant h M m n b ≡ refused_test 8
  root_end_refused n e = end_refused ByDiscriminant h M m n b (discriminant_refused last e)

  module _ (enough : b ≤ (scale - m) * (scale - m) / (8 * M)) (e : ℕ) (is_e : e ≡ upℕ (2 * b * scale) (scale - m)) where
    pub root_end_radius : e ≤ 2 ^ 27
    root_end_radius = discriminant_radius last enough e is_e

    pub root_end_passed : (n : ℕ) → root_end ByDiscriminant h M m n b ≡ passed_test (with_radius h e) m n b
    root_end_passed n = end_passed ByDiscriminant h M m n b last r.good_h e (discriminant_passed last enough e is_e)

module _ (h : Model) (M m n b : ℕ) where
  pub root_end_missing : least_radius M m b ≡ None → root_end ByLeastRadius h M m n b ≡ refused_test 17
  root_end_missing e = end_refused ByLeastRadius h M m n b (least_refused M m b e)

  pub root_end_found : (e : ℕ) → least_radius M m b ≡ Some e → good h ≡ true → root_end ByLeastRadius h M m n b ≡ passed_test (with_radius h e) m n b
  unfolding passing root_model
  root_end_found e found good_h =
      rw (found, large_radius h e good_h, le-ltb max_radius e (omega (arith, least_small M m b e found)))
