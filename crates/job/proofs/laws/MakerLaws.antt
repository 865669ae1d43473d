-- What each maker gives is what the library's operation or test gives for the results that it names; of a test it is what 65 gave.
use Rattle.std.specs.Prelude.{◌≡◌, refl, Bool, true, false, cond, List, [], ◌∷◌, ℕ, ◌≤◌}
use Rattle.std.proofs.Common.{sym, ◌∙◌, ap, le_refl}
use Rattle.model.specs.definitions.Models.{product_size, zero_model}
use Rattle.model.specs.definitions.Outcomes.{Outcome, accepted, refused, payload, passing, outcome}
use Rattle.model.proofs.laws.PlaceLaws.{refused_not_accepted, outcome_accepted}
use Rattle.model.specs.definitions.Load.{loading_places, loading}
use Rattle.model.specs.definitions.Add.{addition, subtraction}
use Rattle.model.specs.definitions.Multiply.{multiplication}
use Rattle.certificate.specs.definitions.Tests.{scratch_size, Certificate, zero_certificate}
use Rattle.certificate.specs.definitions.Quotient.{quotient_test, quotient_needing}
use Rattle.certificate.specs.definitions.Root.{root_places, root_test, root_needing}
use Rattle.certificate.specs.declared.types.RootRule.{RootRule}
use Rattle.certificate.proofs.laws.GroupTheorem.{quotient_as_65, root_as_65}
use Rattle.certificate.proofs.laws.TightTheorem.{tight_implies_root, tight_not_larger}
use Rattle.certificate.specs.declared.types.RootRule.TheVariants.{ByDiscriminant, ByLeastRadius}
use Rattle.model.specs.declared.types.Candidate.{Candidate}
use Rattle.model.specs.declared.types.Model.{Model}
use Rattle.job.specs.definitions.InnerContracts.{untested_outcome}
use Rattle.job.specs.definitions.Operations.{load, add, subtract, multiply, quotient, root, untested, result_at, maker_places, operation}

pub untested_accepted : (o : Outcome Model) {c : Certificate} → untested_outcome o ≡ accepted c → o ≡ accepted c.model
untested_accepted (accepted m) e = ap (λ (r : Outcome Certificate). accepted (payload r).model) e
untested_accepted (refused n m) e = absurd (refused_not_accepted e)

untested-passing : (ps : List (Bool × ℕ)) (m : Model) → outcome ps (untested m) zero_certificate ≡ untested_outcome (outcome ps m zero_model)
unfolding passing
untested-passing [] m = refl
untested-passing (p ∷ ps) m = pick p.0 (untested-passing ps m)
  where
    pick : (t : Bool) → outcome ps (untested m) zero_certificate ≡ untested_outcome (outcome ps m zero_model)
        → cond t (refused p.1 zero_certificate) (outcome ps (untested m) zero_certificate)
        ≡ untested_outcome (cond t (refused p.1 zero_model) (outcome ps m zero_model))
    pick true e = refl
    pick false e = e

pub loading_same : (m : Model) {c : Model} → loading m ≡ accepted c → c ≡ m
unfolding loading
loading_same m e = (outcome_accepted (loading_places m) m zero_model e).1

module _ (i j : ℕ) (rs : List Model) where
  pub add-operation : operation (add i j) rs ≡ untested_outcome (addition (result_at rs i) (result_at rs j))
  unfolding operation maker_places addition
  add-operation = untested-passing _ _

  pub subtract_operation : operation (subtract i j) rs ≡ untested_outcome (subtraction (result_at rs i) (result_at rs j))
  unfolding operation maker_places subtraction
  subtract_operation = untested-passing _ _

pub load_operation : (m : Model) (rs : List Model) → operation (load m) rs ≡ untested_outcome (loading m)
unfolding operation maker_places loading
load_operation m rs = untested-passing _ _

pub multiply_operation : (i j d : ℕ) (rs : List Model)
    → operation (multiply i j d) rs ≡ untested_outcome (multiplication d (result_at rs i) (result_at rs j))
unfolding operation maker_places multiplication
multiply_operation i j d rs = untested-passing _ _

pub quotient_operation : (i j : ℕ) (h w : Candidate) (rs : List Model)
    → operation (quotient i j h w) rs ≡ quotient_test scratch_size (result_at rs i) (result_at rs j) h w
unfolding operation maker_places quotient_needing passing
quotient_operation i j h w rs = refl

pub root_operation : (rule : RootRule) (i : ℕ) (h w : Candidate) (rs : List Model)
    → operation (root rule i h w) rs ≡ root_test rule scratch_size (result_at rs i) h w
unfolding operation maker_places root_needing root_places passing
root_operation rule i h w rs = refl

-- 02, S-17: in a job too a test gives what 65 gave
pub quotient_operation_as_65 : (i j : ℕ) (h w : Candidate) (rs : List Model) {former : ℕ} → product_size ≤ former
    → operation (quotient i j h w) rs ≡ quotient_needing product_size former (result_at rs i) (result_at rs j) h w
quotient_operation_as_65 i j h w rs room =
    quotient_operation i j h w rs ∙ quotient_as_65 (result_at rs i) (result_at rs j) h w (le_refl scratch_size) room

pub root_operation_as_65 : (rule : RootRule) (i : ℕ) (h w : Candidate) (rs : List Model) {former : ℕ} → product_size ≤ former
    → operation (root rule i h w) rs ≡ root_needing rule product_size former (result_at rs i) h w
root_operation_as_65 rule i h w rs room =
    root_operation rule i h w rs ∙ root_as_65 rule (result_at rs i) h w (le_refl scratch_size) room

-- 02, S-22, in a job: where 0x22 accepts, 0x21 would accept the same candidates, and its radius would not be the smaller
pub tight_operation : (i : ℕ) (h w : Candidate) (rs : List Model) {c : Certificate} → operation (root ByLeastRadius i h w) rs ≡ accepted c
    → (d : Certificate) × (operation (root ByDiscriminant i h w) rs ≡ accepted d) × (c.model.radius ≤ d.model.radius)
tight_operation i h w rs e =
    let passed = sym (root_operation ByLeastRadius i h w rs) ∙ e in
    let f = result_at rs i in
    let other = tight_implies_root scratch_size f h w passed in
    (_, root_operation ByDiscriminant i h w rs ∙ other, tight_not_larger scratch_size f h w passed scratch_size other)
