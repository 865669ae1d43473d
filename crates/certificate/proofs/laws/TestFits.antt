-- The model that a test answers has a degree and a radius within their limits, so that an area can hold them; and the result of
-- an accepted test is a good model.
use Rattle.std.specs.Prelude.{◌≡◌, true, ℕ}
use Rattle.model.specs.definitions.Models.{good}
use Rattle.model.proofs.laws.ModelLaws.{good_is, good_ends_lem}
use Rattle.model.specs.definitions.Outcomes.{accepted, payload}
use Rattle.model.specs.definitions.Area.{Storable}
use Rattle.model.proofs.laws.ResultLaws.{small_storable, zero_storable, outcome-payload}
use Rattle.model.proofs.laws.GoodResults.{good_small}
use Rattle.model.specs.declared.types.Candidate.{Candidate}
use Rattle.model.specs.declared.types.Model.{Model}
use Rattle.certificate.specs.definitions.Tests.{scratch_size, Certificate, zero_certificate, placed}
use Rattle.certificate.specs.definitions.Quotient.{quotient_places, quotient_test, quotient_needing, quotient_model}
use Rattle.certificate.specs.definitions.Root.{root_test_places, root_test, root_needing, root_places, root_model}
use Rattle.certificate.specs.declared.types.RootRule.{RootRule}
use Rattle.certificate.proofs.laws.QuotientConditions.{quotient_conditions, quotient_passes}
use Rattle.certificate.proofs.laws.RootConditions.{root_conditions, root_passes}

abbrev Fits : Certificate → Type 0
Fits c = Storable c.model

pub quotient_storable : (len : ℕ) (f g : Model) (h w : Candidate) → Storable (payload (quotient_test len f g h w)).model
unfolding quotient_needing
quotient_storable len f g h w =
    outcome-payload Fits (quotient_places scratch_size len f g h w) _ zero_certificate
    (λ p. small_storable _ ((quotient_conditions len f g h w).0 p).result) zero_storable

pub root_storable : (rule : RootRule) (len : ℕ) (f : Model) (h w : Candidate) → Storable (payload (root_test rule len f h w)).model
unfolding root_needing root_places
root_storable rule len f h w =
    outcome-payload Fits (root_test_places rule scratch_size len f h w) _ zero_certificate
    (λ p. small_storable _ ((root_conditions rule len f h w).0 p).1) zero_storable

pub quotient_good : (len : ℕ) (f g : Model) (h w : Candidate) {c : Certificate} → quotient_test len f g h w ≡ accepted c → good c.model ≡ true
unfolding quotient_model
quotient_good len f g h w e =
    let (conditions, same) = quotient_passes len f g h w e in
    rw same (good_small _ conditions.result (good_is (placed f h) conditions.good_h).beyond-zero (good_ends_lem (placed f h) conditions.good_h))

pub root_good : (rule : RootRule) (len : ℕ) (f : Model) (h w : Candidate) {c : Certificate} → root_test rule len f h w ≡ accepted c → good c.model ≡ true
unfolding root_model
root_good rule len f h w e =
    let (conditions, small, same) = root_passes rule len f h w e in
    rw same (good_small _ small (good_is (placed f h) conditions.numbers.good_h).beyond-zero (good_ends_lem (placed f h) conditions.numbers.good_h))
