-- The former test of one proposal, as it was before document 02, S-24.
use Rattle.std.specs.Prelude.{cond, List, ℕ, ltb, ℤ, length, drop}
use Rattle.model.specs.definitions.Area.{area_candidate}
use Rattle.model.specs.definitions.Outcomes.{Outcome, refused}
use Rattle.model.specs.declared.types.Model.{Model}
use Rattle.certificate.specs.definitions.Tests.{Certificate, zero_certificate}
use Rattle.certificate.proofs.laws.FormerTests.{former_quotient}

-- "A proposal is 68 numbers, degree and 33 coefficients for h and then for w"; "A shorter one fails with 1, by itself"; a test
-- needs a scratch of 16
unfoldable pub former_proposal : ℕ → Model → Model → List ℤ → Outcome Certificate
former_proposal len f g s =
    cond (ltb (length s) 68) (refused 1 zero_certificate) (former_quotient 16 len f g (area_candidate s) (area_candidate (drop 34 s)))
