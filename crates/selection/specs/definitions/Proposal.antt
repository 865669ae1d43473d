-- Document 02, S-14: the test of one proposal.
use Rattle.std.specs.Prelude.{cond, List, ℕ, ltb, ℤ, length, drop, Result}
use Rattle.model.specs.definitions.Area.{candidate_size, area_candidate}
use Rattle.model.specs.definitions.Outcomes.{Outcome, refused, map_outcome, judged}
use Rattle.model.specs.declared.types.Model.{Model}
use Rattle.model.specs.declared.types.Candidate.{Candidate}
use Rattle.model.specs.declared.types.Refusal.{Refusal}
use Rattle.certificate.specs.definitions.Tests.{scratch_size, Certificate, zero_certificate}
use Rattle.certificate.specs.definitions.Quotient.{quotient_needing}

-- "A proposal is 68 numbers, degree and 33 coefficients for h and then for w"
abbrev pub proposal_size : ℕ
proposal_size = 68

abbrev pub proposed_answer : List ℤ → Candidate
proposed_answer s = area_candidate s

abbrev pub proposed_helper : List ℤ → Candidate
proposed_helper s = area_candidate (drop candidate_size s)

-- "A shorter one fails with 1, by itself": before the models, and whatever the other proposal is. The scratch has len numbers, of
-- which `need` are needed.
unfoldable pub proposal_needing : ℕ → ℕ → Model → Model → List ℤ → Outcome Certificate
proposal_needing need len f g s =
    cond (ltb (length s) proposal_size) (refused 1 zero_certificate)
    (quotient_needing need len f g (proposed_answer s) (proposed_helper s))

abbrev pub proposal_test : ℕ → Model → Model → List ℤ → Outcome Certificate
proposal_test len f g s = proposal_needing scratch_size len f g s

-- the radius that the test gives, or its refusal beside 0
abbrev pub result_radius : Certificate → ℕ
result_radius c = c.model.radius

abbrev pub radius_needing : ℕ → ℕ → Model → Model → List ℤ → Outcome ℕ
radius_needing need len f g s = map_outcome result_radius (proposal_needing need len f g s)

abbrev pub proposal_radius : ℕ → Model → Model → List ℤ → Outcome ℕ
proposal_radius len f g s = radius_needing scratch_size len f g s

-- what the code's answer means
abbrev pub proposal_of : Result ℕ Refusal → Outcome ℕ
proposal_of r = judged 0 r
