-- Requirement 3 of a refused answer, and with further lent areas.
use Rattle.std.specs.Prelude.{◌≡◌, Bool, List, ◌++◌, ◌⊎◌, ℕ, ℤ}
use Rattle.std.proofs.Common.{inl, inr, arith}
use Rattle.model.proofs.laws.PlaceLaws.{passed_append, first_behind, first_parts, none_first}
use Rattle.model.specs.definitions.Outcomes.{Passed, First}
use Rattle.job.specs.definitions.Outcomes.{JobOutcome, refused}
use Rattle.job.specs.definitions.Order.{Meets}
use Rattle.job.specs.definitions.Requirement.{Requirement3}

-- of a job that meets a refusal and is refused nothing is claimed
pub refused_required : {areas : List (Bool × ℕ)} {job : List ℕ} {n k : ℕ} → Meets areas job n k → (n' k' : ℕ) (work : List ℤ)
    → Requirement3 areas job (refused n' k') work
refused_required {n} {k} m n' k' work = record {
  accepts = λ h. absurd (h n k m);
  results = λ count e. let z : ◌≡◌ {A = ℕ} 0 1 = cc e in absurd (omega arith);
}

-- ---- lent areas in front that are long enough

module _ (ps : List (Bool × ℕ)) (f : Passed ps) {qs : List (Bool × ℕ)} {job : List ℕ} where
  meets_behind : {n k : ℕ} → Meets qs job n k → Meets (ps ++ qs) job n k
  meets_behind (inl m) = inl (first_behind ps f m.0, m.1)
  meets_behind (inr m) = inr ((passed_append ps qs).1 (f, m.0), m.1)

  pub required_behind : {answer : JobOutcome ℕ} {work : List ℤ} → Requirement3 qs job answer work → Requirement3 (ps ++ qs) job answer work
  required_behind r = record { accepts = λ h. r.accepts (λ n k m. h n k (meets_behind m)); results = r.results }

-- ---- lent areas behind that are long enough

module _ (ps qs : List (Bool × ℕ)) (f : Passed qs) {job : List ℕ} where
  meets_before : {n k : ℕ} → Meets (ps ++ qs) job n k → Meets ps job n k
  meets_before {n} {k} (inl m) = by (first_parts ps qs m.0)
    where
      by : First ps n ⊎ (Passed ps × First qs n) → Meets ps job n k
      by (inl g) = inl (g, m.1)
      by (inr g) = absurd (none_first f g.1)
  meets_before (inr m) = inr (((passed_append ps qs).0 m.0).0, m.1)

  pub required_before : {answer : JobOutcome ℕ} {work : List ℤ} → Requirement3 (ps ++ qs) job answer work → Requirement3 ps job answer work
  required_before r = record { accepts = λ h. r.accepts (λ n k m. h n k (meets_before m)); results = r.results }
