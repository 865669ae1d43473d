-- Requirement 1: "the stated answer". The contracts are equations of what an answer means; the meaning gives the answer back, so
-- no other answer meets them. And two sentences of 02, S-24, about places.
use Rattle.std.specs.Prelude.{◌≡◌, Bool, true, not, List, ◌∷◌, ◌++◌, ℕ, Result}
use Rattle.model.specs.definitions.Evaluate.{bounds_of}
use Rattle.model.specs.definitions.Intervals.{good_ends, same_interval}
use Rattle.model.specs.definitions.Models.{within_limits, bad_place}
use Rattle.model.specs.definitions.Outcomes.{number_of, outcome, outcome_of}
use Rattle.model.specs.declared.types.Bounds.{Bounds}
use Rattle.model.specs.declared.types.Candidate.{Candidate}
use Rattle.model.specs.declared.types.Interval.{Interval}
use Rattle.model.specs.declared.types.Model.{Model}
use Rattle.model.specs.declared.types.Refusal.{Refusal}
use Rattle.certificate.specs.definitions.Tests.{test_of}
use Rattle.certificate.specs.declared.types.Certificate.{Certificate}
use Rattle.selection.specs.definitions.Select.{selected_of}
use Rattle.proposals.specs.definitions.Quotient.{quotient_of}
use Rattle.proposals.specs.definitions.Reciprocal.{reciprocal_of}
use Rattle.proposals.specs.definitions.Units.{in_units_of}
use Rattle.proposals.specs.declared.types.Quotient.{Quotient}
use Rattle.proposals.specs.declared.types.Reciprocal.{Reciprocal}

pub record Answers : Type 0 where
  -- "its numbered refusal": two refusals have two numbers
  pub number_of_injective : (r s : Refusal) → number_of r ≡ number_of s → r ≡ s
  pub outcome_of_injective : (r s : Result Model Refusal) → outcome_of r ≡ outcome_of s → r ≡ s
  pub bounds_of_injective : (r s : Result Bounds Refusal) → bounds_of r ≡ bounds_of s → r ≡ s
  pub test_of_injective : (r s : Result Certificate Refusal) → test_of r ≡ test_of s → r ≡ s
  pub selected_of_injective : (n c e m d r : ℕ) → selected_of n c e ≡ selected_of m d r → (n ≡ m) × (c ≡ d) × (e ≡ r)
  pub reciprocal_of_injective : (r s : Result Reciprocal Refusal) → reciprocal_of r ≡ reciprocal_of s → r ≡ s
  pub quotient_of_injective : (r s : Result Quotient Refusal) → quotient_of r ≡ quotient_of s → r ≡ s
  pub in_units_of_injective : (r s : Result Candidate Refusal) → in_units_of r ≡ in_units_of s → r ≡ s
  -- 02, S-24: "Number 18: ends wrong, straight after number 2 for the same model.": one place with either number is the two
  -- places, in every outcome of models
  pub model_places : (m a z : Model) (ps qs : List (Bool × ℕ))
      → outcome (ps ++ (bad_place m ∷ qs)) a z
      ≡ outcome (ps ++ ((not (within_limits m), 2) ∷ (not (good_ends m.interval), 18) ∷ qs)) a z
  -- "Number 19: two operands on different intervals": the same exactly if both ends are
  pub same_is : (i j : Interval) → same_interval i j ≡ true → i ≡ j
  pub same_self : (i : Interval) → same_interval i i ≡ true
