-- The promises about answers are kept.
use Rattle.model.specs.definitions.Outcomes.{accepted, refused}
use Rattle.model.proofs.laws.IntervalLaws as intervals
use Rattle.model.proofs.laws.OutcomeLaws as outcomes
use Rattle.model.proofs.laws.PlaceLaws as places
use Rattle.certificate.proofs.laws.OutcomeLaws as tests
use Rattle.selection.proofs.laws.SelectLaws as selections
use Rattle.proposals.proofs.laws.MakerLaws as makers
use Rattle.promises.specs.definitions.Answers.{Answers}

pub answers_kept : Answers
answers_kept = record {
  number_of_injective = outcomes.number_of_injective;
  outcome_of_injective = outcomes.outcome_of_injective;
  bounds_of_injective = outcomes.bounds_of_injective;
  test_of_injective = tests.test_of_injective;
  selected_of_injective = selections.selected_of_injective;
  reciprocal_of_injective = makers.reciprocal_of_injective;
  quotient_of_injective = makers.quotient_of_injective;
  in_units_of_injective = makers.in_units_of_injective;
  model_places = λ m a z ps qs. places.model_places m (accepted a) (λ n. refused n z) ps qs;
  same_is = intervals.same_is;
  same_self = intervals.same_self;
}
