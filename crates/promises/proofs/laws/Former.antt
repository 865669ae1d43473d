-- Former numbers are kept.
use Rattle.model.proofs.laws.FormerNumbers as operations
use Rattle.certificate.proofs.laws.FormerTests as tests
use Rattle.series.proofs.laws.FormerConversion as series
use Rattle.selection.proofs.laws.FormerSelection as selections
use Rattle.proposals.proofs.laws.FormerProposals as proposals
use Rattle.job.proofs.laws.FormerJob as jobs
use Rattle.job.proofs.laws.FormerWork as areas
use Rattle.promises.specs.definitions.Former.{FormerNumbers}

pub former_numbers : FormerNumbers
former_numbers = record {
  loading_former = operations.loading_former;
  addition_former = operations.addition_former;
  subtraction_former = operations.subtraction_former;
  multiplication_former = operations.multiplication_former;
  integration_former = operations.integration_former;
  evaluation_former = operations.evaluation_former;
  quotient_former = tests.quotient_former;
  root_former = tests.root_former;
  selection_former = selections.selection_former;
  conversion_former = series.conversion_former;
  reciprocal_former = proposals.reciprocal_former;
  quotient_proposal_former = proposals.quotient_proposal_former;
  job_former = jobs.job_former;
  check_former = areas.check_former;
  scratch_former = areas.scratch_former;
  work_former = areas.work_former;
}
