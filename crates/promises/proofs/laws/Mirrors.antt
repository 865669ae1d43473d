-- The promises about mirrors are kept.
use Rattle.model.proofs.laws.MirrorAllowed as allowed
use Rattle.model.proofs.laws.MirroredEvaluation as evaluations
use Rattle.model.proofs.laws.MirroredOperations as operations
use Rattle.certificate.proofs.laws.MirroredQuotient as quotients
use Rattle.certificate.proofs.laws.MirroredRoot as roots
use Rattle.job.proofs.laws.MirroredJob as jobs
use Rattle.series.proofs.laws.MirroredConversion as series
use Rattle.promises.specs.definitions.Mirrors.{Mirrors}

pub mirrors_kept : Mirrors
mirrors_kept = record {
  multiplication_first = operations.multiplication_first;
  multiplication_second = operations.multiplication_second;
  integration-negated = operations.integration-negated;
  evaluation-mirrored = evaluations.evaluation-mirrored;
  addition-negated = operations.addition-negated;
  subtraction-negated = operations.subtraction-negated;
  multiplication-mirrored = operations.multiplication-mirrored;
  conversion-negated = series.conversion-negated;
  conversion-mirrored = series.conversion-mirrored;
  quotient_dividend = quotients.quotient_dividend;
  quotient_divisor = quotients.quotient_divisor;
  quotient_mirrored = quotients.quotient_mirrored;
  root_mirrored = λ rule len f h w c e. roots.root_mirrored rule len f h w e;
  job_mirrored = λ job job' cs rs read read' e. jobs.job_mirrored job job' read read' e;
  allows-negated = allowed.allows-negated;
  allows-mirrored = allowed.allows-mirrored;
  mirrored_fraction_lem = allowed.mirrored_fraction_lem;
  mirrored-on = allowed.mirrored-on;
}
