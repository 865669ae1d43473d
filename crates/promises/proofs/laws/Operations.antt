-- The promises about plain operations are kept.
use Rattle.ring.specs.definitions.Integer.{ℤ_ring}
use Rattle.chebyshev.proofs.laws.PairVisits as visits
use Rattle.chebyshev.proofs.laws.PrimitiveLaws as primitives
use Rattle.chebyshev.proofs.laws.ProductLaws as products
use Rattle.chebyshev.proofs.laws.ProductSums as sums
use Rattle.model.specs.definitions.Models.{product_size, terms}
use Rattle.model.specs.definitions.Multiply.{product_list}
use Rattle.model.specs.definitions.Strips.{strip_sum}
use Rattle.model.proofs.laws.CrossMultiplied as crossed
use Rattle.model.proofs.laws.EvaluationSound as evaluations
use Rattle.model.proofs.laws.ExactIntegral as exact
use Rattle.model.proofs.laws.GoodLaws as models
use Rattle.model.proofs.laws.GoodResults as results
use Rattle.model.proofs.laws.IntegralSound as integrals
use Rattle.model.proofs.laws.IntervalLaws as intervals
use Rattle.model.proofs.laws.MappedPoint as points
use Rattle.model.proofs.laws.OperationsSound as operations
use Rattle.model.proofs.laws.StandardInterval as standard
use Rattle.model.proofs.laws.StripsSound as strips
use Rattle.promises.specs.definitions.Operations.{SoundOperations, GoodOperations, Products, OldSense, SenseByStrips, Positions}

pub operations_sound : SoundOperations
operations_sound = record {
  addition_sound = λ a b c e. operations.addition_sound a b e;
  subtraction_sound = λ a b c e. operations.subtraction_sound a b e;
  multiplication_sound = λ d a b c e. operations.multiplication_sound d a b e;
  evaluation_sound = λ a p b e. evaluations.evaluation_sound a p e;
  point_on_interval = λ i p g h. points.contains_is (intervals.ends_are i g) p h;
}

pub operations_good : GoodOperations
operations_good = record {
  loading-good = λ m c e. results.loading-good m e;
  addition-good = λ a b c e. results.addition-good a b e;
  subtraction-good = λ a b c e. results.subtraction-good a b e;
  multiplication-good = λ d a b c e. results.multiplication-good d a b e;
  integration-good = λ a c e. results.integration-good a e;
}

pub products_kept : Products
unfolding product_list
products_kept = record {
  product_two_sums = λ a b k h. sums.product_two_sums ℤ_ring product_size (terms a) (terms b) k h;
  product-length = λ a b. products.length-product ℤ_ring product_size (terms a) (terms b);
  product_visits_lem = visits.product_visits_lem ℤ_ring;
  product_visits_is = λ a b ga gb la lb. models.product_visits_is a b ga gb la lb;
}

pub old_sense : OldSense
old_sense = record {
  integration_lists = λ a c e α h. integrals.integration_lists a e α h;
  integration_sound = λ a c e α h x on. integrals.integration_sound a e α h x on;
  integration-start = λ a c e. integrals.integration-start a e;
  integration_interval = λ a c e. integrals.integration_interval a e;
  exact_start = λ i g α. exact.exact_integral-start (intervals.ends_are i g) α;
  exact_derivative = λ i g α x h. exact.exact_integral_derivative (intervals.ends_are i g) α x h;
  primitive_derivative = primitives.primitive_derivative;
  primitive_minus_one = primitives.primitive_minus_one;
}

pub sense_by_strips : SenseByStrips
unfolding strip_sum
sense_by_strips = record {
  integration_strips = λ a c e choice chooses x on k h. strips.integration_strips a e choice chooses x on k h;
}

pub positions_kept : Positions
positions_kept = record {
  position_within = λ i g x on. intervals.within (intervals.ends_are i g) x on;
  position_standard = standard.position_standard;
  standard_on = λ x. (λ on. standard.standard_on on, λ h. standard.on_standard h.0 h.1);
  allows-cross = λ m x v p w q d g fx fv. crossed.allows-cross m g fx fv;
  term_standard = standard.term_standard;
}
