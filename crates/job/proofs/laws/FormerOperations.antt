-- Document 02, S-24, in a job: on results of the interval −S..S the maker of each former command gives what it gave, and its result
-- is on that interval, with its 33 coefficients.
use Rattle.std.specs.Prelude.{◌≡◌, refl, not, false, List, ℕ, suc, ◌+◌, ◌-◌, ◌*◌, ◌<◌, min, leb, length, take, replicate, pos}
use Rattle.std.proofs.Common.{sym, ◌∙◌, arith, leb-true, leb-false, length-append, length-take}
use Rattle.std.proofs.Math.Path.{ap, subst}
use Rattle.std.proofs.lemmas.Bool.{not-false}
use Rattle.std.proofs.lemmas.List.{length-replicate}
use Rattle.ring.specs.definitions.Integer.{ℤ_ring}
use Rattle.chebyshev.specs.definitions.Product.{product}
use Rattle.chebyshev.proofs.laws.CoefficientLaws.{length-add, length_subtract}
use Rattle.chebyshev.proofs.laws.ProductLaws.{length-product}
use Rattle.model.specs.definitions.Intervals.{standard_interval}
use Rattle.model.specs.definitions.Models.{scale, max_degree, coefficient_count, product_size, terms}
use Rattle.model.specs.definitions.Multiply.{multiplication}
use Rattle.model.specs.definitions.Outcomes.{Outcome, accepted}
use Rattle.model.specs.definitions.Round.{rounded}
use Rattle.model.proofs.laws.FormerNumbers.{former_kept, former_sum, former_difference, former_product, former_loading, former_addition, former_subtraction, former_multiplication, loading_former, addition_former, subtraction_former, multiplication_former}
use Rattle.model.proofs.laws.PlaceLaws.{outcome_accepted}
use Rattle.model.proofs.laws.RoundingPassLaws.{rounded-length}
use Rattle.model.specs.declared.types.Model.{Model}
use Rattle.certificate.specs.definitions.Tests.{scratch_size, Certificate}
use Rattle.certificate.proofs.laws.FormerTests.{former_quotient, former_root, quotient_former, root_former}
use Rattle.job.specs.definitions.InnerContracts.{untested_outcome}
use Rattle.job.specs.definitions.Operations.{Maker, load, add, subtract, multiply, quotient, root, result_at, names_bad, operation}
use Rattle.job.proofs.laws.CommandLaws.{both_below}
use Rattle.job.proofs.laws.MakerLaws.{untested_accepted, load_operation, add-operation, subtract_operation, multiply_operation, quotient_operation, root_operation}

-- a model on −S..S with its 33 coefficients
pub record FormerModel (m : Model) : Type 0 where
  pub on : m.interval ≡ standard_interval
  pub all : length m.coefficients ≡ coefficient_count

abbrev pub FormerResults : List Model → Type 0
FormerResults rs = (i : ℕ) → i < length rs → FormerModel (result_at rs i)

-- operands as the former commands have them: a kept degree is stated
abbrev pub FormerOperands : Maker → Type 0
FormerOperands (load m) = FormerModel m
FormerOperands (add i j) = Unit {0}
FormerOperands (subtract i j) = Unit {0}
FormerOperands (multiply i j d) = former_kept d ≡ d
FormerOperands (quotient i j h w) = length h.coefficients ≡ coefficient_count
FormerOperands (root rule i h w) = length h.coefficients ≡ coefficient_count

-- what each command gave; a test in a job has its scratch
unfoldable pub former_operation : Maker → List Model → Outcome Certificate
former_operation (load m) rs = untested_outcome (former_loading m)
former_operation (add i j) rs = untested_outcome (former_addition (result_at rs i) (result_at rs j))
former_operation (subtract i j) rs = untested_outcome (former_subtraction (result_at rs i) (result_at rs j))
former_operation (multiply i j d) rs = untested_outcome (former_multiplication d (result_at rs i) (result_at rs j))
former_operation (quotient i j h w) rs = former_quotient scratch_size scratch_size (result_at rs i) (result_at rs j) h w
former_operation (root rule i h w) rs = former_root rule scratch_size scratch_size (result_at rs i) h w

-- a product has its 33 coefficients where the kept degree is within its limit
product-all : (d : ℕ) (a b : Model) → not (leb (former_kept d) max_degree) ≡ false → length (former_product d a b).coefficients ≡ coefficient_count
unfolding former_product
product-all d a b h =
    let n = min (former_kept d) (a.degree + b.degree) in
    let c = product ℤ_ring product_size (terms a) (terms b) in
    let k = leb-true (former_kept d) max_degree (not-false (leb (former_kept d) max_degree) h) in
    length-append (rounded (2 * scale) (take (suc n) c)) (replicate (coefficient_count - suc n) (pos 0))
    ∙ omega (arith, k, rounded-length (2 * scale) (take (suc n) c), length-take (suc n) c, length-product ℤ_ring product_size (terms a) (terms b), length-replicate (coefficient_count - suc n) (pos 0))

module _ (rs : List Model) (former : FormerResults rs) where
  -- two named results
  two : (i j : ℕ) → names_bad (add i j) (length rs) ≡ false → FormerModel (result_at rs i) × FormerModel (result_at rs j)
  two i j n = let b = both_below (length rs) i j n in (former i b.0, former j b.1)

  one : (i : ℕ) → leb (length rs) i ≡ false → FormerModel (result_at rs i)
  one i n = former i (leb-false (length rs) i n)

  pub operation_former : (m : Maker) → FormerOperands m → names_bad m (length rs) ≡ false → operation m rs ≡ former_operation m rs
  unfolding former_operation
  operation_former (load m) p n = load_operation m rs ∙ ap untested_outcome (loading_former m p.on)
  operation_former (add i j) p n =
      let (f, g) = two i j n in
      add-operation i j rs ∙ ap untested_outcome (addition_former (result_at rs i) (result_at rs j) f.on g.on)
  operation_former (subtract i j) p n =
      let (f, g) = two i j n in
      subtract_operation i j rs ∙ ap untested_outcome (subtraction_former (result_at rs i) (result_at rs j) f.on g.on)
  operation_former (multiply i j d) p n =
      let (f, g) = two i j n in
      multiply_operation i j d rs
      ∙ ap (λ k. untested_outcome (multiplication k (result_at rs i) (result_at rs j))) (sym p)
      ∙ ap untested_outcome (multiplication_former (result_at rs i) (result_at rs j) f.on g.on d)
  operation_former (quotient i j h w) p n =
      let (f, g) = two i j n in
      quotient_operation i j h w rs ∙ quotient_former scratch_size scratch_size (result_at rs i) (result_at rs j) h w f.on g.on
  operation_former (root rule i h w) p n =
      root_operation rule i h w rs ∙ root_former rule scratch_size scratch_size (result_at rs i) h w (one i n).on

  -- what it gave is such a model again
  pub result_former : (m : Maker) → FormerOperands m → names_bad m (length rs) ≡ false → {c : Certificate}
      → former_operation m rs ≡ accepted c → FormerModel c.model
  unfolding former_operation former_sum former_difference former_product former_quotient former_root
  result_former (load m) p n e = subst FormerModel (sym (outcome_accepted _ _ _ (untested_accepted _ e)).1) p
  result_former (add i j) p n e =
      let (f, g) = two i j n in
      subst FormerModel (sym (outcome_accepted _ _ _ (untested_accepted (former_addition (result_at rs i) (result_at rs j)) e)).1)
      (record { on = refl; all = length-add ℤ_ring (result_at rs i).coefficients (result_at rs j).coefficients ∙ omega (arith, f.all, g.all) })
  result_former (subtract i j) p n e =
      let (f, g) = two i j n in
      subst FormerModel (sym (outcome_accepted _ _ _ (untested_accepted (former_subtraction (result_at rs i) (result_at rs j)) e)).1)
      (record { on = refl; all = length_subtract ℤ_ring (result_at rs i).coefficients (result_at rs j).coefficients ∙ omega (arith, f.all, g.all) })
  result_former (multiply i j d) p n e =
      let o = outcome_accepted _ _ _ (untested_accepted (former_multiplication d (result_at rs i) (result_at rs j)) e) in
      subst FormerModel (sym o.1) (record { on = refl; all = product-all d (result_at rs i) (result_at rs j) o.0.1.1.0 })
  result_former (quotient i j h w) p n e =
      subst (λ (c : Certificate). FormerModel c.model) (sym (outcome_accepted _ _ _ e).1) (record { on = refl; all = p })
  result_former (root rule i h w) p n e =
      subst (λ (c : Certificate). FormerModel c.model) (sym (outcome_accepted _ _ _ e).1) (record { on = refl; all = p })
