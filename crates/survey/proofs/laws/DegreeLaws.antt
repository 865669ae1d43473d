-- The degrees that the commands tell are those that the results have.
use Rattle.std.specs.Prelude.{◌≡◌, refl, true, false, List, [], ◌∷◌, ◌++◌, map, ℕ, zero, suc, ◌≤◌, length}
use Rattle.std.proofs.Common.{ap, arith}
use Rattle.std.proofs.lemmas.Bool.{not-false}
use Rattle.model.specs.definitions.Models.{max_degree, zero_model, good}
use Rattle.model.specs.definitions.Outcomes.{accepted, Passed}
use Rattle.model.specs.definitions.Add.{sum_model, difference_model}
use Rattle.model.specs.definitions.Multiply.{bad_kept, product_model}
use Rattle.model.proofs.laws.ModelLaws.{good_is}
use Rattle.model.proofs.laws.MultiplicationLaws.{kept_within}
use Rattle.model.proofs.laws.PlaceLaws.{outcome_accepted}
use Rattle.model.specs.declared.types.Model.{Model}
use Rattle.certificate.specs.definitions.Tests.{Certificate, placed, zero_certificate}
use Rattle.certificate.specs.definitions.Quotient.{quotient_model}
use Rattle.certificate.specs.definitions.Root.{root_model}
use Rattle.job.specs.definitions.Operations.{Maker, load, add, subtract, multiply, quotient, root, making_for, given_in, result_at, maker_places, operation}
use Rattle.survey.specs.definitions.Degrees.{degree_at, block_degree, maker_degree}

-- the degrees of results
abbrev pub degrees_in : List Model → List ℕ
degrees_in rs = map (λ m. m.degree) rs

pub degree_at_lem : (rs : List Model) (i : ℕ) → degree_at (degrees_in rs) i ≡ (result_at rs i).degree
unfolding zero_model
degree_at_lem [] i = refl
degree_at_lem (m ∷ rs) zero = refl
degree_at_lem (m ∷ rs) (suc i) = degree_at_lem rs i

pub degrees_more : (rs : List Model) (m : Model) → degrees_in (rs ++ (m ∷ [])) ≡ degrees_in rs ++ (m.degree ∷ [])
degrees_more [] m = refl
degrees_more (r ∷ rs) m = ap (λ (l : List ℕ). r.degree ∷ l) (degrees_more rs m)

pub degrees_length : (rs : List Model) → length (degrees_in rs) ≡ length rs
degrees_length [] = refl
degrees_length (r ∷ rs) = ap suc (degrees_length rs)

-- ---- degrees within the limit

abbrev pub Small : List ℕ → Type 0
Small ds = (i : ℕ) → degree_at ds i ≤ max_degree

pub small_none : Small []
small_none i = omega arith

pub small_more : (ds : List ℕ) (n : ℕ) → Small ds → n ≤ max_degree → Small (ds ++ (n ∷ []))
small_more [] n s h zero = h
small_more [] n s h (suc i) = omega arith
small_more (d ∷ ds) n s h zero = s zero
small_more (d ∷ ds) n s h (suc i) = small_more ds n (λ j. s (suc j)) h i

-- a kept degree is one that the library takes
abbrev pub KeptGood : Maker → Type 0
KeptGood (load m) = Unit {0}
KeptGood (add i j) = Unit {0}
KeptGood (subtract i j) = Unit {0}
KeptGood (multiply i j d) = bad_kept d ≡ false
KeptGood (quotient i j h w) = Unit {0}
KeptGood (root rule i h w) = Unit {0}

pub degree_small : (m : Maker) (ds : List ℕ) → KeptGood m → Small ds → maker_degree m ds ≤ max_degree
unfolding maker_degree
degree_small (load m) ds k s = omega arith
degree_small (add i j) ds k s = omega (arith, s i, s j)
degree_small (subtract i j) ds k s = omega (arith, s i, s j)
degree_small (multiply i j d) ds k s = omega (arith, kept_within d (degree_at ds i) (degree_at ds j) k (s i) (s j))
degree_small (quotient i j h w) ds k s = omega arith
degree_small (root rule i h w) ds k s = omega arith

-- ---- an operation that is accepted gives a result of the degree that its command tells

block_is : (m : Model) → good m ≡ true → block_degree m.degree ≡ m.degree
block_is m g = omega (arith, (good_is m g).degree_fits)

pub operation_degree : (m : Maker) (rs : List Model) {c : Certificate} → operation m rs ≡ accepted c
    → maker_degree m (degrees_in rs) ≡ c.model.degree
unfolding operation maker_places maker_degree sum_model difference_model product_model quotient_model root_model
operation_degree m rs {c} e = by m (outcome_accepted (maker_places m rs) (given_in (making_for m) rs).certificate zero_certificate e)
  where
    by : (m : Maker) → Passed (maker_places m rs) × (c ≡ (given_in (making_for m) rs).certificate) → maker_degree m (degrees_in rs) ≡ c.model.degree
    by (load m) p = rw p.1 (block_is m (not-false (good m) p.0.0))
    by (add i j) p = rw (p.1, degree_at_lem rs i, degree_at_lem rs j) refl
    by (subtract i j) p = rw (p.1, degree_at_lem rs i, degree_at_lem rs j) refl
    by (multiply i j d) p = rw (p.1, degree_at_lem rs i, degree_at_lem rs j) refl
    by (quotient i j h w) p = let g = placed (result_at rs i) h in rw p.1 (block_is g (not-false (good g) p.0.1.1.0))
    by (root rule i h w) p = let g = placed (result_at rs i) h in rw p.1 (block_is g (not-false (good g) p.0.1.0))
