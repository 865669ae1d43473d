-- The commands that make a result, one making for each: the results that it names, the places that it passes through, and what it
-- gives. "each of its results is exactly the loaded model, or what the operation or test of its command gives for the results, d
-- and blocks it names".
use Rattle.std.specs.Prelude.{Bool, false, ◌||◌, List, ℕ, leb, get_or}
use Rattle.model.specs.definitions.Models.{zero_model}
use Rattle.model.specs.definitions.Outcomes.{Outcome, outcome}
use Rattle.model.specs.definitions.Load.{loading_places}
use Rattle.model.specs.definitions.Add.{sum_model, addition_places, difference_model, subtraction_places}
use Rattle.model.specs.definitions.Multiply.{product_model, multiplication_places}
use Rattle.certificate.specs.definitions.Tests.{Certificate, make_certificate, zero_certificate}
use Rattle.certificate.specs.definitions.Quotient.{quotient_places_behind, quotient_certificate}
use Rattle.certificate.specs.definitions.Root.{root_places_behind, root_certificate}
use Rattle.certificate.specs.declared.types.RootRule.{RootRule}
use Rattle.model.specs.declared.types.Candidate.{Candidate}
use Rattle.model.specs.declared.types.Model.{Model}
use Rattle.job.specs.declared.types.Names.{Names}
use Rattle.job.specs.declared.types.Names.TheVariants.{Nothing, One, Two}

-- a maker of a result with its operands; a kept degree is what the library takes (`kept_byte`)
pub data Maker : Type 0 where
  load : Model → Maker
  add subtract : ℕ → ℕ → Maker
  multiply : ℕ → ℕ → ℕ → Maker
  quotient : ℕ → ℕ → Candidate → Candidate → Maker
  root : RootRule → ℕ → Candidate → Candidate → Maker

-- the places that are passed through, and what is given behind them
pub record Given : Type 0 where
  pub places : List (Bool × ℕ)
  pub certificate : Certificate

-- a model with m, N and b zero, where no test runs
abbrev pub untested : Model → Certificate
untested r = make_certificate r 0 0 0

-- the results that a maker names, in the order of their bytes, and what it gives for them
pub data Making : Type 0 where
  of_none : Given → Making
  of_one : ℕ → (Model → Given) → Making
  of_two : ℕ → ℕ → (Model → Model → Given) → Making

-- a test in a job has its scratch: the job's first places, area_places, see to that
abbrev pub making_for : Maker → Making
making_for (load m) = of_none (record { places = loading_places m; certificate = untested m })
making_for (add i j) = of_two i j (λ f g. record { places = addition_places f g; certificate = untested (sum_model f g) })
making_for (subtract i j) =
    of_two i j (λ f g. record { places = subtraction_places f g; certificate = untested (difference_model f g) })
making_for (multiply i j d) =
    of_two i j (λ f g. record { places = multiplication_places d f g; certificate = untested (product_model d f g) })
making_for (quotient i j h w) =
    of_two i j (λ f g. record { places = quotient_places_behind f g h w; certificate = quotient_certificate f g h w })
making_for (root rule i h w) =
    of_one i (λ f. record { places = root_places_behind rule f h w; certificate = root_certificate rule f h w })

-- ---- what follows from a making

-- how many results it names
abbrev pub names_in : Making → Names
names_in (of_none g) = Nothing
names_in (of_one i g) = One
names_in (of_two i j g) = Two

-- "result bytes: 12, not yet a result"
abbrev pub bad_in : Making → ℕ → Bool
bad_in (of_none g) count = false
bad_in (of_one i g) count = leb count i
bad_in (of_two i j g) count = leb count i || leb count j

-- result i
abbrev pub result_at : List Model → ℕ → Model
result_at rs i = get_or rs i zero_model

abbrev pub given_in : Making → List Model → Given
given_in (of_none g) rs = g
given_in (of_one i g) rs = g (result_at rs i)
given_in (of_two i j g) rs = g (result_at rs i) (result_at rs j)

-- a maker names a result that is not one of so many
abbrev pub names_bad : Maker → ℕ → Bool
names_bad m count = bad_in (making_for m) count

-- the places that it passes through for the results rs, and its outcome
unfoldable pub maker_places : Maker → List Model → List (Bool × ℕ)
maker_places m rs = (given_in (making_for m) rs).places

unfoldable pub operation : Maker → List Model → Outcome Certificate
operation m rs = outcome (maker_places m rs) (given_in (making_for m) rs).certificate zero_certificate
