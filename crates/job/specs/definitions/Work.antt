-- The work area: "Each result is written into its own …" 37 numbers of the work area, with S-24: degree, coefficients, radius,
-- l and u; "1,184 in all, ends last".
use Rattle.std.specs.Prelude.{Bool, not, cond, ◌&&◌, List, [], ◌∷◌, ◌++◌, ℕ, zero, suc, ◌+◌, ◌*◌, ◌-◌, leb, ℤ, length, take, drop}
use Rattle.integer.specs.definitions.Lists.{zeros}
use Rattle.model.specs.definitions.Area.{model_size, words, area_model}
use Rattle.certificate.specs.definitions.Tests.{scratch_size}
use Rattle.model.specs.declared.types.Model.{Model}
use Rattle.job.specs.definitions.Outcomes.{JobOutcome, accepted, refused}
use Rattle.job.specs.definitions.Run.{job_outcome}

-- the numbers of the whole area
abbrev pub work_size : ℕ
work_size = 1184

-- the model of result i in a work area
abbrev pub stored_result : List ℤ → ℕ → Model
stored_result w i = area_model (take model_size (drop (model_size * i) w))

-- the models of the first n results
unfoldable pub models_in : List ℤ → ℕ → List Model
models_in w zero = []
models_in w (suc n) = models_in w n ++ (stored_result w n ∷ [])

-- the area with a model written as result i
abbrev pub stored_at : List ℤ → ℕ → Model → List ℤ
stored_at w i m = take (model_size * i) w ++ (words m ++ drop (model_size * i + model_size) w)

unfoldable pub result_words : List Model → List ℤ
result_words [] = []
result_words (m ∷ rs) = words m ++ result_words rs

-- the 1,184 numbers: those of the results, the rest zero
unfoldable pub work_with : List Model → List ℤ
work_with rs = result_words rs ++ zeros (work_size - model_size * length rs)

-- ---- the entry

-- "lent areas: 1, too short": the place of an area of which `size` numbers are asked and `len` are there
abbrev pub area_place : ℕ → ℕ → Bool × ℕ
area_place size len = (not (leb size len), 1)

-- "work area before scratch"
abbrev pub area_places : List ℤ → List ℤ → List (Bool × ℕ)
area_places w s = area_place work_size (length w) ∷ area_place scratch_size (length s) ∷ []

-- the lent areas are long enough, where `need` numbers of the scratch are needed
abbrev pub areas_fit_needing : ℕ → List ℤ → List ℤ → Bool
areas_fit_needing need w s = leb work_size (length w) && leb need (length s)

abbrev pub areas_fit : List ℤ → List ℤ → Bool
areas_fit w s = areas_fit_needing scratch_size w s

abbrev pub results_in : JobOutcome (List Model) → List Model
results_in (accepted rs) = rs
results_in (refused n k) = []

-- what every check of a job answers and leaves, `fit` being that the lent areas are long enough: "too short; neither is touched";
-- "refusal 1 goes with command 0"
abbrev pub outcome_if : Bool → JobOutcome (List Model) → JobOutcome (List Model)
outcome_if fit o = cond fit o (refused 1 0)

-- "An accepted job leaves later stretches zero; a refused one leaves all" 1,184, in 01 1,120, "zero, save that refusal 1 touches
-- nothing. Numbers behind stay."
abbrev pub work_if : Bool → JobOutcome (List Model) → List ℤ → List ℤ
work_if fit o w = cond fit (work_with (results_in o) ++ drop work_size w) w

-- the 16 numbers of the scratch are zero unless an area was too short
abbrev pub scratch_if : Bool → List ℤ → List ℤ
scratch_if fit s = cond fit (zeros scratch_size ++ drop scratch_size s) s

unfoldable pub check_needing : ℕ → List ℕ → List ℤ → List ℤ → JobOutcome (List Model)
check_needing need job w s = outcome_if (areas_fit_needing need w s) (job_outcome job)

abbrev pub check_outcome : List ℕ → List ℤ → List ℤ → JobOutcome (List Model)
check_outcome job w s = check_needing scratch_size job w s

unfoldable pub work_needing : ℕ → List ℕ → List ℤ → List ℤ → List ℤ
work_needing need job w s = work_if (areas_fit_needing need w s) (job_outcome job) w

abbrev pub work_after : List ℕ → List ℤ → List ℤ → List ℤ
work_after job w s = work_needing scratch_size job w s

unfoldable pub scratch_after_job : List ℤ → List ℤ → List ℤ
scratch_after_job w s = scratch_if (areas_fit w s) s
