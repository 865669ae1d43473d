-- 01, "Benchmarks, P to be proved", as one list: whole outcomes, with all 33 coefficients.
use Rattle.std.specs.Prelude.{◌≡◌, List, [], ◌∷◌, ◌++◌, ℕ, ◌-◌, ℤ, pos, negsuc, length, replicate}
use Rattle.model.specs.definitions.Models.{standard_model, constant_model}
use Rattle.model.specs.definitions.Outcomes.{accepted, refused}
use Rattle.model.specs.definitions.Multiply.{multiplication}
use Rattle.model.specs.definitions.Integrate.{integration}
use Rattle.model.specs.definitions.Evaluate.{evaluation}
use Rattle.model.specs.declared.types.Candidate.{Candidate}
use Rattle.model.specs.declared.types.Model.{Model}
use Rattle.certificate.specs.definitions.Tests.{make_certificate, zero_certificate}
use Rattle.certificate.specs.definitions.Quotient.{quotient_test}
use Rattle.certificate.specs.definitions.Root.{root_test}
use Rattle.certificate.specs.declared.types.RootRule.TheVariants.{ByDiscriminant}
use Rattle.job.specs.definitions.Outcomes.{refused as job_refused}
use Rattle.job.specs.definitions.Run.{job_outcome}

-- 33 coefficients, of which the first are given; the model of degree n and radius e that has them; a constant candidate
abbrev pub padded : List ℤ → List ℤ
padded cs = cs ++ replicate (33 - length cs) (pos 0)

abbrev pub model_of : ℕ → List ℤ → ℕ → Model
model_of n cs e = standard_model n (padded cs) e

abbrev pub constant : ℕ → Candidate
constant n = record { degree = 0; coefficients = padded (pos n ∷ []) }

-- S = 1048576
pub record Benchmarks : Type 0 where
  -- "P1 T_1 times T_1, a_1 = S: d = 2 gives 524288, 0, 524288, radius 0."
  pub P1 : multiplication 2 (model_of 1 (pos 0 ∷ pos 1048576 ∷ []) 0) (model_of 1 (pos 0 ∷ pos 1048576 ∷ []) 0)
      ≡ accepted (model_of 2 (pos 524288 ∷ pos 0 ∷ pos 524288 ∷ []) 0)
  -- "P2 The same at d = 1: degree 1, 524288, 0, radius 524288."
  pub P2 : multiplication 1 (model_of 1 (pos 0 ∷ pos 1048576 ∷ []) 0) (model_of 1 (pos 0 ∷ pos 1048576 ∷ []) 0)
      ≡ accepted (model_of 1 (pos 524288 ∷ pos 0 ∷ []) 524288)
  -- "P3 Constants 1 and 524288", and 02, S-11: "Case P3 becomes 0 with radius 1."
  pub P3 : multiplication 32 (constant_model (pos 1)) (constant_model (pos 524288)) ≡ accepted (model_of 0 [] 1)
  -- "P4 −1 and 524288: 0, radius 1."
  pub P4 : multiplication 32 (constant_model (negsuc 0)) (constant_model (pos 524288)) ≡ accepted (model_of 0 [] 1)
  -- "P5 Integral of constant S: S, S, radius 1."
  pub P5 : integration (constant_model (pos 1048576)) ≡ accepted (model_of 1 (pos 1048576 ∷ pos 1048576 ∷ []) 1)
  -- "P6 T_2 (a_2 = S) at p = 524288: −524289 and −524287."
  pub P6 : evaluation (model_of 2 (pos 0 ∷ pos 0 ∷ pos 1048576 ∷ []) 0) (pos 524288)
      ≡ accepted (record { low = negsuc 524288; high = negsuc 524286 })
  -- "P7 f = S, g = 3S, h = w = 349525: m = N = b = 1, radius 2."
  pub P7 : quotient_test 16 (constant_model (pos 1048576)) (constant_model (pos 3145728)) (constant 349525) (constant 349525)
      ≡ accepted (make_certificate (model_of 0 (pos 349525 ∷ []) 2) 1 1 1)
  -- "P8 Root of 2097152, h = 2S, w = S/4: accepted, radius S."
  pub P8 : root_test ByDiscriminant 16 (constant_model (pos 2097152)) (constant 2097152) (constant 262144)
      ≡ accepted (make_certificate (model_of 0 (pos 2097152 ∷ []) 1048576) 0 2097152 524288)
  -- "P9 With f one less: 8."
  pub P9 : root_test ByDiscriminant 16 (constant_model (pos 2097151)) (constant 2097152) (constant 262144)
      ≡ refused 8 zero_certificate
  -- "P10 f = S, h = 2S, w = S/4: 8."
  pub P10 : root_test ByDiscriminant 16 (constant_model (pos 1048576)) (constant 2097152) (constant 262144)
      ≡ refused 8 zero_certificate
  -- "P11 Empty job: 10 at command 0."
  pub P11 : job_outcome [] ≡ job_refused 10 0
