-- What the exported tests answer and leave in their areas.
use Rattle.std.specs.Prelude.{Bool, cond, ◌&&◌, List, [], ◌∷◌, ℕ, ℤ, length}
use Rattle.model.specs.definitions.Outcomes.{Outcome, refused, number, payload}
use Rattle.model.specs.definitions.Area.{model_size, candidate_size, words, area_model, area_candidate, fits, area_out}
use Rattle.certificate.specs.definitions.Tests.{scratch_size, scratch_after, Certificate, zero_certificate}
use Rattle.certificate.specs.definitions.Quotient.{quotient_needing}
use Rattle.certificate.specs.definitions.Root.{root_needing}
use Rattle.certificate.specs.declared.types.RootRule.{RootRule}
use Rattle.ferruntzo.specs.definitions.Areas.{numbers_size}

-- refusal 1, whichever area is too short: "Any other number an entry answers … is zero on refusal too"
abbrev pub short_test : Outcome Certificate
short_test = refused 1 zero_certificate

-- the number, and what the scratch, the area of the result and that of m, N and b hold afterwards
pub record TestAnswer : Type 0 where
  pub number : ℕ
  pub scratch : List ℤ
  pub out : List ℤ
  pub numbers : List ℕ

abbrev pub test_answer : ℕ → List ℤ → List ℤ → List ℕ → TestAnswer
test_answer n s o k = record { number = n; scratch = s; out = o; numbers = k }

-- a test, answered over its areas. Of the scratch: "These are zero after every call, unless the scratch itself or a work area
-- was too short"; a test has no work area.
unfoldable pub test_in : Outcome Certificate → List ℤ → List ℤ → List ℕ → TestAnswer
test_in t scratch out numbers =
    test_answer
    (number t)
    (scratch_after scratch)
    (area_out model_size (words (payload t).model) out)
    (area_out numbers_size ((payload t).m ∷ (payload t).N ∷ (payload t).b ∷ []) numbers)

-- whether every area has its numbers: those of the models, of h and w, the scratch, of which `need` are needed, the result, and
-- m, N and b
abbrev pub test_fits : ℕ → Bool → List ℤ → List ℤ → List ℤ → List ℤ → List ℕ → Bool
test_fits need models h w scratch out numbers =
    models && fits candidate_size h && fits candidate_size w && fits need scratch && fits model_size out && fits numbers_size numbers

-- a call's outcome, by which its number, result and numbers go
abbrev pub quotient_call : ℕ → List ℤ → List ℤ → List ℤ → List ℤ → List ℤ → List ℤ → List ℕ → Outcome Certificate
quotient_call need f g h w scratch out numbers =
    cond (test_fits need (fits model_size f && fits model_size g) h w scratch out numbers)
    (quotient_needing need (length scratch) (area_model f) (area_model g) (area_candidate h) (area_candidate w))
    short_test

abbrev pub root_call : RootRule → ℕ → List ℤ → List ℤ → List ℤ → List ℤ → List ℤ → List ℕ → Outcome Certificate
root_call rule need f h w scratch out numbers =
    cond (test_fits need (fits model_size f) h w scratch out numbers)
    (root_needing rule need (length scratch) (area_model f) (area_candidate h) (area_candidate w))
    short_test

abbrev pub quotient_answer : List ℤ → List ℤ → List ℤ → List ℤ → List ℤ → List ℤ → List ℕ → TestAnswer
quotient_answer f g h w scratch out numbers =
    test_in (quotient_call scratch_size f g h w scratch out numbers) scratch out numbers

abbrev pub root_answer : RootRule → List ℤ → List ℤ → List ℤ → List ℤ → List ℤ → List ℕ → TestAnswer
root_answer rule f h w scratch out numbers = test_in (root_call rule scratch_size f h w scratch out numbers) scratch out numbers
