-- Document 01, "The two tests", in its whole numbers: what the tests share. "Candidates are h (the answer) and w (a helper); M
-- and H are the weights of w and h."
use Rattle.std.specs.Prelude.{Bool, cond, List, [], ◌∷◌, ◌++◌, ℕ, ◌*◌, leb, ltb, ℤ, pos, replicate, drop, length, Result, Ok, Err}
use Rattle.integer.specs.definitions.Rounding.{upℕ}
use Rattle.chebyshev.specs.definitions.Coefficients.{weight}
use Rattle.model.specs.definitions.Models.{scale, max_radius, make_model, zero_model, candidate_model}
use Rattle.model.specs.definitions.Outcomes.{Outcome, accepted, refused, number_of}
use Rattle.model.specs.declared.types.Candidate.{Candidate}
use Rattle.model.specs.declared.types.Model.{Model}
use Rattle.model.specs.declared.types.Refusal.{Refusal}
use Rattle.certificate.specs.declared.types.Certificate.{Certificate as CodeCertificate}

-- ---- the scratch

-- 02, S-17: "Our smaller board can lend 16 signed 64-bit numbers to a test." In 01 it was 65, `product_size`.
abbrev pub scratch_size : ℕ
scratch_size = 16

-- "lent areas: 1, too short": a scratch of len numbers, of which `need` are needed
abbrev pub scratch_place : ℕ → ℕ → Bool × ℕ
scratch_place need len = (ltb len need, 1)

-- "These are zero after every call, unless the scratch itself or a work area was too short; numbers behind them stay." A test
-- has no work area. 02, S-17: "16 numbers are zero afterwards."
unfoldable pub scratch_after : List ℤ → List ℤ
scratch_after s = cond (leb scratch_size (length s)) (replicate scratch_size (pos 0) ++ drop scratch_size s) s

-- ---- their candidates

-- "A candidate is a model without a radius (taken as 0)." S-24: "A candidate has its operand's interval.", that of f
abbrev pub placed : Model → Candidate → Model
placed f c = candidate_model f.interval c

-- ---- their numbers

-- "Result h with radius", on h's interval
abbrev pub with_radius : Model → ℕ → Model
with_radius h e = make_model h.degree h.coefficients e h.interval

-- "b = up(M·N/S)"
unfoldable pub displacement : Model → ℕ → ℕ
displacement w n = upℕ (weight w.coefficients * n) scale

-- ---- the answers

-- what a test that passes gives: its result, and m, N and b
pub record Certificate : Type 0 where
  pub model : Model
  pub m : ℕ
  pub N : ℕ
  pub b : ℕ

abbrev pub make_certificate : Model → ℕ → ℕ → ℕ → Certificate
make_certificate r m n b = record { model = r; m = m; N = n; b = b }

-- "Any other number an entry answers, or a record holds, is zero on refusal too."
abbrev pub zero_certificate : Certificate
zero_certificate = make_certificate zero_model 0 0 0

-- a test refused with number k
abbrev pub refused_test : ℕ → Outcome Certificate
refused_test k = refused k zero_certificate

-- what the code's answers mean
abbrev pub certificate_of : CodeCertificate → Certificate
certificate_of c = make_certificate c.model c.contraction c.residual c.displacement

abbrev pub test_of : Result CodeCertificate Refusal → Outcome Certificate
test_of (Ok c) = accepted (certificate_of c)
test_of (Err r) = refused_test (number_of r)

-- "tests: 5, m ≥ S" and "6, N > 2^28"
abbrev pub test_places : ℕ → ℕ → List (Bool × ℕ)
test_places m n = (leb scale m, 5) ∷ (ltb max_radius n, 6) ∷ []
