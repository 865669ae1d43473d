-- What operations and tests answer can be stored, and what is promised of the model in its area.
use mathlib.Core.Path.{◌≡◌, sym, ap, subst, ◌∙◌}
use mathlib.Core.Bool.{Bool, true, ◌&&◌}
use mathlib.Core.List.{List}
use borrow.Author.Tests.{leb-true}
use Prim.Native.Nat.{ℕ, ◌≤◌}
use native.Mathlib.Omega.{arith}
use Rattle.std.specs.Prelude.{Result, Ok, Err, IfOk}
use Rattle.std.proofs.Common.{rules}
use lib.IntN.{ℤ}
use lib.ListN.{length}
use Rattle.model.specs.definitions.Models.{coefficient_count, zero_model}
use Rattle.model.specs.definitions.Area.{model_size, candidate_size, area_model, Storable, fits}
use Rattle.model.specs.definitions.Outcomes.{Outcome, payload, outcome_of}
use Rattle.model.proofs.laws.AreaLaws.{fit_last, model_stored}
pub use Rattle.model.proofs.laws.ResultLaws.{zero_storable}
use Rattle.model.proofs.laws.OutcomeLaws.{held_judged, number_of_positive}
use Rattle.model.specs.declared.types.Model.{Model}
use Rattle.model.specs.declared.types.Refusal.{Refusal}
use Rattle.certificate.specs.definitions.Tests.{scratch_size, scratch_after, Certificate, test_of}
use Rattle.certificate.specs.declared.types.Certificate.{Certificate as CodeCertificate}
use Rattle.ferruntzo.specs.definitions.Areas.{numbers_size}
use Rattle.ferruntzo.specs.definitions.Operations.{OperationAnswer, operation_answer, short_outcome, outcome_in}
use Rattle.ferruntzo.specs.definitions.Certificates.{TestAnswer, test_answer, short_test, test_in, test_fits}

-- ---- the model of an answer

pub outcome_storable : (r : Result Model Refusal) {o : Outcome Model} → outcome_of r ≡ o → Storable (payload o) → IfOk r Storable
outcome_storable r e h = held_judged Storable zero_model r e h

pub test_storable : (r : Result CodeCertificate Refusal) {o : Outcome Certificate} → test_of r ≡ o → Storable (payload o).model
    → IfOk r (λ c. Storable c.model)
test_storable (Ok c) e h = subst (λ (o : Outcome Certificate). Storable (payload o).model) (sym e) h
test_storable (Err r) e h = search rules

-- ---- what is promised of the model in its area

-- what is promised of an accepted model is promised of what stands in the area where it was stored
pub operation_in_area : (P : Model → Type 0) (r : Result Model Refusal) → IfOk r (λ m. length m.coefficients ≡ coefficient_count)
    → IfOk r P → (out : List ℤ) → model_size ≤ length out → {n : ℕ} {o : List ℤ}
    → operation_answer n o ≡ outcome_in (outcome_of r) out → n ≡ 0 → P (area_model o)
unfolding outcome_in
operation_in_area P (Ok m) all promise out room e zero =
    subst P (sym (ap (λ (x : OperationAnswer). area_model x.out) e ∙ model_stored m out all room)) promise
operation_in_area P (Err r) all promise out room e zero =
    absurd (omega (arith, zero, ap (λ (x : OperationAnswer). x.number) e, number_of_positive r))

pub test_in_area : (P : Model → Type 0) (t : Result CodeCertificate Refusal)
    → IfOk t (λ c. length c.model.coefficients ≡ coefficient_count) → IfOk t (λ c. P c.model) → (x out : List ℤ) (numbers : List ℕ) → model_size ≤ length out
    → {n : ℕ} {s o : List ℤ} {k : List ℕ} → test_answer n s o k ≡ test_in (test_of t) x out numbers → n ≡ 0 → P (area_model o)
unfolding test_in
test_in_area P (Ok c) all promise x out numbers room e zero =
    subst P (sym (ap (λ (a : TestAnswer). area_model a.out) e ∙ model_stored c.model out all room)) promise
test_in_area P (Err r) all promise x out numbers room e zero =
    absurd (omega (arith, zero, ap (λ (a : TestAnswer). a.number) e, number_of_positive r))

-- refusal 1 promises nothing
pub short_operation : {A : Type 0} (out : List ℤ) {n : ℕ} {o : List ℤ} → operation_answer n o ≡ outcome_in short_outcome out → n ≡ 0 → A
unfolding outcome_in
short_operation out e zero = absurd (omega (arith, zero, ap (λ (x : OperationAnswer). x.number) e))

pub short_test_lem : {A : Type 0} (x out : List ℤ) (numbers : List ℕ) {n : ℕ} {s o : List ℤ} {k : List ℕ}
    → test_answer n s o k ≡ test_in short_test x out numbers → n ≡ 0 → A
unfolding test_in
short_test_lem x out numbers e zero = absurd (omega (arith, zero, ap (λ (a : TestAnswer). a.number) e))

-- ---- areas that have their numbers, and the whole answers, of which the code's search needs none

pub two_fit : (m n : ℕ) (a b : List ℤ) → (fits m a && fits n b) ≡ true → (m ≤ length a) × (n ≤ length b)
two_fit m n a b h = let p = fit_last (fits m a) n b h in (leb-true m (length a) p.0, p.1)

pub test_fits_lem : (models : Bool) (h w scratch out : List ℤ) (numbers : List ℕ) → test_fits scratch_size models h w scratch out numbers ≡ true
    → (models ≡ true) × (candidate_size ≤ length h) × (candidate_size ≤ length w) × (model_size ≤ length out)
test_fits_lem models h w scratch out numbers e =
    let t = models && fits candidate_size h in
    let u = t && fits candidate_size w in
    let v = u && fits scratch_size scratch in
    let o = fit_last (v && fits model_size out) numbers_size numbers e in
    let r = fit_last v model_size out o.0 in
    let q = fit_last t candidate_size w (fit_last u scratch_size scratch r.0).0 in
    let p = fit_last models candidate_size h q.0 in
    (p.0, p.1, q.1, r.1)

-- an answer is what f gives for what an area holds, where the code's outcome is f of what it read
pub answered : {A : Type 0} (f : A → Outcome Model) {o : Outcome Model} {read : A} {held : A} {answer : OperationAnswer} (out : List ℤ)
    → answer ≡ outcome_in o out → o ≡ f read → read ≡ held → answer ≡ outcome_in (f held) out
answered f out a o r = a ∙ ap (λ x. outcome_in x out) (o ∙ ap f r)

module _ (test : Outcome Certificate) (scratch out : List ℤ) (numbers : List ℕ) where
  pub test_given : {n : ℕ} {s o : List ℤ} {k : List ℕ} (t : Result CodeCertificate Refusal) → s ≡ scratch_after scratch
      → ((x : List ℤ) → test_answer n (scratch_after x) o k ≡ test_in (test_of t) x out numbers) → test_of t ≡ test
      → test_answer n s o k ≡ test_in test scratch out numbers
  test_given {n} {s} {o} {k} t cleared stored same =
      ap (λ (x : List ℤ). test_answer n x o k) cleared ∙ stored scratch ∙ ap (λ (x : Outcome Certificate). test_in x scratch out numbers) same
