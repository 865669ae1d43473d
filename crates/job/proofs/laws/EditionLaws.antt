-- 02, S-27, in a job: what the kept degree of a multiply command stands for, and the edition check.
use Rattle.std.specs.Prelude.{◌≡◌, refl, Bool, true, false, cond, List, [], ◌∷◌, ℕ, ◌+◌, max, eqb, length}
use Rattle.std.proofs.Common.{sym, ap, ◌∙◌, add-one, arith, ne_eqb, eqb-true, le-ltb}
use Rattle.std.proofs.lemmas.Bool.{lt-leb}
use Rattle.model.specs.definitions.Models.{max_degree}
use Rattle.model.specs.definitions.Multiply.{kept_degree, multiplication}
use Rattle.model.specs.definitions.Outcomes.{passing}
use Rattle.model.proofs.laws.MultiplicationLaws.{larger_kept}
use Rattle.model.specs.declared.types.Model.{Model}
use Rattle.job.specs.definitions.Bytes.{byte_at}
use Rattle.job.specs.definitions.Decode.{edition_of, kept_byte, kept_in, maker_at}
use Rattle.job.specs.definitions.InnerContracts.{untested_outcome}
use Rattle.job.specs.definitions.Operations.{multiply, result_at, operation}
use Rattle.job.specs.definitions.Outcomes.{refused}
use Rattle.job.specs.definitions.Reading.{reading_places}
use Rattle.job.specs.definitions.Run.{run, job_outcome}
use Rattle.job.specs.definitions.Step.{command}
use Rattle.job.proofs.laws.MakerLaws.{multiply_operation}
use Rattle.job.specs.declared.types.Operation.TheVariants.{Multiply}

-- a byte that is not 0xFF stands for itself
pub stated_in : (e d n m : ℕ) → ¬ (d ≡ 0xFF) → kept_in e d n m ≡ d
stated_in e d n m h = by (eqb e 2)
  where
    by : (t : Bool) → kept_degree (cond t d (cond (eqb d 0xFF) max_degree d)) n m ≡ d
    by true = rw (ne_eqb d 255 h)
    by false = rw (ne_eqb d 255 h, ne_eqb d 255 h)

-- of two models every d gives what the degree that it stands for gives
stands_for : (d : ℕ) (a b : Model) → multiplication d a b ≡ multiplication (kept_degree d a.degree b.degree) a b
stands_for d a b = by (eqb d 255) refl
  where
    by : (t : Bool) → eqb d 255 ≡ t → multiplication d a b ≡ multiplication (cond t (max a.degree b.degree) d) a b
    by true e = ap (λ k. multiplication k a b) (eqb-true d 255 e) ∙ larger_kept a b
    by false e = refl

pub multiply_stands_for : (job : List ℕ) (at : ℕ) (rs : List Model)
    → let i = byte_at job (at + 1) in
    let j = byte_at job (at + 2) in
    operation (maker_at Multiply job at) rs
    ≡ operation (multiply i j (kept_in (edition_of job) (byte_at job (at + 3)) (result_at rs i).degree (result_at rs j).degree)) rs
unfolding maker_at
multiply_stands_for job at rs =
    let i = byte_at job (at + 1) in
    let j = byte_at job (at + 2) in
    let d = kept_byte (edition_of job) (byte_at job (at + 3)) in
    multiply_operation i j d rs
    ∙ ap untested_outcome (stands_for d (result_at rs i) (result_at rs j))
    ∙ sym (multiply_operation i j (kept_degree d (result_at rs i).degree (result_at rs j).degree) rs)

-- "The edition check under 9 admits 1 and 2."
pub edition_refused : (e : ℕ) (behind : List ℕ) → ¬ (e ≡ 1) → ¬ (e ≡ 2) → job_outcome (0x01 ∷ e ∷ behind) ≡ refused 9 0
unfolding job_outcome run command reading_places passing
edition_refused e behind p q =
    let job : List ℕ = 0x01 ∷ e ∷ behind in
    ap (λ (n : ℕ). run n job 0 [] 0) (add-one (length job)) ∙ rw (lt-leb (length job) 0 (omega arith), le-ltb (length job) 2 (omega arith), ne_eqb e 1 p, ne_eqb e 2 q)
