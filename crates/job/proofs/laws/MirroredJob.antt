-- Document 02, S-11, of a whole job: "A mirrored crown must give mirrored models". Of accepted jobs alone, since a root that is
-- refused with 5 may be refused with 7 mirrored (MirroredRoot of certificate).
use Rattle.std.specs.Prelude.{◌≡◌, refl, List, [], ◌∷◌, map, ℕ, get_or, length}
use Rattle.std.proofs.Common.{sym, ◌∙◌, ap, ap₂, subst, subst₂}
use Rattle.std.proofs.lemmas.List.{map-append, length-map}
use Rattle.std.proofs.Math.ListN.{get_or-map}
use Rattle.chebyshev.specs.definitions.Negation.{odd}
use Rattle.model.specs.definitions.Add.{addition, subtraction}
use Rattle.model.specs.definitions.Load.{loading}
use Rattle.model.specs.definitions.Mirror.{mirrored, mirrored_candidate}
use Rattle.model.specs.definitions.Models.{zero_model}
use Rattle.model.specs.definitions.Multiply.{multiplication}
use Rattle.model.specs.definitions.Outcomes.{Outcome, map_outcome}
use Rattle.model.proofs.laws.MirrorLaws.{zero-negated}
use Rattle.model.proofs.laws.MirroredOperations.{loading-negated, addition-negated, subtraction-negated, multiplication-mirrored}
use Rattle.model.specs.declared.types.Model.{Model}
use Rattle.certificate.specs.definitions.Mirror.{on_model}
use Rattle.certificate.specs.definitions.Quotient.{quotient_test}
use Rattle.certificate.specs.definitions.Root.{root_test}
use Rattle.certificate.specs.definitions.Tests.{scratch_size, Certificate}
use Rattle.certificate.proofs.laws.MirroredQuotient.{quotient_mirrored}
use Rattle.certificate.proofs.laws.MirroredRoot.{root_mirrored}
use Rattle.job.specs.definitions.Decode.{Command, result}
use Rattle.job.specs.definitions.InnerContracts.{untested_outcome}
use Rattle.job.specs.definitions.Mirror.{mirrored_maker, mirrored_command}
use Rattle.job.specs.definitions.Operations.{Maker, load, add, subtract, multiply, quotient, root, result_at, names_bad, operation}
use Rattle.job.specs.definitions.Outcomes.{accepted}
use Rattle.job.specs.definitions.Reader.{well, job_reading}
use Rattle.job.specs.definitions.Requirement.{Made, nothing, one_more}
use Rattle.job.specs.definitions.Run.{job_outcome}
use Rattle.job.proofs.laws.Accepted.{accepted_read}
use Rattle.job.proofs.laws.MakerLaws.{load_operation, add-operation, subtract_operation, multiply_operation, quotient_operation, root_operation}
use Rattle.job.proofs.laws.MeetsNone.{made_accepted}

-- ---- one command

names_mirrored : (m : Maker) (count : ℕ) → names_bad (mirrored_maker m) count ≡ names_bad m count
names_mirrored (load m) count = refl
names_mirrored (add i j) count = refl
names_mirrored (subtract i j) count = refl
names_mirrored (multiply i j d) count = refl
names_mirrored (quotient i j h w) count = refl
names_mirrored (root rule i h w) count = refl

untested-mirrored : (o : Outcome Model) → untested_outcome (map_outcome mirrored o) ≡ map_outcome (on_model mirrored) (untested_outcome o)
untested-mirrored (Outcome.accepted m) = refl
untested-mirrored (Outcome.refused n m) = refl

module _ (rs : List Model) where
  -- zero beyond the results is its own mirror
  result_mirrored : (i : ℕ) → result_at (map mirrored rs) i ≡ mirrored (result_at rs i)
  result_mirrored i = ap (get_or (map mirrored rs) i) (sym (zero-negated odd)) ∙ get_or-map mirrored rs i zero_model

  -- a maker of an operation on two results
  on-two : (m : Maker) (op : Model → Model → Outcome Model) (i j : ℕ)
      → ((l : List Model) → operation m l ≡ untested_outcome (op (result_at l i) (result_at l j)))
      → ((f g : Model) → op (mirrored f) (mirrored g) ≡ map_outcome mirrored (op f g))
      → {c : Certificate} → operation m rs ≡ Outcome.accepted c → operation m (map mirrored rs) ≡ Outcome.accepted (on_model mirrored c)
  on-two m op i j is mirrors e =
      let f = result_at rs i in
      let g = result_at rs j in
      is (map mirrored rs)
      ∙ ap untested_outcome (ap₂ op (result_mirrored i) (result_mirrored j) ∙ mirrors f g)
      ∙ untested-mirrored (op f g)
      ∙ ap (map_outcome (on_model mirrored)) (sym (is rs) ∙ e)

  pub operation-mirrored : (m : Maker) {c : Certificate} → operation m rs ≡ Outcome.accepted c
      → operation (mirrored_maker m) (map mirrored rs) ≡ Outcome.accepted (on_model mirrored c)
  operation-mirrored (load m) e =
      load_operation (mirrored m) (map mirrored rs)
      ∙ ap untested_outcome (loading-negated odd m)
      ∙ untested-mirrored (loading m)
      ∙ ap (map_outcome (on_model mirrored)) (sym (load_operation m rs) ∙ e)
  operation-mirrored (add i j) e = on-two (add i j) addition i j (add-operation i j) (addition-negated odd) e
  operation-mirrored (subtract i j) e = on-two (subtract i j) subtraction i j (subtract_operation i j) (subtraction-negated odd) e
  operation-mirrored (multiply i j d) e = on-two (multiply i j d) (multiplication d) i j (multiply_operation i j d) (multiplication-mirrored d) e
  operation-mirrored (quotient i j h w) e =
      quotient_operation i j (mirrored_candidate h) (mirrored_candidate w) (map mirrored rs)
      ∙ ap₂ (λ a b. quotient_test scratch_size a b (mirrored_candidate h) (mirrored_candidate w)) (result_mirrored i) (result_mirrored j)
      ∙ quotient_mirrored scratch_size (result_at rs i) (result_at rs j) h w
      ∙ ap (map_outcome (on_model mirrored)) (sym (quotient_operation i j h w rs) ∙ e)
  operation-mirrored (root rule i h w) e =
      root_operation rule i (mirrored_candidate h) (mirrored_candidate w) (map mirrored rs)
      ∙ ap (λ a. root_test rule scratch_size a (mirrored_candidate h) (mirrored_candidate w)) (result_mirrored i)
      ∙ root_mirrored rule scratch_size (result_at rs i) h w (sym (root_operation rule i h w rs) ∙ e)

-- ---- all commands

-- mirrored commands make the mirrored results
pub made_mirrored : {cs : List Command} {rs : List Model} → Made cs rs → Made (map mirrored_command cs) (map mirrored rs)
made_mirrored nothing = nothing
made_mirrored (one_more {cs} {rs} {c} d m names gives) =
    subst₂ Made (sym (map-append mirrored_command cs (result m ∷ []))) (sym (map-append mirrored rs (c.model ∷ [])))
    (one_more (made_mirrored d) (mirrored_maker m)
    (ap (names_bad (mirrored_maker m)) (length-map rs mirrored) ∙ names_mirrored m (length rs) ∙ names)
    (operation-mirrored rs m gives))

-- ---- whole jobs

-- two jobs, the commands of one being those of the other mirrored
pub job_mirrored : (job job' : List ℕ) {cs : List Command} {rs : List Model} → job_reading job ≡ well cs
    → job_reading job' ≡ well (map mirrored_command cs) → job_outcome job ≡ accepted rs → job_outcome job' ≡ accepted (map mirrored rs)
job_mirrored job job' {cs} {rs} read read' e =
    let (cs₀, read₀, made) = accepted_read job rs e in
    let same : cs₀ ≡ cs = cc (read, read₀) in
    made_accepted (made_mirrored (subst (λ (l : List Command). Made l rs) same made)) job' read'
