-- The certificate of each result of an accepted job: what the command's operation or test answers, with m, N and b zero where no
-- test ran, and every number within its limits, so that it fits its field.
use Rattle.std.specs.Prelude.{◌≡◌, refl, List, ℕ, ◌<◌, length, get_or}
use Rattle.std.proofs.Common.{ap, sym, subst, ◌∙◌, arith}
use Rattle.std.proofs.Math.Path.{subst⁻¹}
use Rattle.std.proofs.Math.ListN.{get_or-map}
use Rattle.model.specs.definitions.Outcomes.{Outcome, accepted, refused, payload}
use Rattle.model.specs.definitions.Load.{loading}
use Rattle.model.specs.definitions.Add.{addition, subtraction}
use Rattle.model.specs.definitions.Multiply.{multiplication}
use Rattle.model.proofs.laws.ModelLaws.{good_is}
use Rattle.model.specs.declared.types.Model.{Model}
use Rattle.certificate.specs.definitions.Tests.{scratch_size, Certificate, zero_certificate}
use Rattle.certificate.specs.definitions.Promise.{NumbersFit}
use Rattle.certificate.proofs.laws.NumberBounds.{quotient_numbers, root_numbers}
use Rattle.job.specs.definitions.Operations.{Maker, load, add, subtract, multiply, quotient, root, result_at, operation}
use Rattle.job.specs.definitions.Decode.{Command, result, finish}
use Rattle.job.specs.definitions.Reader.{job_reading, well, command_for}
use Rattle.job.specs.definitions.Outcomes.{JobOutcome}
use Rattle.job.specs.definitions.Run.{job_outcome}
use Rattle.job.specs.definitions.Reports.{certificate_by, certificate_of, Tested}
use Rattle.job.specs.definitions.InnerContracts.{untested_outcome}
use Rattle.job.proofs.laws.MadeLaws.{MadeFrom, made_maker, made_by_maker}
use Rattle.job.proofs.laws.MakerLaws.{load_operation, add-operation, subtract_operation, multiply_operation, quotient_operation, root_operation}
use Rattle.job.proofs.laws.GoodResults.{maker_good}
use Rattle.job.proofs.laws.Accepted.{accepted_read}
use Rattle.job.proofs.laws.CertificateLaws.{certificates_accepted}

-- ---- where no test ran

untested-zero : (o : Outcome Model) → let c = payload (untested_outcome o) in (c.m ≡ 0) × (c.N ≡ 0) × (c.b ≡ 0)
untested-zero (accepted m) = (refl, refl, refl)
untested-zero (refused n m) = (refl, refl, refl)

module _ (rs : List Model) where
  abbrev Zero : Outcome Certificate → Type 0
  Zero o = ((payload o).m ≡ 0) × ((payload o).N ≡ 0) × ((payload o).b ≡ 0)

  pub untested_numbers : (maker : Maker) → ¬ Tested maker
      → let c = payload (operation maker rs) in (c.m ≡ 0) × (c.N ≡ 0) × (c.b ≡ 0)
  untested_numbers (load f) n = subst⁻¹ Zero (load_operation f rs) (untested-zero (loading f))
  untested_numbers (add i j) n = subst⁻¹ Zero (add-operation i j rs) (untested-zero (addition (result_at rs i) (result_at rs j)))
  untested_numbers (subtract i j) n = subst⁻¹ Zero (subtract_operation i j rs) (untested-zero (subtraction (result_at rs i) (result_at rs j)))
  untested_numbers (multiply i j d) n =
      subst⁻¹ Zero (multiply_operation i j d rs) (untested-zero (multiplication d (result_at rs i) (result_at rs j)))
  untested_numbers (quotient i j h w) n = absurd (n tt)
  untested_numbers (root rule i h w) n = absurd (n tt)

  -- ---- every number is within its limits

  untested-fits : (maker : Maker) → ¬ Tested maker → {c : Certificate} → operation maker rs ≡ accepted c → NumbersFit c
  untested-fits maker n {c} e =
      let z = subst Zero e (untested_numbers maker n) in
      let k = good_is c.model (maker_good rs maker e) in
      record {
        degree = k.degree_fits;
        contraction = omega (arith, z.0);
        residual = omega (arith, z.1);
        displacement = omega (arith, z.2);
        radius = k.radius_fits;
      }

  pub operation_numbers : (maker : Maker) {c : Certificate} → operation maker rs ≡ accepted c → NumbersFit c
  operation_numbers (load f) e = untested-fits (load f) (λ t. t) e
  operation_numbers (add i j) e = untested-fits (add i j) (λ t. t) e
  operation_numbers (subtract i j) e = untested-fits (subtract i j) (λ t. t) e
  operation_numbers (multiply i j d) e = untested-fits (multiply i j d) (λ t. t) e
  operation_numbers (quotient i j h w) e =
      quotient_numbers scratch_size (result_at rs i) (result_at rs j) h w (sym (quotient_operation i j h w rs) ∙ e)
  operation_numbers (root rule i h w) e = root_numbers rule scratch_size (result_at rs i) h w (sym (root_operation rule i h w rs) ∙ e)

-- ---- by result number, of an accepted job

well_same : {cs ds : List Command} → well cs ≡ well ds → cs ≡ ds
well_same e = cc e

module _ (job : List ℕ) (rs : List Model) (e : job_outcome job ≡ JobOutcome.accepted rs) where
  pub certificate_by_lem : (cs : List Command) → job_reading job ≡ well cs → (i : ℕ) → certificate_of job i ≡ certificate_by rs (command_for cs i)
  certificate_by_lem cs read i =
      ap (λ (l : List Certificate). get_or l i zero_certificate) (certificates_accepted job cs rs read e) ∙ get_or-map (certificate_by rs) cs i finish

  -- it is what the command's operation or test answers
  pub certificate_answered : (cs : List Command) → job_reading job ≡ well cs → (i : ℕ) (maker : Maker) → command_for cs i ≡ result maker
      → operation maker rs ≡ accepted (certificate_of job i)
  certificate_answered cs read i maker is =
      let a = accepted_read job rs e in
      let same : cs ≡ a.0 = well_same (sym read ∙ a.1) in
      let from : MadeFrom maker rs i (result_at rs i) = made_maker a.2 i maker (ap (λ (l : List Command). command_for l i) (sym same) ∙ is) in
      let c : certificate_of job i ≡ from.certificate =
      certificate_by_lem cs read i ∙ ap (certificate_by rs) is ∙ ap payload from.succeeds in
      from.succeeds ∙ ap accepted (sym c)

  -- and its model is the result
  pub record CertificateMade (i : ℕ) : Type 0 where
    pub maker : Maker
    pub answered : operation maker rs ≡ accepted (certificate_of job i)
    pub model : (certificate_of job i).model ≡ result_at rs i

  pub certificate_made : (i : ℕ) → i < length rs → CertificateMade i
  certificate_made i h =
      let a = accepted_read job rs e in
      let m = made_by_maker a.2 i h in
      let o = certificate_answered a.0 a.1 i m.0 m.1 in
      let from : MadeFrom m.0 rs i (result_at rs i) = made_maker a.2 i m.0 m.1 in
      record {
        maker = m.0;
        answered = o;
        model = ap (λ (x : Outcome Certificate). (payload x).model) (sym o ∙ from.succeeds) ∙ sym from.gives;
      }

  -- every number is within its limits
  pub job_numbers : (i : ℕ) → i < length rs → NumbersFit (certificate_of job i)
  job_numbers i h = let c = certificate_made i h in operation_numbers rs c.maker c.answered
