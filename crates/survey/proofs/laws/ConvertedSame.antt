-- 02, S-27: "Source and converted job have equal results, refusals of operations included."
use Rattle.std.specs.Prelude.{◌≡◌, length}
use Rattle.std.proofs.Math.Path.{refl, sym}
use Rattle.std.proofs.Common.{ap, subst, ◌∙◌, true≢false, arith, length-append}
use mathlib.Core.List.{List, [], ◌∷◌, ◌++◌}
use Prim.Native.Nat.{ℕ, zero, suc, ◌+◌}
use Rattle.model.specs.definitions.Outcomes.{Outcome, Passed}
use Rattle.model.proofs.laws.PlaceLaws.{passing_unrefused}
use Rattle.model.specs.declared.types.Model.{Model}
use Rattle.certificate.specs.definitions.Tests.{Certificate}
use Rattle.job.specs.definitions.Operations.{Maker, operation}
use Rattle.job.specs.definitions.Decode.{maker_at, Command, result, command_at}
use Rattle.job.specs.definitions.Reading.{reading_places, command_read, next_at}
use Rattle.job.specs.definitions.Reader.{JobReading, well, ill, read_on, read_from, job_reading}
use Rattle.job.specs.definitions.Step.{resulting, command}
use Rattle.job.specs.definitions.Run.{onward, run, job_outcome}
use Rattle.job.specs.declared.types.Operation.{Operation}
use Rattle.job.specs.declared.types.Kind.{Kind}
use Rattle.job.specs.declared.types.Kind.TheVariants.{End, Edition, Result, Unknown}
use Rattle.survey.specs.definitions.Degrees.{maker_degree}
use Rattle.survey.specs.definitions.Editions.{maker_converted, convert_from, converted}
use Rattle.survey.proofs.laws.DegreeLaws.{degrees_in, degrees_more, Small, small_none, small_more, KeptGood, degree_small, operation_degree}
use Rattle.survey.proofs.laws.ConvertedBytes.{convert_length}
use Rattle.survey.proofs.laws.ConvertedCommand.{next_for, places_for, kind_at, command_by, Copied, operation_stated}
use Rattle.survey.proofs.laws.ConvertedFollows.{edition_copied, maker_copied, by, Follows, kept, maker_is, follows}

pub ill_not_well : (n k : ℕ) (cs : List Command) → ¬ (ill n k ≡ well cs)
ill_not_well n k cs e = let z : ◌≡◌ {A = ℕ} 0 1 = cc e in absurd (omega arith)

pub job_copied : (job : List ℕ) → Copied job 0 job
job_copied job = record { same = λ j h. refl; long = refl }

pub none_left : (job : List ℕ) (cs' : List Command) (k : ℕ) (cs : List Command) (at : ℕ) → ¬ (read_from zero job k cs at ≡ well cs')
unfolding read_from
none_left job cs' k cs at e = ill_not_well 10 k cs' e

-- ---- the source reads well

module _ (job : List ℕ) (f k : ℕ) (cs : List Command) (at : ℕ) (cs' : List Command) (e : read_from (suc f) job k cs at ≡ well cs') where
  abbrev pub Reads : Kind → Type 0
  Reads kind = read_on k (λ l. read_from f job (k + 1) l (next_for kind at)) cs (command_at kind job at) ≡ well cs'

  pub source_reads : Passed (places_for (kind_at job at) job k (length cs) at) × Reads (kind_at job at)
  unfolding read_from reading_places
  source_reads =
      let next : List Command → JobReading = λ l. read_from f job (k + 1) l (next_at job k (length cs) at) in
      let (passed, same) =
      passing_unrefused (reading_places job k (length cs) at) (read_on k next cs (command_read job k (length cs) at)) (well cs') (λ n. ill n k)
      (λ n. ill_not_well n k cs') e in
      (passed, sym same)

-- ---- the run of a converted job

module _ (job : List ℕ) (cs' : List Command) where
  abbrev Same : ℕ → ℕ → Type 0
  Same f k =
      (cs : List Command) (rs : List Model) (at : ℕ) (s : List ℕ) → read_from f job k cs at ≡ well cs'
      → length cs ≡ length rs → Small (degrees_in rs) → Copied job at s
      → run f (convert_from f job (degrees_in rs) at s) k rs at ≡ run f job k rs at

  module _ (f k : ℕ) (ih : Same f (k + 1)) (cs : List Command) (rs : List Model) (at : ℕ) (s : List ℕ)
      (n : length cs ≡ length rs) (small : Small (degrees_in rs)) (c : Copied job at s) where
    abbrev J : Kind → List ℕ
    J kind = by job f k (length rs) at (degrees_in rs) s small c kind

    abbrev Passes : Kind → Type 0
    Passes kind = Passed (places_for kind job k (length rs) at)

    abbrev ReadsOn : Kind → Type 0
    ReadsOn kind = read_on k (λ l. read_from f job (k + 1) l (next_for kind at)) cs (command_at kind job at) ≡ well cs'

    abbrev Goal : Kind → Type 0
    Goal kind = onward (run f (J kind)) k rs (command (J kind) k rs at) ≡ onward (run f job) k rs (command job k rs at)

    followed : (kind : Kind) → kind_at job at ≡ kind → Passes kind → Follows job f k (length rs) at (degrees_in rs) s small c kind
    followed = follows job f k (length rs) at (degrees_in rs) s small c

    result_step : (op : Operation) → kind_at job at ≡ Result op → Passes (Result op) → ReadsOn (Result op) → Goal (Result op)
    result_step op e p r =
        let h = followed (Result op) e p in
        ap (onward (run f (J (Result op))) k rs)
        (command_by (J (Result op)) k rs at (Result op) h.kind_is h.passed
        ∙ ap (resulting rs next)
        (ap (λ (x : Maker). operation x rs) (maker_is job f k (length rs) at ds s small c op e p) ∙ operation_stated m rs good small))
        ∙ by_outcome (operation m rs) refl
        ∙ sym (ap (onward (run f job) k rs) (command_by job k rs at (Result op) e p))
      where
        ds : List ℕ
        ds = degrees_in rs

        m : Maker
        m = maker_at op job at

        next : ℕ
        next = next_for (Result op) at

        good : KeptGood m
        good = kept job f k (length rs) at ds s small c op e p

        by_outcome : (o : Outcome Certificate) → operation m rs ≡ o
            → onward (run f (J (Result op))) k rs (resulting rs next o) ≡ onward (run f job) k rs (resulting rs next o)
        by_outcome (Outcome.accepted x) h =
            let rs₁ : List Model = rs ++ (x.model ∷ []) in
            let d : ds ++ (maker_degree m ds ∷ []) ≡ degrees_in rs₁ =
            ap (λ (z : ℕ). ds ++ (z ∷ [])) (operation_degree m rs h) ∙ sym (degrees_more rs x.model) in
            ap (λ (z : List ℕ). run f (convert_from f job z next (maker_converted m at ds s)) (k + 1) rs₁ next) d
            ∙ ih (cs ++ (result m ∷ [])) rs₁ next (maker_converted m at ds s) r (omega (arith, n, length-append cs (result m ∷ []), length-append rs (x.model ∷ [])))
            (subst Small d (small_more ds (maker_degree m ds) small (degree_small m ds good small))) (maker_copied job at ds s c op)
        by_outcome (Outcome.refused y x) h = refl

    step : (kind : Kind) → kind_at job at ≡ kind → Passes kind → ReadsOn kind → Goal kind
    step End e p r =
        let h = followed End e p in
        ap (onward (run f s) k rs) (command_by s k rs at End h.kind_is h.passed) ∙ sym (ap (onward (run f job) k rs) (command_by job k rs at End e p))
    step Edition e p r =
        let h = followed Edition e p in
        ap (onward (run f (J Edition)) k rs) (command_by (J Edition) k rs at Edition h.kind_is h.passed)
        ∙ ih cs rs (at + 1 + 1) _ r n small (edition_copied _ c)
        ∙ sym (ap (onward (run f job) k rs) (command_by job k rs at Edition e p))
    step (Result op) e p r = result_step op e p r
    step Unknown e p r = absurd (true≢false p.1.0)

  same_run : (f k : ℕ) → Same f k
  unfolding run convert_from
  same_run zero k cs rs at s e n small c = refl
  same_run (suc f) k cs rs at s e n small c =
      let (passed, reads) = source_reads job f k cs at cs' e in
      step f k (same_run f (k + 1)) cs rs at s n small c (kind_at job at) refl
      (subst (λ (m : ℕ). Passed (places_for (kind_at job at) job k m at)) n passed) reads

-- the same results, the same refusals at the same commands
pub converted_same : (job : List ℕ) {cs : List Command} → job_reading job ≡ well cs → job_outcome (converted job) ≡ job_outcome job
unfolding job_outcome job_reading converted
converted_same job {cs} e =
    ap (λ (n : ℕ). run (n + 1) (converted job) 0 [] 0) (convert_length job (length job + 1) [] 0 job)
    ∙ same_run job cs (length job + 1) 0 [] [] 0 job e refl small_none (job_copied job)
