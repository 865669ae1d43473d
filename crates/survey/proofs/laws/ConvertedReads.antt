-- A converted job reads well, so that it can be converted back.
use Rattle.std.specs.Prelude.{◌≡◌, List, [], ◌∷◌, ◌++◌, length}
use Rattle.std.proofs.Math.Path.{refl}
use Rattle.std.proofs.Common.{ap, subst, ◌∙◌, true≢false, arith, length-append}
use Prim.Native.Nat.{ℕ, zero, suc, ◌+◌}
use Rattle.model.specs.definitions.Outcomes.{Passed}
use Rattle.model.proofs.laws.PlaceLaws.{passing_passed}
use Rattle.job.specs.definitions.Decode.{maker_at, Command, result, command_at}
use Rattle.job.specs.definitions.Reading.{reading_places}
use Rattle.job.specs.definitions.Reader.{well, read_on, read_from, job_reading, ReadsWell}
use Rattle.job.specs.declared.types.Kind.{Kind}
use Rattle.job.specs.declared.types.Kind.TheVariants.{End, Edition, Result, Unknown}
use Rattle.survey.specs.definitions.Degrees.{maker_degree}
use Rattle.survey.specs.definitions.Editions.{convert_from, converted}
use Rattle.survey.proofs.laws.DegreeLaws.{Small, small_none, small_more, degree_small}
use Rattle.survey.proofs.laws.ConvertedBytes.{convert_length}
use Rattle.survey.proofs.laws.ConvertedCommand.{next_for, places_for, kind_at, Copied}
use Rattle.survey.proofs.laws.ConvertedFollows.{edition_copied, maker_copied, by, kept, follows}
use Rattle.survey.proofs.laws.ConvertedSame.{job_copied, none_left, source_reads}

read_by : (J : List ℕ) (f k : ℕ) (cs : List Command) (at : ℕ) (kind : Kind) → kind_at J at ≡ kind → Passed (places_for kind J k (length cs) at)
    → read_from (suc f) J k cs at ≡ read_on k (λ l. read_from f J (k + 1) l (next_for kind at)) cs (command_at kind J at)
unfolding read_from reading_places
read_by J f k cs at kind e =
    subst
    (λ (x : Kind). Passed (places_for x J k (length cs) at)
    → read_from (suc f) J k cs at ≡ read_on k (λ l. read_from f J (k + 1) l (next_for x at)) cs (command_at x J at))
    e (λ p. passing_passed (places_for (kind_at J at) J k (length cs) at) _ _ p)

module _ (job : List ℕ) (cs' : List Command) where
  -- from a command on, where the converted job's commands so far are as many
  abbrev Reads : ℕ → ℕ → Type 0
  Reads f k =
      (cs cs₁ : List Command) (at : ℕ) (ds s : List ℕ) → read_from f job k cs at ≡ well cs' → length cs ≡ length cs₁ → Small ds → Copied job at s
      → (l : List Command) × (read_from f (convert_from f job ds at s) k cs₁ at ≡ well l)

  module _ (f k : ℕ) (ih : Reads f (k + 1)) (cs cs₁ : List Command) (at : ℕ) (ds s : List ℕ) (n : length cs ≡ length cs₁) (small : Small ds)
      (c : Copied job at s) where
    abbrev J : Kind → List ℕ
    J kind = by job f k (length cs₁) at ds s small c kind

    step : (kind : Kind) → kind_at job at ≡ kind → Passed (places_for kind job k (length cs₁) at)
        → read_on k (λ l. read_from f job (k + 1) l (next_for kind at)) cs (command_at kind job at) ≡ well cs'
        → (l : List Command) × (read_from (suc f) (J kind) k cs₁ at ≡ well l)
    step End e p r =
        let h = follows job f k (length cs₁) at ds s small c End e p in
        (cs₁, read_by (J End) f k cs₁ at End h.kind_is h.passed)
    step Edition e p r =
        let h = follows job f k (length cs₁) at ds s small c Edition e p in
        let (l, q) = ih cs cs₁ (at + 1 + 1) ds _ r n small (edition_copied _ c) in
        (l, read_by (J Edition) f k cs₁ at Edition h.kind_is h.passed ∙ q)
    step (Result op) e p r =
        let h = follows job f k (length cs₁) at ds s small c (Result op) e p in
        let m = maker_at op job at in
        let m₁ = maker_at op (J (Result op)) at in
        let (l, q) =
        ih (cs ++ (result m ∷ [])) (cs₁ ++ (result m₁ ∷ [])) (next_for (Result op) at) (ds ++ (maker_degree m ds ∷ [])) _ r
        (omega (arith, n, length-append cs (result m ∷ []), length-append cs₁ (result m₁ ∷ [])))
        (small_more ds (maker_degree m ds) small (degree_small m ds (kept job f k (length cs₁) at ds s small c op e p) small))
        (maker_copied job at ds s c op) in
        (l, read_by (J (Result op)) f k cs₁ at (Result op) h.kind_is h.passed ∙ q)
    step Unknown e p r = absurd (true≢false p.1.0)

  reads : (f k : ℕ) → Reads f k
  unfolding convert_from
  reads zero k cs cs₁ at ds s e n small c = absurd (none_left job cs' k cs at e)
  reads (suc f) k cs cs₁ at ds s e n small c =
      let (passed, on) = source_reads job f k cs at cs' e in
      step f k (reads f (k + 1)) cs cs₁ at ds s n small c (kind_at job at) refl
      (subst (λ (m : ℕ). Passed (places_for (kind_at job at) job k m at)) n passed) on

pub converted_reads : (job : List ℕ) → ReadsWell job → ReadsWell (converted job)
unfolding job_reading converted
converted_reads job (cs, e) =
    let (l, q) = reads job cs (length job + 1) 0 [] [] 0 [] job e refl small_none (job_copied job) in
    (l, ap (λ (n : ℕ). read_from (n + 1) (converted job) 0 [] 0) (convert_length job (length job + 1) [] 0 job) ∙ q)
