-- 02, S-27: "all else is copied".
use Rattle.std.specs.Prelude.{◌≡◌, Bool, true, false, List, [], ◌∷◌, ◌++◌, eqb, length, set}
use Rattle.std.proofs.Math.Path.{refl}
use Rattle.std.proofs.Common.{ap, ◌∙◌, true≢false, arith, eqb-true, ltb-false, get_or-set_same, get_or-set_other}
use Prim.Native.Nat.{ℕ, zero, suc, ◌+◌, ◌≤◌}
use Rattle.std.proofs.lemmas.Bool.{eqb-false, not-false}
use Rattle.model.specs.definitions.Outcomes.{Passed}
use Rattle.job.specs.definitions.Bytes.{byte_at}
use Rattle.job.specs.definitions.Decode.{edition_of, kept_in, Command, result, maker_at, command_at}
use Rattle.job.specs.definitions.Reader.{well, read_on, read_from, job_reading, ReadsWell}
use Rattle.job.proofs.laws.EditionLaws.{stated_in}
use Rattle.job.specs.declared.types.Operation.{Operation}
use Rattle.job.specs.declared.types.Operation.TheVariants.{Load, LoadOn, Add, Subtract, Multiply, Quotient, Root}
use Rattle.job.specs.declared.types.Kind.{Kind}
use Rattle.job.specs.declared.types.Kind.TheVariants.{End, Edition, Result, Unknown}
use Rattle.survey.specs.definitions.Degrees.{degree_at, maker_degree}
use Rattle.survey.specs.definitions.Editions.{maker_converted, convert_from, converted, StandsAt, first, next, OpenAt}
use Rattle.survey.proofs.laws.ConvertedCommand.{convert_by, next_for, places_for, kind_at, Copied}
use Rattle.survey.proofs.laws.ConvertedFollows.{edition_copied, maker_copied}
use Rattle.survey.proofs.laws.ConvertedSame.{job_copied, none_left, source_reads}

module _ (job : List ℕ) (cs' : List Command) (i : ℕ) (behind : ¬ (i ≡ 1)) (closed : ¬ OpenAt job i) where
  abbrev Stays : ℕ → ℕ → Type 0
  Stays f k =
      (cs : List Command) (at : ℕ) (ds s : List ℕ) → read_from f job k cs at ≡ well cs' → StandsAt job at → (k ≡ 0 → at ≡ 0) → Copied job at s
      → byte_at s i ≡ byte_at job i → byte_at (convert_from f job ds at s) i ≡ byte_at job i

  -- a command that makes a result
  module _ (at : ℕ) (ds s : List ℕ) (stands : StandsAt job at) (c : Copied job at s) (same : byte_at s i ≡ byte_at job i) where
    result_stays : (op : Operation) → kind_at job at ≡ Result op → next_for (Result op) at ≤ length job
        → byte_at (maker_converted (maker_at op job at) at ds s) i ≡ byte_at job i
    unfolding maker_at
    result_stays Load e room = same
    result_stays LoadOn e room = same
    result_stays Add e room = same
    result_stays Subtract e room = same
    result_stays Multiply e room = by (eqb i (at + 3)) refl
      where
        d : ℕ
        d = byte_at job (at + 3)

        n : ℕ
        n = degree_at ds (byte_at job (at + 1))

        m : ℕ
        m = degree_at ds (byte_at job (at + 2))

        kept : ℕ
        kept = kept_in (edition_of job) d n m

        by : (t : Bool) → eqb i (at + 3) ≡ t → byte_at (set s (at + 3) kept) i ≡ byte_at job i
        by true z =
            let at_i : i ≡ at + 3 = eqb-true i (at + 3) z in
            rw at_i (get_or-set_same s (at + 3) kept 0 (omega (arith, c.long)) ∙ stated_in (edition_of job) d n m (λ x. closed (record { at = at; stands = stands; multiplies = e; place = at_i; left_open = ap (byte_at job) at_i ∙ x })))
        by false z = get_or-set_other s (at + 3) i kept 0 (eqb-false i (at + 3) z) ∙ same
    result_stays Quotient e room = same
    result_stays (Root rule) e room = same

  module _ (f k : ℕ) (ih : Stays f (k + 1)) (cs : List Command) (at : ℕ) (ds s : List ℕ) (stands : StandsAt job at) (begins : k ≡ 0 → at ≡ 0)
      (c : Copied job at s) (same : byte_at s i ≡ byte_at job i) where
    step : (kind : Kind) → kind_at job at ≡ kind → StandsAt job (next_for kind at) → Passed (places_for kind job k (length cs) at)
        → read_on k (λ l. read_from f job (k + 1) l (next_for kind at)) cs (command_at kind job at) ≡ well cs'
        → byte_at (convert_by f job at ds s kind) i ≡ byte_at job i
    step End e n p r = same
    step Edition e n p r =
        let z : at ≡ 0 = begins (eqb-true k 0 (not-false (eqb k 0) p.1.0)) in
        ih cs (at + 1 + 1) ds _ r n (λ x. absurd (omega arith)) (edition_copied _ c) (get_or-set_other s (at + 1) i _ 0 (λ x. behind (omega (arith, x, z))) ∙ same)
    step (Result op) e n p r =
        let m = maker_at op job at in
        ih (cs ++ (result m ∷ [])) (next_for (Result op) at) (ds ++ (maker_degree m ds ∷ [])) (maker_converted m at ds s) r n (λ x. absurd (omega arith))
        (maker_copied job at ds s c op) (result_stays at ds s stands c same op e (ltb-false _ _ p.1.1.0))
    step Unknown e n p r = absurd (true≢false p.1.0)

  stays : (f k : ℕ) → Stays f k
  unfolding convert_from
  stays zero k cs at ds s e stands begins c same = absurd (none_left job cs' k cs at e)
  stays (suc f) k cs at ds s e stands begins c same =
      let (passed, on) = source_reads job f k cs at cs' e in
      step f k (stays f (k + 1)) cs at ds s stands begins c same (kind_at job at) refl (next stands) passed on

-- every byte but the edition's, and the open kept degree's of a multiply command
pub converted_copied : (job : List ℕ) → ReadsWell job → (i : ℕ) → ¬ (i ≡ 1) → ¬ OpenAt job i → byte_at (converted job) i ≡ byte_at job i
unfolding job_reading converted
converted_copied job (cs, e) i behind closed =
    stays job cs i behind closed (length job + 1) 0 [] 0 [] job e first (λ x. refl) (job_copied job) refl
