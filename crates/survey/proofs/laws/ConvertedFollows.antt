-- A command of the converted job: it is of the source's kind, and reading takes it as it took the source's.
use Rattle.std.specs.Prelude.{◌≡◌, refl, false, List, [], ◌∷◌, ◌++◌, ℕ, ◌+◌, ◌≤◌, length, set}
use Rattle.std.proofs.Common.{ap, ◌∙◌, true≢false, arith, ltb-false, length-set, get_or-set_same, get_or-set_other}
use Rattle.model.specs.definitions.Outcomes.{Passed}
use Rattle.job.specs.definitions.Bytes.{byte_at}
use Rattle.job.specs.definitions.Operations.{Maker, names_bad}
use Rattle.job.specs.definitions.Decode.{command_bytes, kind_in, maker_at, layout_for, operands_for}
use Rattle.job.specs.definitions.Reading.{bad_values}
use Rattle.job.specs.declared.types.Operation.{Operation}
use Rattle.job.specs.declared.types.Operation.TheVariants.{Load, LoadOn, Add, Subtract, Multiply, Quotient, Root}
use Rattle.job.specs.declared.types.Kind.{Kind}
use Rattle.job.specs.declared.types.Kind.TheVariants.{End, Edition, Result, Unknown}
use Rattle.survey.specs.definitions.Degrees.{maker_degree}
use Rattle.survey.specs.definitions.Editions.{other_edition, maker_converted}
use Rattle.survey.proofs.laws.DegreeLaws.{Small, KeptGood}
use Rattle.survey.proofs.laws.ConvertedBytes.{maker_length, maker_before, convert_length, convert_before}
use Rattle.survey.proofs.laws.ConvertedCommand.{convert_by, next_for, places_for, kind_at, stated, stated_names, StatesByte, kept_good, Copied, states_byte, maker_stated, values_stated, other_known, passed_by}

-- ---- the bytes behind a converted command are still the job's

pub edition_copied : {job s : List ℕ} {at : ℕ} (b : ℕ) → Copied job at s → Copied job (at + 1 + 1) (set s (at + 1) b)
edition_copied {job} {s} {at} b c = record {
  same = λ j h. get_or-set_other s (at + 1) j b 0 (λ e. omega arith) ∙ c.same j (omega arith);
  long = length-set s (at + 1) b ∙ c.long;
}

module _ (job : List ℕ) (at : ℕ) (ds s : List ℕ) (c : Copied job at s) where
  copied_on : (n : ℕ) → Copied job (at + 1 + n) s
  copied_on n = record { same = λ j h. c.same j (omega arith); long = c.long }

  pub maker_copied : (op : Operation) → Copied job (at + 1 + (operands_for op).width) (maker_converted (maker_at op job at) at ds s)
  unfolding maker_at
  maker_copied Load = copied_on 137
  maker_copied LoadOn = copied_on 145
  maker_copied Add = copied_on 2
  maker_copied Subtract = copied_on 2
  maker_copied Multiply = record {
    same = λ j h. maker_before (maker_at Multiply job at) at ds s j (λ e. omega arith) ∙ c.same j (omega arith);
    long = maker_length (maker_at Multiply job at) at ds s ∙ c.long;
  }
  maker_copied Quotient = copied_on 268
  maker_copied (Root rule) = copied_on 267

-- ---- command k at a position, after `count` results, whose degrees are ds

module _ (job : List ℕ) (f k count at : ℕ) (ds s : List ℕ) (small : Small ds) (c : Copied job at s) where
  -- the converted job, by the kind of this command
  abbrev pub by : Kind → List ℕ
  by kind = convert_by f job at ds s kind

  pub record Follows (kind : Kind) : Type 0 where
    pub kind_is : kind_at (by kind) at ≡ kind
    pub passed : Passed (places_for kind (by kind) k count at)

  same_kind : (J : List ℕ) (kind : Kind) → byte_at J at ≡ byte_at job at → kind_at job at ≡ kind → kind_at J at ≡ kind
  same_kind J kind b e = ap (λ (x : ℕ). kind_in command_bytes x) b ∙ e

  edition_follows : kind_at job at ≡ Edition → Passed (places_for Edition job k count at) → Follows Edition
  edition_follows e p =
      let b : ℕ = other_edition (byte_at job (at + 1)) in
      let s₁ = set s (at + 1) b in
      let J : List ℕ = by Edition in
      let room : at + 1 + 1 ≤ length job = ltb-false _ _ p.1.1.0 in
      let e₀ : byte_at J at ≡ byte_at job at =
      convert_before job f ds (at + 1 + 1) s₁ at (omega arith) ∙ get_or-set_other s (at + 1) at b 0 (λ x. omega arith) ∙ c.same at (omega arith) in
      let e₁ : byte_at J (at + 1) ≡ b =
      convert_before job f ds (at + 1 + 1) s₁ (at + 1) (omega arith) ∙ get_or-set_same s (at + 1) b 0 (omega (arith, c.long)) in
      let v : bad_values (layout_for Edition).values J at ≡ false = rw e₁ (other_known (byte_at job (at + 1)) p.1.1.1.0) in
      let l : length J ≡ length job = convert_length job f ds (at + 1 + 1) s₁ ∙ length-set s (at + 1) b ∙ c.long in
      record { kind_is = same_kind J Edition e₀ e; passed = passed_by job J k count at Edition l v refl p }

  -- a command that makes a result
  module _ (op : Operation) (e : kind_at job at ≡ Result op) (p : Passed (places_for (Result op) job k count at)) where
    abbrev m : Maker
    m = maker_at op job at

    abbrev next : ℕ
    next = next_for (Result op) at

    abbrev J : List ℕ
    J = by (Result op)

    room : next ≤ length job
    room = ltb-false _ _ p.1.1.0

    pub kept : KeptGood m
    kept = kept_good op job at p.1.1.1.0

    bytes : (j : ℕ) → j ≤ next → byte_at J j ≡ byte_at (maker_converted m at ds s) j
    bytes j h = convert_before job f (ds ++ (maker_degree m ds ∷ [])) next (maker_converted m at ds s) j h

    pub kept_byte_lem : StatesByte m at ds J
    kept_byte_lem = states_byte job J at ds s c op room bytes

    pub maker_is : maker_at op J at ≡ stated m ds
    maker_is = maker_stated job J at ds s c op room kept small bytes

    result_follows : Follows (Result op)
    result_follows = record {
      kind_is = same_kind J (Result op) (bytes at (omega arith) ∙ maker_before m at ds s at (λ x. omega arith) ∙ c.same at (omega arith)) e;
      passed =
          passed_by job J k count at (Result op)
          (convert_length job f (ds ++ (maker_degree m ds ∷ [])) next (maker_converted m at ds s) ∙ (maker_copied job at ds s c op).long)
          (values_stated job J at ds s c op room kept small bytes)
          (ap (λ (x : Maker). names_bad x count) maker_is ∙ stated_names m ds count ∙ p.1.1.1.1.0) p;
    }

  pub follows : (kind : Kind) → kind_at job at ≡ kind → Passed (places_for kind job k count at) → Follows kind
  follows End e p =
      record { kind_is = same_kind s End (c.same at (omega arith)) e; passed = passed_by job s k count at End c.long refl refl p }
  follows Edition e p = edition_follows e p
  follows (Result op) e p = result_follows op e p
  follows Unknown e p = absurd (true≢false p.1.0)
