-- The numbers that the conversion answers are small: a command is at most 33, and a job that reads well has at most 8,488 bytes, "the
-- first of which must be a load".
use Rattle.std.specs.Prelude.{◌≡◌, refl, Bool, cond, ◌⊎◌, eqb, leb, length}
use Rattle.std.proofs.Common.{sym, subst, true≢false, inl, inr, eqb-true, leb-false, ltb-false, length-append}
use Rattle.std.proofs.Math.Bool.{true, false}
use mathlib.Core.List.{List, [], ◌∷◌, ◌++◌}
use Prim.Native.Nat.{ℕ, zero, suc, ◌+◌, ◌*◌, ◌≤◌, min}
use native.Mathlib.Omega.{arith}
use Rattle.std.proofs.lemmas.Bool.{not-false}
use Rattle.model.specs.definitions.Outcomes.{Passed, First, passing}
use Rattle.model.proofs.laws.PlaceLaws.{passing_passed, passing_first, first_or_passed}
use Rattle.job.specs.definitions.Bytes.{byte_at}
use Rattle.job.specs.definitions.Operations.{names_bad}
use Rattle.job.proofs.laws.CommandLaws.{both_below}
use Rattle.job.specs.definitions.Decode.{Command, result, operands_for, maker_at, command_at}
use Rattle.job.specs.definitions.Reading.{max_results, reading_places}
use Rattle.job.specs.definitions.Reader.{JobReading, well, ill, read_on, read_from, job_reading}
use Rattle.job.specs.declared.types.Operation.{Operation}
use Rattle.job.specs.declared.types.Operation.TheVariants.{Load, LoadOn, Add, Subtract, Multiply, Quotient, Root}
use Rattle.job.specs.declared.types.Kind.{Kind}
use Rattle.job.specs.declared.types.Kind.TheVariants.{End, Edition, Result, Unknown}
use Rattle.job.specs.definitions.Outcomes.{accepted, refused, refused_command, result_count}
use Rattle.survey.specs.definitions.Editions.{edition_conversion, conversion_by}
use Rattle.survey.proofs.laws.ConvertedCommand.{next_for, places_for, kind_at}

-- the most bytes of a job that reads well: an edition, a load with its interval, 31 quotients and an end
abbrev pub max_job_bytes : ℕ
max_job_bytes = 8488

width_bound : (op : Operation) → (operands_for op).width ≤ 268
width_bound Load = omega arith
width_bound LoadOn = omega arith
width_bound Add = omega arith
width_bound Subtract = omega arith
width_bound Multiply = omega arith
width_bound Quotient = omega arith
width_bound (Root rule) = omega arith

-- the first result names none, so it is a load
first_bound : (op : Operation) (job : List ℕ) (at : ℕ) → names_bad (maker_at op job at) 0 ≡ false → (operands_for op).width ≤ 145
unfolding maker_at
first_bound Load job at n = omega arith
first_bound LoadOn job at n = omega arith
first_bound Add job at n = absurd (omega (arith, both_below 0 (byte_at job (at + 1)) (byte_at job (at + 2)) n))
first_bound Subtract job at n = absurd (omega (arith, both_below 0 (byte_at job (at + 1)) (byte_at job (at + 2)) n))
first_bound Multiply job at n = absurd (omega (arith, both_below 0 (byte_at job (at + 1)) (byte_at job (at + 2)) n))
first_bound Quotient job at n = absurd (omega (arith, both_below 0 (byte_at job (at + 1)) (byte_at job (at + 2)) n))
first_bound (Root rule) job at n = absurd (omega (arith, leb-false 0 (byte_at job (at + 1)) n))

-- where reading stands: at the edition, or behind it with a command for each result
pub data Stands : ℕ → List Command → ℕ → Type 0 where
  first : Stands 0 [] 0
  later : {k : ℕ} {cs : List Command} {at : ℕ} → k ≡ length cs + 1 → at + 123 * min 1 (length cs) ≤ 2 + 269 * length cs → length cs ≤ max_results
      → Stands k cs at

-- what is small of a reading
abbrev pub SmallReading : List ℕ → JobReading → Type 0
SmallReading job (well cs) = length job ≤ max_job_bytes
SmallReading job (ill n k) = k ≤ max_results + 1

number_small : {k : ℕ} {cs : List Command} {at : ℕ} → Stands k cs at → k ≤ max_results + 1
number_small first = omega arith
number_small (later e a n) = omega (arith, e, n)

module _ (job : List ℕ) where
  by_kind : (f k : ℕ) (cs : List Command) (at : ℕ) → Stands k cs at
      → ((cs₁ : List Command) (at₁ : ℕ) → Stands (k + 1) cs₁ at₁ → SmallReading job (read_from f job (k + 1) cs₁ at₁))
      → (kind : Kind) → Passed (places_for kind job k (length cs) at)
      → SmallReading job (read_on k (λ l. read_from f job (k + 1) l (next_for kind at)) cs (command_at kind job at))
  by_kind f k cs at first ih End p = absurd (true≢false p.1.0)
  by_kind f k cs at (later e a n) ih End p = let h : length job ≤ at + 1 + 0 = ltb-false (at + 1 + 0) (length job) p.1.1.1.1.1.1.0 in omega (arith, h, a, n)
  by_kind f k cs at first ih Edition p = ih [] (at + 1 + 1) (later refl (omega arith) (omega arith))
  by_kind f k cs at (later e a n) ih Edition p = absurd (omega (arith, e, eqb-true k 0 (not-false (eqb k 0) p.1.0)))
  by_kind f k cs at first ih (Result op) p = absurd (true≢false p.1.0)
  by_kind f k cs at (later e a n) ih (Result op) p =
      let l = length-append cs (result (maker_at op job at) ∷ []) in
      let h = leb-false max_results (length cs) p.1.1.1.1.1.0 in
      ih (cs ++ (result (maker_at op job at) ∷ [])) (next_for (Result op) at) (later (omega (arith, l, e)) (place (length cs) refl l) (omega (arith, l, h)))
    where
      place : (n : ℕ) → length cs ≡ n → length (cs ++ (result (maker_at op job at) ∷ [])) ≡ length cs + 1
          → next_for (Result op) at + 123 * min 1 (length (cs ++ (result (maker_at op job at) ∷ []))) ≤ 2 + 269 * length (cs ++ (result (maker_at op job at) ∷ []))
      place zero z l =
          let b = first_bound op job at (subst (λ (i : ℕ). names_bad (maker_at op job at) i ≡ false) z p.1.1.1.1.0) in omega (arith, z, l, a, b)
      place (suc n) z l = omega (arith, z, l, a, width_bound op)
  by_kind f k cs at s ih Unknown p = absurd (true≢false p.1.0)

  small_from : (f k : ℕ) (cs : List Command) (at : ℕ) → Stands k cs at → SmallReading job (read_from f job k cs at)
  unfolding read_from reading_places
  small_from zero k cs at s = number_small s
  small_from (suc f) k cs at s = by (first_or_passed places) (λ cs₁ at₁ s₁. small_from f (k + 1) cs₁ at₁ s₁)
    where
      places : List (Bool × ℕ)
      places = places_for (kind_at job at) job k (length cs) at

      on : JobReading
      on = read_on k (λ l. read_from f job (k + 1) l (next_for (kind_at job at) at)) cs (command_at (kind_at job at) job at)

      by : ((n : ℕ) × First places n) ⊎ Passed places
          → ((cs₁ : List Command) (at₁ : ℕ) → Stands (k + 1) cs₁ at₁ → SmallReading job (read_from f job (k + 1) cs₁ at₁))
          → SmallReading job (passing places on (λ n. ill n k))
      by (inl g) ih = subst (SmallReading job) (sym (passing_first on (λ n. ill n k) g.1)) (number_small s)
      by (inr g) ih =
          subst (SmallReading job) (sym (passing_passed places on (λ n. ill n k) g))
          (by_kind f k cs at s ih (kind_at job at) g)

  pub reading_small : SmallReading job (job_reading job)
  unfolding job_reading
  reading_small = small_from (length job + 1) 0 [] 0 first

  pub command_small : {n k : ℕ} → job_reading job ≡ ill n k → k ≤ max_results + 1
  command_small e = subst (SmallReading job) e reading_small

  pub job_small : {cs : List Command} → job_reading job ≡ well cs → length job ≤ max_job_bytes
  job_small e = subst (SmallReading job) e reading_small

-- ---- the answers of the entries

module _ (job : List ℕ) where
  -- of a conversion: the length, and the number of a refused command
  pub conversion_small : (room : ℕ) → (result_count (edition_conversion job room) ≤ max_job_bytes) × (refused_command (edition_conversion job room) ≤ max_results + 1)
  unfolding edition_conversion
  conversion_small room = by (job_reading job) (reading_small job)
    where
      by : (j : JobReading) → SmallReading job j → (result_count (conversion_by job room j) ≤ max_job_bytes) × (refused_command (conversion_by job room j) ≤ max_results + 1)
      by (well cs) s = pick (leb (length job) room)
        where
          pick : (t : Bool) → (result_count (cond t (accepted (length job)) (refused 20 0)) ≤ max_job_bytes)
              × (refused_command (cond t (accepted (length job)) (refused 20 0)) ≤ max_results + 1)
          pick true = (s, omega arith)
          pick false = (omega arith, omega arith)
      by (ill n k) s = (omega arith, s)
