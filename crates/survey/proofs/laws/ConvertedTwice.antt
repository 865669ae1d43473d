-- A job that was converted: its edition, its kept degrees, and its conversion.
use Rattle.std.proofs.Math.Path.{◌≡◌, refl, ap, subst}
use Rattle.std.proofs.Common.{sym, ap₂, ◌∙◌, true≢false, inl, inr, arith}
use Rattle.std.specs.Prelude.{Bool, true, not, ◌&&◌, ◌⊎◌, eqb}
use Rattle.std.proofs.Math.Bool.{false}
use mathlib.Core.List.{List, [], ◌∷◌, ◌++◌}
use Prim.Native.Nat.{ℕ, zero, suc, ◌+◌, ◌≤◌, ◌<◌}
use borrow.Author.Tests.{eqb-true, not-false, ltb-false}
use Rattle.std.proofs.Math.ListN.{length, set, length-set}
use Rattle.std.proofs.Math.Seq.{get_or-set_same, get_or-set_other}
use Rattle.model.specs.definitions.Multiply.{kept_degree}
use Rattle.model.specs.definitions.Outcomes.{Passed}
use Rattle.model.proofs.laws.MultiplicationLaws.{kept_is, kept_within}
use Rattle.job.specs.definitions.Bytes.{byte_at}
use Rattle.job.specs.definitions.Decode.{command_bytes, kind_in, edition_of, kept_byte, Command, result, maker_at, command_at}
use Rattle.job.specs.definitions.Operations.{Maker, load, add, subtract, multiply, quotient, root}
use Rattle.job.specs.definitions.Reading.{is_end}
use Rattle.job.specs.definitions.Reader.{well, read_on, read_from, job_reading, ReadsWell}
use Rattle.job.specs.declared.types.Operation.{Operation}
use Rattle.job.specs.declared.types.Operation.TheVariants.{Load, LoadOn, Add, Subtract, Multiply, Quotient, Root}
use Rattle.job.specs.declared.types.Kind.{Kind}
use Rattle.job.specs.declared.types.Kind.TheVariants.{End, Edition, Result, Unknown}
use Rattle.survey.specs.definitions.Degrees.{degree_at, maker_degree}
use Rattle.survey.specs.definitions.Editions.{other_edition, maker_converted, convert_from, converted, StatedFrom, Stated}
use Rattle.survey.proofs.laws.DegreeLaws.{Small, small_none, small_more, KeptGood, degree_small}
use Rattle.survey.proofs.laws.ConvertedBytes.{convert_length, convert_before}
use Rattle.survey.proofs.laws.ConvertedCommand.{convert_by, next_for, places_for, kind_at, stated, StatesByte, Copied}
use Rattle.survey.proofs.laws.ConvertedFollows.{edition_copied, maker_copied, by, kept, kept_byte_lem, maker_is, follows}
use Rattle.survey.proofs.laws.ConvertedSame.{job_copied, none_left, source_reads}

-- ---- a maker whose kept degree is stated

stated_degree : (m : Maker) (ds : List ℕ) → KeptGood m → Small ds → maker_degree (stated m ds) ds ≡ maker_degree m ds
unfolding maker_degree
stated_degree (load m) ds k small = refl
stated_degree (add i j) ds k small = refl
stated_degree (subtract i j) ds k small = refl
stated_degree (multiply i j d) ds k small =
    let n = degree_at ds i in
    let m = degree_at ds j in
    rw (kept_is (kept_degree d n m) n m (kept_within d n m k (small i) (small j)))
stated_degree (quotient i j h w) ds k small = refl
stated_degree (root rule i h w) ds k small = refl

-- a byte that is there already
set_same : (l : List ℕ) (i : ℕ) → set l i (byte_at l i) ≡ l
set_same [] i = refl
set_same (x ∷ l) zero = refl
set_same (x ∷ l) (suc i) = ap (λ (t : List ℕ). x ∷ t) (set_same l i)

-- its conversion changes nothing where the byte is the kept degree that it stands for
stated_converted : (m : Maker) (at : ℕ) (ds s : List ℕ) → KeptGood m → Small ds → StatesByte m at ds s → maker_converted (stated m ds) at ds s ≡ s
stated_converted (load m) at ds s k small e = refl
stated_converted (add i j) at ds s k small e = refl
stated_converted (subtract i j) at ds s k small e = refl
stated_converted (multiply i j d) at ds s k small e =
    let n = degree_at ds i in
    let m = degree_at ds j in
    ap (set s (at + 3)) (kept_is (kept_degree d n m) n m (kept_within d n m k (small i) (small j)) ∙ sym e) ∙ set_same s (at + 3)
stated_converted (quotient i j h w) at ds s k small e = refl
stated_converted (root rule i h w) at ds s k small e = refl

-- bytes that are the same there state the same
states_copied : (m : Maker) (at : ℕ) (ds s t : List ℕ) → byte_at t (at + 3) ≡ byte_at s (at + 3) → StatesByte m at ds s → StatesByte m at ds t
states_copied (load m) at ds s t e h = tt
states_copied (add i j) at ds s t e h = tt
states_copied (subtract i j) at ds s t e h = tt
states_copied (multiply i j d) at ds s t e h = e ∙ h
states_copied (quotient i j g w) at ds s t e h = tt
states_copied (root rule i g w) at ds s t e h = tt

-- ---- the byte 0x13 is a multiply command's

abbrev StatedAt : List ℕ → ℕ → Type 0
StatedAt job at = byte_at job at ≡ 0x13 → ¬ (byte_at job (at + 3) ≡ 0xFF)

module _ (J : List ℕ) (at : ℕ) where
  other : {kind : Kind} → kind_at J at ≡ kind → ¬ (kind ≡ Result Multiply) → StatedAt J at
  other e n b = absurd (n (sym e ∙ ap (kind_in command_bytes) b))

  result_stated : (op : Operation) (job ds : List ℕ) → kind_at J at ≡ Result op → KeptGood (maker_at op job at) → Small ds
      → StatesByte (maker_at op job at) at ds J → StatedAt J at
  unfolding maker_at
  result_stated Load job ds e k small s = other e (λ x. let z : ◌≡◌ {A = ℕ} 0 1 = cc x in absurd (omega arith))
  result_stated LoadOn job ds e k small s = other e (λ x. let z : ◌≡◌ {A = ℕ} 0 1 = cc x in absurd (omega arith))
  result_stated Add job ds e k small s = other e (λ x. let z : ◌≡◌ {A = ℕ} 0 1 = cc x in absurd (omega arith))
  result_stated Subtract job ds e k small s = other e (λ x. let z : ◌≡◌ {A = ℕ} 0 1 = cc x in absurd (omega arith))
  result_stated Multiply job ds e k small s =
      let i = byte_at job (at + 1) in
      let j = byte_at job (at + 2) in
      λ b x. absurd (omega (arith, s, x, kept_within (kept_byte (edition_of job) (byte_at job (at + 3))) (degree_at ds i) (degree_at ds j) k (small i) (small j)))
  result_stated Quotient job ds e k small s = other e (λ x. let z : ◌≡◌ {A = ℕ} 0 1 = cc x in absurd (omega arith))
  result_stated (Root rule) job ds e k small s = other e (λ x. let z : ◌≡◌ {A = ℕ} 0 1 = cc x in absurd (omega arith))

-- ---- behind the edition a second conversion changes nothing

-- what holds of J at a position, by the kind of its command there
abbrev Unchanged : ℕ → List ℕ → ℕ → List ℕ → List ℕ → Kind → Type 0
Unchanged f J at ds t kind =
    (convert_by f J at ds t kind ≡ t) × (StatedAt J at × (is_end kind ≡ false → StatedFrom f J (next_for kind at)))

module _ (job : List ℕ) (cs' : List Command) where
  abbrev Keeps : ℕ → ℕ → Type 0
  Keeps f k =
      (cs : List Command) (at : ℕ) (ds s t : List ℕ) → read_from f job k cs at ≡ well cs' → 0 < k → Small ds → Copied job at s
      → Copied (convert_from f job ds at s) at t
      → (convert_from f (convert_from f job ds at s) ds at t ≡ t) × StatedFrom f (convert_from f job ds at s) at

  module _ (f k : ℕ) (ih : Keeps f (k + 1)) (cs : List Command) (at : ℕ) (ds s t : List ℕ) (later : 0 < k) (small : Small ds) (c : Copied job at s) where
    abbrev J : Kind → List ℕ
    J kind = by job f k (length cs) at ds s small c kind

    step : (kind : Kind) → kind_at job at ≡ kind → Passed (places_for kind job k (length cs) at)
        → read_on k (λ l. read_from f job (k + 1) l (next_for kind at)) cs (command_at kind job at) ≡ well cs'
        → Copied (J kind) at t → (kind_at (J kind) at ≡ kind) × Unchanged f (J kind) at ds t kind
    step End e p r d =
        let h = follows job f k (length cs) at ds s small c End e p in
        (h.kind_is, (refl, (other (J End) at h.kind_is (λ x. let z : ◌≡◌ {A = ℕ} 0 1 = cc x in absurd (omega arith)), λ x. absurd (true≢false x))))
    step Edition e p r d = absurd (omega (arith, later, eqb-true k 0 (not-false (eqb k 0) p.1.0)))
    step (Result op) e p r d =
        let h = follows job f k (length cs) at ds s small c (Result op) e p in
        let m = maker_at op job at in
        let good = kept job f k (length cs) at ds s small c op e p in
        let states = kept_byte_lem job f k (length cs) at ds s small c op e p in
        let is = maker_is job f k (length cs) at ds s small c op e p in
        let next = next_for (Result op) at in
        let more = ds ++ (maker_degree m ds ∷ []) in
        let (same, rest) =
        ih (cs ++ (result m ∷ [])) next more (maker_converted m at ds s) t r (omega arith)
        (small_more ds (maker_degree m ds) small (degree_small m ds good small)) (maker_copied job at ds s c op)
        (record { same = λ j q. d.same j (omega arith); long = d.long }) in
        let degrees : maker_degree (maker_at op (J (Result op)) at) ds ≡ maker_degree m ds =
        ap (λ (x : Maker). maker_degree x ds) is ∙ stated_degree m ds good small in
        let bytes : maker_converted (maker_at op (J (Result op)) at) at ds t ≡ t =
        ap (λ (x : Maker). maker_converted x at ds t) is
        ∙ stated_converted m at ds t good small (states_copied m at ds (J (Result op)) t (d.same (at + 3) (omega arith)) states) in (
          h.kind_is,
          (
            ap₂ (λ (n : ℕ) (u : List ℕ). convert_from f (J (Result op)) (ds ++ (n ∷ [])) next u) degrees bytes ∙ same,
            (result_stated (J (Result op)) at op job ds h.kind_is good small states, λ x. rest),
          ),
        )
    step Unknown e p r d = absurd (true≢false p.1.0)

  -- by the kind that a command has
  by_kind : (f : ℕ) (J : List ℕ) (at : ℕ) (ds t : List ℕ) (kind : Kind) → (kind_at J at ≡ kind) × Unchanged f J at ds t kind
      → (convert_from (suc f) J ds at t ≡ t) × StatedFrom (suc f) J at
  unfolding convert_from StatedFrom
  by_kind f J at ds t kind h = subst (Unchanged f J at ds t) (sym h.0) h.1

  keeps : (f k : ℕ) → Keeps f k
  unfolding convert_from
  keeps zero k cs at ds s t e later small c d = absurd (none_left job cs' k cs at e)
  keeps (suc f) k cs at ds s t e later small c d =
      let (passed, on) = source_reads job f k cs at cs' e in
      by_kind f (convert_from (suc f) job ds at s) at ds t (kind_at job at)
      (step f k (keeps f (k + 1)) cs at ds s t later small c (kind_at job at) refl passed on d)

-- ---- the whole job

-- the edition of a job that reads well
abbrev pub KnownEdition : List ℕ → Type 0
KnownEdition job = (edition_of job ≡ 1) ⊎ (edition_of job ≡ 2)

known : (e : ℕ) → (not (eqb e 1) && not (eqb e 2)) ≡ false → (e ≡ 1) ⊎ (e ≡ 2)
known e h = by (eqb e 1) refl (eqb e 2) refl h
  where
    by : (t : Bool) → eqb e 1 ≡ t → (u : Bool) → eqb e 2 ≡ u → (not t && not u) ≡ false → (e ≡ 1) ⊎ (e ≡ 2)
    by true p u q x = inl (eqb-true e 1 p)
    by false p true q x = inr (eqb-true e 2 q)
    by false p false q x = absurd (true≢false x)

other_again : (e : ℕ) → (e ≡ 1) ⊎ (e ≡ 2) → other_edition (other_edition e) ≡ e
other_again e (inl p) = rw p
other_again e (inr p) = rw p

module _ (job : List ℕ) (cs' : List Command) where
  record Twice (f : ℕ) (J : List ℕ) : Type 0 where
    edition_known : KnownEdition job
    edition_other : edition_of J ≡ other_edition (edition_of job)
    again : convert_from f J [] 0 J ≡ set J 1 (other_edition (edition_of J))
    stated_all : StatedFrom f J 0

  module _ (f : ℕ) where
    abbrev C : Copied job 0 job
    C = job_copied job

    first : (kind : Kind) → kind_at job 0 ≡ kind → Passed (places_for kind job 0 0 0)
        → read_on 0 (λ l. read_from f job 1 l (next_for kind 0)) [] (command_at kind job 0) ≡ well cs'
        → Twice (suc f) (by job f 0 0 0 [] job small_none C kind)
    unfolding convert_from StatedFrom
    first End e p r = absurd (true≢false p.1.0)
    first Edition e p r =
        let h = follows job f 0 0 0 [] job small_none C Edition e p in
        let b : ℕ = other_edition (byte_at job 1) in
        let J : List ℕ = by job f 0 0 0 [] job small_none C Edition in
        let room : 2 ≤ length job = ltb-false _ _ p.1.1.0 in
        let e₁ : byte_at J 1 ≡ b = convert_before job f [] 2 (set job 1 b) 1 (omega arith) ∙ get_or-set_same job 1 b 0 (omega arith) in
        let (same, rest) =
        keeps job cs' f 1 [] 2 [] (set job 1 b) (set J 1 (other_edition (byte_at J 1))) r (omega arith) small_none (edition_copied b C)
        (record { same = λ j q. get_or-set_other J 1 j _ 0 (λ x. omega arith); long = length-set J 1 _ }) in
        let here : StatedAt J 0 = other J 0 h.kind_is (λ x. let z : ◌≡◌ {A = ℕ} 0 1 = cc x in absurd (omega arith)) in
        let whole : (convert_by f J 0 [] J (kind_at J 0) ≡ set J 1 (other_edition (byte_at J 1))) × (StatedAt J 0 × (is_end (kind_at J 0) ≡ false → StatedFrom f J (next_for (kind_at J 0) 0))) =
        subst
        (λ (x : Kind). (convert_by f J 0 [] J x ≡ set J 1 (other_edition (byte_at J 1))) × (StatedAt J 0 × (is_end x ≡ false → StatedFrom f J (next_for x 0))))
        (sym h.kind_is) (same, (here, λ x. rest)) in
        record { edition_known = known (byte_at job 1) p.1.1.1.0; edition_other = e₁; again = whole.0; stated_all = whole.1 }
    first (Result op) e p r = absurd (true≢false p.1.0)
    first Unknown e p r = absurd (true≢false p.1.0)

  twice : (f : ℕ) → read_from f job 0 [] 0 ≡ well cs' → Twice f (convert_from f job [] 0 job)
  unfolding convert_from
  twice zero e = absurd (none_left job cs' 0 [] 0 e)
  twice (suc f) e = let (passed, on) = source_reads job f 0 [] 0 cs' e in first f (kind_at job 0) refl passed on

pub converted-length : (job : List ℕ) → length (converted job) ≡ length job
unfolding converted
converted-length job = convert_length job (length job + 1) [] 0 job

module _ (job : List ℕ) (reads : ReadsWell job) where
  whole_job : Twice job reads.0 (length job + 1) (converted job)
  unfolding converted job_reading
  whole_job = twice job reads.0 (length job + 1) reads.1

  -- so where a multiply command is reached, the job's second byte is 1 or 2
  pub edition_known : KnownEdition job
  edition_known = whole_job.edition_known

  pub converted_edition : edition_of (converted job) ≡ other_edition (edition_of job)
  converted_edition = whole_job.edition_other

  pub all_stated : StatedFrom (length job + 1) (converted job) 0
  all_stated = whole_job.stated_all

  pub converted_stated : Stated (converted job)
  converted_stated = subst (λ (n : ℕ). StatedFrom (n + 1) (converted job) 0) (sym (converted-length job)) all_stated

  -- converting twice gives the first conversion's job but for its edition byte
  pub converted_twice : converted (converted job) ≡ set (converted job) 1 (edition_of job)
  unfolding converted
  converted_twice =
      by (converted job) (converted-length job) whole_job.again
      ∙ ap (set (converted job) 1) (ap other_edition converted_edition ∙ other_again (edition_of job) edition_known)
    where
      by : (J : List ℕ) → length J ≡ length job → convert_from (length job + 1) J [] 0 J ≡ set J 1 (other_edition (edition_of J))
          → converted J ≡ set J 1 (other_edition (edition_of J))
      by J n e = ap (λ (m : ℕ). convert_from (m + 1) J [] 0 J) n ∙ e
