-- The walk over a job's commands: its invariant, a turn, and its ends.
use Rattle.std.proofs.Math.Path.{◌≡◌, sym, ap, subst}
use Rattle.std.specs.Prelude.{refl, Bool, true, false, ◌⊎◌, None, Some, Result as CodeResult, Ok, Err, ℕ, suc, ◌+◌, ◌-◌, ◌≤◌, ◌<◌, length, take, set}
use Rattle.std.proofs.Common.{ap₂, ◌∙◌, true≢false, inl, inr, arith, ltb-false, length-append, length-set}
use Rattle.std.proofs.lemmas.Bool.{false≢true}
use Rattle.std.specs.Result.{MatchResult, IsErrAnd}
use Rattle.std.proofs.lemmas.Result.{err_from_is_err_and}
use mathlib.Core.List.{List, [], ◌∷◌, ◌++◌}
use Rattle.model.specs.declared.types.Refusal.{Refusal}
use Rattle.model.specs.definitions.Outcomes.{number_of, Passed, First, passing}
use Rattle.model.proofs.laws.PlaceLaws.{passing_passed, passing_first, passing_unrefused, first_or_passed}
use Rattle.job.specs.definitions.Decode.{Command, result, maker_at, command_at}
use Rattle.job.specs.definitions.Reading.{max_results, bad_names, is_end, reading_places, command_read, next_at, CommandReading, found, command_reading_of, command_reading}
use Rattle.job.specs.definitions.Reader.{well, ill, read_on, read_from, job_reading}
use Rattle.job.specs.declared.types.Kind.{Kind}
use Rattle.job.specs.declared.types.ReadCommand.{ReadCommand}
use Rattle.job.specs.declared.types.RefusedCommand.{RefusedCommand}
use Rattle.job.specs.declared.types.Kind.TheVariants.{End, Edition, Result, Unknown}
use Rattle.job.specs.definitions.Operations.{Maker}
use Rattle.survey.specs.definitions.Degrees.{maker_degree, degrees_after}
use Rattle.survey.specs.definitions.Editions.{command_converted, convert_from}
use Rattle.survey.specs.definitions.InnerContracts.{Advancing, Converting, degree_made}
use Rattle.survey.proofs.laws.AdvanceLaws.{Advanced, held_length, held_more, room_left, degree_added, degrees_left}
use Rattle.survey.proofs.laws.ConvertedCommand.{convert_by, next_for, places_for, kind_at}

-- ---- what the reading of a command says

pub record Found (job : List ℕ) (k count at : ℕ) (kind : Kind) (next : ℕ) : Type 0 where
  pub kind_is : kind_at job at ≡ kind
  pub next_is : next_for kind at ≡ next
  pub passed : Passed (places_for kind job k count at)

module _ (job : List ℕ) (k count at : ℕ) where
  pub was_found : (kind : Kind) (next : ℕ) → command_reading job k count at ≡ found kind next → Found job k count at kind next
  unfolding command_reading reading_places
  was_found kind next h =
      let (passed, same) =
      passing_unrefused (places_for (kind_at job at) job k count at) (found (kind_at job at) (next_for (kind_at job at) at)) (found kind next) CommandReading.refused
      (λ n e. let z : ◌≡◌ {A = ℕ} 0 1 = cc e in absurd (omega arith)) h in
      let ek : kind_at job at ≡ kind = cc same in
      let en : next_for (kind_at job at) at ≡ next = cc same in
      record {
        kind_is = ek;
        next_is = ap (λ (x : Kind). next_for x at) (sym ek) ∙ en;
        passed = subst (λ (x : Kind). Passed (places_for x job k count at)) ek passed;
      }

  -- a refusal of the reading is that of the job's
  pub was_refused : {A : Type 0} (n : ℕ) (a : A) (r : ℕ → A) → command_reading job k count at ≡ CommandReading.refused n
      → passing (reading_places job k count at) a r ≡ r n
  unfolding command_reading
  was_refused n a r h = by (first_or_passed (reading_places job k count at))
    where
      places : List (Bool × ℕ)
      places = reading_places job k count at

      by : ((m : ℕ) × First places m) ⊎ Passed places → passing places a r ≡ r n
      by (inl f) =
          let x : ◌≡◌ {A = CommandReading} (CommandReading.refused f.0) (CommandReading.refused n) =
          sym (passing_first (found _ _) CommandReading.refused f.1) ∙ h in
          let e : f.0 ≡ n = cc x in
          passing_first a r f.1 ∙ ap r e
      by (inr f) =
          let x : found _ _ ≡ CommandReading.refused n = sym (passing_passed places (found _ _) CommandReading.refused f) ∙ h in
          let z : ◌≡◌ {A = ℕ} 0 1 = cc x in
          absurd (omega arith)

-- the code's answer, with the command's number beside a refusal
module _ (job : List ℕ) (k count at : ℕ) (r : CodeResult ReadCommand Refusal) (e : command_reading_of r ≡ command_reading job k count at)
    (s : CodeResult ReadCommand RefusedCommand) (F : Refusal → RefusedCommand → Type 0)
    (h : MatchResult r (λ x. s ≡ Ok x) (λ v. IsErrAnd s (F v))) where
  pub read_found : (x : ReadCommand) → s ≡ Ok x → command_reading job k count at ≡ found x.kind x.next
  read_found x is = by r e h
    where
      by : (r : CodeResult ReadCommand Refusal) → command_reading_of r ≡ command_reading job k count at
          → MatchResult r (λ x. s ≡ Ok x) (λ v. IsErrAnd s (F v)) → command_reading job k count at ≡ found x.kind x.next
      by (Ok y) e h = let same : y ≡ x = cc in rw (sym same) (sym e)
      by (Err v) e h = let p = err_from_is_err_and s h in cc

  pub read_refused : ((v : Refusal) (d : RefusedCommand) → F v d → d ≡ record { refusal = v; command = k }) → (d : RefusedCommand) → s ≡ Err d
      → (command_reading job k count at ≡ CommandReading.refused (number_of d.refusal)) × (d.command ≡ k)
  read_refused gives d is = by r e h
    where
      by : (r : CodeResult ReadCommand Refusal) → command_reading_of r ≡ command_reading job k count at
          → MatchResult r (λ x. s ≡ Ok x) (λ v. IsErrAnd s (F v))
          → (command_reading job k count at ≡ CommandReading.refused (number_of d.refusal)) × (d.command ≡ k)
      by (Ok y) e h = cc
      by (Err v) e h =
          let p = err_from_is_err_and s h in
          let same : d ≡ record { refusal = v; command = k } = (let q : d ≡ p.0 = cc in q) ∙ gives v p.0 p.2 in
          rw same (sym e, refl)

-- a command that is not the end
pub goes_on : (kind : Kind) → (kind ≡ End → ⊥) → is_end kind ≡ false
goes_on End h = absurd (h refl)
goes_on Edition h = refl
goes_on (Result op) h = refl
goes_on Unknown h = refl

length_more : (ds : List ℕ) (m : Maker) → length (degrees_after (result m) ds) ≡ length ds + 1
length_more ds m = length-append ds (maker_degree m ds ∷ [])

-- ---- the invariant

pub record Walking (job begun out list : List ℕ) (count at k : ℕ) : Type 0 where
  pub cs : List Command
  pub left : read_from (length job + 1 - k) job k cs at ≡ job_reading job
  pub counted : count ≡ length cs
  pub few : count ≤ max_results
  pub long : length list ≡ max_results
  pub number : k ≤ at
  pub position : at ≤ length job
  pub edited : convert_from (length job + 1 - k) job (take count list) at out ≡ convert_from (length job + 1) job [] 0 begun

pub walking_begins : (job out list : List ℕ) → length list ≡ max_results → Walking job out out list 0 0 0
unfolding job_reading
walking_begins job out list l =
    let f : length job + 1 - 0 ≡ length job + 1 = omega arith in
    record {
      cs = [];
      left = ap (λ (n : ℕ). read_from n job 0 [] 0) f;
      counted = refl;
      few = omega arith;
      long = l;
      number = omega arith;
      position = omega arith;
      edited = ap (λ (n : ℕ). convert_from n job [] 0 out) f;
    }

module _ {job begun out list : List ℕ} {count at k : ℕ} (w : Walking job begun out list count at k) where
  abbrev f : ℕ
  f = length job + 1 - (k + 1)

  fuel : length job + 1 - k ≡ suc f
  fuel = omega (arith, w.number, w.position)

  abbrev ds : List ℕ
  ds = take count list

  -- the whole conversion
  abbrev whole : List ℕ
  whole = convert_from (length job + 1) job [] 0 begun

  -- what is left to read there
  reads_there : passing (reading_places job k (count) at)
      (read_on k (λ l. read_from f job (k + 1) l (next_at job k (count) at)) w.cs (command_read job k (count) at)) (λ n. ill n k)
      ≡ job_reading job
  unfolding read_from
  reads_there = sym (ap (λ (n : ℕ). read_from n job k w.cs at) fuel ∙ rw w.counted refl) ∙ w.left

  converts_there : convert_by f job at ds out (kind_at job at) ≡ whole
  unfolding convert_from
  converts_there = sym (ap (λ (n : ℕ). convert_from n job ds at out) fuel) ∙ w.edited

  -- ---- a command that was found

  module _ (kind : Kind) (next : ℕ) (h : command_reading job k (count) at ≡ found kind next) where
    there : Found job k (count) at kind next
    there = was_found job k (count) at kind next h

    pub found_converting : Converting kind job at ds
    found_converting =
        let p = there.passed in
        record {
          names = ap (bad_names (command_at kind job at)) (held_length list count (omega (arith, w.few, w.long))) ∙ p.1.1.1.1.0;
          room = ltb-false _ _ p.1.1.0;
        }

    pub found_further : (at < next) × (next ≤ length job)
    found_further = (omega (arith, there.next_is), omega (arith, there.next_is, found_converting.room))

    reads_by : read_on k (λ l. read_from f job (k + 1) l (next_for kind at)) w.cs (command_at kind job at) ≡ job_reading job
    unfolding reading_places
    reads_by =
        subst
        (λ (x : Kind). Passed (places_for x job k (count) at)
        → read_on k (λ l. read_from f job (k + 1) l (next_for x at)) w.cs (command_at x job at) ≡ job_reading job)
        there.kind_is
        (λ p. sym (passing_passed (places_for (kind_at job at) job k (count) at) _ _ p) ∙ reads_there)
        there.passed

    converts_by : convert_by f job at ds out kind ≡ whole
    converts_by = subst (λ (x : Kind). convert_by f job at ds out x ≡ whole) there.kind_is converts_there

    -- the end of a job
    pub walk_ends : is_end kind ≡ true → (job_reading job ≡ well w.cs) × (out ≡ whole)
    walk_ends e = by kind e reads_by converts_by
      where
        by : (x : Kind) → is_end x ≡ true → read_on k (λ l. read_from f job (k + 1) l (next_for x at)) w.cs (command_at x job at) ≡ job_reading job
            → convert_by f job at ds out x ≡ whole → (job_reading job ≡ well w.cs) × (out ≡ whole)
        by End e r c = (sym r, c)
        by Edition e r c = absurd (false≢true e)
        by (Result op) e r c = absurd (false≢true e)
        by Unknown e r c = absurd (false≢true e)

    -- any other command
    walk_on : is_end kind ≡ false → (r : ℕ) (list' out' : List ℕ) → Advanced kind job at list count out r list' out'
        → length list' ≡ max_results → Walking job begun out' list' r next (k + 1)
    walk_on e r list' out' d n =
        subst (λ (a : ℕ). Walking job begun out' list' r a (k + 1)) there.next_is (by kind e there.passed reads_by converts_by d)
      where
        -- the count is the number of degrees
        count_of : (l : List ℕ) (c : ℕ) → c ≤ max_results → length l ≡ max_results → c ≡ length (take c l)
        count_of l c b m = sym (held_length l c (omega (arith, b, m)))

        by : (x : Kind) → is_end x ≡ false → Passed (places_for x job k (count) at)
            → read_on k (λ l. read_from f job (k + 1) l (next_for x at)) w.cs (command_at x job at) ≡ job_reading job
            → convert_by f job at ds out x ≡ whole
            → Advanced x job at list count out r list' out' → Walking job begun out' list' r (next_for x at) (k + 1)
        by End e p q c d = absurd (true≢false e)
        by Edition e p q c d = record {
          cs = w.cs;
          left = q;
          counted = count_of list' r d.0.1 n ∙ ap length d.0.0 ∙ sym (count_of list count w.few w.long) ∙ w.counted;
          few = d.0.1;
          long = n;
          number = omega (arith, w.number);
          position = ltb-false _ _ p.1.1.0;
          edited = ap₂ (λ (z o : List ℕ). convert_from f job z (at + 1 + 1) o) d.0.0 d.1 ∙ c;
        }
        by (Result op) e p q c d =
            let x = maker_at op job at in
            record {
              cs = w.cs ++ (result x ∷ []);
              left = q;
              counted =
                  omega
                  (arith, count_of list' r d.0.1 n, ap length d.0.0, length_more ds x, count_of list count w.few w.long, w.counted, length-append w.cs (result x ∷ []));
              few = d.0.1;
              long = n;
              number = omega (arith, w.number);
              position = ltb-false _ _ p.1.1.0;
              edited = ap₂ (λ (z o : List ℕ). convert_from f job z (next_for (Result op) at) o) d.0.0 d.1 ∙ c;
            }
        by Unknown e p q c d = absurd (true≢false p.1.0)

    -- of a list that holds the degrees at its front
    pub found_advancing : Advancing kind job at list count
    found_advancing =
        let p = there.passed in
        record { names = p.1.1.1.1.0; space = p.1.1.1.1.1.0; room = ltb-false _ _ p.1.1.0; few = w.few; long = w.long }

    pub walk_again : is_end kind ≡ false → (r : ℕ) (list' out' : List ℕ) → Advanced kind job at list count out r list' out'
        → length list' ≡ max_results → (at < next) × Walking job begun out' list' r next (k + 1)
    walk_again e r list' out' d n = (found_further.0, walk_on e r list' out' d n)

    -- one that makes no result, and one whose result has degree d
    pub walk_left : is_end kind ≡ false → None ≡ degree_made (command_at kind job at) ds → (out' : List ℕ)
        → out' ≡ command_converted (command_at kind job at) job at ds out → Walking job begun out' list count next (k + 1)
    walk_left e none out' o = walk_on e count list out' ((sym (degrees_left job at list count kind none), w.few), o) w.long

    pub found_room : (d : ℕ) → Some d ≡ degree_made (command_at kind job at) ds → count < max_results
    found_room d made = room_left job at list count kind d made there.passed.1.1.1.1.1.0

    pub walk_added : is_end kind ≡ false → (d : ℕ) → Some d ≡ degree_made (command_at kind job at) ds → (out' : List ℕ)
        → out' ≡ command_converted (command_at kind job at) job at ds out → Walking job begun out' (set list count d) (count + 1) next (k + 1)
    walk_added e d made out' o =
        let room = found_room d made in
        walk_on e (count + 1) (set list count d) out'
        ((held_more list count d (omega (arith, room, w.long)) ∙ sym (degree_added job at list count kind d made), omega (arith, room)), o)
        (length-set list count d ∙ w.long)

  -- a refusal
  pub walk_refused : (n : ℕ) → command_reading job k (count) at ≡ CommandReading.refused n → job_reading job ≡ ill n k
  walk_refused n h = sym reads_there ∙ was_refused job k (count) at n _ (λ m. ill m k) h
