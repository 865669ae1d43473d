-- Requirement 3 put to use, continued: a job is accepted only if its commands meet no numbered refusal; and a job whose commands make
-- results is accepted with them.
use Rattle.std.specs.Prelude.{◌≡◌, Bool, List, [], ◌∷◌, ◌++◌, ◌⊎◌, ℕ, zero, suc, ◌+◌, ◌-◌, ℤ, length, take}
use Rattle.std.proofs.Common.{ap, sym, subst, ◌∙◌, append_assoc, append-nil, inl, inr, arith, length-append}
use Rattle.std.proofs.Math.ListN.{get_or-append}
use Rattle.std.proofs.lemmas.List.{get_or_at}
use Rattle.std.proofs.Math.Seq.{take-length}
use Rattle.model.specs.definitions.Outcomes.{Outcome, Passed, First}
use Rattle.model.proofs.laws.PlaceLaws.{passing_passed, passing_unrefused, refused_not_accepted, first_parts, passing_first, none_first}
use Rattle.model.specs.declared.types.Model.{Model}
use Rattle.job.specs.definitions.Operations.{Maker, maker_places, operation, result_at}
use Rattle.job.specs.definitions.Decode.{Command, edition, result, finish, unknown}
use Rattle.job.specs.definitions.Reading.{command_read, next_at, reading_places}
use Rattle.job.specs.definitions.Reader.{JobReading, well, ill, read_on, read_from, job_reading, command_for}
use Rattle.job.specs.definitions.Outcomes.{JobOutcome, accepted}
use Rattle.job.specs.definitions.Run.{job_outcome}
use Rattle.job.specs.definitions.Order.{operation_places, command_places, RefusesAt}
use Rattle.job.proofs.laws.CommandLaws.{operation_refuses}
use Rattle.job.specs.definitions.Requirement.{Made, Requirement3}
use Rattle.job.proofs.laws.MadeLaws.{made_length, made_at, MadeBy}
use Rattle.job.proofs.laws.MadeUnique.{same_first, made_unique}
use Rattle.job.proofs.laws.Accepted.{Reached, reached, onward, reads_there, accepted_read}
use Rattle.job.proofs.laws.OrderLaws.{accepted_unless_refused}

-- ---- reading only adds commands

abbrev Begins : List Command → List Command → Type 0
Begins cs cs' = (t : List Command) × (cs' ≡ cs ++ t)

begins_more : (cs : List Command) (c : Command) {cs' : List Command} → Begins (cs ++ (c ∷ [])) cs' → Begins cs cs'
begins_more cs c b = (c ∷ b.0, b.1 ∙ append_assoc cs (c ∷ []) b.0)

on_more : (k : ℕ) (next : List Command → JobReading) (cs : List Command) (c : Command) {cs' : List Command} → read_on k next cs c ≡ well cs'
    → ((l : List Command) → next l ≡ well cs' → Begins l cs') → Begins cs cs'
on_more k next cs edition e r = r cs e
on_more k next cs (result m) e r = begins_more cs (result m) (r (cs ++ (result m ∷ [])) e)
on_more k next cs finish {cs'} e r = let same : cs' ≡ cs = cc e in ([], same ∙ sym (append-nil cs))
on_more k next cs unknown e r = let z : ◌≡◌ {A = ℕ} 0 1 = cc e in absurd (omega arith)

ill_not_well : (n k : ℕ) (cs : List Command) → ¬ (ill n k ≡ well cs)
ill_not_well n k cs e = let z : ◌≡◌ {A = ℕ} 0 1 = cc e in absurd (omega arith)

reads_more : (f : ℕ) (job : List ℕ) (k : ℕ) (cs : List Command) (at : ℕ) {cs' : List Command} → read_from f job k cs at ≡ well cs' → Begins cs cs'
unfolding read_from
reads_more zero job k cs at {cs'} e = absurd (ill_not_well 10 k cs' e)
reads_more (suc f) job k cs at {cs'} e =
    let next : List Command → JobReading = λ l. read_from f job (k + 1) l (next_at job k (length cs) at) in
    let (passed, same) =
    passing_unrefused (reading_places job k (length cs) at) (read_on k next cs (command_read job k (length cs) at)) (well cs') (λ n. ill n k)
    (λ n. ill_not_well n k cs') e in
    on_more k next cs (command_read job k (length cs) at) (sym same) (λ l h. reads_more f job (k + 1) l (next_at job k (length cs) at) h)

-- ---- the refusal of a command that is reached

module _ {cs : List Command} {rs : List Model} (made : Made cs rs) where
  -- a command that is read, and its operation refuses, is among the commands, and its operation was none that refuses
  refuses_none : {cs₀ : List Command} {rs₀ : List Model} (n : ℕ) (m : Maker) → Made cs₀ rs₀ → Begins (cs₀ ++ (result m ∷ [])) cs
      → First (maker_places m rs₀) n → ⊥
  refuses_none {cs₀} {rs₀} n m made₀ b f =
      let i : ℕ = length rs₀ in
      let l₀ : length cs₀ ≡ i = made_length made₀ in
      let l : length cs ≡ length rs = made_length made in
      let e : cs ≡ cs₀ ++ (result m ∷ b.0) = b.1 ∙ append_assoc cs₀ (result m ∷ []) b.0 in
      let n₁ : length cs ≡ length cs₀ + suc (length b.0) = ap length e ∙ length-append cs₀ (result m ∷ b.0) in
      let here : command_for cs i ≡ result m = ap (λ (z : List Command). command_for z i) e ∙ get_or_at cs₀ (result m) b.0 finish i l₀ in
      let same : take i rs ≡ rs₀ =
      same_first made made₀ i (omega arith) (omega arith)
      (λ j h. ap (λ (z : List Command). command_for z j) e ∙ get_or-append cs₀ (result m ∷ b.0) finish j (omega arith))
      ∙ take-length rs₀ in
      let t : MadeBy (result m) (take i rs) i (result_at rs i) = rw here at (made_at made i (omega arith)) in
      let z : operation m rs₀ ≡ Outcome.accepted t.certificate = ap (operation m) (sym same) ∙ t.succeeds in
      refused_not_accepted (sym (operation_refuses m rs₀ f) ∙ z)

  by_operation : (k : ℕ) (next : List Command → JobReading) (cs₀ : List Command) {rs₀ : List Model} (n : ℕ) (c : Command) → Made cs₀ rs₀
      → read_on k next cs₀ c ≡ well cs → ((l : List Command) → next l ≡ well cs → Begins l cs) → First (operation_places c rs₀) n → ⊥
  by_operation k next cs₀ n edition d e r f = none_first tt f
  by_operation k next cs₀ n (result m) d e r f = refuses_none n m d (r (cs₀ ++ (result m ∷ [])) e) f
  by_operation k next cs₀ n finish d e r f = none_first tt f
  by_operation k next cs₀ n unknown d e r f = none_first tt f

  refuses_nowhere : (job : List ℕ) → job_reading job ≡ well cs → (n k : ℕ) → ¬ RefusesAt job n k
  unfolding command_places
  refuses_nowhere job read n k m =
      by (first_parts (reading_places job k (length m.0) m.1) (operation_places (command_read job k (length m.0) m.1) m.0) m.3)
    where
      h : Reached job k m.0 m.1
      h = reached m.2

      by : First (reading_places job k (length m.0) m.1) n
          ⊎ (Passed (reading_places job k (length m.0) m.1) × First (operation_places (command_read job k (length m.0) m.1) m.0) n)
          → ⊥
      by (inl g) = ill_not_well n k cs (sym (passing_first _ (λ j. ill j k) g) ∙ reads_there m.2 h ∙ read)
      by (inr g) =
          by_operation k (onward m.2 h) h.cs n (command_read job k (length m.0) m.1) h.made
          (sym (passing_passed (reading_places job k (length m.0) m.1) _ _ g.0) ∙ reads_there m.2 h ∙ read)
          (λ l e. reads_more (length job + 1 - (k + 1)) job (k + 1) l (next_at job k (length m.0) m.1) e) g.1

-- a job whose commands make the results rs is accepted with them
pub made_accepted : {cs : List Command} {rs : List Model} → Made cs rs → (job : List ℕ) → job_reading job ≡ well cs → job_outcome job ≡ accepted rs
made_accepted {cs} made job read =
    let (rs', e) = (accepted_unless_refused job).1 (refuses_nowhere made job read) in
    let (cs', read', made') = accepted_read job rs' e in
    let same : cs' ≡ cs = cc (read, read') in
    e ∙ ap accepted (made_unique (subst (λ (l : List Command). Made l rs') same made') made)

-- an accepted job meets no refusal in its commands
pub accepted_meets_none : {areas : List (Bool × ℕ)} {job : List ℕ} {answer : JobOutcome ℕ} {work : List ℤ} → Requirement3 areas job answer work
    → (count : ℕ) → answer ≡ accepted count → (n k : ℕ) → ¬ RefusesAt job n k
accepted_meets_none {job = job} claim count e = let r = claim.results count e in refuses_nowhere r.made job r.read
