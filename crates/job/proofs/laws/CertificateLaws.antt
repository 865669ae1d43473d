-- The certificates of a job's results: what each command's operation or test answers for the results before it, it answers for all
-- of them.
use Rattle.std.specs.Prelude.{◌≡◌, refl, Bool, true, false, List, [], ◌∷◌, ◌++◌, map, ◌⊎◌, ℕ, ◌+◌, length}
use Rattle.std.proofs.Common.{ap, ap₂, sym, subst, subst₂, ◌∙◌, append_assoc, append-nil, inl, inr, arith, take_at}
use Rattle.std.proofs.lemmas.List.{map-append, length-map}
use Rattle.model.specs.definitions.Outcomes.{Outcome, payload, Passed, First}
use Rattle.model.proofs.laws.PlaceLaws.{first_or_passed, passing_passed, passing_first, passed_append}
use Rattle.model.specs.declared.types.Model.{Model}
use Rattle.certificate.specs.definitions.Tests.{Certificate}
use Rattle.job.specs.definitions.Operations.{Maker, names_bad, operation}
use Rattle.job.specs.definitions.Decode.{Command, edition, result, finish, unknown}
use Rattle.job.specs.definitions.Reading.{command_read, next_at, bad_names, reading_places}
use Rattle.job.specs.definitions.Outcomes.{accepted, refused}
use Rattle.job.specs.definitions.Run.{job_outcome}
use Rattle.job.specs.definitions.Reader.{JobReading, well, ill, job_reading}
use Rattle.job.specs.definitions.Step.{Step, more, over, resulting, performed, command}
use Rattle.job.specs.definitions.Order.{operation_places, results_after, command_places, is_last, Reaches}
use Rattle.job.specs.definitions.Requirement.{Made, nothing, one_more}
use Rattle.job.specs.definitions.Reports.{certificate_by, certificates_in, job_certificates}
use Rattle.job.specs.definitions.InnerContracts.{added_of, added_by, added_at}
use Rattle.job.proofs.laws.CommandLaws.{operation_passed, command_readable, command_passed, command_refuses, command_ends, command_goes_on}
use Rattle.job.proofs.laws.MadeLaws.{operation_named, made_length}
use Rattle.job.proofs.laws.OrderLaws.{ends_there}
use Rattle.job.proofs.laws.Accepted.{Reached, reached_next, reached_end, commands_after}

-- an operation does not see later results
operation_later : (m : Maker) (rs t : List Model) → names_bad m (length rs) ≡ false → operation m (rs ++ t) ≡ operation m rs
operation_later m rs t n =
    sym (operation_named (length rs) (rs ++ t) m n) ∙ ap (λ (l : List Model). operation m l) (take_at rs t (length rs) refl)

certificates_later : {cs : List Command} {rs : List Model} → Made cs rs → (t : List Model) → map (certificate_by (rs ++ t)) cs ≡ map (certificate_by rs) cs
certificates_later nothing t = refl
certificates_later (one_more {cs} {rs} {c} d m n e) t =
    let x : List Model = c.model ∷ [] in
    let same : operation m ((rs ++ x) ++ t) ≡ operation m (rs ++ x) =
    ap (λ (l : List Model). operation m l) (append_assoc rs x t) ∙ operation_later m rs (x ++ t) n ∙ sym (operation_later m rs x n) in
    map-append (certificate_by ((rs ++ x) ++ t)) cs (result m ∷ [])
    ∙ ap₂ (λ (l : List Certificate) (o : Outcome Certificate). l ++ (payload o ∷ []))
    (ap (λ (l : List Model). map (certificate_by l) cs) (append_assoc rs x t) ∙ certificates_later d (x ++ t) ∙ sym (certificates_later d x)) same
    ∙ sym (map-append (certificate_by (rs ++ x)) cs (result m ∷ []))

-- one more result
pub certificates_more : {cs : List Command} {rs : List Model} → Made cs rs → (m : Maker) (c : Certificate) → names_bad m (length rs) ≡ false
    → operation m rs ≡ Outcome.accepted c
    → map (certificate_by (rs ++ (c.model ∷ []))) (cs ++ (result m ∷ [])) ≡ map (certificate_by rs) cs ++ (c ∷ [])
certificates_more {cs} {rs} d m c n e =
    map-append (certificate_by (rs ++ (c.model ∷ []))) cs (result m ∷ [])
    ∙ ap₂ (λ (l : List Certificate) (o : Outcome Certificate). l ++ (payload o ∷ []))
    (certificates_later d (c.model ∷ [])) (operation_later m rs (c.model ∷ []) n ∙ e)

-- ---- along a job

-- a command that is done adds its certificate
added : {cs : List Command} {rs : List Model} (c : Command) → Made cs rs → bad_names c (length rs) ≡ false → Passed (operation_places c rs)
    → map (certificate_by (results_after c rs)) (commands_after c cs) ≡ map (certificate_by rs) cs ++ added_by c rs
added edition d n f = sym (append-nil _)
added {cs} {rs} (result m) d n f =
    let e = operation_passed m rs f in
    certificates_more d m (payload (operation m rs)) n e ∙ ap (λ (o : Outcome Certificate). map (certificate_by rs) cs ++ added_of o) (sym e)
added finish d n f = sym (append-nil _)
added unknown d n f = sym (append-nil _)

-- command k moves on: reading comes to the next command with the commands of all results, and these are their certificates
pub record MovesOn (job : List ℕ) (k : ℕ) (rs : List Model) (at : ℕ) (h : Reached job k rs at) (rs' : List Model) (at' : ℕ) : Type 0 where
  pub there : Reached job (k + 1) rs' at'
  pub added : map (certificate_by rs') there.cs ≡ map (certificate_by rs) h.cs ++ added_at job k rs at

pub certificates_onward : {job : List ℕ} {k : ℕ} {rs : List Model} {at : ℕ} → Reaches job k rs at → (h : Reached job k rs at)
    → {rs' : List Model} {at' : ℕ} → command job k rs at ≡ more rs' at' → MovesOn job k rs at h rs' at'
unfolding command_places added_at
certificates_onward {job} {k} {rs} {at} r h {rs'} {at'} go = by (first_or_passed (command_places job k rs at)) (is_last job k rs at) refl
  where
    c : Command
    c = command_read job k (length rs) at

    by : ((n : ℕ) × First (command_places job k rs at) n) ⊎ Passed (command_places job k rs at)
        → (t : Bool) → is_last job k rs at ≡ t → MovesOn job k rs at h rs' at'
    by (inl g) t e = let z : ◌≡◌ {A = ℕ} 0 1 = cc (go, command_refuses job k rs at g.1) in absurd (omega arith)
    by (inr g) true e = let z : ◌≡◌ {A = ℕ} 0 1 = cc (go, command_ends job k rs at g e) in absurd (omega arith)
    by (inr g) false e =
        let o = command_goes_on job k rs at g e in
        let er : results_after c rs ≡ rs' = cc (go, o) in
        let ea : next_at job k (length rs) at ≡ at' = cc (go, o) in
        let reading : Passed (reading_places job k (length rs) at) = ((passed_append (reading_places job k (length rs) at) (operation_places c rs)).0 g).0 in
        let m : MovesOn job k rs at h (results_after c rs) (next_at job k (length rs) at) = record {
          there = reached_next r h g e;
          added =
              added c h.made (command_readable job k rs at g).names_good (command_passed job k rs at g)
              ∙ ap (λ (l : List Certificate). map (certificate_by rs) h.cs ++ l) (sym (passing_passed (reading_places job k (length rs) at) _ _ reading));
        } in
        subst₂ (MovesOn job k rs at h) er ea m

-- ---- where a job ends

-- as many as there are results
pub certificates_count : {job : List ℕ} {k : ℕ} {rs : List Model} {at : ℕ} (h : Reached job k rs at) → length (map (certificate_by rs) h.cs) ≡ length rs
certificates_count {rs = rs} h = length-map h.cs (certificate_by rs) ∙ made_length h.made

-- a job that is refused
pub certificates_refused : (job : List ℕ) {n k : ℕ} → job_outcome job ≡ refused n k → job_certificates job ≡ []
unfolding job_certificates
certificates_refused job {n} {k} e = rw e (by (job_reading job))
  where
    by : (r : JobReading) → certificates_in r (refused n k) ≡ []
    by (well cs) = refl
    by (ill m j) = refl

-- a job that is accepted
pub certificates_accepted : (job : List ℕ) (cs : List Command) (rs : List Model) → job_reading job ≡ well cs → job_outcome job ≡ accepted rs
    → job_certificates job ≡ map (certificate_by rs) cs
unfolding job_certificates
certificates_accepted job cs rs e f = rw (e, f)

-- command k is the end
pub certificates_end : {job : List ℕ} {k : ℕ} {rs : List Model} {at : ℕ} → Reaches job k rs at → (h : Reached job k rs at)
    → command job k rs at ≡ over → job_certificates job ≡ map (certificate_by rs) h.cs
certificates_end {job} {k} {rs} {at} r h go = by (first_or_passed (command_places job k rs at)) (is_last job k rs at) refl
  where
    by : ((n : ℕ) × First (command_places job k rs at) n) ⊎ Passed (command_places job k rs at)
        → (t : Bool) → is_last job k rs at ≡ t → job_certificates job ≡ map (certificate_by rs) h.cs
    by (inl g) t e = let z : ◌≡◌ {A = ℕ} 0 1 = cc (go, command_refuses job k rs at g.1) in absurd (omega arith)
    by (inr g) true e = certificates_accepted job h.cs rs (reached_end r h g e) (ends_there r go)
    by (inr g) false e = let z : ◌≡◌ {A = ℕ} 0 1 = cc (go, command_goes_on job k rs at g e) in absurd (omega arith)

-- a command that does not move on adds none
abbrev pub Stops : Step (List Model) → Type 0
Stops (more rs next) = ⊥
Stops over = Unit {0}
Stops (Step.refused n) = Unit {0}

none_of : (rs : List Model) (next : ℕ) (o : Outcome Certificate) (s : Step (List Model)) → resulting rs next o ≡ s → Stops s → added_of o ≡ []
none_of rs next (Outcome.accepted c) s e stops = absurd (subst Stops (sym e) stops)
none_of rs next (Outcome.refused k c) s e stops = refl

none_by : (c : Command) (rs : List Model) (next : ℕ) (s : Step (List Model)) → performed c rs next ≡ s → Stops s → added_by c rs ≡ []
none_by edition rs next s e stops = refl
none_by (result m) rs next s e stops = none_of rs next (operation m rs) s e stops
none_by finish rs next s e stops = refl
none_by unknown rs next s e stops = refl

pub certificates_none : (job : List ℕ) (k : ℕ) (rs : List Model) (at : ℕ) (s : Step (List Model)) → command job k rs at ≡ s → Stops s
    → added_at job k rs at ≡ []
unfolding command added_at
certificates_none job k rs at s e stops = by (first_or_passed (reading_places job k (length rs) at))
  where
    by : ((m : ℕ) × First (reading_places job k (length rs) at) m) ⊎ Passed (reading_places job k (length rs) at)
        → added_at job k rs at ≡ []
    by (inl f) = passing_first _ _ f.1
    by (inr f) =
        passing_passed (reading_places job k (length rs) at) _ _ f
        ∙ none_by (command_read job k (length rs) at) rs (next_at job k (length rs) at) s
        (sym (passing_passed (reading_places job k (length rs) at) _ _ f) ∙ e) stops
