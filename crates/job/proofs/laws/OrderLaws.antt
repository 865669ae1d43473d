-- What the order means: a job is refused with (n, k) exactly if that is the first place, in 01's order, whose condition
-- holds; it is accepted exactly if it meets none.
use Rattle.std.specs.Prelude.{◌≡◌, refl, Bool, true, false, ◌&&◌, List, [], ◌∷◌, ◌⊎◌, ◌↔◌, ℕ, zero, suc, ◌+◌, ◌-◌, ◌≤◌, ◌<◌, leb, length}
use Rattle.std.proofs.Common.{ap, sym, subst, subst₂, ◌∙◌, inl, inr, arith, leb-false, length-append}
use Rattle.model.proofs.laws.PlaceLaws.{first_or_passed}
use Rattle.model.specs.definitions.Outcomes.{payload, Passed, First}
use Rattle.model.specs.declared.types.Model.{Model}
use Rattle.job.specs.definitions.Operations.{operation}
use Rattle.job.specs.definitions.Decode.{maker_at, command_at}
use Rattle.job.specs.definitions.Reading.{shape_at, command_read, next_at, max_results, makes_result}
use Rattle.job.specs.definitions.Outcomes.{JobOutcome, accepted, refused}
use Rattle.job.specs.definitions.Step.{Step, more, over, command}
use Rattle.job.specs.definitions.Run.{onward, run, job_outcome}
use Rattle.job.specs.definitions.Order.{results_after, command_places, is_last, Reaches, start, next, RefusesAt, EndsWith}
use Rattle.job.proofs.laws.CommandLaws.{command_readable, command_refuses, command_ends, command_goes_on}
use Rattle.job.specs.declared.types.Kind.{Kind}
use Rattle.job.specs.declared.types.Kind.TheVariants.{End, Edition, Result, Unknown}

-- ---- a command that is reached

few_results : (kind : Kind) (job : List ℕ) (at : ℕ) (rs : List Model) → length rs ≤ max_results
    → (makes_result kind && leb max_results (length rs)) ≡ false → length (results_after (command_at kind job at) rs) ≤ max_results
few_results End job at rs h e = h
few_results Edition job at rs h e = h
few_results (Result o) job at rs h e =
    omega (arith, leb-false max_results (length rs) e, length-append rs ((payload (operation (maker_at o job at) rs)).model ∷ []))
few_results Unknown job at rs h e = h

pub record InBounds (job : List ℕ) (k : ℕ) (rs : List Model) (at : ℕ) : Type 0 where
  pub number : k ≤ at
  pub position : at ≤ length job
  pub results : length rs ≤ max_results

pub reaches_bounds : {job : List ℕ} {k : ℕ} {rs : List Model} {at : ℕ} → Reaches job k rs at → InBounds job k rs at
reaches_bounds start = omega arith
reaches_bounds {job} (next {k} {rs} {at} r f e) =
    let b = reaches_bounds r in
    let d = command_readable job k rs at f in
    record {
      number = omega (arith, b.number);
      position = d.room;
      results = few_results (shape_at job k (length rs) at).kind job at rs b.results d.space;
    }

-- ---- what is left to run from there is the whole job

run-suc : (f : ℕ) (job : List ℕ) (k : ℕ) (rs : List Model) (at : ℕ)
    → run (suc f) job k rs at ≡ onward (run f job) k rs (command job k rs at)
unfolding run
run-suc f job k rs at = refl

module _ {job : List ℕ} {k : ℕ} {rs : List Model} {at : ℕ} (r : Reaches job k rs at)
    (left : run (length job + 1 - k) job k rs at ≡ job_outcome job) where
  by_command : (s : Step (List Model)) → command job k rs at ≡ s → job_outcome job ≡ onward (run (length job + 1 - (k + 1)) job) k rs s
  by_command s e =
      let b = reaches_bounds r in
      let f : length job + 1 - k ≡ suc (length job + 1 - (k + 1)) = omega (arith, b) in
      sym left ∙ ap (λ (f : ℕ). run f job k rs at) f ∙ run-suc (length job + 1 - (k + 1)) job k rs at
      ∙ ap (onward (run (length job + 1 - (k + 1)) job) k rs) e

reaches_left : {job : List ℕ} {k : ℕ} {rs : List Model} {at : ℕ} → Reaches job k rs at
    → run (length job + 1 - k) job k rs at ≡ job_outcome job
unfolding job_outcome
reaches_left {job} start = ap (λ (f : ℕ). run f job 0 [] 0) (omega arith)
reaches_left {job} (next {k} {rs} {at} r f e) =
    sym (by_command r (reaches_left r) (more _ _) (command_goes_on job k rs at f e))

-- what the whole job gives, by what the command does there
module _ {job : List ℕ} {k : ℕ} {rs : List Model} {at : ℕ} (r : Reaches job k rs at) where
  pub stops_there : {n : ℕ} → command job k rs at ≡ Step.refused n → job_outcome job ≡ refused n k
  stops_there {n} e = by_command r (reaches_left r) (Step.refused n) e

  pub ends_there : command job k rs at ≡ over → job_outcome job ≡ accepted rs
  ends_there e = by_command r (reaches_left r) over e

  -- a command that is done moves on within the job, to a command that is reached
  pub moves_on : {rs' : List Model} {at' : ℕ} → command job k rs at ≡ more rs' at' → (at < at') × Reaches job (k + 1) rs' at'
  moves_on {rs'} {at'} h = by (first_or_passed (command_places job k rs at)) (is_last job k rs at) refl
    where
      by : ((n : ℕ) × First (command_places job k rs at) n) ⊎ Passed (command_places job k rs at)
          → (t : Bool) → is_last job k rs at ≡ t → (at < at') × Reaches job (k + 1) rs' at'
      by (inl g) t e = let z : ◌≡◌ {A = ℕ} 0 1 = cc (h, command_refuses job k rs at g.1) in absurd (omega arith)
      by (inr g) true e = let z : ◌≡◌ {A = ℕ} 0 1 = cc (h, command_ends job k rs at g e) in absurd (omega arith)
      by (inr g) false e =
          let o = command_goes_on job k rs at g e in
          let er : results_after (command_read job k (length rs) at) rs ≡ rs' = cc (h, o) in
          let ea : next_at job k (length rs) at ≡ at' = cc (h, o) in
          (omega arith, subst₂ (Reaches job (k + 1)) er ea (next r g e))

-- ---- every outcome is one of the two

module _ (job : List ℕ) where
  abbrev Meant : JobOutcome (List Model) → Type 0
  Meant (refused n k) = RefusesAt job n k
  Meant (accepted rs) = EndsWith job rs

  -- from command k on, with enough commands left
  meant : (f k : ℕ) (rs : List Model) (at : ℕ) → Reaches job k rs at → f + k ≡ length job + 1 → Meant (job_outcome job)
  meant zero k rs at r h = let b = reaches_bounds r in absurd (omega (arith, b))
  meant (suc f) k rs at r h =
      by (λ rs' at' r'. meant f (k + 1) rs' at' r' (omega arith)) (first_or_passed (command_places job k rs at)) (is_last job k rs at)
      refl
    where
      by : ((rs' : List Model) (at' : ℕ) → Reaches job (k + 1) rs' at' → Meant (job_outcome job))
          → ((n : ℕ) × First (command_places job k rs at) n) ⊎ Passed (command_places job k rs at)
          → (t : Bool) → is_last job k rs at ≡ t → Meant (job_outcome job)
      by on (inl g) t e = subst Meant (sym (stops_there r (command_refuses job k rs at g.1))) (rs, at, r, g.1)
      by on (inr g) true e = subst Meant (sym (ends_there r (command_ends job k rs at g e))) (k, at, r, g, e)
      by on (inr g) false e = on _ _ (next r g e)

  whole : Meant (job_outcome job)
  whole = meant (length job + 1) 0 [] 0 start (omega arith)

  refuses : {n k : ℕ} → RefusesAt job n k → job_outcome job ≡ refused n k
  refuses {n} {k} m = stops_there m.2 (command_refuses job k m.0 m.1 m.3)

  -- refused with (n, k) exactly if that is the first place, in 01's order, whose stated condition holds
  pub refused_exactly : (n k : ℕ) → (job_outcome job ≡ refused n k) ↔ RefusesAt job n k
  refused_exactly n k = (λ e. subst Meant e whole, λ m. refuses m)

  pub accepted_exactly : (rs : List Model) → (job_outcome job ≡ accepted rs) ↔ EndsWith job rs
  accepted_exactly rs = (λ e. subst Meant e whole, λ m. ends_there m.2 (command_ends job m.0 rs m.1 m.3 m.4))

  -- "A job that meets no numbered refusal is accepted"
  pub accepted_unless_refused : ((rs : List Model) × (job_outcome job ≡ accepted rs)) ↔ ((n k : ℕ) → RefusesAt job n k → ⊥)
  accepted_unless_refused = (λ a n k m. let z : ◌≡◌ {A = ℕ} 0 1 = cc (a.1, refuses m) in omega arith, by (job_outcome job) refl)
    where
      by : (o : JobOutcome (List Model)) → job_outcome job ≡ o → ((n k : ℕ) → RefusesAt job n k → ⊥)
          → (rs : List Model) × (job_outcome job ≡ accepted rs)
      by (accepted rs) e h = (rs, e)
      by (refused n k) e h = absurd (h n k ((refused_exactly n k).0 e))
