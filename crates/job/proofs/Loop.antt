-- The loop over a job's commands: its invariant, a turn, and its ends.
use mathlib.Core.Path.{◌≡◌, refl, ap, sym, ◌∙◌, subst⁻¹}
use mathlib.Core.Logic.{inr}
use mathlib.Core.List.{List, [], ◌++◌}
use Prim.Native.Nat.{ℕ, ◌+◌, ◌≤◌, ◌<◌}
use native.Mathlib.Omega.{arith}
use Rattle.std.specs.Prelude.{Ok, Err, Some, None}
use lib.IntN.{ℤ}
use lib.ListN.{length, drop}
use Rattle.model.specs.definitions.Outcomes.{number_of}
use Rattle.integer.specs.definitions.Lists.{zeros}
use Rattle.model.specs.declared.types.Model.{Model}
use Rattle.model.specs.declared.types.Refusal.{Refusal}
use Rattle.job.specs.definitions.Outcomes.{accepted, refused}
use Rattle.job.specs.definitions.Step.{Step, more, over, command}
use Rattle.job.specs.definitions.Run.{job_outcome}
use Rattle.job.specs.definitions.Work.{work_size, work_with, result_words}
use Rattle.job.specs.definitions.Order.{start}
use Rattle.job.proofs.laws.OrderLaws.{reaches_bounds, stops_there, ends_there, moves_on, refused_exactly}
use Rattle.job.specs.definitions.InnerContracts.{CodeStep, Stepped, StepsBy, RecordsBy, ClearedRoom, recorded_from, added_at}
use Rattle.job.specs.definitions.Reader.{read_from, job_reading}
use Rattle.job.specs.definitions.Reports.{zero_bytes, room_size}
use Rattle.job.proofs.laws.CertificateLaws.{certificates_onward}
use Rattle.job.specs.declared.types.Report.{Report}
use Rattle.job.specs.declared.types.Progress.{Progress}
use Rattle.job.specs.definitions.Requirement.{Requirement3, nothing}
use Rattle.job.proofs.laws.RequirementLaws.{refused_required}
use Rattle.job.proofs.Results.{behind}
use Rattle.job.proofs.laws.RecordLaws.{room_empty}
use Rattle.job.proofs.LoopRooms.{room_again, room_ended, room_refused}
use Rattle.job.proofs.Requirement.{requirement}
use Rattle.job.proofs.LoopStates.{Going, Ran}

pub going_begins : (report : Report) (job : List ℕ) (w : List ℤ) (room : List ℕ) → work_size ≤ length w
    → w ≡ zeros work_size ++ drop work_size w → ClearedRoom report room → Going report job w w room room 0 0 0
unfolding work_with result_words job_reading
going_begins report job w room long e r = record {
  rs = [];
  reaches = start;
  holds = record { work_is = e; count_is = refl; sized = tt };
  long = long;
  same = refl;
  few = omega arith;
  number = omega arith;
  position = omega arith;
  there = record { cs = []; made = nothing; left = ap (λ (f : ℕ). read_from f job 0 [] 0) (omega arith) };
  room_is = r.zero ∙ ap (λ (l : List ℕ). l ++ drop (room_size report) room) (sym (room_empty report));
  roomy = r.long;
  same_room = refl;
}

module _ {report : Report} {job : List ℕ} {begun work : List ℤ} {bare room : List ℕ} {at k count : ℕ}
    (g : Going report job begun work bare room at k count) (work' : List ℤ) (room' : List ℕ)
    (wrote : room' ≡ recorded_from report room count (added_at job k g.rs at)) where
  abbrev t : List ℤ
  t = drop work_size begun

  abbrev u : List ℕ
  u = drop (room_size report) bare

  pub going_again : (s : Step (List Model)) (p : Progress) → command job k g.rs at ≡ s → Stepped (Ok (Some p)) work' g.rs t s
      → length work' ≡ length work → length room' ≡ length room → (at < p.next) × Going report job begun work' bare room' p.next (k + 1) p.results
  going_again (more rs' next) p e d l lr =
      let ea : p.next ≡ next = cc d.answer in
      let ec : p.results ≡ length rs' = cc d.answer in
      let m = moves_on g.reaches e in
      let n = certificates_onward g.reaches g.there e in
      let b = reaches_bounds m.1 in
      subst⁻¹ (λ (x : ℕ). (at < x) × Going report job begun work' bare room' x (k + 1) p.results) ea (
        m.0,
        record {
          rs = rs';
          reaches = m.1;
          holds = record { work_is = d.holds.work_is; count_is = ec; sized = d.holds.sized };
          long = g.long;
          same = l ∙ g.same;
          few = omega (arith, b);
          number = omega (arith, b);
          position = omega (arith, b);
          there = n.there;
          room_is = room_again report u g.there g.holds.count_is g.room_is wrote n b.results;
          roomy = g.roomy;
          same_room = lr ∙ g.same_room;
        },
      )
  going_again over p e d l lr = let z : ◌≡◌ {A = ℕ} 0 1 = cc d.answer in absurd (omega arith)
  going_again (Step.refused n) p e d l lr = let z : ◌≡◌ {A = ℕ} 0 1 = cc d.answer in absurd (omega arith)

  pub going_ends : (s : Step (List Model)) → command job k g.rs at ≡ s → Stepped (Ok None) work' g.rs t s
      → Ran report job begun bare (Ok count) work' room'
  going_ends over e d =
      let o : job_outcome job ≡ accepted g.rs = ends_there g.reaches e in
      record {
        answer = rw o (ap accepted g.holds.count_is);
        work_is = rw o d.holds.work_is;
        claim = subst⁻¹ (λ (n : ℕ). Requirement3 [] job (accepted n) work') g.holds.count_is (requirement job g.rs o work' t d.holds);
        room_is = room_ended report u g.there g.holds.count_is g.room_is wrote g.reaches e;
      }
  going_ends (more rs' next) e d = let z : ◌≡◌ {A = ℕ} 0 1 = cc d.answer in absurd (omega arith)
  going_ends (Step.refused n) e d = let z : ◌≡◌ {A = ℕ} 0 1 = cc d.answer in absurd (omega arith)

  -- after a refusal the area and the room are cleared
  pub going_stops : (s : Step (List Model)) (v : Refusal) (work'' : List ℤ) (room'' : List ℕ) → command job k g.rs at ≡ s
      → Stepped (Err v) work' g.rs t s → work'' ≡ zeros work_size ++ drop work_size work'
      → room'' ≡ zero_bytes (room_size report) ++ drop (room_size report) room' → Ran report job begun bare (Err (record { refusal = v; command = k })) work'' room''
  unfolding work_with result_words
  going_stops (Step.refused n) v work'' room'' e d c cr =
      let b = reaches_bounds g.reaches in
      let o : job_outcome job ≡ refused n k = stops_there g.reaches e in
      let en : number_of v ≡ n = cc d.answer in
      record {
        answer = rw (o, en);
        work_is = rw o (c ∙ ap (λ (l : List ℤ). zeros work_size ++ l) (behind d.holds b.results));
        claim = refused_required (inr (tt, (refused_exactly job n k).0 o)) (number_of v) k work'';
        room_is = room_refused report u g.there g.holds.count_is g.room_is wrote b.results e o cr;
      }
  going_stops over v work'' room'' e d c cr = let z : ◌≡◌ {A = ℕ} 0 1 = cc d.answer in absurd (omega arith)
  going_stops (more rs' next) v work'' room'' e d c cr = let z : ◌≡◌ {A = ℕ} 0 1 = cc d.answer in absurd (omega arith)

-- the same where the step is known by its contract, for every list of results that the work area can hold
module _ {report : Report} {job : List ℕ} {begun work : List ℤ} {bare room : List ℕ} {at k count : ℕ}
    (g : Going report job begun work bare room at k count) (work' : List ℤ) (room' : List ℕ)
    (records : RecordsBy report room room' work count (λ rs. added_at job k rs at)) where
  abbrev Does : CodeStep → Type 0
  Does r = StepsBy r work work' count (λ rs. command job k rs at)

  recorded : room' ≡ recorded_from report room count (added_at job k g.rs at)
  recorded = records g.rs (drop work_size begun) g.holds

  pub turn_again : {p : Progress} → Does (Ok (Some p)) → length work' ≡ length work → length room' ≡ length room
      → (at < p.next) × Going report job begun work' bare room' p.next (k + 1) p.results
  turn_again {p} d = going_again g work' room' recorded (command job k g.rs at) p refl (d g.rs (drop work_size begun) g.holds)

  pub turn_ends : Does (Ok None) → Ran report job begun bare (Ok count) work' room'
  turn_ends d = going_ends g work' room' recorded (command job k g.rs at) refl (d g.rs (drop work_size begun) g.holds)

  pub turn_stops : {v : Refusal} {work'' : List ℤ} {room'' : List ℕ} → Does (Err v) → work'' ≡ zeros work_size ++ drop work_size work'
      → room'' ≡ zero_bytes (room_size report) ++ drop (room_size report) room'
      → Ran report job begun bare (Err (record { refusal = v; command = k })) work'' room''
  turn_stops {v} {work''} {room''} d = going_stops g work' room' recorded (command job k g.rs at) v work'' room'' refl (d g.rs (drop work_size begun) g.holds)
