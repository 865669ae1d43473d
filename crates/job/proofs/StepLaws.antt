-- From the reading of a command to its performance.
use mathlib.Core.Path.{◌≡◌, refl, ap, sym, subst, ◌∙◌}
use mathlib.Core.Bool.{Bool, false}
use mathlib.Core.List.{List, []}
use mathlib.Core.Logic.{◌⊎◌, inl, inr}
use Prim.Native.Nat.{ℕ, ◌≤◌}
use native.Mathlib.Omega.{arith}
use borrow.Author.Tests.{leb-false, lt-leb}
use lib.IntN.{ℤ}
use lib.ListN.{length}
use Rattle.model.specs.definitions.Outcomes.{Passed, First}
use Rattle.model.proofs.laws.PlaceLaws.{passing_passed, passing_unrefused, first_or_passed, passing_first}
use Rattle.model.specs.declared.types.Model.{Model}
use Rattle.job.specs.definitions.Operations.{Maker, Making, of_none, of_one, of_two, making_for, bad_in, names_bad}
use Rattle.job.specs.definitions.Reading.{max_results, shape_at, next_at, reading_places, CommandReading, found, command_reading}
use Rattle.job.specs.definitions.Decode.{command_at}
use Rattle.job.specs.definitions.Step.{refused, performed, command}
use Rattle.job.proofs.laws.CommandLaws.{both_below, Readable, readable}
use Rattle.job.specs.definitions.Work.{work_size}
use Rattle.job.specs.definitions.InnerContracts.{Performable, added_by, added_at}
use Rattle.job.specs.declared.types.Kind.{Kind}

-- ---- what a reading says of the command

-- by what the reading answers
abbrev ByReading : List ℕ → ℕ → List Model → ℕ → CommandReading → Type 0
ByReading job k rs at (found kind next) = command job k rs at ≡ performed (command_at kind job at) rs next
ByReading job k rs at (CommandReading.refused n) = command job k rs at ≡ refused n

by_reading : (job : List ℕ) (k : ℕ) (rs : List Model) (at : ℕ) → ByReading job k rs at (command_reading job k (length rs) at)
unfolding command command_reading
by_reading job k rs at = by (first_or_passed places)
  where
    places : List (Bool × ℕ)
    places = reading_places job k (length rs) at

    by : ((n : ℕ) × First places n) ⊎ Passed places → ByReading job k rs at (command_reading job k (length rs) at)
    by (inl f) = rw (passing_first (found _ _) CommandReading.refused f.1) (passing_first _ refused f.1)
    by (inr f) = rw (passing_passed places (found _ _) CommandReading.refused f) (passing_passed places _ refused f)

module _ (job : List ℕ) (k count : ℕ) (rs : List Model) (at : ℕ) (e : count ≡ length rs) (o : CommandReading)
    (h : command_reading job k count at ≡ o) where
  read_is : ByReading job k rs at o
  read_is = subst (ByReading job k rs at) (ap (λ (n : ℕ). command_reading job k n at) (sym e) ∙ h) (by_reading job k rs at)

pub read_refuses : (job : List ℕ) (k count : ℕ) (rs : List Model) (at n : ℕ) → count ≡ length rs
    → command_reading job k count at ≡ CommandReading.refused n → command job k rs at ≡ refused n
read_refuses job k count rs at n e h = read_is job k count rs at e (CommandReading.refused n) h

pub read_performs : (job : List ℕ) (k count : ℕ) (rs : List Model) (at : ℕ) (kind : Kind) (next : ℕ) → count ≡ length rs
    → command_reading job k count at ≡ found kind next → command job k rs at ≡ performed (command_at kind job at) rs next
read_performs job k count rs at kind next e h = read_is job k count rs at e (found kind next) h

-- the certificates that it adds
abbrev AddsByReading : List ℕ → ℕ → List Model → ℕ → CommandReading → Type 0
AddsByReading job k rs at (found kind next) = added_at job k rs at ≡ added_by (command_at kind job at) rs
AddsByReading job k rs at (CommandReading.refused n) = added_at job k rs at ≡ []

adds_by_reading : (job : List ℕ) (k : ℕ) (rs : List Model) (at : ℕ) → AddsByReading job k rs at (command_reading job k (length rs) at)
unfolding added_at command_reading
adds_by_reading job k rs at = by (first_or_passed places)
  where
    places : List (Bool × ℕ)
    places = reading_places job k (length rs) at

    by : ((n : ℕ) × First places n) ⊎ Passed places → AddsByReading job k rs at (command_reading job k (length rs) at)
    by (inl f) = rw (passing_first (found _ _) CommandReading.refused f.1) (passing_first _ _ f.1)
    by (inr f) = rw (passing_passed places (found _ _) CommandReading.refused f) (passing_passed places _ _ f)

pub read_adds : (job : List ℕ) (k count : ℕ) (rs : List Model) (at : ℕ) (o : CommandReading) → count ≡ length rs
    → command_reading job k count at ≡ o → AddsByReading job k rs at o
read_adds job k count rs at o e h =
    subst (AddsByReading job k rs at) (ap (λ (n : ℕ). command_reading job k n at) (sym e) ∙ h) (adds_by_reading job k rs at)

module _ (job : List ℕ) (k count at : ℕ) (kind : Kind) (next : ℕ) (work : List ℤ)
    (h : command_reading job k count at ≡ found kind next) where
  abbrev places : List (Bool × ℕ)
  places = reading_places job k count at

  refused_not_found : (n : ℕ) → ¬ (CommandReading.refused n ≡ found kind next)
  refused_not_found n e = let z : ◌≡◌ {A = ℕ} 0 1 = cc e in absurd (omega arith)

  found_passed : Passed places × (found kind next ≡ found (shape_at job k count at).kind (next_at job k count at))
  unfolding command_reading
  found_passed = passing_unrefused places _ (found kind next) CommandReading.refused refused_not_found h

  kind_is : (shape_at job k count at).kind ≡ kind
  kind_is = cc found_passed.1

  found_readable : Readable job k count at
  found_readable = readable job k count at found_passed.0

  pub found_performable : count ≤ max_results → work_size ≤ length work → Performable kind job count at work
  found_performable few long =
      let r = found_readable in record {
        names = rw kind_is at r.names_good;
        space = rw kind_is at r.space;
        few = few;
        room = rw kind_is at r.room;
        long = long;
      }

-- ---- a command that makes a result names results below 32

module _ (count : ℕ) (few : count ≤ max_results) where
  making_below : (r : Making) → bad_in r count ≡ false → bad_in r max_results ≡ false
  making_below (of_none g) h = refl
  making_below (of_one i g) h = lt-leb max_results i (omega (arith, leb-false count i h))
  making_below (of_two i j g) h =
      let b = both_below count i j h in
      simp (lt-leb max_results i (omega (arith, b)), lt-leb max_results j (omega (arith, b)))

  pub names_below : (m : Maker) → names_bad m count ≡ false → names_bad m max_results ≡ false
  names_below m h = making_below (making_for m) h
