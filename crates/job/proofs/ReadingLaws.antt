-- Reading a command, with its shape at hand.
use mathlib.Core.Path.{◌≡◌}
use mathlib.Core.Bool.{Bool, ◌&&◌}
use mathlib.Core.List.{List, [], ◌∷◌}
use Prim.Native.Nat.{ℕ, ◌+◌}
use lib.Dec.{leb, ltb}
use lib.ListN.{length}
use Rattle.model.specs.definitions.Outcomes.{passing}
use Rattle.job.specs.definitions.Reading.{shape_at, max_results, bad_kind, bad_values, bad_bytes, makes_result, is_end, reading_places, CommandReading, found, command_reading}
use Rattle.job.specs.declared.types.Shape.{Shape}
use Rattle.job.proofs.KindLaws.{agrees}

module _ (job : List ℕ) (k count at : ℕ) (s : Shape) where
  abbrev next : ℕ
  next = at + 1 + s.width

  abbrev pub places_with : List (Bool × ℕ)
  places_with =
      (leb (length job) at, 10)
      ∷ (bad_kind k s.kind, 9)
      ∷ (ltb (length job) next, 10)
      ∷ (bad_values s.values job at, 9)
      ∷ (bad_bytes s.names job at count, 12)
      ∷ (makes_result s.kind && leb max_results count, 13)
      ∷ (is_end s.kind && ltb next (length job), 11)
      ∷ []

  -- what comes of the places from one of them on
  abbrev pub reading_with : List (Bool × ℕ) → CommandReading
  reading_with ps = passing ps (found s.kind next) CommandReading.refused

  pub read_with : s ≡ shape_at job k count at → command_reading job k count at ≡ reading_with places_with
  unfolding command_reading reading_places
  read_with e = rw (e, (agrees (shape_at job k count at).kind).named job at count)
