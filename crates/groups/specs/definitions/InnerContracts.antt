-- What inner functions ask of their callers and answer to them, of the numbers at two places of C, or what is summed of them.
use Rattle.std.specs.Prelude.{◌≡◌, ℕ, ◌<◌, ℤ, nat_abs}
use Rattle.groups.specs.declared.pairs.TwoPlaces.{TwoPlaces}

-- they are smaller than a limit
abbrev pub Below : ℕ → TwoPlaces → Type 0
Below limit r = (nat_abs r.first < limit) × (nat_abs r.second < limit)

-- they are x and y
abbrev pub Holds : TwoPlaces → ℤ → ℤ → Type 0
Holds r x y = (r.first ≡ x) × (r.second ≡ y)
