-- How many numbers lent areas have.
use Rattle.std.specs.Prelude.{ℕ}

-- how many numbers the bounds of an evaluation have
abbrev pub bounds_size : ℕ
bounds_size = 2

-- how many numbers m, N and b are
abbrev pub numbers_size : ℕ
numbers_size = 3

-- how many numbers a selection has: which proposal is chosen, and its radius
abbrev pub selection_size : ℕ
selection_size = 2
