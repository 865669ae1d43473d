-- What inner functions ask of their callers. The contract of the entry does not speak of this.
use Rattle.std.specs.Prelude.{◌≡◌, List, ℕ, suc, ◌+◌, ◌*◌, ◌^◌, ◌<◌, ◌≤◌, ℤ, pos, nat_abs, length, get_or}
use Rattle.chebyshev.specs.definitions.Coefficients.{weight}
use Rattle.model.specs.definitions.Models.{coefficient_count}
use Rattle.series.specs.definitions.Table.{expansion_unit, expansion_table}

-- no more terms than rows, a place in the sums for each, and the table
pub record Expandable (sums ps table : List ℤ) : Type 0 where
  pub few : length ps ≤ coefficient_count
  pub room : length ps ≤ length sums
  pub light : weight sums + expansion_unit * weight ps < 2 ^ 63
  pub table_is : table ≡ expansion_table

-- the sums, and a row of which every other entry, the last but one among them, is zero
pub record Addable (sums : List ℤ) (p : ℤ) (row : List ℤ) : Type 0 where
  pub room : length row ≤ length sums
  pub light : weight sums + nat_abs p * weight row < 2 ^ 63
  pub alternate : (i m : ℕ) → suc (suc i) + 2 * m ≡ length row → get_or row i (pos 0) ≡ pos 0
