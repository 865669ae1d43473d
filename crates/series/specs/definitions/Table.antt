-- Document 02, S-3: "Each x^k is expanded in T_0..T_32 with weights times 2^32, all whole numbers; that is a table of 33 × 33
-- entries."
use Rattle.std.specs.Prelude.{List, [], ◌∷◌, ◌++◌, map, ℕ, zero, suc, ◌-◌, ◌^◌, ℤ, pos, replicate}
use Rattle.ring.specs.definitions.Integer.{ℤ_ring}
use Rattle.integer.specs.definitions.Rounding.{floor}
use Rattle.chebyshev.specs.definitions.Neighbours.{neighbour_sums}
use Rattle.model.specs.definitions.Models.{max_degree, coefficient_count}

-- "weights times 2^32"
abbrev pub expansion_unit : ℕ
expansion_unit = 2 ^ 32

-- The weights of T_0..T_k in x^k, times 2^32: row 0 is 2^32, and twice the next row is the sums of the neighbours. "all whole
-- numbers": the halves are exact up to row 32 (`row_twice`, RowLaws.antt).
unfoldable pub expansion_row : ℕ → List ℤ
expansion_row zero = pos expansion_unit ∷ []
expansion_row (suc k) = map (λ n. floor n 2) (neighbour_sums ℤ_ring (expansion_row k))

-- n rows from row k on, one behind the other, each with its 33 places
abbrev pub rows_from : ℕ → ℕ → List ℤ
rows_from zero k = []
rows_from (suc n) k = expansion_row k ++ (replicate (max_degree - k) (pos 0) ++ rows_from n (suc k))

-- "a table of 33 × 33 entries"
unfoldable pub expansion_table : List ℤ
expansion_table = rows_from coefficient_count 0
