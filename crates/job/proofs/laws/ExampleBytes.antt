-- Jobs as bytes, for examples. Coefficients are given from the first on, none of them negative.
use Rattle.std.specs.Prelude.{List, [], ◌∷◌, ◌++◌, ℕ, zero, suc, ◌*◌, ◌-◌, ℤ, pos, replicate, length}
use Rattle.model.specs.definitions.Models.{standard_model}
use Rattle.model.specs.declared.types.Candidate.{Candidate}
use Rattle.model.specs.declared.types.Model.{Model}
use Rattle.job.specs.definitions.Reports.{little_endian}

-- natural numbers as four bytes each, the lowest first
abbrev pub words_for : List ℕ → List ℕ
words_for [] = []
words_for (n ∷ ns) = little_endian n ++ words_for ns

abbrev pub block : ℕ → List ℕ → List ℕ
block n cs = n ∷ (words_for cs ++ replicate (132 - 4 * length cs) 0)

abbrev positives : List ℕ → List ℤ
positives [] = []
positives (n ∷ ns) = pos n ∷ positives ns

abbrev pub model_by : ℕ → List ℕ → ℕ → Model
model_by n cs e = standard_model n (positives cs ++ replicate (33 - length cs) (pos 0)) e

abbrev pub candidate_by : ℕ → List ℕ → Candidate
candidate_by n cs = record { degree = n; coefficients = positives cs ++ replicate (33 - length cs) (pos 0) }

-- the bytes of edition 1, some commands, and an end
abbrev pub job : List ℕ → List ℕ
job commands = (0x01 ∷ 1 ∷ []) ++ (commands ++ (0x00 ∷ []))

abbrev pub load_bytes : ℕ → List ℕ → ℕ → List ℕ
load_bytes n cs e = (0x10 ∷ block n cs) ++ words_for (e ∷ [])

-- loads of the constants 1, 2 and −2^28
abbrev pub one : List ℕ
one = load_bytes 0 (1048576 ∷ []) 0

abbrev pub two : List ℕ
two = load_bytes 0 (2097152 ∷ []) 0

abbrev pub lowest : List ℕ
lowest = 0x10 ∷ 0 ∷ 0x00 ∷ 0x00 ∷ 0x00 ∷ 0xF0 ∷ replicate 132 0

abbrev pub repeated : ℕ → List ℕ → List ℕ
repeated zero l = []
repeated (suc n) l = l ++ repeated n l
