-- The degrees of a job's results, as its commands tell them before any model is checked.
use Rattle.std.specs.Prelude.{List, [], ◌∷◌, ◌++◌, ℕ, ◌+◌, min, max, get_or}
use Rattle.model.specs.definitions.Models.{max_degree}
use Rattle.model.specs.definitions.Multiply.{kept_degree}
use Rattle.job.specs.definitions.Decode.{Command, edition, result, finish, unknown}
use Rattle.job.specs.definitions.Operations.{Maker, load, add, subtract, multiply, quotient, root}

-- the degree of result i
abbrev pub degree_at : List ℕ → ℕ → ℕ
degree_at ds i = get_or ds i 0

-- 02, S-27: "a block's degree byte above 32 counting as 32"
abbrev pub block_degree : ℕ → ℕ
block_degree d = min d max_degree

-- the degree of a maker's result after results of the degrees ds: of a load and of h the block's; "Add and subtract: … the larger
-- degree"; multiply "min(d, sum of the degrees)"
unfoldable pub maker_degree : Maker → List ℕ → ℕ
maker_degree (load m) ds = block_degree m.degree
maker_degree (add i j) ds = max (degree_at ds i) (degree_at ds j)
maker_degree (subtract i j) ds = max (degree_at ds i) (degree_at ds j)
maker_degree (multiply i j d) ds =
    let n = degree_at ds i in let m = degree_at ds j in min (kept_degree d n m) (n + m)
maker_degree (quotient i j h w) ds = block_degree h.degree
maker_degree (root rule i h w) ds = block_degree h.degree

-- the degrees behind a command
abbrev pub degrees_after : Command → List ℕ → List ℕ
degrees_after edition ds = ds
degrees_after (result m) ds = ds ++ (maker_degree m ds ∷ [])
degrees_after finish ds = ds
degrees_after unknown ds = ds
