-- Lists of whole numbers that contracts name.
use Rattle.std.specs.Prelude.{List, ℕ, ℤ, pos, replicate}

-- n zeros, shut, so that they are never written out
unfoldable pub zeros : ℕ → List ℤ
zeros n = replicate n (pos 0)
