-- The version of the library as one number.
use Rattle.std.specs.Prelude.{ℕ, ◌+◌, ◌*◌}

-- 65536 times the first number, 256 times the second, and the third
abbrev pub library_version : ℕ
library_version = 65536 * 5 + 256 * 1 + 0
