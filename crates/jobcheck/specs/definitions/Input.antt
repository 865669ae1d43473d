-- What reading standard input answers. No contract can say which bytes a read of C's brings.
use Rattle.std.specs.Prelude.{List, ℕ, zero, suc, ◌<◌, Option, None, Some, Result, Ok, Err, IfOk, length}
use Rattle.jobcheck.specs.declared.input.InputError.{InputError}
use Rattle.jobcheck.specs.declared.input.InputError.TheVariants.{Unreadable}

-- a read answers an error if it failed, 0 at the end of the input, else how many bytes it brought
abbrev pub read_of : {E : Type 0} → Result ℕ E → Result (Option ℕ) InputError
read_of (Err e) = Err Unreadable
read_of (Ok zero) = Ok None
read_of (Ok (suc n)) = Ok (Some (suc n))

-- a whole input leaves at least one byte of the buffer: one byte too many would have been seen
abbrev pub Inside : Result ℕ InputError → List ℕ → Type 0
Inside r buffer = IfOk r (λ n. n < length buffer)
