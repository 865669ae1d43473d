-- Loops that write zeros from the front.
use Rattle.std.specs.Prelude.{◌≡◌, List, ◌++◌, ℕ, ◌+◌, ◌≤◌, ◌<◌, ℤ, pos, length, get_or, set}
use Rattle.std.proofs.Common.{sym, arith}
use Rattle.std.proofs.lemmas.List.{length-replicate, get_or-replicate, replicate-append-replicate}
use Rattle.integer.specs.definitions.Lists.{zeros}
use Rattle.integer.proofs.laws.Filling.{Filling, begins, turn, whole}

pub length-zeros : (n : ℕ) → length (zeros n) ≡ n
unfolding zeros
length-zeros n = length-replicate n (pos 0)

at_zeros : (n i : ℕ) → i < n → get_or (zeros n) i (pos 0) ≡ pos 0
unfolding zeros
at_zeros n i h = get_or-replicate n i (pos 0) (pos 0) h

pub zeros-append : (m n : ℕ) → zeros m ++ zeros n ≡ zeros (m + n)
unfolding zeros
zeros-append m n = replicate-append-replicate m n (pos 0)

-- the first n numbers of a list, i of them cleared
abbrev pub Clearing : ℕ → List ℤ → List ℤ → ℕ → Type 0
Clearing n start l i = Filling (zeros n) start l 0 n i

pub clearing_begins : (n : ℕ) (start : List ℤ) → n ≤ length start → Clearing n start start 0
clearing_begins n start h = begins (zeros n) start 0 n (length-zeros n) (omega arith)

pub clearing_turn : {n : ℕ} {start l : List ℤ} {i : ℕ} → Clearing n start l i → i < n → Clearing n start (set l i (pos 0)) (i + 1)
clearing_turn {n} {start} {l} {i} f h = turn i (pos 0) (pos 0) f h (omega arith) (sym (at_zeros n i h))

-- a whole list
pub clearing_ends : {n : ℕ} {start l : List ℤ} {i : ℕ} → Clearing n start l i → n ≤ i → length start ≡ n → l ≡ zeros n
clearing_ends f h e = whole f h e
