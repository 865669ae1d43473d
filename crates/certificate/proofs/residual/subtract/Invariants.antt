-- `residual::subtract` meets its contract.
use mathlib.Core.List.{List}
use lib.IntN.{ℤ}
use lib.ListN.{length, take}
use Rattle.integer.proofs.laws.Filling.{Filling}
use Rattle.certificate.specs.definitions.InnerContracts.{residual_list}
use Rattle.certificate.proofs.residual.subtract.Given as goal

-- the places of f, as they become
abbrev pub changed : List ℤ → List ℤ → List ℤ
changed part f = residual_list (take (length f) part) f

abbrev pub invariant-loop-k : goal.invariant-loop-k
invariant-loop-k l = Filling (changed l.initial.part l.f) l.initial.part l.part 0 (length l.f) l.k
