-- `products::add_at` meets its contract.
use Rattle.std.proofs.Common.{arith, sym, ◌+ℤ◌, ℤ, pos, get_or, w64, FitsSigned}
use mir.Facts.{to_z-of_z}
use Rattle.ring.specs.laws.Parts.{abs-add}
use Rattle.ring.specs.definitions.Integer.{ℤ_ring}
use Rattle.integer.proofs.laws.Machine.{abs-fits}
use Rattle.chebyshev.proofs.laws.Weight.{weight_at}
use Rattle.chebyshev.proofs.laws.ProductLaws.{add_at_set}
use Rattle.model.proofs.products.add_at.Goals as goal
use Rattle.model.proofs.products.add_at.Goals.{Start}

module _ (s : Start) where
  abbrev x : ℤ
  x = get_or s.args.c.now s.args.k (pos 0)

  fits-x : FitsSigned w64 x
  fits-x = abs-fits w64 x (omega (arith, weight_at s.args.c.now s.args.k, s.requires))

  fits_sum : FitsSigned w64 (x +ℤ s.args.v)
  fits_sum = abs-fits w64 (x +ℤ s.args.v) (omega (arith, abs-add x s.args.v, weight_at s.args.c.now s.args.k, s.requires))

pub overflow_add-c : goal.overflow_add-c
overflow_add-c k = let c = (goal.at.overflow_add-c k).Start in simp (to_z-of_z (fits-x c), to_z-of_z c.ranges.v) (fits_sum c)

pub returns : goal.returns
returns k =
    let c = (goal.at.returns k).Start in
    simp (to_z-of_z (fits-x c), to_z-of_z c.ranges.v, to_z-of_z (fits_sum c)) (sym (add_at_set ℤ_ring c.args.c.now c.args.k c.args.v))
