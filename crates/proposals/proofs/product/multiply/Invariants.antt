-- `product::multiply` meets its contract: the terms that are left give the rest of the walk.
use mathlib.Core.Path.{◌≡◌}
use mathlib.Core.List.{reverse}
use lib.ListN.{length, drop, replicate}
use lib.Ieee.{binary64, add, mul}
use Rattle.chebyshev.specs.definitions.Product.{add_terms_by}
use Rattle.proposals.specs.definitions.Values.{nought}
use Rattle.proposals.proofs.product.multiply.Given as goal

abbrev pub invariant-loop-i : goal.invariant-loop-i
invariant-loop-i l =
    (l.back ≡ reverse l.fn.b) × (length l.c ≡ 33)
    × ((add_terms_by (add binary64) (mul binary64) (l.c, 0) l.i (drop l.i l.fn.a) l.fn.b).0 ≡ (add_terms_by (add binary64) (mul binary64) (replicate 33 nought, 0) 0 l.fn.a l.fn.b).0)
