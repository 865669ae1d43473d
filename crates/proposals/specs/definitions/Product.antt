-- "A product adds its pairs to zero by rising i (first-named factor), then rising j, at i+j before |i−j|, and halves last, each
-- step rounded once." The walk is that of whole numbers (chebyshev's Product.antt), with f64's sum and product.
use Rattle.std.specs.Prelude.{List, map, ℕ, replicate, Float}
use Rattle.std.specs.Float.{binary64}
use Rattle.std.specs.Float.Ieee.{add, mul, div}
use Rattle.chebyshev.specs.definitions.Product.{add_terms_by}
use Rattle.model.specs.definitions.Models.{coefficient_count}
use Rattle.proposals.specs.definitions.Values.{nought, two}

unfoldable pub half : Float → Float
half x = div binary64 x two

-- the walk from +0, in a list of the given width: places beyond it are dropped
unfoldable pub product_wide : ℕ → List Float → List Float → List Float
product_wide width a b = map half (add_terms_by (add binary64) (mul binary64) (replicate width nought, 0) 0 a b).0

-- "Each list, product and proposal has degree 32."
abbrev pub product : List Float → List Float → List Float
product = product_wide coefficient_count
