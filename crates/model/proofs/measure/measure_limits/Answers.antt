-- `measure::measure_limits` meets its contract: radius 0, and the radius within its limit.
use Rattle.std.proofs.Common.{◌≡◌, refl, ◌∙◌, ap, Bool, true, false, suc, drop}
use lib.Dec.{eqb, leb}
use mathlib.Core.Bool.{◌&&◌}
use Rattle.std.proofs.Math.Bool.{and_comm}
use Rattle.model.specs.definitions.Models.{max_degree, max_weight, max_radius, parts_within_limits}
use Rattle.chebyshev.specs.definitions.Coefficients.{weight}
use Rattle.model.proofs.measure.measure_limits.Goals as goal

-- a test put before the last one
moved : (a b c d : Bool) → ((a && (b && c)) && d) ≡ (a && (b && (d && c)))
moved true true c d = and_comm c d
moved true false c d = refl
moved false b c d = refl

pub returns : goal.returns
unfolding parts_within_limits
returns c =
    let m = c.args.m in
    let p = c.measure_parts-parts.ensures in (
      ap (λ (b : Bool). b && leb m.radius max_radius) p.good_value
          ∙ moved (leb m.degree max_degree) (leb (weight m.coefficients) max_weight) (eqb (weight (drop (suc m.degree) m.coefficients)) 0) (leb m.radius max_radius),
      p.weight_value,
    )
