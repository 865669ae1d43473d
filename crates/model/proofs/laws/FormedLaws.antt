-- An operation that has formed its result (InnerContracts.antt).
use Rattle.std.specs.Prelude.{◌≡◌, refl, Bool, true, false, List, ◌≤◌, ltb, ℤ}
use Rattle.std.proofs.Common.{ltb-false}
use Rattle.chebyshev.specs.definitions.Coefficients.{weight}
use Rattle.model.specs.definitions.InnerContracts.{formed_outcome, unless_large}
use Rattle.model.specs.definitions.Models.{max_weight, too_large}
use Rattle.model.specs.definitions.Outcomes.{passing}
use Rattle.model.specs.declared.types.Model.{Model}

-- the definition's result m need not fit the machine where it is refused
pub formed_is : (m : Model) (cs : List ℤ) → (weight m.coefficients ≤ max_weight → cs ≡ m.coefficients)
    → formed_outcome m.degree cs (weight m.coefficients) m.radius m.interval ≡ unless_large m
unfolding formed_outcome unless_large passing too_large
formed_is m cs h = go (ltb max_weight (weight m.coefficients)) refl
  where
    go : (t : Bool) → ltb max_weight (weight m.coefficients) ≡ t
        → formed_outcome m.degree cs (weight m.coefficients) m.radius m.interval ≡ unless_large m
    go true e = rw e
    go false e = rw (h (ltb-false max_weight (weight m.coefficients) e))
