-- The model that an operation answers has a degree and a radius within their limits, so that an area can hold them.
use Rattle.std.specs.Prelude.{◌≡◌, refl, Bool, true, false, cond, ◌||◌, List, [], ◌∷◌, ℕ, ltb}
use Rattle.std.proofs.Common.{true≢false, arith, ltb-false}
use Rattle.chebyshev.specs.definitions.Coefficients.{weight}
use Rattle.model.specs.definitions.Models.{max_degree, max_weight, max_radius, too_large, zero_model}
use Rattle.model.specs.definitions.Outcomes.{refused, payload, outcome, passing, Passed}
use Rattle.model.specs.definitions.Area.{Storable}
use Rattle.model.specs.definitions.Add.{addition, subtraction}
use Rattle.model.specs.definitions.Multiply.{multiplication}
use Rattle.model.specs.definitions.Integrate.{integration}
use Rattle.model.specs.declared.types.Model.{Model}

pub neither : (a b : Bool) → (a || b) ≡ false → (a ≡ false) × (b ≡ false)
neither true b h = absurd (true≢false h)
neither false b h = (refl, h)

pub small_storable : (m : Model) → too_large m ≡ false → Storable m
unfolding too_large
small_storable m h =
    let p = neither (ltb max_weight (weight m.coefficients)) _ h in
    let q = neither (ltb max_radius m.radius) _ p.1 in
    (ltb-false max_degree m.degree q.1, ltb-false max_radius m.radius q.0)

pub zero_storable : Storable zero_model
unfolding zero_model
zero_storable = omega arith

-- what holds of the zero values, and of the operation's own if its places are passed, holds of the values that are answered
pub outcome-payload : {A : Type 0} (P : A → Type 0) (ps : List (Bool × ℕ)) (a z : A) → (Passed ps → P a) → P z → P (payload (outcome ps a z))
unfolding passing
outcome-payload P [] a z own zero = own tt
outcome-payload P (p ∷ ps) a z own zero = pick p.0 own (λ h. outcome-payload P ps a z h zero)
  where
    pick : (t : Bool) → ((t ≡ false) × Passed ps → P a) → ((Passed ps → P a) → P (payload (outcome ps a z)))
        → P (payload (cond t (refused p.1 z) (outcome ps a z)))
    pick true own rest = zero
    pick false own rest = rest (λ h. own (refl, h))

-- the last place of an operation is that of its result
pub stored : (ps : List (Bool × ℕ)) (m : Model) → (Passed ps → too_large m ≡ false) → Storable (payload (outcome ps m zero_model))
stored ps m small = outcome-payload Storable ps m zero_model (λ p. small_storable m (small p)) zero_storable

pub addition_storable : (a b : Model) → Storable (payload (addition a b))
unfolding addition
addition_storable a b = stored _ _ (λ p. p.1.1.1.0)

pub subtraction_storable : (a b : Model) → Storable (payload (subtraction a b))
unfolding subtraction
subtraction_storable a b = stored _ _ (λ p. p.1.1.1.0)

pub multiplication_storable : (d : ℕ) (a b : Model) → Storable (payload (multiplication d a b))
unfolding multiplication
multiplication_storable d a b = stored _ _ (λ p. p.1.1.1.1.0)

pub integration_storable : (a : Model) → Storable (payload (integration a))
unfolding integration
integration_storable a = stored _ _ (λ p. p.1.0)
