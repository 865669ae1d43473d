-- `rounding::up_unsigned` meets its contract: the quotient, plus one where there is a remainder.
use mathlib.Core.Path.{◌≡◌, ◌∙◌}
use Prim.Native.Nat.{ℕ, ◌+◌, ◌/◌, ◌%◌, ◌≤◌, ◌<◌}
use native.Mathlib.Omega.{arith}
use native.Mathlib.Nat.{div-add-mod, mod-lt}
use Rattle.std.proofs.Math.Decide.{dec_le}
use Rattle.std.specs.Int.{div_ceil}
use Rattle.integer.specs.definitions.Rounding.{upℕ}
use Rattle.integer.proofs.laws.RoundingLaws.{upℕ_unique}
use Rattle.integer.proofs.rounding.up_unsigned.Goals as goal

ceiling : (n d : ℕ) → 0 < d → div_ceil n d ≡ upℕ n d
ceiling n d h = pick (dec_le (n % d) 0)
  where
    pick : Dec (n % d ≤ 0) → div_ceil n d ≡ upℕ n d
    pick (yes l) =
        let e : div_ceil n d ≡ n / d = omega arith in
        e ∙ upℕ_unique n d (n / d) h (omega (arith, div-add-mod n d)) (omega (arith, div-add-mod n d, h))
    pick (no l) =
        let e : div_ceil n d ≡ n / d + 1 = omega arith in
        e ∙ upℕ_unique n d (n / d + 1) h (omega (arith, div-add-mod n d, mod-lt n {m = d} h)) (omega (arith, div-add-mod n d))

pub returns : goal.returns
returns c = c.div_ceil.ensures ∙ ceiling c.args.n c.args.d c.requires
