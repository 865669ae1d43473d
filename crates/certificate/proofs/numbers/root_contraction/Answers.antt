-- `numbers::root_contraction` meets its contract.
use mathlib.Core.Path.{◌∙◌, ap}
use Prim.Native.Nat.{ℕ, ◌^◌}
use native.Mathlib.Omega.{arith}
use Rattle.integer.specs.definitions.Rounding.{upℕ}
use Rattle.certificate.specs.definitions.InnerContracts.{standard_candidate}
use Rattle.model.proofs.laws.ModelLaws.{good_is}
use Rattle.certificate.specs.definitions.Root.{root_contraction}
use Rattle.certificate.proofs.Ranges.{factors, of_constant, constant}
use Rattle.certificate.proofs.numbers.root_contraction.Goals as goal

pub terms-requires : goal.terms-requires
terms-requires c = (good_is (standard_candidate c.args.w.now) c.requires.first_good).degree_fits

pub terms-requires-2 : goal.terms-requires-2
terms-requires-2 c = (good_is (standard_candidate c.args.h.now) c.requires.second_good).degree_fits

pub residual-distance-requires : goal.residual-distance-requires
residual-distance-requires c =
    let r = c.requires in
    (r.room, factors r c.terms.ensures.value c.terms-2.ensures.value c.terms.ensures.some c.terms-2.ensures.some, constant (2 ^ 19) (omega arith))

-- S² is 2S·(S/2)
pub returns : goal.returns
unfolding root_contraction
returns c =
    let x = c.terms.ensures.value in
    let y = c.terms-2.ensures.value in
    c.up_unsigned.ensures ∙ ap (λ (n : ℕ). upℕ n (2 ^ 20)) (of_constant c.requires x y (2 ^ 19) (omega arith) c.residual-distance.ensures).0
