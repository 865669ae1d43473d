-- `product::multiply` meets its contract: the terms that are left give the rest of the walk.
use Rattle.std.proofs.Common.{rules}
use mathlib.Core.Path.{◌≡◌, sym, ◌∙◌, ap}
use mathlib.Core.List.{map}
use Prim.Native.Nat.{◌+◌}
use native.Mathlib.Omega.{arith}
use lib.ListN.{length, get_or, drop}
use lib.Ieee.{Float, div, of_bits, nan, binary64, add, mul}
use Rattle.chebyshev.specs.definitions.Product.{add_term_by}
use Rattle.chebyshev.proofs.laws.ProductLaws.{length_add_term_by, terms_list, terms_by_step, terms_by_end}
use Rattle.proposals.specs.definitions.Product.{half, product_wide}
use Rattle.proposals.proofs.Mapping.{mapped}
use Rattle.proposals.proofs.product.multiply.Goals as goal

-- 2.0 stands by its bits
given : (x y : Float) → y ≡ div binary64 x (of_bits binary64 0x4000_0000_0000_0000) → y ≡ half x
unfolding half of_bits
given x y e = e

pub loop-i-preserved : goal.loop-i-preserved
loop-i-preserved c =
    let l = c.loop-i in
    let a = c.args.a in
    let b = c.args.b in
    let x = get_or a l.i nan in (
      l.invariant.0,
      ap length c.add_term.ensures ∙ length_add_term_by (add binary64) (mul binary64) (l.c, 0) x l.i 0 b ∙ l.invariant.1,
      terms_list (add binary64) (mul binary64) (c.add_term.new.c, 0) (add_term_by (add binary64) (mul binary64) (l.c, 0) x l.i 0 b) (l.i + 1) (drop (l.i + 1) a) b
          c.add_term.ensures
          ∙ ap (λ w. w.0) (sym (terms_by_step (add binary64) (mul binary64) (l.c, 0) l.i a b nan (omega arith)))
          ∙ l.invariant.2,
    )

pub returns : goal.returns
unfolding product_wide
returns c =
    let l = c.loop-i in
    let a = c.args.a in
    let b = c.args.b in
    let e : length a ≡ 33 = search rules in
    mapped half nan l.c c.each.result (λ k y h r. given (get_or l.c k nan) y (search rules)) c.each.ensures
    ∙ ap (map half) (ap (λ w. w.0) (sym (terms_by_end (add binary64) (mul binary64) (l.c, 0) l.i a b (omega arith))) ∙ l.invariant.2)
