-- `areas::quotient_numbers` meets its contract: f·w in front, then the round.
use Rattle.std.proofs.Common.{rules}
use borrow.Rule.Slice.PartMut.{put_mid}
use mathlib.Core.Path.{◌≡◌, ap, ◌∙◌}
use mathlib.Core.List.{List, ◌++◌}
use Prim.Native.Nat.{ℕ, ◌-◌}
use native.Mathlib.Omega.{arith}
use lib.ListN.{length, length-append, replicate}
use lib.Seq.{take_at}
use lib.Ieee.{Float, binary64, of_bits}
use Rattle.proposals.proofs.Passes.{put_rest}
use Rattle.proposals.proofs.areas.quotient_numbers.Goals as goal

written : (q n : List Float) (x : Float) → length q ≡ 33 → put_mid 33 34 (q ++ replicate 34 x) n ≡ q ++ n
written q n x e =
    let p = q ++ replicate 34 x in
    let l : 34 ≡ length p - 33 = omega (arith, length-append q (replicate 34 x)) in
    ap (λ (k : ℕ). put_mid 33 k p n) l ∙ put_rest p n 33 ∙ ap (λ (t : List Float). t ++ n) (take_at q (replicate 34 x) 33 e)

pub returns : goal.returns
returns c =
    let made = c.args.made in
    let e : length made.quotient ≡ 33 = search rules in
    rw (c.copy_from_slice.ensures.after, c.copy_from_slice-2.ensures.after, c.round_numbers.ensures) (written made.quotient _ (of_bits binary64 0) e)
