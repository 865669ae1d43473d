-- `areas::round_numbers` meets its contract.
use Rattle.std.proofs.Common.{rules}
use mathlib.Core.Path.{◌≡◌}
use mathlib.Core.List.{[]}
use lib.ListN.{length}
use lib.Seq.{set_at}
use lib.Ieee.{binary64, of_bits}
use Rattle.proposals.proofs.areas.round_numbers.Goals as goal

pub returns : goal.returns
returns c =
    let r = c.args.round in
    let e : length r.coefficients ≡ 33 = search rules in
    rw c.copy_from_slice.ensures.after (set_at r.coefficients (of_bits binary64 0) [] r.change 33 e)
