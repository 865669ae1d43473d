-- `rounds::two_less` meets its contract.
use Rattle.std.proofs.Common.{rules}
use lib.ListN.{get_or}
use lib.Ieee.{Float, nan, binary64, sub, of_bits}
use mathlib.Core.Path.{◌≡◌, ap, ◌∙◌}
use Rattle.proposals.specs.definitions.Values.{nought}
use Rattle.proposals.proofs.laws.ValueLaws.{nought_is, two_is}
use Rattle.proposals.proofs.laws.RoundsLaws.{two_less-set}
use Rattle.proposals.proofs.Mapping.{mapped}
use Rattle.proposals.proofs.rounds.two_less.Goals as goal

-- 0.0 stands by its bits
given : (x y : Float) → y ≡ sub binary64 (of_bits binary64 0) x → y ≡ sub binary64 nought x
given x y e = e ∙ ap (λ z. sub binary64 z x) nought_is

pub returns : goal.returns
returns c =
    rw (mapped (sub binary64 nought) nan c.args.c c.each-d.result (λ k y h r. given (get_or c.args.c k nan) y (search rules)) c.each-d.ensures, two_is)
    (two_less-set c.args.c)
