-- `rounds::next_round` meets its contract.
use mathlib.Core.Path.{◌≡◌}
use mathlib.Core.List.{List}
use lib.Ieee.{Float}
use Rattle.proposals.specs.definitions.Values.{nought}
use Rattle.proposals.specs.definitions.Product.{product}
use Rattle.proposals.specs.definitions.Rounds.{two_less, change_from, improved, next_round, round_of}
use Rattle.proposals.proofs.rounds.next_round.Goals as goal

-- the round from its four calls
made : (g w p t v : List Float) (d x : Float) → p ≡ product g w → t ≡ two_less p → v ≡ product w t → d ≡ change_from nought v w → round_of v d ≡ next_round g (round_of w x)
unfolding next_round improved
made g w p t v d x ep et ev ed = rw (ed, ev, et, ep)

pub returns : goal.returns
returns c =
    let v = c.before in
    let t = v.before in
    let p = t.before in
    let s = p.before.before in
    made s.args.g s.args.r.coefficients p.multiply.result t.two_less-c.result v.multiply-v.result c.largest_change.result s.args.r.change
    p.multiply.ensures t.two_less-c.ensures v.multiply-v.ensures c.largest_change.ensures
