-- `product::add_term` meets its contract: three passes are the term.
use Rattle.proposals.proofs.Passes.{passes}
use Rattle.proposals.proofs.product.add_term.Goals as goal

pub returns : goal.returns
returns c =
    let t = c.before.before in
    let m = t.before.before.before.before.before in
    let f = m.before.before.before.before.before in
    let s = f.before.before.before.before.before in
    let a = s.args in
    passes a.c.now f.add_multiple.new.c m.add_multiple-2.new.c t.add_multiple-3.new.c a.b.now a.back.now a.x a.i
    s.requires.0 s.requires.2 f.add_multiple.ensures m.add_multiple-2.ensures t.add_multiple-3.ensures
