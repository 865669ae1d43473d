-- `values::are_finite` meets its contract.
use Rattle.std.proofs.Common.{rules}
use mathlib.Core.Path.{◌≡◌}
use mathlib.Core.Bool.{true, false}
use borrow.Author.Tests.{tests}
use Rattle.std.specs.Float.{float_is_finite}
use Rattle.std.proofs.lemmas.Iterator.{cases_from_all, YieldsList-from_slice}
use Rattle.proposals.proofs.laws.ValueLaws.{finite_all}
use Rattle.proposals.proofs.values.are_finite.Goals as goal

pub returns : goal.returns
returns c =
    finite_all c.args.values c.all.result
    (cases_from_all _ _ _ (λ x. float_is_finite x ≡ true) (λ x. float_is_finite x ≡ false) c.all.ensures.ran (YieldsList-from_slice c.args.values cc)
    (λ x q k. search (rules, tests))
    (λ x q k. search (rules, tests)))
