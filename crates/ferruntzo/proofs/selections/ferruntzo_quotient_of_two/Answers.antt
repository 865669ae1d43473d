-- `ferruntzo_quotient_of_two` meets its contract.
use Rattle.std.proofs.Common.{rules}
use Prim.Native.Nat.{ℕ}
use Rattle.model.specs.definitions.Area.{area_model}
use Rattle.certificate.specs.definitions.Promise.{QuotientAllowed}
use Rattle.selection.specs.definitions.Select.{part_numbers}
use Rattle.selection.specs.definitions.Promise.{part_model}
use Rattle.ferruntzo.proofs.SelectionAnswering.{selection_in_area}
use Rattle.ferruntzo.proofs.selections.ferruntzo_quotient_of_two.Goals as goal

pub returns-then-f-g-clause-quotient_allowed : goal.returns-then-f-g-clause-quotient_allowed
returns-then-f-g-clause-quotient_allowed c h =
    let a = c.args in
    let f = area_model a.f.now in
    let e = c.quotient_of_two.ensures in
    let allowed = e.quotient_allowed h in
    let part = e.part.1 in
    selection_in_area (λ (k r : ℕ). QuotientAllowed f (area_model a.g.now) (part_model (part_numbers k a.first.now a.second.now) r f.interval))
    a.answer.now (search rules) c.store.ensures (search rules)
