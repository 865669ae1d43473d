-- `reports::write_record` meets its contract: in each arm all bytes of the record are stored, one after the other.
use mathlib.Core.Path.{◌≡◌, subst⁻¹, ◌∙◌}
use mathlib.Core.List.{List}
use Prim.Native.Nat.{ℕ, ◌+◌, ◌*◌, ◌≤◌}
use native.Mathlib.Omega.{arith}
use lib.ListN.{length}
use Rattle.certificate.specs.definitions.Tests.{certificate_of}
use Rattle.job.specs.definitions.Reports.{record_bytes}
use Rattle.job.specs.definitions.InnerContracts.{Recordable, written_at}
use Rattle.job.specs.declared.types.Report.{Report}
use Rattle.job.specs.declared.types.Report.TheVariants.{Workshop, Service}
use Rattle.job.proofs.Rooms.{workshop_stored, service_stored, stored_between}
use Rattle.job.proofs.reports.write_record.Goals as goal

-- its bytes end inside the room
workshop-fits : (r : Report) (room : List ℕ) (i degree : ℕ) → Recordable r room i degree → r ≡ Workshop → 6 * i + 6 ≤ length room
workshop-fits r room i degree p e = let long = rw e at p.long in omega (arith, long, p.inside)

service-fits : (r : Report) (room : List ℕ) (i degree : ℕ) → Recordable r room i degree → r ≡ Service → 18 * i + 18 ≤ length room
service-fits r room i degree p e = let long = rw e at p.long in omega (arith, long, p.inside)

pub returns-in-Workshop : goal.returns-in-Workshop
returns-in-Workshop c =
    let g = c.args in
    let m = g.made.now.model in
    let e = c.in-Workshop.is in
    subst⁻¹ (λ (x : Report). c.write_number.new.room ≡ written_at x g.room.now g.i (record_bytes x g.i (certificate_of g.made.now))) e
    (workshop_stored g.room.now (6 * g.i) g.i m.degree m.radius (rw c.from-radius.ensures at c.write_number.ensures)
    ∙ stored_between (record_bytes Workshop g.i (certificate_of g.made.now)) g.room.now (6 * g.i)
    (workshop-fits g.report g.room.now g.i m.degree c.requires e))

pub returns-in-Service : goal.returns-in-Service
returns-in-Service c =
    let g = c.args in
    let d = g.made.now in
    let m = d.model in
    let e = c.in-Service.is in
    subst⁻¹ (λ (x : Report). c.write_number-in-Service-4.new.room ≡ written_at x g.room.now g.i (record_bytes x g.i (certificate_of d))) e
    (service_stored g.room.now (18 * g.i) g.i m.degree d.contraction d.residual d.displacement m.radius
    c.write_number-in-Service.ensures c.write_number-in-Service-2.ensures c.write_number-in-Service-3.ensures
    (rw c.from-radius.ensures at c.write_number-in-Service-4.ensures)
    ∙ stored_between (record_bytes Service g.i (certificate_of d)) g.room.now (18 * g.i)
    (service-fits g.report g.room.now g.i m.degree c.requires e))
