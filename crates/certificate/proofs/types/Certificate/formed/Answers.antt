-- `Certificate::formed` meets its contract: of a good candidate's model the radius alone can be too large.
use mathlib.Core.Path.{ap}
use borrow.Author.Tests.{lt-ltb, le-ltb}
use native.Mathlib.Omega.{arith}
use Rattle.model.specs.definitions.Models.{max_radius, candidate_model}
use Rattle.model.specs.definitions.Outcomes.{accepted, passing}
use Rattle.certificate.proofs.laws.Stages.{large_radius}
use Rattle.certificate.proofs.types.Certificate.formed.Goals as goal

pub returns-then-radius-le-MAX_RADIUS : goal.returns-then-radius-le-MAX_RADIUS
unfolding passing
returns-then-radius-le-MAX_RADIUS c =
    let a = c.args in
    rw (large_radius (candidate_model a.interval a.h) a.radius c.requires, le-ltb max_radius a.radius (omega arith)) (ap accepted c.new.ensures)

pub returns-else-radius-le-MAX_RADIUS : goal.returns-else-radius-le-MAX_RADIUS
unfolding passing
returns-else-radius-le-MAX_RADIUS c =
    let a = c.args in
    rw (large_radius (candidate_model a.interval a.h) a.radius c.requires, lt-ltb max_radius a.radius (omega arith))
