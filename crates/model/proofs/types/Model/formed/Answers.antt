-- `Model::formed` meets its contract: the tests are those of refusal 3.
use borrow.Author.Tests.{lt-ltb, le-ltb}
use mathlib.Core.Path.{◌≡◌, ap}
use mathlib.Core.Bool.{true, ◌||◌, or-true}
use native.Mathlib.Omega.{arith}
use lib.Dec.{ltb}
use Rattle.model.specs.definitions.InnerContracts.{formed_outcome}
use Rattle.model.specs.definitions.Models.{max_degree, max_weight, max_radius}
use Rattle.model.specs.definitions.Outcomes.{accepted, passing}
use Rattle.model.proofs.types.Model.formed.Goals as goal
use Rattle.model.proofs.types.Model.formed.Goals.{else-weight-le-MAX_WEIGHT-via-then-weight-le-MAX_WEIGHT+then-radius-le-MAX_RADIUS+else-degree-le-MAX_DEGREE, else-weight-le-MAX_WEIGHT-via-then-weight-le-MAX_WEIGHT+else-radius-le-MAX_RADIUS, else-weight-le-MAX_WEIGHT-via-else-weight-le-MAX_WEIGHT}

pub returns-then-degree-le-MAX_DEGREE : goal.returns-then-degree-le-MAX_DEGREE
unfolding formed_outcome passing
returns-then-degree-le-MAX_DEGREE c =
    let a = c.args in
    rw (le-ltb max_weight a.weight (omega arith), le-ltb max_radius a.radius (omega arith), le-ltb max_degree a.degree (omega arith))
    (ap accepted c.new.ensures)

-- a test that fails is one that refuses
pub returns-else-weight-le-MAX_WEIGHT : goal.returns-else-weight-le-MAX_WEIGHT
unfolding formed_outcome passing
returns-else-weight-le-MAX_WEIGHT c =
    let a = c.args in
    let large : (ltb max_weight a.weight || (ltb max_radius a.radius || ltb max_degree a.degree)) ≡ true =
    elim c.else-weight-le-MAX_WEIGHT.branch [
      | else-weight-le-MAX_WEIGHT-via-then-weight-le-MAX_WEIGHT+then-radius-le-MAX_RADIUS+else-degree-le-MAX_DEGREE w ↦ simp (lt-ltb max_degree a.degree w.if-degree-le-MAX_DEGREE.false, or-true)
      | else-weight-le-MAX_WEIGHT-via-then-weight-le-MAX_WEIGHT+else-radius-le-MAX_RADIUS w ↦ simp (lt-ltb max_radius a.radius w.if-radius-le-MAX_RADIUS.false, or-true)
      | else-weight-le-MAX_WEIGHT-via-else-weight-le-MAX_WEIGHT w ↦ rw (lt-ltb max_weight a.weight w.if-weight-le-MAX_WEIGHT.false)
    ] in
    rw large
