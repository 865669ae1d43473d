-- `RootNumbers::discriminant_radius` meets its contract: b is compared with a quotient, and the radius is at most 2^27.
use mathlib.Core.Path.{sym}
use native.Mathlib.Omega.{arith}
use Rattle.certificate.proofs.laws.RootEnd.{discriminant_refused, discriminant_radius, discriminant_passed}
use Rattle.certificate.proofs.root_end.RootNumbers.discriminant_radius.Goals as goal

pub overflow_cast-result : goal.overflow_cast-result
overflow_cast-result c = omega (arith, discriminant_radius c.args.self.last c.if-self-gap.true c.radius_for.result c.radius_for.ensures)

pub returns-then-self-gap : goal.returns-then-self-gap
returns-then-self-gap c = sym (discriminant_passed c.args.self.last c.if-self-gap.true c.radius_for.result c.radius_for.ensures)

pub returns-else-self-gap : goal.returns-else-self-gap
returns-else-self-gap c = sym (discriminant_refused c.args.self.last c.if-self-gap.false)
