-- What the tests of Models.antt say of a model.
use Rattle.std.specs.Prelude.{◌≡◌, true, ◌≤◌, leb}
use Rattle.std.proofs.Common.{leb-true, eqb-true}
use Rattle.chebyshev.specs.definitions.Coefficients.{weight}
use Rattle.integer.proofs.laws.Machine.{both_true}
use Rattle.model.specs.definitions.Models.{max_degree, max_weight, max_radius, beyond, parts_within_limits, within_limits, good}
use Rattle.model.specs.definitions.Intervals.{good_ends}
use Rattle.model.proofs.laws.IntervalLaws.{GoodEnds, ends_are}
use Rattle.model.specs.declared.types.Model.{Model}

pub record Good (m : Model) : Type 0 where
  pub degree_fits : m.degree ≤ max_degree
  pub weight-fits : weight m.coefficients ≤ max_weight
  pub radius_fits : m.radius ≤ max_radius
  pub beyond-zero : weight (beyond m) ≡ 0
  pub ends : GoodEnds m.interval

pub good_is : (m : Model) → good m ≡ true → Good m
unfolding good parts_within_limits
good_is m e =
    let s = both_true (within_limits m) _ e in
    let p = both_true (leb m.degree max_degree) _ s.0 in
    let q = both_true (leb (weight m.coefficients) max_weight) _ p.1 in
    let r = both_true (leb m.radius max_radius) _ q.1 in record {
      degree_fits = leb-true m.degree max_degree p.0;
      weight-fits = leb-true (weight m.coefficients) max_weight q.0;
      radius_fits = leb-true m.radius max_radius r.0;
      beyond-zero = eqb-true (weight (beyond m)) 0 r.1;
      ends = ends_are m.interval s.1;
    }

pub good_ends_lem : (m : Model) → good m ≡ true → good_ends m.interval ≡ true
unfolding good
good_ends_lem m e = (both_true (within_limits m) _ e).1
