-- `convert::convert_good` meets its contract.
use Rattle.std.proofs.Common.{rules}
use mathlib.Core.Path.{◌≡◌, ◌∙◌, ap, ap₂}
use mathlib.Core.Bool.{true}
use mathlib.Core.List.{List}
use Rattle.ring.specs.definitions.Integer.{ℤ_ring}
use Prim.Native.Nat.{suc, ◌+◌, ◌^◌, ◌<◌, ◌≤◌}
use native.Mathlib.Omega.{arith}
use native.Mathlib.Numerals.{add-one}
use lib.IntN.{ℤ, pos}
use lib.ListN.{length, replicate, take}
use lib.Seq.{length-take-le}
use lib.Signed.{lt_z_yes}
use Rattle.chebyshev.specs.definitions.Coefficients.{weight, add_lists}
use Rattle.chebyshev.proofs.laws.Weight.{weight-take, weight-zeros}
use Rattle.model.specs.definitions.InnerContracts.{formed_outcome}
use Rattle.model.specs.definitions.Models.{standard_model}
use Rattle.model.proofs.laws.ModelLaws.{Good}
use Rattle.series.specs.definitions.Convert.{good_series, series_terms, expanded_from}
use Rattle.series.proofs.laws.ConversionLaws.{limits, length-expanded, weight-expanded, from_zeros, series_formed}
use Rattle.series.specs.declared.types.Series.{Series}
use Rattle.series.proofs.convert.convert_good.Goals as goal

-- of a series s within its limits
module _ (s : Series) (h : good_series s ≡ true) (all : length s.coefficients ≡ 33) where
  within : Good (standard_model s.degree s.coefficients 0)
  within = limits s h

  abbrev ps : List ℤ
  ps = take (s.degree + 1) s.coefficients

  length-ps : length ps ≡ s.degree + 1
  length-ps = length-take-le (s.degree + 1) s.coefficients (omega (arith, within, all))

  weight-ps : weight ps ≤ 2 ^ 28
  weight-ps = omega (arith, within, weight-take (s.degree + 1) s.coefficients)

  -- the first of the sums are the expanded series
  module _ (sums : List ℤ) (e : sums ≡ add_lists ℤ_ring (replicate 33 (pos 0)) (expanded_from 0 ps)) where
    sums-are : take (s.degree + 1) sums ≡ expanded_from 0 ps
    sums-are =
        let n : length (expanded_from 0 ps) ≡ s.degree + 1 = length-expanded ps ∙ length-ps in
        ap (take (s.degree + 1)) e ∙ (rw n at (from_zeros 33 (expanded_from 0 ps) (omega (arith, within))))

    first-sums : length sums ≡ 33 → length (take (s.degree + 1) sums) ≡ s.degree + 1
    first-sums l = length-take-le (s.degree + 1) sums (omega (arith, within))

  light : weight (expanded_from 0 ps) < 2 ^ 62
  light = omega (arith, weight-expanded 0 ps (omega (arith, within, length-ps)), weight-ps)

pub shared_ref_as_front-add_expanded : goal.shared_ref_as_front-add_expanded
shared_ref_as_front-add_expanded c = omega (arith, within c.args.s c.requires (search rules))

pub add_expanded-requires : goal.add_expanded-requires
add_expanded-requires c =
    let s = c.args.s in
    let all : length s.coefficients ≡ 33 = search rules in
    record {
      few = omega (arith, within s c.requires all, length-ps s c.requires all);
      room = omega (arith, within s c.requires all, length-ps s c.requires all);
      light = omega (arith, weight-zeros 33, weight-ps s c.requires all);
      table_is = c.expansion_table-table.ensures;
    }

pub round-rounded-requires : goal.round-rounded-requires
round-rounded-requires c =
    let s = c.args.s in
    let all : length s.coefficients ≡ 33 = search rules in
    let sums = c.add_expanded.new.sums in
    record {
      kept_fits = omega (arith, within s c.requires all);
      there = omega (arith, first-sums s c.requires all sums c.add_expanded.ensures c.add_expanded.auto.sums);
      light = rw (sums-are s c.requires all sums c.add_expanded.ensures) (light s c.requires all);
      divides = lt_z_yes tt;
    }

pub returns : goal.returns
returns c =
    let s = c.args.s in
    let all : length s.coefficients ≡ 33 = search rules in
    let r = c.round-rounded in
    let n : length (series_terms s) ≡ suc s.degree = rw add-one at (length-ps s c.requires all) in
    c.formed.ensures
    ∙ ap₂ (formed_outcome s.degree r.result.coefficients r.result.weight) c.up_unsigned-radius.ensures c.standard-interval.ensures
    ∙ series_formed s r.result n (simp add-one at (rw (sums-are s c.requires all c.add_expanded.new.sums c.add_expanded.ensures) at r.ensures))
