-- The exact case in a quotient: its record keeps the exact w, and f·w is each value of f over 2^j, with no rounding either.
use Rattle.std.proofs.lemmas.Bool.{not-false}
use Rattle.std.proofs.Common.{le-ltb, sym, ◌∙◌, ap, subst, true≢false, mul_assoc, mul-pos, lt_of_lt_of_le, pow-add, pow_pos, pow_mono, shl_lt}
use Rattle.std.specs.Prelude.{◌≡◌, refl, Bool, true, ℕ, ◌+◌, ◌-◌, ◌*◌, ◌^◌, ◌≤◌, ◌<◌, ℤ, pos, negsuc, length, Float}
use mathlib.Core.List.{List, [], ◌∷◌, map}
use native.Mathlib.Omega.{arith}
use Rattle.std.proofs.Math.IntN.{nat_abs}
use Rattle.std.proofs.lemmas.List.{length-map}
use Rattle.std.specs.Float.{nan, inf, fin, binary64}
use Rattle.std.specs.Float.Ieee.{round, add, mul}
use Rattle.std.specs.Float.Ieee.Exact.{HasValue, round_exact}
use Rattle.std.specs.Float.Ieee.Scale.{round_same}
use Rattle.chebyshev.specs.definitions.Coefficients.{weight}
use Rattle.model.specs.definitions.Intervals.{same_interval}
use Rattle.model.specs.definitions.Models.{coefficient_count, good, max_weight}
use Rattle.model.specs.definitions.Outcomes.{Outcome, accepted, passing}
use Rattle.model.proofs.laws.ModelLaws.{good_is}
use Rattle.model.proofs.laws.PlaceLaws.{outcome_accepted}
use Rattle.model.specs.declared.types.Model.{Model}
use Rattle.proposals.specs.definitions.Values.{nought, value_of, negative, all_finite}
use Rattle.proposals.specs.definitions.Product.{half, product}
use Rattle.proposals.specs.definitions.Rounds.{made_of}
use Rattle.proposals.specs.definitions.Units.{units_of, candidate_in}
use Rattle.proposals.specs.definitions.Reciprocal.{constant_list, values_of, reciprocal_rounds, Reciprocal, reciprocal_proposal}
use Rattle.proposals.specs.definitions.Quotient.{Quotient, quotient_record, make_quotient, refused_quotient, quotient_proposal}
use Rattle.proposals.specs.definitions.ExactCase.{exact_value, exact_round, exact_helper, ExactCase, Over, ExactReciprocal, ExactQuotientOf, ExactQuotient}
use Rattle.proposals.proofs.laws.ValueExact.{value_exact}
use Rattle.proposals.proofs.laws.SignedOperations.{zero_of, mul-signed, mul_zero_signed, add_same_signed, half-signed, nought_add_signed, add_zero_signed}
use Rattle.proposals.proofs.laws.ConstantProduct.{doubled}
use Rattle.proposals.proofs.laws.TimesConstant.{Row, Rows, times_constant}
use Rattle.proposals.proofs.laws.ExactCase.{constant-weight, exact_value_lem, exact_rounds, exact_units, exact_proposal}
use Rattle.proposals.specs.declared.types.Ending.TheVariants.{Settled}

-- n / 2^j is exact, of 53 digits or fewer
over_exact : (j : ℕ) → j ≤ 28 → (s : Bool) (n : ℕ) → n ≤ 2 ^ 29 → HasValue (round binary64 s n (2 ^ j)) s n (2 ^ j)
over_exact j l s n h =
    let k = 1074 - j in
    let e : k + j ≡ 1074 = omega arith in
    let i : 53 + k ≤ 2098 = omega arith in
    let d : n < 2 ^ 53 = omega arith in
    round_exact binary64 s n (2 ^ j) n k (pow_pos j) d (lt_of_lt_of_le (shl_lt 53 k d) (pow_mono i))
    (sym (mul_assoc n (2 ^ k) (2 ^ j) ∙ ap (λ (m : ℕ). n * m) (sym (pow-add 2 k j) ∙ ap (λ (m : ℕ). 2 ^ m) e)))

below_zero : (z : ℤ) → negative z ≡ true → 0 < nat_abs z
below_zero (pos n) e = absurd (true≢false (sym e))
below_zero (negsuc n) e = omega arith

-- ---- a value of f, z units, times w = 2^(20−j)

module _ (j : ℕ) (l : j ≤ 28) (z : ℤ) (b : nat_abs z ≤ 2 ^ 28) where
  abbrev s : Bool
  s = negative z

  abbrev n : ℕ
  n = nat_abs z

  abbrev once : Float
  once = round binary64 s n (2 ^ j)

  abbrev twice : Float
  twice = round binary64 s (2 * n) (2 ^ j)

  once_value : HasValue once s n (2 ^ j)
  once_value = over_exact j l s n (omega arith)

  twice_value : HasValue twice s (2 * n) (2 ^ j)
  twice_value = over_exact j l s (2 * n) (omega arith)

  value : HasValue (value_of z) s n (2 ^ 20)
  value = value_exact z (omega arith)

  times : mul binary64 (value_of z) (exact_value j) ≡ once
  times =
      mul-signed (value_of z) s n (2 ^ 20) (pow_pos 20) value (exact_value j) (2 ^ 20) (2 ^ j) (pow_pos j) (exact_value_lem j l)
      ∙ round_same binary64 s (n * 2 ^ 20) (2 ^ 20 * 2 ^ j) n (2 ^ j) (mul-pos (pow_pos 20) (pow_pos j)) (pow_pos j) (omega arith)

  doubled_is : doubled (value_of z) (exact_value j) ≡ twice
  unfolding doubled
  doubled_is =
      rw (times, nought_add_signed once s n (2 ^ j) (pow_pos j) once_value (below_zero z)) (add_same_signed once s n (2 ^ j) (pow_pos j) once_value)

  steady : (t : Bool) → add binary64 (doubled (value_of z) (exact_value j)) (zero_of t) ≡ doubled (value_of z) (exact_value j)
  steady t =
      let p : s ≡ true → 0 < 2 * n = λ e. omega (arith, below_zero z e) in
      rw doubled_is (add_zero_signed twice s (2 * n) (2 ^ j) (pow_pos j) twice_value p t)

  row_of : Row (value_of z) (exact_value j)
  row_of = record { sign = s; zero = mul_zero_signed (value_of z) s n (2 ^ 20) (pow_pos 20) value; steady = steady }

  half_is : half (doubled (value_of z) (exact_value j)) ≡ once
  half_is = rw doubled_is (half-signed twice s (2 * n) (2 ^ j) (pow_pos j) twice_value n refl)

-- ---- f·w

module _ (j : ℕ) (l : j ≤ 28) where
  rows_of : (zs : List ℤ) → weight zs ≤ 2 ^ 28 → Rows (map value_of zs) (exact_value j)
  unfolding Rows weight
  rows_of [] h = tt
  rows_of (z ∷ zs) h = (row_of j l z (omega arith), rows_of zs (omega arith))

  halves_over : (zs : List ℤ) → weight zs ≤ 2 ^ 28 → Over j zs (map half (map (λ x. doubled x (exact_value j)) (map value_of zs)))
  unfolding weight
  halves_over [] h = tt
  halves_over (z ∷ zs) h =
      let b : nat_abs z ≤ 2 ^ 28 = omega arith in
      (subst (λ (x : Float). HasValue x (negative z) (nat_abs z) (2 ^ j)) (sym (half_is j l z b)) (once_value j l z b), halves_over zs (omega arith))

  -- each value of f over 2^j, exactly
  pub exact_product : (zs : List ℤ) → length zs ≡ coefficient_count → weight zs ≤ max_weight → Over j zs (product (map value_of zs) (constant_list (exact_value j)))
  exact_product zs e h =
      subst (Over j zs) (sym (times_constant (map value_of zs) (exact_value j) (length-map zs value_of ∙ e) (rows_of zs h))) (halves_over zs h)

-- ---- the whole answer

rounds_made : (g : Model) (j : ℕ) → ExactCase g j → reciprocal_rounds (values_of g) ≡ made_of true (Settled nought) (exact_round j)
rounds_made g j e = ap (λ c. reciprocal_rounds (map value_of c)) e.power.constant ∙ exact_rounds j e.to

pub exact_quotient : (f g : Model) → ExactQuotient f g (quotient_proposal f g)
unfolding quotient_proposal
exact_quotient f g j e a h =
    let q = product (values_of f) (constant_list (exact_value j)) in
    let (passed, same) = outcome_accepted _ _ refused_quotient h in
    let is : a ≡ make_quotient (Settled nought) (quotient_record q (exact_round j)) (candidate_in (map units_of q)) (exact_helper j) = same ∙ rw (rounds_made g j e, exact_units j e.to) in
    let b : weight f.coefficients ≤ max_weight = (good_is f (not-false (good f) passed.0)).weight-fits in
    subst (ExactQuotientOf f j) (sym is) (record {
      ending = refl;
      round = refl;
      quotient = refl;
      exact = λ l. exact_product j e.to f.coefficients l b;
      h = refl;
      w = refl;
    })

over_finite : (j : ℕ) (zs : List ℤ) (q : List Float) → Over j zs q → all_finite q ≡ true
unfolding all_finite
over_finite j [] [] h = refl
over_finite j [] (x ∷ q) h = absurd h
over_finite j (z ∷ zs) [] h = absurd h
over_finite j (z ∷ zs) (nan ∷ q) h = absurd h.0
over_finite j (z ∷ zs) (inf t ∷ q) h = absurd h.0
over_finite j (z ∷ zs) (fin t m e ∷ q) h = over_finite j zs q h.1

-- it is accepted, where f is good, on g's interval, and h is not too heavy
pub exact_quotient_accepted : (f g : Model) (j : ℕ) → ExactCase g j → good f ≡ true → same_interval f.interval g.interval ≡ true
    → length f.coefficients ≡ coefficient_count → let q = product (values_of f) (constant_list (exact_value j)) in weight (map units_of q) ≤ max_weight
    → quotient_proposal f g ≡ accepted (make_quotient (Settled nought) (quotient_record q (exact_round j)) (candidate_in (map units_of q)) (exact_helper j))
unfolding quotient_proposal passing
exact_quotient_accepted f g j e bf same l h =
    let q = product (values_of f) (constant_list (exact_value j)) in
    let finite : all_finite q ≡ true = over_finite j f.coefficients q (exact_product j e.to f.coefficients l (good_is f bf).weight-fits) in
    let i : 40 - j ≤ 28 = omega (arith, e.from) in
    rw (
      bf,
      e.power.is_good,
      same,
      rounds_made g j e,
      finite,
      le-ltb max_weight (weight (map units_of q)) h,
      exact_units j e.to,
      constant-weight (2 ^ (40 - j)),
      le-ltb max_weight (2 ^ (40 - j)) (pow_mono i),
    )

-- ---- as the contracts have it

pub with_exact_reciprocal : (g : Model) {o : Outcome Reciprocal} → o ≡ reciprocal_proposal g → (o ≡ reciprocal_proposal g) × ExactReciprocal g o
with_exact_reciprocal g h = (h, λ j e. h ∙ exact_proposal g j e)

pub with_exact_quotient : (f g : Model) {o : Outcome Quotient} → o ≡ quotient_proposal f g → (o ≡ quotient_proposal f g) × ExactQuotient f g o
with_exact_quotient f g h = (h, λ j e a k. exact_quotient f g j e a (sym h ∙ k))
