-- Exact values of the job of ExampleJob.antt at x = 1/3: each load has a radius above 0, and its value stands off the centre.
use Rattle.std.specs.Prelude.{◌≡◌, refl, Bool, true, false, List, [], ◌∷◌, ℕ, zero, suc, ◌<◌, eqb, pos, ◌*ℤ◌, get_or}
use Rattle.std.proofs.Common.{sym, ◌∙◌, ap, arith, eqb-true}
use Rattle.std.proofs.Math.Path.{subst⁻¹}
use Rattle.std.proofs.lemmas.Bool.{eqb-false}
use Rattle.std.specs.Int.Signed.{le_z_yes}
use Rattle.ring.specs.laws.Parts.{◌⁺}
use Rattle.ring.proofs.laws.Order.{∣∣_is}
use Rattle.fraction.specs.definitions.Fraction.{ℚ, whole, ◌/1+◌, ◌*ℚ◌, ◌-ℚ◌, ◌≤ℚ◌, ∣◌∣ℚ, inverse, ◌/ℚ◌}
use Rattle.fraction.proofs.laws.FractionLaws.{whole_is, fraction_add, fraction_mul, fraction_eq, fraction_exact}
use Rattle.ring.proofs.laws.PairLaws.{den_is, den-mul}
use Rattle.integer.specs.definitions.FractionRing.{ℚ_ring}
use Rattle.integer.proofs.laws.FractionSolver.{reifyℚ, solveℚ}
use Rattle.integer.proofs.laws.FractionOrder.{fraction_le, fraction_neg, fraction_abs}
use Rattle.integer.proofs.laws.FractionInverse.{inverse_right}
use Rattle.chebyshev.specs.definitions.Recurrences.{first_kind}
use Rattle.chebyshev.specs.definitions.Coefficients.{value, value_from}
use Rattle.chebyshev.proofs.laws.CoefficientLaws.{value_constant}
use Rattle.chebyshev.specs.definitions.Allows.{allows}
use Rattle.model.specs.definitions.Models.{scale}
use Rattle.model.specs.definitions.Allowed.{position, AllowsAt, Allows}
use Rattle.model.specs.definitions.Intervals.{standard_interval}
use Rattle.model.proofs.laws.StandardInterval.{position_standard}
use Rattle.model.proofs.laws.ValueLaws.{value_at, value_at_append_zeros}
use Rattle.model.specs.declared.types.Model.{Model}
use Rattle.job.proofs.laws.ExampleJob.{example_commands}
use Rattle.job.proofs.laws.ExampleBytes.{model_by}
use Rattle.job.specs.definitions.ExactValues.{Exact, load_value, add_value, subtract_value, multiply_value, quotient_value, root_value}

abbrev pub third : ℚ
third = pos 1 /1+ 2

-- a = 2 + 1/128; b = 1/3 + 1/96; a·a; a; a + b; b; (a + b)·(a + b); that over a; a + b; (a + b) + a; (a + b)·a; c = 4;
-- its root
abbrev example_values : List ℚ
example_values =
    (pos 257 /1+ 127)
    ∷ (pos 11 /1+ 31)
    ∷ (pos 66049 /1+ 16383)
    ∷ (pos 257 /1+ 127)
    ∷ (pos 301 /1+ 127)
    ∷ (pos 11 /1+ 31)
    ∷ (pos 90601 /1+ 16383)
    ∷ (pos 90601 /1+ 32895)
    ∷ (pos 301 /1+ 127)
    ∷ (pos 279 /1+ 63)
    ∷ (pos 77357 /1+ 16383)
    ∷ (pos 4 /1+ 0)
    ∷ (pos 2 /1+ 0)
    ∷ []

abbrev pub example_value : ℕ → ℚ
example_value i = get_or example_values i (whole (pos 0))

-- ---- a fact for each number below n

abbrev pub Upto : (ℕ → Type 0) → ℕ → Type 0
Upto P zero = Unit {0}
Upto P (suc n) = Upto P n × P n

pub upto_at : (P : ℕ → Type 0) (n : ℕ) → Upto P n → (i : ℕ) → i < n → P i
upto_at P zero f i h = absurd (omega arith)
upto_at P (suc n) f i h = by (eqb i n) refl (λ g. upto_at P n f.0 i g)
  where
    by : (t : Bool) → eqb i n ≡ t → (i < n → P i) → P i
    by true e r = subst⁻¹ P (eqb-true i n e) f.1
    by false e r = r (omega (arith, eqb-false i n e))

-- ---- what the loads allow

centred : (m : Model) (y v c : ℚ) → value_at y m.coefficients ≡ c → ∣ v *ℚ whole (pos scale) -ℚ c ∣ℚ ≤ℚ whole (pos m.radius) → AllowsAt m y v
unfolding AllowsAt allows
centred m y v c e h = rw e h

near-centre : (m : Model) (x v c : ℚ) → m.interval ≡ standard_interval → value_at x m.coefficients ≡ c → ∣ v *ℚ whole (pos scale) -ℚ c ∣ℚ ≤ℚ whole (pos m.radius) → Allows m x v
near-centre m x v c on e h = subst⁻¹ (λ i. AllowsAt m (position i x) v) on (subst⁻¹ (λ y. AllowsAt m y v) (position_standard x) (centred m x v c e h))

-- a load of degree 0
near-constant : (n e : ℕ) (v : ℚ) → ∣ v *ℚ whole (pos scale) -ℚ whole (pos n) ∣ℚ ≤ℚ whole (pos e) → Allows (model_by 0 (n ∷ []) e) third v
near-constant n e v =
    near-centre (model_by 0 (n ∷ []) e) third v (whole (pos n)) refl
    (value_at_append_zeros third (pos n ∷ []) 32 ∙ value_constant ℚ_ring third (whole (pos n)))

pub allows_a : Allows (model_by 0 (2097152 ∷ []) 16384) third (example_value 0)
allows_a =
    near-constant 2097152 16384 (example_value 0)
    (simp (whole_is, fraction_mul, fraction_neg, fraction_add, fraction_abs, ∣∣_is, fraction_le, den-mul, den_is) (le_z_yes tt))

pub allows_b : Allows (model_by 1 (0 ∷ 1048576 ∷ []) 16384) third (example_value 1)
unfolding value value_from first_kind
allows_b =
    near-centre (model_by 1 (0 ∷ 1048576 ∷ []) 16384) third (example_value 1) (third *ℚ whole (pos 1048576)) refl
    (value_at_append_zeros third (pos 0 ∷ pos 1048576 ∷ []) 31 ∙ solveℚ (third ∷ []) (search reifyℚ depth 12) (search reifyℚ depth 12) tt)
    (simp (whole_is, fraction_mul, fraction_neg, fraction_add, fraction_abs, ∣∣_is, fraction_le, den-mul, den_is) (le_z_yes tt))

pub allows_c : Allows (model_by 0 (4194308 ∷ []) 4) third (example_value 11)
allows_c =
    near-constant 4194308 4 (example_value 11)
    (simp (whole_is, fraction_mul, fraction_neg, fraction_add, fraction_abs, ∣∣_is, fraction_le, den-mul, den_is) (le_z_yes tt))

-- ---- the values

pub divided : (y x q : ℚ) → ¬ (x ≡ whole (pos 0)) → q *ℚ x ≡ y → q ≡ y /ℚ x
divided y x q n e =
    sym
    (ap (λ z. z *ℚ inverse x) (sym e)
    ∙ solveℚ (q ∷ x ∷ inverse x ∷ []) (search reifyℚ depth 9) (search reifyℚ depth 9) tt
    ∙ ap (λ z. q *ℚ z) (inverse_right x n)
    ∙ solveℚ (q ∷ []) (search reifyℚ depth 9) (search reifyℚ depth 9) tt)

pub nonzero : (n b : ℕ) → 0 < n → ¬ (pos n /1+ b ≡ whole (pos 0))
nonzero n b h e = other (simp den_is at (fraction_exact (pos n) b (pos 0) 0 (e ∙ whole_is (pos 0))))
  where
    other : pos n *ℤ pos 1 ≡ pos 0 *ℤ pos (suc b) → ⊥
    other e = omega (arith, ap ◌⁺ e)

abbrev pub ExactAt : ℕ → Type 0
ExactAt i = Exact example_commands third example_value i

exact_0 : ExactAt 0
exact_0 = load_value 0 _ refl allows_a

exact_1 : ExactAt 1
exact_1 = load_value 1 _ refl allows_b

exact_2 : ExactAt 2
exact_2 = multiply_value 2 0 0 0 refl exact_0 exact_0 (simp fraction_mul (fraction_eq _ _ _ _ (simp (den-mul, den_is))))

exact_3 : ExactAt 3
exact_3 = root_value 3 2 _ _ _ refl exact_2 (simp (whole_is, fraction_le, den_is) (le_z_yes tt)) (simp fraction_mul (fraction_eq _ _ _ _ (simp (den-mul, den_is))))

exact_4 : ExactAt 4
exact_4 = add_value 4 3 1 refl exact_3 exact_1 (simp fraction_add (fraction_eq _ _ _ _ (simp (den-mul, den_is))))

exact_5 : ExactAt 5
exact_5 = subtract_value 5 4 3 refl exact_4 exact_3 (simp (fraction_neg, fraction_add) (fraction_eq _ _ _ _ (simp (den-mul, den_is))))

exact_6 : ExactAt 6
exact_6 = multiply_value 6 4 4 32 refl exact_4 exact_4 (simp fraction_mul (fraction_eq _ _ _ _ (simp (den-mul, den_is))))

exact_7 : ExactAt 7
exact_7 =
    let n = nonzero 257 127 (omega arith) in
    quotient_value 7 6 3 _ _ refl exact_6 exact_3 n (divided _ _ _ n (simp fraction_mul (fraction_eq _ _ _ _ (simp (den-mul, den_is)))))

exact_8 : ExactAt 8
exact_8 = root_value 8 6 _ _ _ refl exact_6 (simp (whole_is, fraction_le, den_is) (le_z_yes tt)) (simp fraction_mul (fraction_eq _ _ _ _ (simp (den-mul, den_is))))

exact_9 : ExactAt 9
exact_9 = add_value 9 8 3 refl exact_8 exact_3 (simp fraction_add (fraction_eq _ _ _ _ (simp (den-mul, den_is))))

exact_10 : ExactAt 10
exact_10 = multiply_value 10 8 3 32 refl exact_8 exact_3 (simp fraction_mul (fraction_eq _ _ _ _ (simp (den-mul, den_is))))

exact_11 : ExactAt 11
exact_11 = load_value 11 _ refl allows_c

exact_12 : ExactAt 12
exact_12 = root_value 12 11 _ _ _ refl exact_11 (simp (whole_is, fraction_le, den_is) (le_z_yes tt)) (simp fraction_mul (fraction_eq _ _ _ _ (simp (den-mul, den_is))))

-- every value of the example is exact
pub example_exact : (i : ℕ) → i < 13 → ExactAt i
example_exact =
    upto_at ExactAt 13
    (((((((((((((tt, exact_0), exact_1), exact_2), exact_3), exact_4), exact_5), exact_6), exact_7), exact_8), exact_9), exact_10), exact_11), exact_12)
