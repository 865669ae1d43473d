-- Document 02, S-11, as an equation of whole outcomes, refusals included, for every model and point, with the point of S-24: "Negating p
-- and the odd coefficients keeps the bounds of an evaluation."
use Rattle.std.specs.Prelude.{◌≡◌, refl, Bool, true, false, not, List, [], ◌∷◌, ℕ, zero, suc, ◌+◌, ◌-◌, ◌*◌, ◌<◌, T, ℤ, ◌+ℤ◌, ◌-ℤ◌, ◌*ℤ◌, ◌≤ℤ◌}
use Rattle.std.proofs.Common.{sym, ◌∙◌, subst, arith}
use Rattle.std.proofs.Math.Path.{ap, ap₂}
use Rattle.std.proofs.Math.Bool.{◌&&◌}
use Rattle.std.proofs.Math.Dec.{eqb}
use Rattle.std.proofs.Math.IntN.{pos, neg_ℤ, nat_abs}
use Rattle.std.specs.Int.Signed.{le_z}
use Rattle.ring.specs.laws.Parts.{abs_neg}
use Rattle.ring.specs.laws.Difference.{all1, all2, all3, differences}
use Rattle.ring.proofs.laws.IntegerSolver.{reifyℤ, solveℤ}
use Rattle.integer.proofs.laws.Machine.{le_true}
use Rattle.integer.specs.definitions.Rounding.{near}
use Rattle.integer.proofs.laws.RoundingLaws.{near_opposite}
use Rattle.chebyshev.specs.definitions.Coefficients.{lipschitz_weight}
use Rattle.chebyshev.specs.definitions.Negation.{odd, negated_if, negated_from}
use Rattle.chebyshev.proofs.laws.NegationLaws.{abs-negated}
use Rattle.model.specs.definitions.Intervals.{extent, contains}
use Rattle.model.specs.definitions.Models.{scale, terms, good}
use Rattle.model.specs.definitions.Mirror.{mirrored, mirrored_point}
use Rattle.model.specs.definitions.Outcomes.{passing}
use Rattle.model.specs.definitions.Evaluate.{mapped_numerator, mapped_point, maps_exactly, growth, point_term, point_sum, point_error, low_bound, high_bound, evaluation}
use Rattle.model.proofs.laws.IntervalLaws.{extent_positive}
use Rattle.model.proofs.laws.MirrorLaws.{terms-negated, within_limits-negated, good-negated}
use Rattle.model.proofs.laws.MirroredOperations.{opposites}
use Rattle.model.proofs.laws.ModelLaws.{good_is}
use Rattle.model.specs.declared.types.Interval.{Interval}
use Rattle.model.specs.declared.types.Model.{Model}

point_term-mirrored : (p : ℤ) (k : ℕ) → point_term (neg_ℤ p) k ≡ negated_if (odd k) (point_term p k)
unfolding point_term odd
point_term-mirrored p zero = refl
point_term-mirrored p (suc zero) = turn p
  where
    turn : (p : ℤ) → pos 1024 *ℤ neg_ℤ p ≡ neg_ℤ (pos 1024 *ℤ p)
    turn = all1 _ (simp differences (omega arith))
point_term-mirrored p (suc (suc k)) =
    ap₂ (λ u v. near (pos 2 *ℤ neg_ℤ p *ℤ u) scale -ℤ v) (point_term-mirrored p (suc k)) (point_term-mirrored p k)
    ∙ step (odd k) p (point_term p (suc k)) (point_term p k)
  where
    same_sign : (p t : ℤ) → pos 2 *ℤ neg_ℤ p *ℤ neg_ℤ t ≡ pos 2 *ℤ p *ℤ t
    same_sign p t = solveℤ (p ∷ t ∷ []) (search reifyℤ depth 20) (search reifyℤ depth 20) tt

    other_sign : (p t : ℤ) → pos 2 *ℤ neg_ℤ p *ℤ t ≡ neg_ℤ (pos 2 *ℤ p *ℤ t)
    other_sign p t = solveℤ (p ∷ t ∷ []) (search reifyℤ depth 20) (search reifyℤ depth 20) tt

    step : (b : Bool) (p u v : ℤ) → near (pos 2 *ℤ neg_ℤ p *ℤ negated_if (not b) u) scale -ℤ negated_if b v ≡ negated_if (not (not b)) (near (pos 2 *ℤ p *ℤ u) scale -ℤ v)
    step true p u v =
        ap (λ n. near n scale -ℤ neg_ℤ v) (other_sign p u)
        ∙ ap (λ c. c -ℤ neg_ℤ v) (near_opposite (pos 2 *ℤ p *ℤ u) scale (omega arith))
        ∙ opposites (near (pos 2 *ℤ p *ℤ u) scale) v
    step false p u v = ap (λ n. near n scale -ℤ v) (same_sign p u)

point_sum-mirrored : (p : ℤ) (k : ℕ) (cs : List ℤ) → point_sum (neg_ℤ p) k (negated_from odd k cs) ≡ point_sum p k cs
unfolding point_sum negated_from
point_sum-mirrored p k [] = refl
point_sum-mirrored p k (c ∷ cs) =
    ap₂ ◌+ℤ◌ (ap (λ t. negated_if (odd k) c *ℤ t) (point_term-mirrored p k) ∙ both (odd k) c (point_term p k)) (point_sum-mirrored p (suc k) cs)
  where
    both : (b : Bool) (x y : ℤ) → negated_if b x *ℤ negated_if b y ≡ x *ℤ y
    both true = all2 _ (simp differences (omega arith))
    both false = λ x y. refl

point_error-negated : (chosen : ℕ → Bool) (k j : ℕ) (cs : List ℤ) → point_error j (negated_from chosen k cs) ≡ point_error j cs
unfolding point_error negated_from
point_error-negated chosen k j [] = refl
point_error-negated chosen k j (c ∷ cs) = ap₂ (λ (n m : ℕ). n * (j * (j - 1)) + m) (abs-negated (chosen k) c) (point_error-negated chosen (suc k) (suc j) cs)

lipschitz-negated : (chosen : ℕ → Bool) (k j : ℕ) (cs : List ℤ) → lipschitz_weight j (negated_from chosen k cs) ≡ lipschitz_weight j cs
unfolding lipschitz_weight negated_from
lipschitz-negated chosen k j [] = refl
lipschitz-negated chosen k j (c ∷ cs) = ap₂ (λ (n m : ℕ). n * (j * j) + m) (abs-negated (chosen k) c) (lipschitz-negated chosen (suc k) (suc j) cs)

-- two tests that hold at the same time
same_test : (a b c d : ℤ) → (a ≤ℤ b → c ≤ℤ d) → (c ≤ℤ d → a ≤ℤ b) → le_z a b ≡ le_z c d
same_test a b c d forth back = go (le_z a b) refl (le_z c d) refl
  where
    go : (s : Bool) → le_z a b ≡ s → (t : Bool) → le_z c d ≡ t → le_z a b ≡ le_z c d
    go true p true q = p ∙ sym q
    go false p false q = p ∙ sym q
    go true p false q = absurd (subst T q (forth (le_true a b p)).le)
    go false p true q = absurd (subst T p (back (le_true c d q)).le)

-- ---- the mirrored point

module _ (i : Interval) (p : ℤ) where
  numerator-mirrored : mapped_numerator i (mirrored_point i p) ≡ neg_ℤ (mapped_numerator i p)
  numerator-mirrored = solveℤ (i.lower ∷ i.upper ∷ p ∷ []) (search reifyℤ depth 20) (search reifyℤ depth 20) tt

  contains-mirrored : contains i (mirrored_point i p) ≡ contains i p
  unfolding contains
  contains-mirrored = ap₂ ◌&&◌ (turn i.lower i.upper p) (turn_up i.lower i.upper p) ∙ swap (le_z p i.upper) (le_z i.lower p)
    where
      turn : (l u p : ℤ) → le_z l (l +ℤ u -ℤ p) ≡ le_z p u
      turn l u p = same_test l (l +ℤ u -ℤ p) p u (forth l u p) (back l u p)
        where
          forth : (l u p : ℤ) → l ≤ℤ (l +ℤ u -ℤ p) → p ≤ℤ u
          forth = all3 _ (simp differences (omega arith))

          back : (l u p : ℤ) → p ≤ℤ u → l ≤ℤ (l +ℤ u -ℤ p)
          back = all3 _ (simp differences (omega arith))

      turn_up : (l u p : ℤ) → le_z (l +ℤ u -ℤ p) u ≡ le_z l p
      turn_up l u p = same_test (l +ℤ u -ℤ p) u l p (forth l u p) (back l u p)
        where
          forth : (l u p : ℤ) → (l +ℤ u -ℤ p) ≤ℤ u → l ≤ℤ p
          forth = all3 _ (simp differences (omega arith))

          back : (l u p : ℤ) → l ≤ℤ p → (l +ℤ u -ℤ p) ≤ℤ u
          back = all3 _ (simp differences (omega arith))

      swap : (a b : Bool) → (a && b) ≡ (b && a)
      swap true true = refl
      swap true false = refl
      swap false true = refl
      swap false false = refl

  module _ (h : 0 < extent i) where
    mapped_mirrored : mapped_point i (mirrored_point i p) ≡ neg_ℤ (mapped_point i p)
    unfolding mapped_point
    mapped_mirrored = ap (λ z. near z (extent i)) numerator-mirrored ∙ near_opposite (mapped_numerator i p) (extent i) h

    exact_mirrored : maps_exactly i (mirrored_point i p) ≡ maps_exactly i p
    unfolding maps_exactly
    exact_mirrored =
        ap (λ (n : ℕ). eqb n 0)
        (ap₂ (λ q n. nat_abs (q *ℤ pos (extent i) -ℤ n)) mapped_mirrored numerator-mirrored
        ∙ ap nat_abs (turn (mapped_point i p) (pos (extent i)) (mapped_numerator i p))
        ∙ abs_neg (mapped_point i p *ℤ pos (extent i) -ℤ mapped_numerator i p))
      where
        turn : (q d n : ℤ) → neg_ℤ q *ℤ d -ℤ neg_ℤ n ≡ neg_ℤ (q *ℤ d -ℤ n)
        turn = all3 _ (simp differences (omega arith))

-- "Negating p and the odd coefficients keeps the bounds of an evaluation", where p is mirrored in place of negated
pub evaluation-mirrored : (a : Model) (p : ℤ) → evaluation (mirrored a) (mirrored_point a.interval p) ≡ evaluation a p
unfolding evaluation low_bound high_bound growth passing
evaluation-mirrored a p = by (good a) refl
  where
    by : (t : Bool) → good a ≡ t → evaluation (mirrored a) (mirrored_point a.interval p) ≡ evaluation a p
    by false e = rw (good-negated odd a, within_limits-negated odd a, e)
    by true e =
        let h = extent_positive (good_is a e).ends in
        rw (
          good-negated odd a,
          within_limits-negated odd a,
          contains-mirrored a.interval p,
          terms-negated odd a,
          mapped_mirrored a.interval p h,
          point_sum-mirrored (mapped_point a.interval p) 0 (terms a),
          point_error-negated odd 0 0 (terms a),
          exact_mirrored a.interval p h,
          lipschitz-negated odd 0 0 (terms a),
        )
