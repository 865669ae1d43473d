-- Document 02, S-24: the point p/S of an interval, taken to q/S with q = near(S·(2p−l−u)/(u−l)), lies at most 1/(2S) from where T_k is
-- taken, and there exactly if nothing was rounded; so a value differs by at most what W grows by.
use Rattle.std.specs.Prelude.{◌≡◌, refl, Bool, cond, List, [], ◌∷◌, map, ℕ, ◌*◌, ◌^◌, ◌≤◌, ℤ, ◌-ℤ◌, ◌*ℤ◌}
use Rattle.std.proofs.Common.{sym, ◌∙◌, ap, ap₂}
use Rattle.std.proofs.Math.Bool.{true, false}
use native.Mathlib.Omega.{arith}
use borrow.Author.Tests.{eqb-true}
use Rattle.std.proofs.Math.IntN.{pos, nat_abs}
use Rattle.std.specs.Int.Signed.{le_z}
use Rattle.fraction.specs.definitions.Fraction.{ℚ, whole, ◌+ℚ◌, ◌-ℚ◌, -ℚ◌, ◌*ℚ◌, ◌≤ℚ◌, ∣◌∣ℚ}
use Rattle.integer.proofs.laws.Embedding.{ι_abs, ι_nonneg}
use Rattle.fraction.proofs.laws.FractionLaws.{*ℚ_comm, *ℚ_one, zero_*ℚ, whole-add, whole-mul}
use Rattle.integer.proofs.laws.FractionOrder.{ℚ_ordered, whole_le, whole_neg}
use Rattle.integer.proofs.laws.FractionRounding.{natural_mul}
use Rattle.integer.proofs.laws.FractionSolver.{reifyℚ, solveℚ}
use Rattle.integer.proofs.laws.Machine.{le_true, both_true}
use Rattle.integer.proofs.laws.NearLaws.{near_within}
use Rattle.ring.proofs.laws.OrderedRingLaws.{by_certificate, gap, ◌⊞◌, ◌⊠◌, abs-mul}
use Rattle.ring.specs.laws.Parts.{abs, apart, product, difference, abs-mul as nat_abs-mul, le_yes}
use Rattle.integer.proofs.laws.RoundingLaws.{near_error}
use Rattle.chebyshev.specs.definitions.Coefficients.{lipschitz_weight}
use Rattle.chebyshev.proofs.laws.Lipschitz.{value_lipschitz, lipschitz-whole}
use Rattle.model.specs.definitions.Allowed.{position, OnInterval}
use Rattle.model.specs.definitions.Evaluate.{point, mapped_numerator, mapped_point, maps_exactly, growth}
use Rattle.model.specs.definitions.Intervals.{extent, contains}
use Rattle.model.specs.definitions.Models.{scale}
use Rattle.model.proofs.laws.EvaluationError.{point-scale, point_inside, scaled_bound}
use Rattle.model.proofs.laws.IntervalLaws.{GoodEnds, extent_positive, position_times, within}
use Rattle.model.proofs.laws.ValueLaws.{value_at}
use Rattle.model.specs.declared.types.Interval.{Interval}

growth_is : (t : Bool) (cs : List ℤ) → whole (pos (growth t cs)) ≡ whole (pos (2 ^ 11)) *ℚ whole (pos (lipschitz_weight 0 cs)) *ℚ whole (pos (cond t 0 1))
unfolding growth
growth_is true cs = sym (*ℚ_comm _ _ ∙ zero_*ℚ _)
growth_is false cs = natural_mul (2 ^ 11) (lipschitz_weight 0 cs) ∙ sym (*ℚ_one _)

module _ {i : Interval} (g : GoodEnds i) (p : ℤ) where
  abbrev l : ℤ
  l = i.lower

  abbrev u : ℤ
  u = i.upper

  abbrev q : ℤ
  q = mapped_point i p

  -- what rounding leaves
  abbrev rest : ℤ
  rest = q *ℤ pos (extent i) -ℤ mapped_numerator i p

  -- ---- within the interval

  pub contains_is : contains i p ≡ true → OnInterval i (point p)
  unfolding contains
  contains_is h =
      let (above, below) = both_true (le_z l p) _ h in
      let e : whole (pos scale) *ℚ point p ≡ whole p = *ℚ_comm _ _ ∙ point-scale p in record {
        above = rw e ((whole_le l p).1 (le_true l p above));
        below = rw e ((whole_le p u).1 (le_true p u below));
      }

  pub mapped_inside : contains i p ≡ true → nat_abs q ≤ scale
  unfolding contains mapped_point extent
  mapped_inside h =
      near_within (mapped_numerator i p) (extent i) scale (extent_positive g)
      (omega (arith, nat_abs-mul (pos scale) (pos 2 *ℤ p -ℤ l -ℤ u), between))
    where
      between : nat_abs (pos 2 *ℤ p -ℤ l -ℤ u) ≤ nat_abs (u -ℤ l)
      between =
          let (above, below) = both_true (le_z l p) _ h in
          let m = pos 2 *ℤ p in
          omega (
            arith,
            le_yes l p above,
            le_yes p u below,
            product (pos 2) p,
            difference m l,
            difference (m -ℤ l) u,
            difference u l,
            abs (m -ℤ l -ℤ u),
            abs (u -ℤ l),
            apart (m -ℤ l -ℤ u),
            apart (u -ℤ l),
          )

  -- ---- how far it is moved

  -- (q/S − y)·S·(u−l) is what rounding leaves
  moved : (point q -ℚ position i (point p)) *ℚ (whole (pos scale) *ℚ whole (pos (extent i))) ≡ whole rest
  moved =
      regroup (point q) (position i (point p)) (whole (pos scale)) (whole (pos (extent i)))
      ∙ ap₂ (λ a b. a *ℚ whole (pos (extent i)) -ℚ whole (pos scale) *ℚ b) (point-scale q) (position_times g (point p))
      ∙ at_point (point p) (whole (pos scale)) (whole q *ℚ whole (pos (extent i))) (whole l) (whole u) (whole p) (point-scale p)
      ∙ simp (whole-mul, whole-add, ← whole_neg)
    where
      regroup : (z y s d : ℚ) → (z -ℚ y) *ℚ (s *ℚ d) ≡ z *ℚ s *ℚ d -ℚ s *ℚ (d *ℚ y)
      regroup z y s d = solveℚ (z ∷ y ∷ s ∷ d ∷ []) (search reifyℚ depth 20) (search reifyℚ depth 20) tt

      at_point : (x s k l u p : ℚ) → x *ℚ s ≡ p → k -ℚ s *ℚ (whole (pos 2) *ℚ s *ℚ x -ℚ l -ℚ u) ≡ k -ℚ s *ℚ (whole (pos 2) *ℚ p -ℚ l -ℚ u)
      at_point x s k l u p e = rw (← e) (solveℚ (x ∷ s ∷ k ∷ l ∷ u ∷ []) (search reifyℚ depth 20) (search reifyℚ depth 20) tt)

  -- 1 where it was rounded, in halves of a unit
  abbrev halves : ℕ
  halves = cond (maps_exactly i p) 0 1

  rest_small : (t : Bool) → maps_exactly i p ≡ t → 2 * nat_abs rest ≤ extent i * cond t 0 1
  unfolding maps_exactly mapped_point
  rest_small true e = omega (arith, eqb-true (nat_abs rest) 0 e)
  rest_small false e = omega (arith, near_error (mapped_numerator i p) (extent i) (extent_positive g))

  moved_little : ∣ whole (pos 2) *ℚ whole (pos scale) *ℚ (point q -ℚ position i (point p)) ∣ℚ ≤ℚ whole (pos halves)
  moved_little =
      scaled_bound (extent i) (whole (pos 2) *ℚ whole (pos scale) *ℚ (point q -ℚ position i (point p))) (pos 2 *ℤ rest) halves
      (extent_positive g) (regroup (point q -ℚ position i (point p)) (whole (pos scale)) (whole (pos (extent i))) ∙ ap (λ z. whole (pos 2) *ℚ z) moved ∙ sym (whole-mul (pos 2) rest))
      (rw nat_abs-mul (rest_small (maps_exactly i p) refl))
    where
      regroup : (t s d : ℚ) → d *ℚ (whole (pos 2) *ℚ s *ℚ t) ≡ whole (pos 2) *ℚ (t *ℚ (s *ℚ d))
      regroup t s d = solveℚ (t ∷ s ∷ d ∷ []) (search reifyℚ depth 20) (search reifyℚ depth 20) tt

  -- ---- what a value changes by

  pub mapped_value : contains i p ≡ true → (cs : List ℤ)
      → ∣ whole (pos (2 ^ 32)) *ℚ value_at (point q) cs -ℚ whole (pos (2 ^ 32)) *ℚ value_at (position i (point p)) cs ∣ℚ ≤ℚ whole (pos (growth (maps_exactly i p) cs))
  mapped_value h cs =
      rw (split (value_at z cs) (value_at y cs), abs-mul ℚ_ordered (whole (pos (2 ^ 32))) (value_at z cs -ℚ value_at y cs), ι_abs ℚ_ordered (pos (2 ^ 32)), growth_is (maps_exactly i p) cs)
      (by_certificate ℚ_ordered
      (◌⊞◌ ℚ_ordered (◌⊠◌ ℚ_ordered (ι_nonneg ℚ_ordered (2 ^ 32)) (gap ℚ_ordered close))
      (◌⊠◌ ℚ_ordered (◌⊠◌ ℚ_ordered (ι_nonneg ℚ_ordered (2 ^ 11)) (ι_nonneg ℚ_ordered L)) (gap ℚ_ordered near_by)))
      (regroup (whole (pos L)) ∣ z -ℚ y ∣ℚ ∣ value_at z cs -ℚ value_at y cs ∣ℚ (whole (pos halves))))
    where
      z : ℚ
      z = point q

      y : ℚ
      y = position i (point p)

      L : ℕ
      L = lipschitz_weight 0 cs

      close : ∣ value_at z cs -ℚ value_at y cs ∣ℚ ≤ℚ (whole (pos L) *ℚ ∣ z -ℚ y ∣ℚ)
      close = rw (lipschitz-whole ℚ_ordered 0 cs) at (value_lipschitz ℚ_ordered z y (point_inside q (mapped_inside h)) (within g (point p) (contains_is h)) (map whole cs))

      near_by : (whole (pos 2) *ℚ whole (pos scale) *ℚ ∣ z -ℚ y ∣ℚ) ≤ℚ whole (pos halves)
      near_by = rw (abs-mul ℚ_ordered (whole (pos 2) *ℚ whole (pos scale)) (z -ℚ y), abs-mul ℚ_ordered (whole (pos 2)) (whole (pos scale)), ι_abs ℚ_ordered (pos 2), ι_abs ℚ_ordered (pos scale)) at moved_little

      split : (a b : ℚ) → whole (pos (2 ^ 32)) *ℚ a -ℚ whole (pos (2 ^ 32)) *ℚ b ≡ whole (pos (2 ^ 32)) *ℚ (a -ℚ b)
      split a b = solveℚ (a ∷ b ∷ []) (search reifyℚ depth 20) (search reifyℚ depth 20) tt

      regroup : (l t w b : ℚ) → whole (pos (2 ^ 11)) *ℚ l *ℚ b -ℚ whole (pos (2 ^ 32)) *ℚ w
          ≡ whole (pos (2 ^ 32)) *ℚ (l *ℚ t -ℚ w) +ℚ whole (pos (2 ^ 11)) *ℚ l *ℚ (b -ℚ whole (pos 2) *ℚ whole (pos scale) *ℚ t)
      regroup l t w b = solveℚ (l ∷ t ∷ w ∷ b ∷ []) (search reifyℚ depth 20) (search reifyℚ depth 20) tt
