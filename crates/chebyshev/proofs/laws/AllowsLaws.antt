-- What a list of coefficients allows, in 01's own form and in whole numbers.
use Rattle.std.specs.Prelude.{◌≡◌, ◌↔◌, List, [], ◌∷◌, map, ℕ, suc, ◌*◌, ◌^◌, ◌≤◌, ◌<◌, ℤ, pos, nat_abs, ◌-ℤ◌, ◌*ℤ◌, drop}
use Rattle.std.proofs.Common.{◌∙◌, ap, mul-pos}
use Rattle.std.proofs.Math.Logic.Iff
use Rattle.std.proofs.Math.Nat.{one-le-pow}
use Rattle.integer.proofs.laws.FractionRounding.{natural_positive}
use Rattle.ring.proofs.laws.OrderedRingLaws.{le_of_eq, abs-scale}
use Rattle.ring.proofs.laws.Order.{∣∣_is, pos-le, le-pos}
use Rattle.fraction.specs.definitions.Fraction.{ℚ, whole, ◌-ℚ◌, ◌*ℚ◌, ◌≤ℚ◌, ◌<ℚ◌, ∣◌∣ℚ, ◌/ℚ◌, inverse}
use Rattle.fraction.proofs.laws.FractionLaws.{*ℚ_comm, whole-add, whole-mul}
use Rattle.integer.specs.definitions.FractionRing.{ℚ_ring}
use Rattle.integer.proofs.laws.FractionSolver.{reifyℚ, solveℚ}
use Rattle.integer.proofs.laws.FractionOrder.{ℚ_ordered, whole_le, whole-abs, whole_neg}
use Rattle.integer.proofs.laws.FractionInverse.{quotient_mul}
use Rattle.chebyshev.specs.definitions.Coefficients.{weight, value}
use Rattle.chebyshev.proofs.laws.HomogeneousLaws.{value_homogeneous}
use Rattle.chebyshev.specs.definitions.Homogeneous.{IsFraction, homogeneous_value, allows_whole}
use Rattle.chebyshev.specs.definitions.Allows.{allows}

-- ---- 01's own form

divided : (s f e v : ℚ) → whole (pos 0) <ℚ s → (∣ v *ℚ s -ℚ f ∣ℚ ≤ℚ e) ↔ (∣ v -ℚ f /ℚ s ∣ℚ ≤ℚ e /ℚ s)
divided s f e v h =
    let scaled = abs-scale ℚ_ordered s (v -ℚ f /ℚ s) (e /ℚ s) h in
    (λ k. scaled.1 (rw (left, right) k), λ k. rw (left, right) at (scaled.0 k))
  where
    nonzero : ¬ (s ≡ whole (pos 0))
    nonzero k = h (le_of_eq ℚ_ordered k)

    left : s *ℚ (v -ℚ f /ℚ s) ≡ v *ℚ s -ℚ f
    left = solveℚ (s ∷ v ∷ f ∷ inverse s ∷ []) (search reifyℚ depth 12) (search reifyℚ depth 12) tt ∙ ap (λ y. v *ℚ s -ℚ y) (quotient_mul f s nonzero)

    right : s *ℚ (e /ℚ s) ≡ e
    right = *ℚ_comm s (e /ℚ s) ∙ quotient_mul e s nonzero

pub allows_quotient : (s : ℕ) (a : List ℤ) (e : ℕ) (x v : ℚ) → 0 < s
    → allows s a e x v ↔ (∣ v -ℚ value ℚ_ring x (map whole a) /ℚ whole (pos s) ∣ℚ ≤ℚ whole (pos e) /ℚ whole (pos s))
unfolding allows
allows_quotient s a e x v h = divided (whole (pos s)) (value ℚ_ring x (map whole a)) (whole (pos e)) v (natural_positive s h)

-- ---- in whole numbers, at x = p/q and v = u/d

-- times d·r, where v·d = u and r·f = g
cross_multiplied : (s e v d r f : ℚ) {u g : ℚ} → whole (pos 0) <ℚ (d *ℚ r) → v *ℚ d ≡ u → r *ℚ f ≡ g
    → (∣ v *ℚ s -ℚ f ∣ℚ ≤ℚ e) ↔ (∣ u *ℚ s *ℚ r -ℚ d *ℚ g ∣ℚ ≤ℚ (e *ℚ d *ℚ r))
cross_multiplied s e v d r f {u} {g} h k l = rw (left, right) at (abs-scale ℚ_ordered (d *ℚ r) (v *ℚ s -ℚ f) e h)
  where
    left : d *ℚ r *ℚ (v *ℚ s -ℚ f) ≡ u *ℚ s *ℚ r -ℚ d *ℚ g
    left = rw (← k, ← l) (solveℚ (s ∷ f ∷ v ∷ d ∷ r ∷ []) (search reifyℚ depth 20) (search reifyℚ depth 20) tt)

    right : d *ℚ r *ℚ e ≡ e *ℚ d *ℚ r
    right = solveℚ (e ∷ d ∷ r ∷ []) (search reifyℚ depth 20) (search reifyℚ depth 20) tt

embedded : (s e d r : ℕ) (u g : ℤ)
    → (∣ whole u *ℚ whole (pos s) *ℚ whole (pos r) -ℚ whole (pos d) *ℚ whole g ∣ℚ ≤ℚ (whole (pos e) *ℚ whole (pos d) *ℚ whole (pos r)))
    ↔ (nat_abs (u *ℤ pos s *ℤ pos r -ℤ pos d *ℤ g) ≤ e * d * r)
embedded s e d r u g = simp (← whole-mul, whole_neg, ← whole-add, whole-abs, whole_le, ∣∣_is) (le-pos _ _, pos-le _ _)

-- 01's cross-multiplied form at x = p/q and v = u/d, for a list that is zero beyond place n
pub allows-whole : (s : ℕ) (a : List ℤ) (e n : ℕ) {x v : ℚ} {p u : ℤ} {q d : ℕ} → IsFraction x p q → IsFraction v u d → weight (drop (suc n) a) ≡ 0
    → allows s a e x v ↔ allows_whole s a e n p q u d
unfolding allows allows_whole
allows-whole s a e n {x} {v} {p} {u} {q} {d} fx fv h =
    Iff.trans
    (cross_multiplied (whole (pos s)) (whole (pos e)) v (whole (pos d)) (whole (pos (q ^ n))) (value ℚ_ring x (map whole a))
    above fv.equation (value_homogeneous ℚ_ring x p q fx.equation n a h))
    (embedded s e d (q ^ n) u (homogeneous_value p q n a))
  where
    above : whole (pos 0) <ℚ (whole (pos d) *ℚ whole (pos (q ^ n)))
    above = rw (← whole-mul) (natural_positive (d * q ^ n) (mul-pos fv.positive (one-le-pow n q fx.positive)))

-- only the fractions p/q and u/d count, not how they are written, nor n
pub allows_whole_same : (s : ℕ) (a : List ℤ) (e n n' : ℕ) {x v : ℚ} {p p' u u' : ℤ} {q q' d d' : ℕ}
    → IsFraction x p q → IsFraction x p' q' → IsFraction v u d → IsFraction v u' d' → weight (drop (suc n) a) ≡ 0 → weight (drop (suc n') a) ≡ 0
    → allows_whole s a e n p q u d ↔ allows_whole s a e n' p' q' u' d'
allows_whole_same s a e n n' fx fx' fv fv' h h' = Iff.trans (Iff.symm (allows-whole s a e n fx fv h)) (allows-whole s a e n' fx' fv' h')
