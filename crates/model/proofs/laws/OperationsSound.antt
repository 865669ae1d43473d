-- Add, subtract and multiply are sound: what the operands allow at x, added, subtracted or multiplied, the result allows at x.
use Rattle.std.specs.Prelude.{◌≡◌, true, List, [], ◌∷◌, ℕ, suc, ◌+◌, ◌*◌, ◌-◌, ℤ, pos, take, drop}
use Rattle.std.proofs.Common.{sym, subst, arith}
use Rattle.integer.proofs.laws.Embedding.{ι_abs}
use Rattle.ring.proofs.laws.OrderedRingLaws.{le_of_eq, abs_mul_le, abs_add_le, abs_neg_le}
use Rattle.fraction.specs.definitions.Fraction.{ℚ, whole, ◌+ℚ◌, ◌-ℚ◌, -ℚ◌, ◌*ℚ◌, ◌≤ℚ◌, ∣◌∣ℚ}
use Rattle.integer.proofs.laws.FractionSolver.{reifyℚ, solveℚ}
use Rattle.integer.proofs.laws.FractionOrder.{ℚ_ordered}
use Rattle.integer.proofs.laws.FractionRounding.{natural_add, natural_mul, up_bound}
use Rattle.chebyshev.specs.definitions.Coefficients.{weight}
use Rattle.chebyshev.specs.definitions.Allows.{allows}
use Rattle.model.specs.definitions.Models.{scale, coefficient_count, good}
use Rattle.model.specs.definitions.Add.{sum_model, difference_model, addition, subtraction}
use Rattle.model.specs.definitions.Multiply.{product_model, product_list, product_degree, product_loss, multiplication}
use Rattle.model.specs.definitions.Allowed.{position, AllowsAt, Allows, OnInterval}
use Rattle.model.proofs.laws.IntervalLaws.{within}
use Rattle.model.proofs.laws.ModelLaws.{good_is}
use Rattle.model.specs.definitions.Round.{rounded, rounding_loss}
use Rattle.model.proofs.laws.RoundingPassLaws.{rounding_value}
use Rattle.model.proofs.laws.ValueLaws.{value_at, value_at_add, value_at_subtract, value_at_append_zeros, value_at_weight}
use Rattle.model.proofs.laws.GoodLaws.{value_product_list}
use Rattle.model.specs.definitions.Outcomes.{accepted}
use Rattle.model.proofs.laws.PlaceLaws.{addition_accepted, subtraction_accepted, multiplication_accepted}
use Rattle.model.specs.declared.types.Model.{Model}

-- ---- add and subtract

sum_bound : (s v w α β : ℚ) {e f : ℚ} → ∣ v *ℚ s -ℚ α ∣ℚ ≤ℚ e → ∣ w *ℚ s -ℚ β ∣ℚ ≤ℚ f → ∣ (v +ℚ w) *ℚ s -ℚ (α +ℚ β) ∣ℚ ≤ℚ (e +ℚ f)
sum_bound s v w α β {e} {f} h k =
    subst (λ z. ∣ z ∣ℚ ≤ℚ (e +ℚ f)) (solveℚ (s ∷ v ∷ w ∷ α ∷ β ∷ []) (search reifyℚ depth 20) (search reifyℚ depth 20) tt)
    (abs_add_le ℚ_ordered (v *ℚ s -ℚ α) (w *ℚ s -ℚ β) h k)

difference_bound : (s v w α β : ℚ) {e f : ℚ} → ∣ v *ℚ s -ℚ α ∣ℚ ≤ℚ e → ∣ w *ℚ s -ℚ β ∣ℚ ≤ℚ f → ∣ (v -ℚ w) *ℚ s -ℚ (α -ℚ β) ∣ℚ ≤ℚ (e +ℚ f)
difference_bound s v w α β {e} {f} h k =
    sum_bound s v (-ℚ w) α (-ℚ β) h
    (subst (λ z. ∣ z ∣ℚ ≤ℚ f) (solveℚ (s ∷ w ∷ β ∷ []) (search reifyℚ depth 20) (search reifyℚ depth 20) tt) (abs_neg_le ℚ_ordered (w *ℚ s -ℚ β) k))

pub add_sound : (a b : Model) (x v w : ℚ) → AllowsAt a x v → AllowsAt b x w → AllowsAt (sum_model a b) x (v +ℚ w)
unfolding AllowsAt allows sum_model
add_sound a b x v w h k =
    rw (value_at_add x a.coefficients b.coefficients, natural_add a.radius b.radius)
    (sum_bound (whole (pos scale)) v w (value_at x a.coefficients) (value_at x b.coefficients) h k)

pub subtract_sound : (a b : Model) (x v w : ℚ) → AllowsAt a x v → AllowsAt b x w → AllowsAt (difference_model a b) x (v -ℚ w)
unfolding AllowsAt allows difference_model
subtract_sound a b x v w h k =
    rw (value_at_subtract x a.coefficients b.coefficients, natural_add a.radius b.radius)
    (difference_bound (whole (pos scale)) v w (value_at x a.coefficients) (value_at x b.coefficients) h k)

-- ---- multiply

-- 2s·(v·w·s − c) = (2·α·β − 2s·c) + 2·(α·η + β·ε + ε·η), where ε = v·s − α and η = w·s − β
product_bound : (s v w α β c : ℚ) {l A B e f : ℚ}
    → ∣ whole (pos 2) *ℚ α *ℚ β -ℚ whole (pos 2) *ℚ s *ℚ c ∣ℚ ≤ℚ l → ∣ α ∣ℚ ≤ℚ A → ∣ β ∣ℚ ≤ℚ B → ∣ v *ℚ s -ℚ α ∣ℚ ≤ℚ e → ∣ w *ℚ s -ℚ β ∣ℚ ≤ℚ f
    → ∣ whole (pos 2) *ℚ s *ℚ (v *ℚ w *ℚ s -ℚ c) ∣ℚ ≤ℚ (l +ℚ whole (pos 2) *ℚ (A *ℚ f +ℚ B *ℚ e +ℚ e *ℚ f))
product_bound s v w α β c {l} {A} {B} {e} {f} hl hα hβ hε hη =
    subst (λ z. ∣ z ∣ℚ ≤ℚ (l +ℚ whole (pos 2) *ℚ (A *ℚ f +ℚ B *ℚ e +ℚ e *ℚ f))) (solveℚ (s ∷ v ∷ w ∷ α ∷ β ∷ c ∷ []) (search reifyℚ depth 20) (search reifyℚ depth 20) tt)
    (abs_add_le ℚ_ordered (whole (pos 2) *ℚ α *ℚ β -ℚ whole (pos 2) *ℚ s *ℚ c) (whole (pos 2) *ℚ (α *ℚ η +ℚ β *ℚ ε +ℚ ε *ℚ η)) hl
    (abs_mul_le ℚ_ordered (whole (pos 2)) (α *ℚ η +ℚ β *ℚ ε +ℚ ε *ℚ η) (le_of_eq ℚ_ordered (ι_abs ℚ_ordered (pos 2)))
    (abs_add_le ℚ_ordered (α *ℚ η +ℚ β *ℚ ε) (ε *ℚ η)
    (abs_add_le ℚ_ordered (α *ℚ η) (β *ℚ ε) (abs_mul_le ℚ_ordered α η hα hη) (abs_mul_le ℚ_ordered β ε hβ hε))
    (abs_mul_le ℚ_ordered ε η hε hη))))
  where
    ε : ℚ
    ε = v *ℚ s -ℚ α

    η : ℚ
    η = w *ℚ s -ℚ β

pub multiply_sound : (d : ℕ) (a b : Model) → good a ≡ true → good b ≡ true
    → (x v w : ℚ) → ∣ x ∣ℚ ≤ℚ whole (pos 1) → AllowsAt a x v → AllowsAt b x w → AllowsAt (product_model d a b) x (v *ℚ w)
unfolding AllowsAt allows product_model product_loss
multiply_sound d a b ga gb x v w on h k =
    rw (value_at_append_zeros x kept (coefficient_count - suc n))
    (up_bound (product_loss n a b) (2 * scale) (v *ℚ w *ℚ whole (pos scale) -ℚ value_at x kept) (omega arith)
    (rw (natural_mul 2 scale, loss_natural lost (weight a.coefficients) (weight b.coefficients) a.radius b.radius)
    (product_bound (whole (pos scale)) v w (value_at x a.coefficients) (value_at x b.coefficients) (value_at x kept)
    rounding (value_at_weight x on a.coefficients) (value_at_weight x on b.coefficients) h k)))
  where
    n : ℕ
    n = product_degree d a b

    kept : List ℤ
    kept = rounded (2 * scale) (take (suc n) (product_list a b))

    lost : ℕ
    lost = rounding_loss (2 * scale) (take (suc n) (product_list a b)) + weight (drop (suc n) (product_list a b))

    loss_natural : (l A B e f : ℕ) → whole (pos (l + 2 * (A * f + B * e + e * f))) ≡ whole (pos l) +ℚ whole (pos 2) *ℚ (whole (pos A) *ℚ whole (pos f) +ℚ whole (pos B) *ℚ whole (pos e) +ℚ whole (pos e) *ℚ whole (pos f))
    loss_natural l A B e f = simp (natural_add, natural_mul)

    rounding : ∣ whole (pos 2) *ℚ value_at x a.coefficients *ℚ value_at x b.coefficients -ℚ whole (pos 2) *ℚ whole (pos scale) *ℚ value_at x kept ∣ℚ ≤ℚ whole (pos lost)
    rounding = rw (value_product_list a b ga gb x, ← natural_mul 2 scale) (rounding_value (2 * scale) (suc n) x on (product_list a b))

-- ---- the same of the outcomes

-- of two operands on one interval, the second read on that of the first
on_first : (a b : Model) → a.interval ≡ b.interval → (x w : ℚ) → Allows b x w → AllowsAt b (position a.interval x) w
on_first a b e x w h = subst (λ i. AllowsAt b (position i x) w) (sym e) h

pub addition_sound : (a b : Model) {c : Model} → addition a b ≡ accepted c
    → (x v w : ℚ) → Allows a x v → Allows b x w → Allows c x (v +ℚ w)
unfolding sum_model
addition_sound a b e x v w h k =
    let p = addition_accepted a b e in
    rw p.result (add_sound a b (position a.interval x) v w h (on_first a b p.same_interval_lem x w k))

pub subtraction_sound : (a b : Model) {c : Model} → subtraction a b ≡ accepted c
    → (x v w : ℚ) → Allows a x v → Allows b x w → Allows c x (v -ℚ w)
unfolding difference_model
subtraction_sound a b e x v w h k =
    let p = subtraction_accepted a b e in
    rw p.result (subtract_sound a b (position a.interval x) v w h (on_first a b p.same_interval_lem x w k))

pub multiplication_sound : (d : ℕ) (a b : Model) {c : Model} → multiplication d a b ≡ accepted c
    → (x v w : ℚ) → OnInterval a.interval x → Allows a x v → Allows b x w → Allows c x (v *ℚ w)
unfolding product_model
multiplication_sound d a b e x v w on h k =
    let p = multiplication_accepted d a b e in
    let near = within (good_is a p.first_good).ends x on in
    rw p.result
    (multiply_sound d a b p.first_good p.second_good (position a.interval x) v w near h (on_first a b p.same_interval_lem x w k))
