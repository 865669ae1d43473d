-- How far sums over strips lie from the primitive P of a list a: one strip from x to y in [−1, 1] is off by at most L·(y − x)²/2 with
-- L = Σ|a_k|·k². Over fractions alone: Taylor's formula bounds a strip by some multiple of its width's square, and cutting strips
-- in two, where the Lipschitz bound of a applies at the cut, brings that multiple below every number above L/2.
use Rattle.std.specs.Prelude.{◌≡◌, List, [], ◌∷◌, pos}
use Rattle.std.proofs.Common.{sym, ◌∙◌, ap, subst}
use Prim.Native.Nat.{ℕ, zero, suc, ◌^◌}
use Rattle.integer.proofs.laws.Archimedean.{limit_le}
use Rattle.integer.proofs.laws.Embedding.{ι_nonneg, ι_suc, ι_abs}
use Rattle.ring.proofs.laws.OrderedRingLaws.{by_certificate, gap, ◌⊞◌, ◌⊠◌, ◌⟨≼⟩◌, le_refl, le_of_eq, sq_nonneg, abs-le, abs_of_nonneg, abs-mul, abs_mul_le, abs_neg_le, abs_add_le, triangle}
use Rattle.fraction.specs.definitions.Fraction.{ℚ, whole, ◌+ℚ◌, ◌-ℚ◌, -ℚ◌, ◌*ℚ◌, ◌≤ℚ◌, ∣◌∣ℚ}
use Rattle.fraction.proofs.laws.FractionLaws.{+ℚ_assoc}
use Rattle.integer.proofs.laws.FractionRounding.{natural_power}
use Rattle.integer.specs.definitions.FractionRing.{ℚ_ring}
use Rattle.integer.proofs.laws.FractionSolver.{reifyℚ, solveℚ}
use Rattle.integer.proofs.laws.FractionOrder.{ℚ_ordered}
use Rattle.chebyshev.specs.definitions.Coefficients.{value}
use Rattle.chebyshev.specs.definitions.Norms.{lipschitz_from}
use Rattle.chebyshev.proofs.laws.Lipschitz.{lipschitz_nonneg, value_lipschitz}
use Rattle.chebyshev.specs.definitions.Derivative.{sum_from, remainder}
use Rattle.chebyshev.specs.definitions.Primitive.{primitive}
use Rattle.chebyshev.proofs.laws.PrimitiveLaws.{primitive_increment}
use Rattle.chebyshev.proofs.laws.Midpoint.{midpoint, midpoint_double, midpoint_range}
use Rattle.chebyshev.proofs.laws.RemainderBound.{sum_bounded}
use Rattle.chebyshev.specs.definitions.Strips.{left_sum}

abbrev In : ℚ → Type 0
In x = ∣ x ∣ℚ ≤ℚ whole (pos 1)

pub left_sum-scale : (f : ℚ → ℚ) (s y h : ℚ) (k : ℕ) → left_sum (λ x. f x *ℚ s) y h k ≡ left_sum f y h k *ℚ s
unfolding left_sum
left_sum-scale f s y h zero = solveℚ (s ∷ []) (search reifyℚ depth 9) (search reifyℚ depth 9) tt
left_sum-scale f s y h (suc k) =
    ap (λ v. f y *ℚ s *ℚ h +ℚ v) (left_sum-scale f s (y +ℚ h) h k)
    ∙ solveℚ (f y ∷ s ∷ h ∷ left_sum f (y +ℚ h) h k ∷ []) (search reifyℚ depth 12) (search reifyℚ depth 12) tt

module _ (a : List ℚ) where
  abbrev P : ℚ → ℚ
  P x = value ℚ_ring x (primitive a)

  abbrev p : ℚ → ℚ
  p x = value ℚ_ring x a

  abbrev L : ℚ
  L = lipschitz_from ℚ_ordered 0 a

  -- ---- one strip, from x to x + h

  abbrev strip : ℚ → ℚ → ℚ
  strip x h = P (x +ℚ h) -ℚ P x -ℚ h *ℚ p x

  K : ℚ
  K = (sum_bounded ℚ_ordered 0 (primitive a)).most

  crude : (x h : ℚ) → In x → In (x +ℚ h) → ∣ strip x h ∣ℚ ≤ℚ ((h *ℚ h) *ℚ K)
  unfolding K
  crude x h hx hy =
      rw is
      (abs_mul_le ℚ_ordered (h *ℚ h) R (le_of_eq ℚ_ordered (abs_of_nonneg ℚ_ordered (sq_nonneg ℚ_ordered h))) ((sum_bounded ℚ_ordered 0 (primitive a)).holds x h hx hy))
    where
      R : ℚ
      R = sum_from ℚ_ring (remainder ℚ_ring x h) 0 (primitive a)

      is : strip x h ≡ (h *ℚ h) *ℚ R
      is =
          ap (λ v. v -ℚ P x -ℚ h *ℚ p x) (primitive_increment x h a)
          ∙ solveℚ (h ∷ P x ∷ p x ∷ R ∷ []) (search reifyℚ depth 20) (search reifyℚ depth 20) tt

  -- t·2·|strip| ≤ (t·L + 2·K)·h²: the larger t, the nearer to the bound
  abbrev Within : ℚ → Type 0
  Within t = (x h : ℚ) → In x → In (x +ℚ h) → (t *ℚ (whole (pos 2) *ℚ ∣ strip x h ∣ℚ)) ≤ℚ ((t *ℚ L +ℚ whole (pos 2) *ℚ K) *ℚ (h *ℚ h))

  within_one : Within (whole (pos 1))
  within_one x h hx hy =
      by_certificate ℚ_ordered
      (◌⊞◌ ℚ_ordered (◌⊠◌ ℚ_ordered (ι_nonneg ℚ_ordered 2) (gap ℚ_ordered (crude x h hx hy))) (◌⊠◌ ℚ_ordered (lipschitz_nonneg ℚ_ordered 0 a) (sq_nonneg ℚ_ordered h)))
      (solveℚ (h ∷ L ∷ K ∷ ∣ strip x h ∣ℚ ∷ []) (search reifyℚ depth 20) (search reifyℚ depth 20) tt)

  -- a strip of two halves of width d, whose second one begins with the value at x + d in place of that at x
  two_halves : (x d : ℚ) → In x → In (x +ℚ d) → ∣ strip x (d +ℚ d) ∣ℚ ≤ℚ (∣ strip x d ∣ℚ +ℚ ∣ strip (x +ℚ d) d ∣ℚ +ℚ L *ℚ (d *ℚ d))
  two_halves x d hx hz =
      rw cut
      (abs_add_le ℚ_ordered (strip x d +ℚ strip (x +ℚ d) d) (d *ℚ (p (x +ℚ d) -ℚ p x)) (triangle ℚ_ordered (strip x d) (strip (x +ℚ d) d))
      (◌⟨≼⟩◌ ℚ_ordered (abs_mul_le ℚ_ordered d (p (x +ℚ d) -ℚ p x) (le_refl ℚ_ordered ∣ d ∣ℚ) (value_lipschitz ℚ_ordered (x +ℚ d) x hz hx a)) (le_of_eq ℚ_ordered square)))
    where
      cut : strip x (d +ℚ d) ≡ strip x d +ℚ strip (x +ℚ d) d +ℚ d *ℚ (p (x +ℚ d) -ℚ p x)
      cut =
          ap (λ y. P y -ℚ P x -ℚ (d +ℚ d) *ℚ p x) (sym (+ℚ_assoc x d d))
          ∙ solveℚ (d ∷ P x ∷ P (x +ℚ d) ∷ P (x +ℚ d +ℚ d) ∷ p x ∷ p (x +ℚ d) ∷ []) (search reifyℚ depth 20) (search reifyℚ depth 20) tt

      width : x +ℚ d -ℚ x ≡ d
      width = solveℚ (x ∷ d ∷ []) (search reifyℚ depth 9) (search reifyℚ depth 9) tt

      square : ∣ d ∣ℚ *ℚ (L *ℚ ∣ x +ℚ d -ℚ x ∣ℚ) ≡ L *ℚ (d *ℚ d)
      square =
          ap (λ u. ∣ d ∣ℚ *ℚ (L *ℚ ∣ u ∣ℚ)) width
          ∙ solveℚ (∣ d ∣ℚ ∷ L ∷ []) (search reifyℚ depth 9) (search reifyℚ depth 9) tt
          ∙ ap (λ u. L *ℚ u) (sym (abs-mul ℚ_ordered d d) ∙ abs_of_nonneg ℚ_ordered (sq_nonneg ℚ_ordered d))

  within_double : (t : ℚ) → whole (pos 0) ≤ℚ t → Within t → Within (whole (pos 2) *ℚ t)
  within_double t nonneg w x h hx hy = subst Goal twice (from_halves (midpoint x (x +ℚ h) -ℚ x) (rw middle (midpoint_range x (x +ℚ h) hx hy)) (rw twice hy))
    where
      Goal : ℚ → Type 0
      Goal h = (whole (pos 2) *ℚ t *ℚ (whole (pos 2) *ℚ ∣ strip x h ∣ℚ)) ≤ℚ ((whole (pos 2) *ℚ t *ℚ L +ℚ whole (pos 2) *ℚ K) *ℚ (h *ℚ h))

      middle : x +ℚ (midpoint x (x +ℚ h) -ℚ x) ≡ midpoint x (x +ℚ h)
      middle = solveℚ (x ∷ midpoint x (x +ℚ h) ∷ []) (search reifyℚ depth 9) (search reifyℚ depth 9) tt

      twice : midpoint x (x +ℚ h) -ℚ x +ℚ (midpoint x (x +ℚ h) -ℚ x) ≡ h
      twice =
          solveℚ (x ∷ midpoint x (x +ℚ h) ∷ []) (search reifyℚ depth 12) (search reifyℚ depth 12) tt
          ∙ ap (λ s. s -ℚ x -ℚ x) (midpoint_double x (x +ℚ h))
          ∙ solveℚ (x ∷ h ∷ []) (search reifyℚ depth 12) (search reifyℚ depth 12) tt

      from_halves : (d : ℚ) → In (x +ℚ d) → In (x +ℚ (d +ℚ d)) → Goal (d +ℚ d)
      from_halves d hz hy =
          by_certificate ℚ_ordered
          (◌⊞◌ ℚ_ordered (◌⊠◌ ℚ_ordered (ι_nonneg ℚ_ordered 2) (◌⊞◌ ℚ_ordered (gap ℚ_ordered (w x d hx hz)) (gap ℚ_ordered (w (x +ℚ d) d hz (rw (+ℚ_assoc x d d) hy)))))
          (◌⊠◌ ℚ_ordered (◌⊠◌ ℚ_ordered (ι_nonneg ℚ_ordered 4) nonneg) (gap ℚ_ordered (two_halves x d hx hz))))
          (solveℚ (t ∷ d ∷ L ∷ K ∷ ∣ strip x d ∣ℚ ∷ ∣ strip (x +ℚ d) d ∣ℚ ∷ ∣ strip x (d +ℚ d) ∣ℚ ∷ []) (search reifyℚ depth 24 fits 9000) (search reifyℚ depth 24 fits 9000) tt)

  within_power : (n : ℕ) → Within (whole (pos (2 ^ n)))
  within_power zero = within_one
  within_power (suc n) = rw (natural_power n) (within_double (whole (pos (2 ^ n))) (ι_nonneg ℚ_ordered (2 ^ n)) (within_power n))

  -- 2·|P(x + h) − P(x) − h·a(x)| ≤ L·h²
  increment_bound : (x h : ℚ) → In x → In (x +ℚ h) → (whole (pos 2) *ℚ ∣ strip x h ∣ℚ) ≤ℚ (L *ℚ (h *ℚ h))
  increment_bound x h hx hy =
      limit_le (whole (pos 2) *ℚ ∣ strip x h ∣ℚ) (L *ℚ (h *ℚ h)) (whole (pos 2) *ℚ K *ℚ (h *ℚ h))
      (λ n. ◌⟨≼⟩◌ ℚ_ordered (within_power n x h hx hy) (le_of_eq ℚ_ordered (regroup (whole (pos (2 ^ n))))))
    where
      regroup : (t : ℚ) → (t *ℚ L +ℚ whole (pos 2) *ℚ K) *ℚ (h *ℚ h) ≡ t *ℚ (L *ℚ (h *ℚ h)) +ℚ whole (pos 2) *ℚ K *ℚ (h *ℚ h)
      regroup t = solveℚ (t ∷ h ∷ L ∷ K ∷ []) (search reifyℚ depth 20) (search reifyℚ depth 20) tt

  -- 2·|P(y) − P(x) − (y − x)·a(x)| ≤ L·(y − x)²
  pub strip_bound : (x y : ℚ) → In x → In y → (whole (pos 2) *ℚ ∣ P y -ℚ P x -ℚ (y -ℚ x) *ℚ p x ∣ℚ) ≤ℚ (L *ℚ ((y -ℚ x) *ℚ (y -ℚ x)))
  strip_bound x y hx hy =
      subst (λ z. (whole (pos 2) *ℚ ∣ P z -ℚ P x -ℚ (y -ℚ x) *ℚ p x ∣ℚ) ≤ℚ (L *ℚ ((y -ℚ x) *ℚ (y -ℚ x)))) back (increment_bound x (y -ℚ x) hx (rw back hy))
    where
      back : x +ℚ (y -ℚ x) ≡ y
      back = solveℚ (x ∷ y ∷ []) (search reifyℚ depth 9) (search reifyℚ depth 9) tt

  -- ---- k strips of width h from y on, of any function f that is within e of a on [−1, 1]

  module _ (f : ℚ → ℚ) (e : ℚ) (close : (x : ℚ) → In x → ∣ f x -ℚ p x ∣ℚ ≤ℚ e) where
    -- one strip more on the left, from y to y + h
    one_more : (y h s : ℚ) → whole (pos 0) ≤ℚ h → In y → In (y +ℚ h) → (z : ℚ)
        → ∣ P z -ℚ P y -ℚ (f y *ℚ h +ℚ s) ∣ℚ ≤ℚ (∣ P z -ℚ P (y +ℚ h) -ℚ s ∣ℚ +ℚ ∣ strip y h ∣ℚ +ℚ e *ℚ h)
    one_more y h s nonneg hy hz z =
        rw split
        (abs_add_le ℚ_ordered (P z -ℚ P (y +ℚ h) -ℚ s +ℚ strip y h) (-ℚ ((f y -ℚ p y) *ℚ h)) (triangle ℚ_ordered (P z -ℚ P (y +ℚ h) -ℚ s) (strip y h))
        (abs_neg_le ℚ_ordered ((f y -ℚ p y) *ℚ h) (abs_mul_le ℚ_ordered (f y -ℚ p y) h (close y hy) (le_of_eq ℚ_ordered (abs_of_nonneg ℚ_ordered nonneg)))))
      where
        split : P z -ℚ P y -ℚ (f y *ℚ h +ℚ s) ≡ P z -ℚ P (y +ℚ h) -ℚ s +ℚ strip y h +ℚ -ℚ ((f y -ℚ p y) *ℚ h)
        split = solveℚ (h ∷ s ∷ P z ∷ P y ∷ P (y +ℚ h) ∷ p y ∷ f y ∷ []) (search reifyℚ depth 20) (search reifyℚ depth 20) tt

    -- 2·|P(y + k·h) − P(y) − Σ f(y + i·h)·h| ≤ k·h·(2·e + L·h)
    pub left_sum_bound : (k : ℕ) (y h : ℚ) → whole (pos 0) ≤ℚ h → (-ℚ whole (pos 1)) ≤ℚ y → (y +ℚ whole (pos k) *ℚ h) ≤ℚ whole (pos 1)
        → (whole (pos 2) *ℚ ∣ P (y +ℚ whole (pos k) *ℚ h) -ℚ P y -ℚ left_sum f y h k ∣ℚ) ≤ℚ (whole (pos k) *ℚ h *ℚ (whole (pos 2) *ℚ e +ℚ L *ℚ h))
    unfolding left_sum
    left_sum_bound zero y h nonneg above below =
        rw (stays, nothing, ι_abs ℚ_ordered (pos 0))
        (le_of_eq ℚ_ordered (solveℚ (h ∷ e ∷ L ∷ []) (search reifyℚ depth 12) (search reifyℚ depth 12) tt))
      where
        stays : y +ℚ whole (pos 0) *ℚ h ≡ y
        stays = solveℚ (y ∷ h ∷ []) (search reifyℚ depth 9) (search reifyℚ depth 9) tt

        nothing : P y -ℚ P y -ℚ whole (pos 0) ≡ whole (pos 0)
        nothing = solveℚ (P y ∷ []) (search reifyℚ depth 9) (search reifyℚ depth 9) tt
    left_sum_bound (suc k) y h nonneg above below =
        rw (ι_suc ℚ_ring k, next (whole (pos k)))
        (join (whole (pos k)) ∣ P (y +ℚ h +ℚ whole (pos k) *ℚ h) -ℚ P (y +ℚ h) -ℚ left_sum f (y +ℚ h) h k ∣ℚ ∣ strip y h ∣ℚ _
        (left_sum_bound k (y +ℚ h) h nonneg right_above end_below)
        (increment_bound y h in_y in_right)
        (one_more y h (left_sum f (y +ℚ h) h k) nonneg in_y in_right (y +ℚ h +ℚ whole (pos k) *ℚ h)))
      where
        next : (n : ℚ) → y +ℚ (whole (pos 1) +ℚ n) *ℚ h ≡ y +ℚ h +ℚ n *ℚ h
        next n = solveℚ (n ∷ y ∷ h ∷ []) (search reifyℚ depth 12) (search reifyℚ depth 12) tt

        end_below : (y +ℚ h +ℚ whole (pos k) *ℚ h) ≤ℚ whole (pos 1)
        end_below = rw (ι_suc ℚ_ring k, next (whole (pos k))) at below

        right_above : (-ℚ whole (pos 1)) ≤ℚ (y +ℚ h)
        right_above = by_certificate ℚ_ordered (◌⊞◌ ℚ_ordered (gap ℚ_ordered above) nonneg) (solveℚ (y ∷ h ∷ []) (search reifyℚ depth 12) (search reifyℚ depth 12) tt)

        -- what lies left of the end is below it
        left_of : (u r : ℚ) → whole (pos 0) ≤ℚ r → (u +ℚ r) ≤ℚ whole (pos 1) → u ≤ℚ whole (pos 1)
        left_of u r l b = by_certificate ℚ_ordered (◌⊞◌ ℚ_ordered (gap ℚ_ordered b) l) (solveℚ (u ∷ r ∷ []) (search reifyℚ depth 12) (search reifyℚ depth 12) tt)

        right_below : (y +ℚ h) ≤ℚ whole (pos 1)
        right_below = left_of (y +ℚ h) (whole (pos k) *ℚ h) (◌⊠◌ ℚ_ordered (ι_nonneg ℚ_ordered k) nonneg) end_below

        in_right : In (y +ℚ h)
        in_right = abs-le ℚ_ordered right_below right_above

        in_y : In y
        in_y = abs-le ℚ_ordered (left_of y h nonneg right_below) above

        join : (n u v s : ℚ) → (whole (pos 2) *ℚ u) ≤ℚ (n *ℚ h *ℚ (whole (pos 2) *ℚ e +ℚ L *ℚ h)) → (whole (pos 2) *ℚ v) ≤ℚ (L *ℚ (h *ℚ h)) → s ≤ℚ (u +ℚ v +ℚ e *ℚ h)
            → (whole (pos 2) *ℚ s) ≤ℚ ((whole (pos 1) +ℚ n) *ℚ h *ℚ (whole (pos 2) *ℚ e +ℚ L *ℚ h))
        join n u v s hu hv hs =
            by_certificate ℚ_ordered (◌⊞◌ ℚ_ordered (◌⊞◌ ℚ_ordered (gap ℚ_ordered hu) (gap ℚ_ordered hv)) (◌⊠◌ ℚ_ordered (ι_nonneg ℚ_ordered 2) (gap ℚ_ordered hs)))
            (solveℚ (n ∷ u ∷ v ∷ s ∷ h ∷ e ∷ L ∷ []) (search reifyℚ depth 24) (search reifyℚ depth 24) tt)
