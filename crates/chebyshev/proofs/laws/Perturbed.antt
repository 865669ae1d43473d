-- The recurrence of the Chebyshev polynomials with a disturbance ε: e_0 = 0, e_(k+2) = 2·x·e_(k+1) − e_k + ε_k, where |x| ≤ 1.
-- The energy (e_(k+1) − x·e_k)² + (1 − x²)·e_k² is constant where ε = 0. For every b with |e_1| ≤ b_0 and b_k + |ε_k| ≤ b_(k+1)
-- it is at most b_k², so that |e_(k+1) − x·e_k| ≤ b_k and |e_(k+1)| ≤ |e_k| + b_k.
use Rattle.std.specs.Prelude.{◌≡◌, refl, [], ◌∷◌, ℕ, zero, suc, ◌+◌, ◌-◌, ◌*◌, pos}
use Rattle.std.proofs.Common.{subst, arith}
use Rattle.integer.proofs.laws.Embedding.{ι_suc, ι_nonneg, ι_abs}
use Rattle.ring.proofs.laws.Solver.{reify, solve}
use Rattle.ring.specs.definitions.OrderedRing.{OrderedRing}
use Rattle.ring.proofs.laws.OrderedRingLaws.{by_certificate, gap, ◌⊞◌, ◌⊠◌, ◌⟨≼⟩◌, ◌⟨+⟩◌, le_refl, le_of_eq, mul_mono, sq_nonneg, abs_upper, abs_mul_le, abs_square, root_abs, triangle}
use Rattle.chebyshev.proofs.laws.RecurrenceLaws.{one_minus_square}

module _ (O : OrderedRing) where
  open O use {ring, le as ◌≼◌, abs, abs_nonneg}
  open ring use {A, add as ◌⊕◌, mul as ◌⊗◌, opp as ⊖◌, ι}

  infixl 6 ◌⊕◌
  infixl 7 ◌⊗◌
  infix 8 ⊖◌
  infix 4 ◌≼◌
  -- the hypotheses on the sequences e, ε and b
  pub record Perturbed (x : A) (e ε b : ℕ → A) : Type 0 where
    pub range : abs x ≼ ι (pos 1)
    pub start : e 0 ≡ ι (pos 0)
    pub step : (k : ℕ) → e (suc (suc k)) ≡ ι (pos 2) ⊗ x ⊗ e (suc k) ⊕ ⊖ e k ⊕ ε k
    pub first : abs (e 1) ≼ b 0
    pub grow : (k : ℕ) → b k ⊕ abs (ε k) ≼ b (suc k)

  -- the energy of two successive terms u and w
  abbrev pub energy : A → A → A → A
  energy x u w = (w ⊕ ⊖ (x ⊗ u)) ⊗ (w ⊕ ⊖ (x ⊗ u)) ⊕ (ι (pos 1) ⊕ ⊖ (x ⊗ x)) ⊗ (u ⊗ u)

  -- |w − x·u| ≤ b from the energy
  energy_increment : (x u w b : A) → abs x ≼ ι (pos 1) → ι (pos 0) ≼ b → energy x u w ≼ b ⊗ b → abs (w ⊕ ⊖ (x ⊗ u)) ≼ b
  energy_increment x u w b range nonneg h =
      root_abs O (w ⊕ ⊖ (x ⊗ u)) b nonneg
      (by_certificate O (◌⊞◌ O (gap O h) (◌⊠◌ O (one_minus_square O x range) (sq_nonneg O u)))
      (solve ring (x ∷ u ∷ w ∷ b ∷ []) (search reify depth 20) (search reify depth 20) tt))

  -- one step: v = 2·x·w − u follows u and w where nothing disturbs, with the energy of u and w; the disturbance d adds
  -- 2·(v − x·w)·d + d², at most 2·b·|d| + |d|²
  energy_step : (x u w d b : A) → abs x ≼ ι (pos 1) → ι (pos 0) ≼ b → energy x u w ≼ b ⊗ b
      → energy x w (ι (pos 2) ⊗ x ⊗ w ⊕ ⊖ u ⊕ d) ≼ (b ⊕ abs d) ⊗ (b ⊕ abs d)
  energy_step x u w d b range nonneg h =
      by_certificate O (◌⊞◌ O (◌⊞◌ O (gap O kept) (◌⊞◌ O cross cross)) (gap O (abs_square O d (abs d) (le_refl O (abs d)))))
      (solve ring (x ∷ u ∷ w ∷ d ∷ b ∷ abs d ∷ []) (search reify depth 20) (search reify depth 20) tt)
    where
      v : A
      v = ι (pos 2) ⊗ x ⊗ w ⊕ ⊖ u

      kept : energy x w v ≼ b ⊗ b
      kept = ◌⟨≼⟩◌ O (le_of_eq O (solve ring (x ∷ u ∷ w ∷ []) (search reify depth 20) (search reify depth 20) tt)) h

      cross : ι (pos 0) ≼ b ⊗ abs d ⊕ ⊖ ((v ⊕ ⊖ (x ⊗ w)) ⊗ d)
      cross = gap O (abs_upper O (abs_mul_le O (v ⊕ ⊖ (x ⊗ w)) d (energy_increment x w v b range nonneg kept) (le_refl O (abs d))))

  module _ (x : A) (e ε b : ℕ → A) (p : Perturbed x e ε b) where
    bound_nonneg : (k : ℕ) → ι (pos 0) ≼ b k
    bound_nonneg zero = ◌⟨≼⟩◌ O (abs_nonneg (e 1)) p.first
    bound_nonneg (suc k) = ◌⟨≼⟩◌ O (◌⊞◌ O (bound_nonneg k) (abs_nonneg (ε k))) (p.grow k)

    -- (e_(k+1) − x·e_k)² + (1 − x²)·e_k² ≤ b_k²
    pub perturbed_energy : (k : ℕ) → energy x (e k) (e (suc k)) ≼ b k ⊗ b k
    perturbed_energy zero =
        rw p.start
        (◌⟨≼⟩◌ O (le_of_eq O (solve ring (x ∷ e 1 ∷ []) (search reify depth 20) (search reify depth 20) tt))
        (abs_square O (e 1) (b 0) p.first))
    perturbed_energy (suc k) =
        rw (p.step k)
        (◌⟨≼⟩◌ O (energy_step x (e k) (e (suc k)) (ε k) (b k) p.range (bound_nonneg k) (perturbed_energy k))
        (mul_mono O (◌⊞◌ O (bound_nonneg k) (abs_nonneg (ε k))) (p.grow k) (bound_nonneg (suc k)) (p.grow k)))

    -- |e_(k+1) − x·e_k| ≤ b_k
    pub perturbed_increment : (k : ℕ) → abs (e (suc k) ⊕ ⊖ (x ⊗ e k)) ≼ b k
    perturbed_increment k = energy_increment x (e k) (e (suc k)) (b k) p.range (bound_nonneg k) (perturbed_energy k)

    -- |e_(k+1)| ≤ |e_k| + b_k
    pub perturbed_growth : (k : ℕ) → abs (e (suc k)) ≼ abs (e k) ⊕ b k
    perturbed_growth k =
        subst (λ z. abs z ≼ abs (e k) ⊕ b k) (solve ring (x ∷ e k ∷ e (suc k) ∷ []) (search reify depth 20) (search reify depth 20) tt)
        (◌⟨≼⟩◌ O (triangle O (x ⊗ e k) (e (suc k) ⊕ ⊖ (x ⊗ e k))) (◌⟨+⟩◌ O contraction (perturbed_increment k)))
      where
        contraction : abs (x ⊗ e k) ≼ abs (e k)
        contraction =
            subst (λ z. abs (x ⊗ e k) ≼ z) (solve ring (abs (e k) ∷ []) (search reify depth 20) (search reify depth 20) tt)
            (abs_mul_le O x (e k) p.range (le_refl O (abs (e k))))

  -- where e_1 = 0 and |ε_k| ≤ δ for every k
  module _ (x : A) (e ε : ℕ → A) (δ : A) (range : abs x ≼ ι (pos 1)) (start : e 0 ≡ ι (pos 0)) (second : e 1 ≡ ι (pos 0))
      (step : (k : ℕ) → e (suc (suc k)) ≡ ι (pos 2) ⊗ x ⊗ e (suc k) ⊕ ⊖ e k ⊕ ε k) (small : (k : ℕ) → abs (ε k) ≼ δ) where
    times_zero : δ ⊗ ι (pos 0) ≡ ι (pos 0)
    times_zero = solve ring (δ ∷ []) (search reify depth 9) (search reify depth 9) tt

    uniform : Perturbed x e ε (λ k. δ ⊗ ι (pos k))
    uniform = record {
      range = range;
      start = start;
      step = step;
      first = rw (second, times_zero, ι_abs O (pos 0)) (le_refl O (ι (pos 0)));
      grow = λ k. rw (ι_suc ring k) (by_certificate O (gap O (small k)) (regroup (ι (pos k)) (abs (ε k))));
    }
      where
        regroup : (n d : A) → δ ⊗ (ι (pos 1) ⊕ n) ⊕ ⊖ (δ ⊗ n ⊕ d) ≡ δ ⊕ ⊖ d
        regroup n d = solve ring (n ∷ d ∷ δ ∷ []) (search reify depth 20) (search reify depth 20) tt

    -- 2·|e_k| ≤ δ·k·(k − 1)
    pub perturbed_uniform : (k : ℕ) → ι (pos 2) ⊗ abs (e k) ≼ δ ⊗ ι (pos (k * (k - 1)))
    perturbed_uniform zero = rw (start, ι_abs O (pos 0)) (le_of_eq O (solve ring (δ ∷ []) (search reify depth 9) (search reify depth 9) tt))
    perturbed_uniform (suc k) =
        rw (next k, ring.ι_add (pos (k * (k - 1))) (pos (2 * k)), ring.ι_mul (pos 2) (pos k))
        (by_certificate O (◌⊞◌ O (gap O (perturbed_uniform k)) (◌⊠◌ O (ι_nonneg O 2) (gap O (perturbed_growth x e ε (λ k. δ ⊗ ι (pos k)) uniform k))))
        (regroup (ι (pos k)) (ι (pos (k * (k - 1)))) (abs (e k)) (abs (e (suc k)))))
      where
        next : (k : ℕ) → suc k * (suc k - 1) ≡ k * (k - 1) + 2 * k
        next zero = refl
        next (suc k) =
            let outer : suc (suc k) - 1 ≡ suc k = omega arith in
            let inner : suc k - 1 ≡ k = omega arith in rw (outer, inner) (omega arith)

        regroup : (n m u w : A) → δ ⊗ (m ⊕ ι (pos 2) ⊗ n) ⊕ ⊖ (ι (pos 2) ⊗ w) ≡ δ ⊗ m ⊕ ⊖ (ι (pos 2) ⊗ u) ⊕ ι (pos 2) ⊗ (u ⊕ δ ⊗ n ⊕ ⊖ w)
        regroup n m u w = solve ring (n ∷ m ∷ u ∷ w ∷ δ ∷ []) (search reify depth 20) (search reify depth 20) tt
