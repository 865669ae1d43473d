-- Σ a_i·b_(k−i) and Σ a_i·b_(k+1−i), from i = `from` on: the two sums of `pairs::add_convolutions` on their way.
use mathlib.Core.Path.{◌≡◌, ◌∙◌, ap}
use mathlib.Core.List.{List}
use Prim.Native.Nat.{ℕ, suc, ◌+◌, ◌-◌, ◌*◌, ◌^◌, ◌≤◌, ◌<◌}
use native.Mathlib.Omega.{arith}
use lib.IntN.{ℤ, pos, nat_abs, ◌+ℤ◌, ◌*ℤ◌}
use lib.ListN.{length, get_or, drop}
use Rattle.ring.specs.definitions.Integer.{ℤ_ring}
use Rattle.chebyshev.specs.definitions.Coefficients.{weight}
use Rattle.chebyshev.specs.definitions.Convolution.{convolution}
use Rattle.chebyshev.proofs.laws.ConvolutionLaws.{convolution_step, convolution_end, convolution_zero, convolution_small}
use Rattle.groups.specs.definitions.InnerContracts.{Below, Holds}
use Rattle.groups.specs.declared.pairs.TwoPlaces.{TwoPlaces}
use Rattle.groups.proofs.PairWalks.{step, done, no_pair, begun_small, left_small}

module _ (a b : List ℤ) where
  convolution_left : (t i : ℕ) → nat_abs (convolution ℤ_ring t (drop i a) b) ≤ weight a * weight b
  convolution_left t i = omega (arith, convolution_small t (drop i a) b, left_small a b i)

  abbrev pub ConvolutionFrom : ℕ → ℕ → TwoPlaces → TwoPlaces → Type 0
  ConvolutionFrom k from start r =
      Holds r (start.first +ℤ convolution ℤ_ring (k + 1 - from) (drop from a) b) (start.second +ℤ convolution ℤ_ring (k + 2 - from) (drop from a) b)

  pub record ConvolutionSoFar (k from : ℕ) (start total : TwoPlaces) (i : ℕ) : Type 0 where
    pub reach : i ≤ k + 1
    pub inside : k + 1 < i + length b
    pub first : total.first +ℤ convolution ℤ_ring (k + 1 - i) (drop i a) b ≡ start.first +ℤ convolution ℤ_ring (k + 1 - from) (drop from a) b
    pub second : total.second +ℤ convolution ℤ_ring (k + 2 - i) (drop i a) b ≡ start.second +ℤ convolution ℤ_ring (k + 2 - from) (drop from a) b

  module _ {k from : ℕ} {start total : TwoPlaces} {i : ℕ} (w : ConvolutionSoFar k from start total i) where
    pub convolution_below : Below (2 ^ 61) start → weight a * weight b ≤ 2 ^ 56 → Below (2 ^ 62) total
    convolution_below h small = (
      begun_small start.first total.first (convolution ℤ_ring (k + 1 - from) (drop from a) b) (convolution ℤ_ring (k + 1 - i) (drop i a) b)
          (weight a * weight b) w.first (convolution_left (k + 1 - from) from) (convolution_left (k + 1 - i) i) small h.0,
      begun_small start.second total.second (convolution ℤ_ring (k + 2 - from) (drop from a) b) (convolution ℤ_ring (k + 2 - i) (drop i a) b)
          (weight a * weight b) w.second (convolution_left (k + 2 - from) from) (convolution_left (k + 2 - i) i) small h.1,
    )

    step_of : (t n : ℕ) → t ≡ suc n → i < length a
        → convolution ℤ_ring t (drop i a) b ≡ get_or a i (pos 0) *ℤ get_or b n (pos 0) +ℤ convolution ℤ_ring n (drop (i + 1) a) b
    step_of t n e h = rw e (convolution_step ℤ_ring n a b i h)

    pub convolution_turn : (next : TwoPlaces) → i < length a → i < k + 1
        → Holds next (total.first +ℤ get_or a i (pos 0) *ℤ get_or b (k - i) (pos 0)) (total.second +ℤ get_or a i (pos 0) *ℤ get_or b (k + 1 - i) (pos 0))
        → ConvolutionSoFar k from start next (i + 1)
    convolution_turn next h l p =
        let x = get_or a i (pos 0) in
        let e : k + 1 - (i + 1) ≡ k - i = omega arith in
        let f : k + 2 - (i + 1) ≡ k + 1 - i = omega arith in record {
          reach = omega arith;
          inside = omega (arith, w.inside);
          first = rw e (step total.first (x *ℤ get_or b (k - i) (pos 0)) _ _ _ _ w.first (step_of (k + 1 - i) (k - i) (omega arith) h) p.0);
          second = rw f (step total.second (x *ℤ get_or b (k + 1 - i) (pos 0)) _ _ _ _ w.second (step_of (k + 2 - i) (k + 1 - i) (omega arith) h) p.1);
        }

    pub convolution_ends : length a ≤ i → ConvolutionFrom k from start total
    convolution_ends h = (
      done _ _ _ w.first (convolution_end ℤ_ring (k + 1 - i) a b i h),
      done _ _ _ w.second (convolution_end ℤ_ring (k + 2 - i) a b i h),
    )

    -- the last pair of the second place
    pub convolution_last : (next : TwoPlaces) → k + 1 ≤ i → k + 1 < length a
        → Holds next (total.first +ℤ get_or a (k + 1) (pos 0) *ℤ pos 0) (total.second +ℤ get_or a (k + 1) (pos 0) *ℤ get_or b 0 (pos 0))
        → ConvolutionFrom k from start next
    convolution_last next h l p =
        let n : k + 1 ≡ i = omega (arith, w.reach) in
        let e : k + 1 - i ≡ 0 = omega arith in (
          no_pair (get_or a (k + 1) (pos 0)) total.first next.first p.0 ∙ done total.first _ _ w.first (ap (λ (t : ℕ). convolution ℤ_ring t (drop i a) b) e ∙ convolution_zero ℤ_ring (drop i a) b),
          done next.second _ _ (step total.second (get_or a i (pos 0) *ℤ get_or b 0 (pos 0)) _ _ _ _ w.second (step_of (k + 2 - i) 0 (omega arith) (omega arith)) (rw n at p.1)) (convolution_zero ℤ_ring (drop (i + 1) a) b),
        )
