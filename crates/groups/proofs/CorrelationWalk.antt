-- Σ a_i·b_(i+k) and Σ a_i·b_(i+k+1): the two sums of `pairs::add_correlations` on their way.
use mathlib.Core.Path.{◌≡◌, sym, ◌∙◌, ap}
use mathlib.Core.List.{List}
use Prim.Native.Nat.{ℕ, suc, ◌+◌, ◌*◌, ◌^◌, ◌≤◌, ◌<◌}
use native.Mathlib.Omega.{arith}
use lib.IntN.{ℤ, pos, nat_abs, ◌+ℤ◌, ◌*ℤ◌, +ℤ_idr}
use lib.ListN.{length, get_or, drop}
use Rattle.ring.specs.definitions.Integer.{ℤ_ring}
use Rattle.chebyshev.specs.definitions.Coefficients.{weight}
use Rattle.chebyshev.specs.definitions.Convolution.{correlation}
use Rattle.chebyshev.proofs.laws.ConvolutionLaws.{correlation_step, correlation_end, correlation_beyond, correlation_small}
use Rattle.groups.specs.definitions.InnerContracts.{Below, Holds}
use Rattle.groups.specs.declared.pairs.TwoPlaces.{TwoPlaces}
use Rattle.groups.proofs.PairWalks.{step, done, no_pair, begun_small, left_small}

module _ (a b : List ℤ) where
  correlation_left : (t i : ℕ) → nat_abs (correlation ℤ_ring t (drop i a) b) ≤ weight a * weight b
  correlation_left t i = omega (arith, correlation_small t (drop i a) b, left_small a b i)

  abbrev pub CorrelationFrom : ℕ → TwoPlaces → TwoPlaces → Type 0
  CorrelationFrom k start r = Holds r (start.first +ℤ correlation ℤ_ring k a b) (start.second +ℤ correlation ℤ_ring (k + 1) a b)

  pub record CorrelationSoFar (k : ℕ) (start total : TwoPlaces) (i : ℕ) : Type 0 where
    pub inside : k + i < length b
    pub first : total.first +ℤ correlation ℤ_ring (k + i) (drop i a) b ≡ start.first +ℤ correlation ℤ_ring k a b
    pub second : total.second +ℤ correlation ℤ_ring (k + i + 1) (drop i a) b ≡ start.second +ℤ correlation ℤ_ring (k + 1) a b

  pub correlation_begins : (k : ℕ) (start : TwoPlaces) → k < length b → CorrelationSoFar k start start 0
  correlation_begins k start h = let e : k + 0 ≡ k = omega arith in record { inside = omega arith; first = rw e; second = rw e }

  module _ {k : ℕ} {start total : TwoPlaces} {i : ℕ} (w : CorrelationSoFar k start total i) where
    pub correlation_below : Below (2 ^ 61) start → weight a * weight b ≤ 2 ^ 56 → Below (2 ^ 62) total
    correlation_below h small = (
      begun_small start.first total.first (correlation ℤ_ring k a b) (correlation ℤ_ring (k + i) (drop i a) b)
          (weight a * weight b) w.first (correlation_left k 0) (correlation_left (k + i) i) small h.0,
      begun_small start.second total.second (correlation ℤ_ring (k + 1) a b) (correlation ℤ_ring (k + i + 1) (drop i a) b)
          (weight a * weight b) w.second (correlation_left (k + 1) 0) (correlation_left (k + i + 1) i) small h.1,
    )

    next_of : (t n : ℕ) → n ≡ suc t → i < length a
        → correlation ℤ_ring t (drop i a) b ≡ get_or a i (pos 0) *ℤ get_or b t (pos 0) +ℤ correlation ℤ_ring n (drop (i + 1) a) b
    next_of t n e h = rw e (correlation_step ℤ_ring t a b i h)

    pub correlation_turn : (next : TwoPlaces) → i < length a → k + i + 1 < length b
        → Holds next (total.first +ℤ get_or a i (pos 0) *ℤ get_or b (k + i) (pos 0)) (total.second +ℤ get_or a i (pos 0) *ℤ get_or b (k + i + 1) (pos 0))
        → CorrelationSoFar k start next (i + 1)
    correlation_turn next h l p = let x = get_or a i (pos 0) in record {
      inside = omega arith;
      first = step total.first (x *ℤ get_or b (k + i) (pos 0)) _ _ _ _ w.first (next_of (k + i) (k + (i + 1)) (omega arith) h) p.0;
      second = step total.second (x *ℤ get_or b (k + i + 1) (pos 0)) _ _ _ _ w.second (next_of (k + i + 1) (k + (i + 1) + 1) (omega arith) h) p.1;
    }

    pub correlation_ends : length a ≤ i → CorrelationFrom k start total
    correlation_ends h = (
      done _ _ _ w.first (correlation_end ℤ_ring (k + i) a b i h),
      done _ _ _ w.second (correlation_end ℤ_ring (k + i + 1) a b i h),
    )

    -- the last pair of the first place, where the loop stopped at e
    pub correlation_last : (next : TwoPlaces) (e : ℕ) → e ≡ i → length b ≤ k + e + 1 → e < length a
        → Holds next (total.first +ℤ get_or a e (pos 0) *ℤ get_or b (k + e) (pos 0)) (total.second +ℤ get_or a e (pos 0) *ℤ pos 0)
        → CorrelationFrom k start next
    correlation_last next e q h l p =
        let x = get_or a i (pos 0) in
        let beyond : length b ≤ k + i + 1 = omega arith in
        let first : next.first ≡ total.first +ℤ x *ℤ get_or b (k + i) (pos 0) = rw q at p.0 in
        let second : next.second ≡ total.second +ℤ x *ℤ pos 0 = rw q at p.1 in (
          done next.first _ _ (step total.first (x *ℤ get_or b (k + i) (pos 0)) _ _ _ _ w.first (next_of (k + i) (k + i + 1) (omega arith) (omega arith)) first)
              (correlation_beyond ℤ_ring (k + i + 1) (drop (i + 1) a) b beyond),
          no_pair x total.second next.second second ∙ done total.second _ _ w.second (correlation_beyond ℤ_ring (k + i + 1) (drop i a) b beyond),
        )

  -- b ends before place k
  pub correlation_none : (k : ℕ) (start : TwoPlaces) → length b ≤ k → CorrelationFrom k start start
  correlation_none k start h = (
    sym (+ℤ_idr start.first) ∙ ap (λ z. start.first +ℤ z) (sym (correlation_beyond ℤ_ring k a b h)),
    sym (+ℤ_idr start.second) ∙ ap (λ z. start.second +ℤ z) (sym (correlation_beyond ℤ_ring (k + 1) a b (omega arith))),
  )
