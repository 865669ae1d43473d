-- The walk of `integrate::rounded_integral` over the list ds = 2·a_0, a_1, … from the highest place down, for an interval of extent d.
-- Coefficients are written as long as their weight is within its limit.
use mathlib.Core.Path.{◌≡◌, sym, ◌∙◌, ap, ap₂}
use mathlib.Core.List.{List, [], ◌∷◌}
use Prim.Native.Nat.{ℕ, suc, ◌+◌, ◌*◌, ◌-◌, ◌<◌, ◌≤◌, ◌^◌}
use native.Mathlib.Nat.{mul-le-mul}
use native.Mathlib.Omega.{arith}
use native.Mathlib.Numerals.{add-one}
use lib.IntN.{ℤ, pos, nat_abs, ◌-ℤ◌, ◌*ℤ◌}
use lib.ListN.{length, get_or, take, drop, set, replicate, length-take, length-set, length-append, length-replicate, drop_of_length-le, get_or-append, get_or-eq_default}
use lib.Seq.{drop-cons, drop_at, drop-set-lt, get_or-take, get_or-set_same}
use mir.Syntax.{w32}
use mir.Val.{SFits}
use Rattle.integer.specs.definitions.Rounding.{near}
use Rattle.integer.proofs.laws.Filling.{drop_replicate}
use Rattle.integer.proofs.laws.Machine.{abs-fits}
use Rattle.chebyshev.specs.definitions.Coefficients.{weight}
use Rattle.chebyshev.proofs.laws.Weight.{weight_step, weight-take, weight-drop, weight_at}
use Rattle.model.specs.definitions.InnerContracts.{Integrable, Numerator, rounded_integral, rounded_tail}
use Rattle.model.specs.definitions.Models.{scale, coefficient_count, max_weight}
use Rattle.model.specs.definitions.Integrate.{alternating}
use Rattle.model.proofs.laws.IntegralLaws.{length-rounded, get_d_rounded, weight-rounded, alternating_size, weight_integral}

-- at place k: `total` is the weight of c_(k+1), c_(k+2), …, which stand in `out` unless it is too large, and `first` is
-- c_(k+1) − c_(k+2) + …; `above` and `here` are the numbers of ds at places k + 1 and k
pub record Walk (d : ℕ) (ds out : List ℤ) (total : ℕ) (first above here : ℤ) (k : ℕ) : Type 0 where
  pub within : k ≤ length ds
  pub filled : total ≤ max_weight → (length ds < length out) × (drop (suc k) out ≡ drop (suc k) (rounded_integral d ds))
  pub total_is : total ≡ weight (drop k (rounded_tail d ds))
  pub first_is : first ≡ alternating (drop k (rounded_tail d ds))
  pub above_is : above ≡ get_or ds (suc k) (pos 0)
  pub here_is : here ≡ get_or ds k (pos 0)

pub begins : (d : ℕ) (ds : List ℤ) (k : ℕ) → length ds ≡ k → k < coefficient_count → Walk d ds (replicate coefficient_count (pos 0)) 0 (pos 0) (pos 0) (pos 0) k
unfolding rounded_integral weight alternating
begins d ds k e h =
    let n : length (rounded_tail d ds) ≡ k = length-rounded d ds ∙ e in
    let none : drop k (rounded_tail d ds) ≡ [] = drop_of_length-le (rounded_tail d ds) {i = k} (omega arith) in record {
      within = omega arith;
      filled = λ _. (
        rw length-replicate (omega arith),
        drop_replicate (suc k) coefficient_count (pos 0)
            ∙ ap (λ (j : ℕ). replicate (coefficient_count - suc j) (pos 0)) (sym n)
            ∙ sym (drop_at (alternating (rounded_tail d ds) ∷ rounded_tail d ds) (replicate (coefficient_count - suc (length (rounded_tail d ds))) (pos 0)) (suc k) (ap suc n)),
      );
      total_is = rw none;
      first_is = rw none;
      above_is = sym (get_or-eq_default ds (pos 0) {n = suc k} (omega arith));
      here_is = sym (get_or-eq_default ds (pos 0) {n = k} (omega arith));
    }

-- a list filled from its end down
fill_down : (out goal : List ℤ) (k : ℕ) (v : ℤ) → k < length out → k < length goal → drop (suc k) out ≡ drop (suc k) goal → v ≡ get_or goal k (pos 0) → drop k (set out k v) ≡ drop k goal
fill_down out goal k v l h e f =
    drop-cons (set out k v) k (pos 0) (rw length-set l)
    ∙ ap₂ ◌∷◌ (get_or-set_same out k v (pos 0) l ∙ f) (drop-set-lt (suc k) out k v (omega arith) ∙ e)
    ∙ sym (drop-cons goal k (pos 0) h)

length_integral : (d : ℕ) (ds : List ℤ) → suc (length ds) ≤ length (rounded_integral d ds)
unfolding rounded_integral
length_integral d ds = rw length-append (omega (arith, length-rounded d ds))

get_d_integral : (d : ℕ) (ds : List ℤ) (j : ℕ) → j < length ds → get_or (rounded_integral d ds) (suc j) (pos 0) ≡ get_or (rounded_tail d ds) j (pos 0)
unfolding rounded_integral
get_d_integral d ds j h = get_or-append (rounded_tail d ds) (replicate (coefficient_count - suc (length (rounded_tail d ds))) (pos 0)) (pos 0) j (rw length-rounded h)

-- a turn forms c = c_k, of absolute value m, from the numbers at k − 1 = j and k + 1
pub turn : {d : ℕ} {ds out : List ℤ} {total : ℕ} {first above here : ℤ} {k : ℕ} (j : ℕ) (below c : ℤ) (m : ℕ) (after : List ℤ) → Walk d ds out total first above here k → k ≡ suc j
    → below ≡ get_or ds j (pos 0) → c ≡ near ((below -ℤ above) *ℤ pos d) (4 * scale * k) → m ≡ nat_abs c → (total + m ≤ max_weight → after ≡ set out k c)
    → Walk d ds after (total + m) (c -ℤ first) here below j
unfolding alternating
turn {d} {ds} {out} {total} {first} {above} {here} {k} j below c m after w e b n s stored = step (rw e at w) (rw e at n) (rw e at stored)
  where
    step : Walk d ds out total first above here (suc j) → c ≡ near ((below -ℤ above) *ℤ pos d) (4 * scale * suc j) → (total + m ≤ max_weight → after ≡ set out (suc j) c)
        → Walk d ds after (total + m) (c -ℤ first) here below j
    step w n stored =
        let inside : j < length ds = omega (arith, w.within) in
        let c_is : c ≡ get_or (rounded_tail d ds) j (pos 0) = n ∙ ap₂ (λ x y. near ((x -ℤ y) *ℤ pos d) (4 * scale * suc j)) b w.above_is ∙ sym (get_d_rounded d ds j inside) in record {
          within = omega arith;
          filled = λ h.
              let (room, before) = w.filled (omega arith) in
              rw (stored h) (
                rw length-set room,
                fill_down out (rounded_integral d ds) (suc j) c (omega (arith, room)) (omega (arith, length_integral d ds)) before (c_is ∙ sym (get_d_integral d ds j inside)),
              );
          total_is = omega (arith, w.total_is, s, ap nat_abs c_is, rw add-one at (weight_step (rounded_tail d ds) j (omega (arith, length-rounded d ds))));
          first_is = rw (drop-cons (rounded_tail d ds) j (pos 0) (omega (arith, length-rounded d ds))) (ap₂ ◌-ℤ◌ c_is w.first_is);
          above_is = w.here_is;
          here_is = b;
        }

-- at the end c_0 is `first`, of absolute value m
pub ends : {d : ℕ} {ds out : List ℤ} {total : ℕ} {first above here : ℤ} {k : ℕ} (m : ℕ) (after : List ℤ) → Walk d ds out total first above here k → k ≤ 0
    → m ≡ nat_abs first → (total + m ≤ max_weight → after ≡ set out 0 first)
    → (total + m ≡ weight (rounded_integral d ds)) × (total + m ≤ max_weight → after ≡ rounded_integral d ds)
unfolding rounded_integral
ends {d} {ds} {out} {total} {first} {above} {here} {k} m after w h s stored =
    let e : k ≡ 0 = omega arith in
    at_zero (rw e at w)
  where
    at_zero : Walk d ds out total first above here 0 → (total + m ≡ weight (rounded_integral d ds)) × (total + m ≤ max_weight → after ≡ rounded_integral d ds)
    at_zero w = (
      omega (arith, weight_integral d ds, w.total_is, s, ap nat_abs w.first_is),
      λ b. let (room, before) = w.filled (omega arith) in stored b ∙ fill_down out (rounded_integral d ds) 0 first (omega (arith, room)) (omega (arith, length_integral d ds)) before w.first_is,
    )

-- Σ|c_k| ≤ 2·Σ|d_k|·(u−l) keeps every number within its width
pub record Small (total : ℕ) (first above : ℤ) : Type 0 where
  pub total_small : total ≤ 2 ^ 59
  pub first_small : nat_abs first ≤ 2 ^ 59
  pub above_small : nat_abs above ≤ 2 ^ 29

pub small : {d : ℕ} {ds out : List ℤ} {total : ℕ} {first above here : ℤ} {k : ℕ} → Walk d ds out total first above here k → d ≤ 2 ^ 29 → weight ds ≤ 2 ^ 29 → Small total first above
small {d} {ds} {k = k} w l h = record {
  total_small = omega (arith, w.total_is, weight-drop k (rounded_tail d ds), all);
  first_small = omega (arith, ap nat_abs w.first_is, alternating_size (drop k (rounded_tail d ds)), weight-drop k (rounded_tail d ds), all);
  above_small = omega (arith, ap nat_abs w.above_is, weight_at ds (suc k));
}
  where
    all : weight (rounded_tail d ds) ≤ 2 ^ 59
    all = omega (arith, weight-rounded d ds, mul-le-mul h l)

-- a number counted in a weight within its limit
pub narrow : (c : ℤ) (total m : ℕ) → m ≡ nat_abs c → total + m ≤ max_weight → SFits w32 c
narrow c total m e h = abs-fits w32 c (omega (arith, e))

-- ---- the list up to a degree, and a turn over it

module _ {degree : ℕ} {doubled : List ℤ} {d : ℕ} (all : length doubled ≡ coefficient_count) (pre : Integrable degree doubled d) where
  pub length_list : length (take (suc degree) doubled) ≡ degree + 1
  length_list = rw length-take (omega (arith, all, pre))

  module _ {out : List ℤ} {total : ℕ} {first above here : ℤ} {k : ℕ} (w : Walk d (take (suc degree) doubled) out total first above here k) where
    pub bounded : Small total first above
    bounded = small w pre.extent-fits (omega (arith, weight-take (suc degree) doubled, pre))

    pub inside : k ≤ 32
    inside = omega (arith, w.within, length_list, pre)

    pub below_is : 0 < k → get_or doubled (k - 1) (pos 0) ≡ get_or (take (suc degree) doubled) (k - 1) (pos 0)
    below_is h = sym (get_or-take (suc degree) doubled (k - 1) (pos 0) (omega (arith, w.within, length_list)))

    pub numerator : 0 < k → Numerator (get_or doubled (k - 1) (pos 0)) above d k
    numerator h = record { below_fits = omega (arith, weight_at doubled (k - 1), pre); above_fits = bounded.above_small; extent-fits = pre.extent-fits; some = h; place_fits = inside }
