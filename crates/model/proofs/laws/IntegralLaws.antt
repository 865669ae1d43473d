-- The integral's numbers from the list ds = 2·a_0, a_1, …: place by place, and their sizes.
use Rattle.std.specs.Prelude.{◌≡◌, true, ℤ, nat_abs, ◌-ℤ◌, ◌*ℤ◌, length, get_or, take, drop, set, replicate}
use Rattle.std.proofs.Math.Path.{refl, ap}
use Rattle.std.proofs.Common.{sym, ◌∙◌, subst, mul-le-mul, lt-ltb}
use Rattle.std.proofs.Math.Bool.{or-true}
use mathlib.Core.List.{List, [], ◌∷◌, ◌++◌}
use Prim.Native.Nat.{ℕ, zero, suc, ◌+◌, ◌*◌, ◌-◌, ◌^◌, ◌<◌, ◌≤◌}
use native.Mathlib.Omega.{arith}
use Rattle.std.proofs.Math.Nat.{mul-le-mul_right}
use Rattle.std.proofs.Math.IntN.{pos}
use Rattle.std.proofs.Math.ListN.{length-drop}
use Rattle.std.proofs.Math.Seq.{get_or-drop}
use Rattle.ring.specs.laws.Parts.{abs-sub, abs-mul}
use Rattle.ring.specs.definitions.Integer.{ℤ_ring}
use Rattle.integer.specs.definitions.Rounding.{near, upℕ}
use Rattle.integer.proofs.laws.NearLaws.{near_within}
use Rattle.integer.proofs.laws.RoundingSize.{near_size}
use Rattle.chebyshev.specs.definitions.Coefficients.{weight, subtract_lists}
use Rattle.chebyshev.proofs.laws.CoefficientLaws.{length_subtract, get_d_subtract}
use Rattle.chebyshev.proofs.laws.Weight.{weight_subtract, weight-drop, weight_append_zeros}
use Rattle.model.specs.definitions.InnerContracts.{Numerator, formed_outcome, rounded_integral, rounded_tail, unless_large}
use Rattle.model.specs.definitions.Models.{scale, max_degree, max_weight, coefficient_count, terms, good, too_large, zero_model}
use Rattle.model.specs.definitions.Intervals.{extent}
use Rattle.model.specs.definitions.Outcomes.{refused, passing}
use Rattle.model.proofs.laws.FormedLaws.{formed_is}
use Rattle.model.specs.definitions.Integrate.{double_first, numerators, halved, alternating, integral_list, integral_model, integration}
use Rattle.model.specs.declared.types.Model.{Model}

drop_doubled : (cs : List ℤ) → drop 2 (double_first cs) ≡ drop 2 cs
unfolding double_first
drop_doubled [] = refl
drop_doubled (c ∷ cs) = refl

take_doubled : (cs : List ℤ) (n : ℕ) → take (suc n) (set cs 0 (pos 2 *ℤ get_or cs 0 (pos 0))) ≡ double_first (take (suc n) cs)
unfolding double_first
take_doubled [] n = refl
take_doubled (c ∷ cs) n = refl

pub length_doubled : (cs : List ℤ) → length (double_first cs) ≡ length cs
unfolding double_first
length_doubled [] = refl
length_doubled (c ∷ cs) = refl

pub integral_is : (a : Model) → rounded_integral (extent a.interval) (double_first (terms a)) ≡ (integral_model a).coefficients
unfolding integral_model integral_list numerators rounded_integral rounded_tail
integral_is a =
    ap (λ later. let cs = halved (extent a.interval) 1 (subtract_lists ℤ_ring (double_first (terms a)) later) in (alternating cs ∷ cs) ++ replicate (coefficient_count - suc (length cs)) (pos 0)) (drop_doubled (terms a))

-- ds in code: the coefficients with the first doubled, up to the degree
pub integral_doubled : (a : Model)
    → rounded_integral (extent a.interval) (take (suc a.degree) (set a.coefficients 0 (pos 2 *ℤ get_or a.coefficients 0 (pos 0)))) ≡ (integral_model a).coefficients
integral_doubled a = ap (rounded_integral (extent a.interval)) (take_doubled a.coefficients a.degree) ∙ integral_is a

pub weight_doubled : (cs : List ℤ) → weight (set cs 0 (pos 2 *ℤ get_or cs 0 (pos 0))) ≤ 2 * weight cs
unfolding weight
weight_doubled [] = omega arith
weight_doubled (c ∷ cs) = omega (arith, abs-mul (pos 2) c)

-- ---- c_1, c_2, …

module _ (d : ℕ) where
  length-halved : (k : ℕ) (ns : List ℤ) → length (halved d k ns) ≡ length ns
  unfolding halved
  length-halved k [] = refl
  length-halved k (n ∷ ns) = ap suc (length-halved (suc k) ns)

  get_d_halved : (k : ℕ) (ns : List ℤ) (i : ℕ) → i < length ns → get_or (halved d k ns) i (pos 0) ≡ near (get_or ns i (pos 0) *ℤ pos d) (4 * scale * (k + i))
  unfolding halved
  get_d_halved k [] i h = absurd (omega arith)
  get_d_halved k (n ∷ ns) zero h = ap (λ (m : ℕ). near (n *ℤ pos d) (4 * scale * m)) (omega arith)
  get_d_halved k (n ∷ ns) (suc i) h = get_d_halved (suc k) ns i (omega arith) ∙ ap (λ (m : ℕ). near (get_or ns i (pos 0) *ℤ pos d) (4 * scale * m)) (omega arith)

  weight-halved : (k : ℕ) (ns : List ℤ) → weight (halved d (suc k) ns) ≤ weight ns * d
  unfolding halved weight
  weight-halved k [] = omega arith
  weight-halved k (n ∷ ns) = omega (arith, near_size (n *ℤ pos d) (4 * scale * suc k) (omega arith), abs-mul n (pos d), weight-halved (suc k) ns)

  pub length-rounded : (ds : List ℤ) → length (rounded_tail d ds) ≡ length ds
  unfolding rounded_tail
  length-rounded ds = length-halved 1 _ ∙ length_subtract ℤ_ring ds (drop 2 ds) ∙ rw length-drop (omega arith)

  pub get_d_rounded : (ds : List ℤ) (i : ℕ) → i < length ds
      → get_or (rounded_tail d ds) i (pos 0) ≡ near ((get_or ds i (pos 0) -ℤ get_or ds (suc (suc i)) (pos 0)) *ℤ pos d) (4 * scale * suc i)
  unfolding rounded_tail
  get_d_rounded ds i h =
      let e : 1 + i ≡ suc i = omega arith in
      let f : 2 + i ≡ suc (suc i) = omega arith in
      get_d_halved 1 (subtract_lists ℤ_ring ds (drop 2 ds)) i (rw (length_subtract ℤ_ring ds (drop 2 ds), length-drop) (omega arith))
      ∙ rw (e, get_d_subtract ℤ_ring ds (drop 2 ds) i, get_or-drop 2 ds i (pos 0), f)

  pub weight-rounded : (ds : List ℤ) → weight (rounded_tail d ds) ≤ 2 * weight ds * d
  unfolding rounded_tail
  weight-rounded ds =
      let ns = subtract_lists ℤ_ring ds (drop 2 ds) in
      let h : weight ns ≤ 2 * weight ds = omega (arith, weight_subtract ds (drop 2 ds), weight-drop 2 ds) in
      omega (arith, weight-halved 0 ns, mul-le-mul_right d h)

pub alternating_size : (l : List ℤ) → nat_abs (alternating l) ≤ weight l
unfolding alternating weight
alternating_size [] = omega arith
alternating_size (c ∷ l) = omega (arith, abs-sub c (alternating l), alternating_size l)

pub weight_integral : (d : ℕ) (ds : List ℤ) → weight (rounded_integral d ds) ≡ weight (rounded_tail d ds) + nat_abs (alternating (rounded_tail d ds))
unfolding rounded_integral weight
weight_integral d ds = omega (arith, weight_append_zeros (rounded_tail d ds) (coefficient_count - suc (length (rounded_tail d ds))))

-- ---- the answer

-- from what code has of the result: its coefficients cs, which count only where its weight w is within its limit
pub integration_formed : (a : Model) (cs : List ℤ) (w : ℕ) → good a ≡ true → w ≡ weight (integral_model a).coefficients
    → (w ≤ max_weight → cs ≡ (integral_model a).coefficients)
    → formed_outcome (a.degree + 1) cs w (upℕ (a.radius * extent a.interval) scale + a.degree + 1) a.interval ≡ integration a
unfolding integration integral_model unless_large passing
integration_formed a cs w e g f =
    ap (λ (v : ℕ). formed_outcome (a.degree + 1) cs v (upℕ (a.radius * extent a.interval) scale + a.degree + 1) a.interval) g
    ∙ formed_is (integral_model a) cs (λ h. f (omega (arith, g)))
    ∙ rw e

-- "degree 32 gives 3"
pub integration_degree : (a : Model) → good a ≡ true → max_degree ≤ a.degree → refused 3 zero_model ≡ integration a
unfolding integration integral_model too_large passing
integration_degree a e h = rw (e, lt-ltb max_degree (a.degree + 1) (omega arith)) (simp or-true)

-- on an extent up to 4S every coefficient fits 32 bits
pub coefficient_narrow : {below above : ℤ} {d k : ℕ} → Numerator below above d k → d ≤ 4 * scale
    → nat_abs (near ((below -ℤ above) *ℤ pos d) (4 * scale * k)) ≤ 2 ^ 30
coefficient_narrow {below} {above} {d} {k} n h =
    near_within ((below -ℤ above) *ℤ pos d) (4 * scale * k) (2 ^ 30) (omega (arith, n.some))
    (subst (λ (m : ℕ). m ≤ 2 ^ 30 * (4 * scale * k)) (sym (abs-mul (below -ℤ above) (pos d)))
    (mul-le-mul (omega (arith, abs-sub below above, n)) (omega (arith, n.some))))
