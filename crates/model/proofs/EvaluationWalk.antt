-- The walk of `evaluate::point_sums`, which forms V and W of an evaluation place by place.
use mathlib.Core.Path.{◌≡◌, refl, sym, ◌∙◌, ap}
use mathlib.Core.Bool.{Bool}
use mathlib.Core.List.{List}
use Prim.Native.Nat.{ℕ, zero, suc, ◌+◌, ◌*◌, ◌-◌, ◌^◌, ◌<◌, ◌≤◌}
use native.Mathlib.Numerals.{add-one}
use native.Mathlib.Nat.{mul-le-mul}
use native.Mathlib.Omega.{arith}
use lib.IntN.{ℤ, pos, nat_abs, ◌+ℤ◌, ◌-ℤ◌, ◌*ℤ◌, +ℤ_assoc, +ℤ_idl, +ℤ_idr}
use lib.ListN.{length, get_or, take, drop, length-take, length-drop, drop_of_length-le}
use lib.Seq.{drop-cons}
use mir.Syntax.{w64}
use mir.Val.{SFits}
use Rattle.ring.specs.laws.Parts.{abs, apart, sum, mul_within}
use Rattle.integer.proofs.laws.Machine.{abs-fits}
use Rattle.integer.specs.definitions.Rounding.{near}
use Rattle.chebyshev.specs.definitions.Coefficients.{weight}
use Rattle.chebyshev.proofs.laws.Weight.{weight-take, weight-drop, weight_at}
use Rattle.model.specs.definitions.InnerContracts.{Evaluable, error_factor, error_from}
use Rattle.model.specs.definitions.Models.{scale, coefficient_count, max_weight}
use Rattle.model.specs.definitions.Evaluate.{point_term, point_sum}
use Rattle.model.proofs.laws.EvaluationLaws.{term_size, sum_size, errors_size}

-- at place k: what is summed up and what is left of cs make V and W, and t and `next` are t_k and t_(k+1)
pub record Walk (exact : Bool) (p : ℤ) (cs : List ℤ) (value : ℤ) (error : ℕ) (t next : ℤ) (k : ℕ) : Type 0 where
  pub within : k ≤ length cs
  pub value_rest : value +ℤ point_sum p k (drop k cs) ≡ point_sum p 0 cs
  pub error_rest : error + error_from exact k (drop k cs) ≡ error_from exact 0 cs
  pub t_is : t ≡ point_term p k
  pub next_is : next ≡ point_term p (suc k)

pub begins : (exact : Bool) (p : ℤ) (cs : List ℤ) → Walk exact p cs (pos 0) 0 (pos (2 ^ 30)) (pos (2 ^ 10) *ℤ p) 0
unfolding point_term
begins exact p cs = record { within = omega arith; value_rest = +ℤ_idl (point_sum p 0 cs); error_rest = omega arith; t_is = refl; next_is = refl }

-- k·(k−1), as code has it
pub pairs_is : (k : ℕ) → (k ≤ k * k) × (k * k - k ≡ k * (k - 1))
pairs_is zero = omega arith
pairs_is (suc k) = let e : suc k - 1 ≡ k = omega arith in rw e (omega arith)

pub square_small : (k : ℕ) → k ≤ coefficient_count → k * k ≤ coefficient_count * coefficient_count
square_small k h = mul-le-mul h h

sum_step : (p : ℤ) (k : ℕ) (a : List ℤ) → k < length a → point_sum p k (drop k a) ≡ get_or a k (pos 0) *ℤ point_term p k +ℤ point_sum p (k + 1) (drop (k + 1) a)
unfolding point_sum
sum_step p k a h = rw (drop-cons a k (pos 0) h, add-one)

error_step : (exact : Bool) (k : ℕ) (a : List ℤ) → k < length a
    → error_from exact k (drop k a) ≡ nat_abs (get_or a k (pos 0)) * error_factor exact k + error_from exact (k + 1) (drop (k + 1) a)
unfolding error_from
error_step exact k a h = rw (drop-cons a k (pos 0) h, add-one)

-- a turn takes c = a_k, of absolute value m, and the rounded u of t_(k+2) = u − t_k
pub turn : {exact : Bool} {p : ℤ} {cs : List ℤ} {value : ℤ} {error : ℕ} {t next : ℤ} {k : ℕ} (c : ℤ) (m f : ℕ) (u : ℤ) → Walk exact p cs value error t next k → k < length cs
    → c ≡ get_or cs k (pos 0) → m ≡ nat_abs c → f ≡ error_factor exact k → u ≡ near (pos 2 *ℤ p *ℤ next) scale
    → Walk exact p cs (value +ℤ c *ℤ t) (error + m * f) next (u -ℤ t) (k + 1)
unfolding point_term
turn {exact} {p} {cs} {value} {error} {t} {next} {k} c m f u w h e s q g = record {
  within = omega arith;
  value_rest = rw (e, w.t_is, +ℤ_assoc value (get_or cs k (pos 0) *ℤ point_term p k) (point_sum p (k + 1) (drop (k + 1) cs)), ← sum_step p k cs h) w.value_rest;
  error_rest = rw (s, e, q) (omega (arith, error_step exact k cs h, w.error_rest));
  t_is = rw add-one w.next_is;
  next_is = rw (add-one, g, w.next_is, w.t_is);
}

pub ends : {exact : Bool} {p : ℤ} {cs : List ℤ} {value : ℤ} {error : ℕ} {t next : ℤ} {k : ℕ} → Walk exact p cs value error t next k → length cs ≤ k
    → (value ≡ point_sum p 0 cs) × (error ≡ error_from exact 0 cs)
unfolding point_sum error_from
ends {p = p} {cs} {value} {k = k} w h =
    let none = drop_of_length-le cs {i = k} h in
    (sym (+ℤ_idr value) ∙ (rw none at w.value_rest), omega (arith, rw none at w.error_rest))

-- |t_k| ≤ 2^30 + k·(k−1)/4 (EvaluationError.antt) keeps every number within 64 bits
pub record Small (value : ℤ) (error : ℕ) (t next : ℤ) : Type 0 where
  pub value_small : nat_abs value < 2 ^ 61
  pub error_small : error < 2 ^ 50
  pub t_small : nat_abs t ≤ 2 ^ 31
  pub next_small : nat_abs next ≤ 2 ^ 31

pub small : {exact : Bool} {p : ℤ} {cs : List ℤ} {value : ℤ} {error : ℕ} {t next : ℤ} {k : ℕ} → Walk exact p cs value error t next k
    → nat_abs p ≤ scale → length cs ≤ coefficient_count → weight cs ≤ max_weight → Small value error t next
small {exact} {p} {cs} {value} {error} {t} {next} {k} w hp hl hw = record {
  value_small = omega (arith, difference value (point_sum p k (drop k cs)) (point_sum p 0 cs) w.value_rest, sum_size p 0 32 cs hp (omega arith), rest);
  error_small = omega (arith, w.error_rest, errors_size exact 32 cs (omega arith));
  t_small = omega (arith, ap nat_abs w.t_is, term_size p k 34 hp (omega (arith, w.within)));
  next_small = omega (arith, ap nat_abs w.next_is, term_size p (suc k) 34 hp (omega (arith, w.within)));
}
  where
    difference : (a r b : ℤ) → a +ℤ r ≡ b → nat_abs a ≤ nat_abs b + nat_abs r
    difference a r b e = omega (arith, sum a r, abs a, abs r, abs (a +ℤ r), apart a, ap nat_abs e)

    rest : 4 * nat_abs (point_sum p k (drop k cs)) ≤ (2 ^ 32 + 32 * 31) * 2 ^ 28
    rest = omega (arith, sum_size p k 32 (drop k cs) hp (rw length-drop (omega (arith, w.within))), weight-drop k cs)

-- ---- the numbers of a turn fit 64 bits

product-fits : (x t : ℤ) → nat_abs x ≤ max_weight → nat_abs t ≤ 2 ^ 31 → SFits w64 (x *ℤ t)
product-fits x t h k = abs-fits w64 (x *ℤ t) (omega (arith, mul_within (2 ^ 28) (2 ^ 31) x t h k))

module _ (p : ℤ) (h : nat_abs p ≤ scale) where
  twice : nat_abs (pos 2 *ℤ p) ≤ 2 * 2 ^ 20
  twice = mul_within 2 (2 ^ 20) (pos 2) p (omega arith) h

  pub first_fits : SFits w64 (pos 1024 *ℤ p)
  first_fits = abs-fits w64 (pos 1024 *ℤ p) (omega (arith, mul_within 1024 (2 ^ 20) (pos 1024) p (omega arith) h))

  twice_fits : SFits w64 (pos 2 *ℤ p)
  twice_fits = abs-fits w64 (pos 2 *ℤ p) (omega (arith, twice))

  next_fits : (next : ℤ) → nat_abs next ≤ 2 ^ 31 → SFits w64 (pos 2 *ℤ p *ℤ next)
  next_fits next k =
      abs-fits w64 (pos 2 *ℤ p *ℤ next) (omega (arith, mul_within (2 * 2 ^ 20) (2 ^ 31) (pos 2 *ℤ p) next twice k))

-- with x = a_k
pub record Turn (p value t next x : ℤ) : Type 0 where
  pub term_fits : SFits w64 (x *ℤ t)
  pub sum_fits : SFits w64 (value +ℤ x *ℤ t)
  pub double_fits : SFits w64 (pos 2 *ℤ p)
  pub numerator-fits : SFits w64 (pos 2 *ℤ p *ℤ next)

-- the terms up to a degree
module _ {degree : ℕ} {coefficients : List ℤ} {p : ℤ} (all : length coefficients ≡ coefficient_count) (pre : Evaluable degree coefficients p) where
  abbrev cs : List ℤ
  cs = take (suc degree) coefficients

  pub length_list : length cs ≡ suc degree
  length_list = rw length-take (omega (arith, all, pre))

  pub bounded : {exact : Bool} {value : ℤ} {error : ℕ} {t next : ℤ} {k : ℕ} → Walk exact p cs value error t next k → Small value error t next
  bounded w = small w pre.inside (omega (arith, length_list, pre)) (omega (arith, weight-take (suc degree) coefficients, pre))

  pub turn_fits : {exact : Bool} {value : ℤ} {error : ℕ} {t next : ℤ} {k : ℕ} (x : ℤ) → Walk exact p cs value error t next k → k < length cs → x ≡ get_or cs k (pos 0) → Turn p value t next x
  turn_fits {value = value} {t = t} {next} {k} x w h e = record {
    term_fits = product-fits x t (omega (arith, ap nat_abs e, weight_at cs k, weight-take (suc degree) coefficients, pre)) (bounded w).t_small;
    sum_fits = abs-fits w64 (value +ℤ x *ℤ t) (omega (arith, (bounded (turn x (nat_abs x) _ _ w h e refl refl refl)).value_small));
    double_fits = twice_fits p pre.inside;
    numerator-fits = next_fits p pre.inside next (bounded w).next_small;
  }
