-- Document 02, S-24, on the interval −S..S: the whole outcomes of add, subtract, multiply, load, integrate and evaluate are the
-- former ones, for near(n·m, d·m) = near(n, d), the point maps to itself and W does not grow. The former places and results stand
-- here written out, and the former numbers of a model in an area; of the two tests FormerTests (certificate) speaks.
use Rattle.std.specs.Prelude.{◌≡◌, not, cond, ◌&&◌, List, [], ◌∷◌, ◌++◌, leb, ltb, eqb, ℤ, pos, negsuc, neg_ℤ, nat_abs, ◌+ℤ◌, ◌-ℤ◌, ◌*ℤ◌, length, replicate, get_or, take, drop}
use Rattle.std.proofs.Math.Path.{refl, ap}
use Rattle.std.proofs.Common.{sym, ◌∙◌, ap₂, append_assoc, arith, leb-true, leb-false, le-ltb, lt-ltb}
use Rattle.std.proofs.Math.Bool.{Bool, true, false}
use Prim.Native.Nat.{ℕ, suc, ◌+◌, ◌-◌, ◌*◌, ◌^◌, max, min}
use Rattle.ring.specs.definitions.Integer.{ℤ_ring}
use Rattle.integer.specs.definitions.Rounding.{floor, up, upℕ, near}
use Rattle.ring.specs.laws.Difference.{all1, differences}
use Rattle.integer.proofs.laws.NearLaws.{near_same, near-whole}
use Rattle.ring.proofs.laws.IntegerSolver.{reifyℤ, solveℤ}
use Rattle.ring.specs.laws.Parts.{abs, apart, difference}
use Rattle.integer.proofs.laws.RoundingLaws.{upℕ_unique}
use Rattle.chebyshev.specs.definitions.Coefficients.{weight, add_lists, subtract_lists}
use Rattle.chebyshev.specs.definitions.Product.{product}
use Rattle.model.specs.definitions.Add.{sum_model, difference_model, addition, subtraction}
use Rattle.model.specs.definitions.Area.{words, unsigned_of, area_model}
use Rattle.model.specs.definitions.Evaluate.{zero_bounds, mapped_numerator, mapped_point, maps_exactly, growth, point_sum, point_error, low_bound, high_bound, evaluation}
use Rattle.model.specs.declared.types.Bounds.{Bounds}
use Rattle.model.specs.definitions.Integrate.{numerators, halved, alternating, integral_list, integral_model, integration}
use Rattle.model.specs.definitions.Intervals.{good_ends, extent, standard_interval, same_interval, contains}
use Rattle.model.specs.definitions.Load.{loading}
use Rattle.model.specs.definitions.Models.{scale, max_degree, coefficient_count, product_size, terms, within_limits, good, make_model, standard_model, zero_model, bad_place, different_place, large_place}
use Rattle.model.specs.definitions.Multiply.{bad_kept, kept_degree, product_list, product_loss, product_model, multiplication}
use Rattle.model.specs.definitions.Outcomes.{Outcome, outcome, passing, refused}
use Rattle.model.specs.definitions.Round.{rounded, rounding_loss}
use Rattle.model.specs.declared.types.Interval.{Interval}
use Rattle.model.specs.declared.types.Model.{Model}

-- ---- the tests

standard_good : good_ends standard_interval ≡ true
unfolding good_ends
standard_good = refl

pub standard_same : same_interval standard_interval standard_interval ≡ true
unfolding same_interval
standard_same = refl

standard_extent : extent standard_interval ≡ 2 * scale
unfolding extent
standard_extent = refl

-- "each model: 2", as it was
abbrev pub former_place : Model → Bool × ℕ
former_place m = (not (within_limits m), 2)

module _ (m : Model) (on : m.interval ≡ standard_interval) where
  good_former : good m ≡ within_limits m
  unfolding good
  good_former = by (within_limits m) refl
    where
      by : (t : Bool) → within_limits m ≡ t → good m ≡ within_limits m
      by true e = rw (e, on, standard_good)
      by false e = rw e

-- lists of places that refuse with the same number, or not at all
pub record SameRefusal (ps qs : List (Bool × ℕ)) : Type 1 where
  pub outcomes : (A : Type 0) (a z : A) → outcome ps a z ≡ outcome qs a z

pub same_refusal : (ps : List (Bool × ℕ)) → SameRefusal ps ps
same_refusal ps = record { outcomes = λ A a z. refl }

module _ {ps qs : List (Bool × ℕ)} (rest : SameRefusal ps qs) where
  pub behind_place : (p : Bool × ℕ) → SameRefusal (p ∷ ps) (p ∷ qs)
  unfolding passing
  behind_place p = record { outcomes = λ A a z. ap (cond p.0 (refused p.1 z)) (rest.outcomes A a z) }

  -- a model's place refuses with 2 alone
  pub place_former : (m : Model) → m.interval ≡ standard_interval → SameRefusal (bad_place m ∷ ps) (former_place m ∷ qs)
  unfolding passing
  place_former m on = record { outcomes = λ A a z. rw (good_former m on, on, standard_good, rest.outcomes A a z) }

  -- and 19 never refuses
  pub different_former : (f g : Model) → f.interval ≡ standard_interval → g.interval ≡ standard_interval → SameRefusal (different_place f g ∷ ps) qs
  unfolding passing
  different_former f g on_f on_g = record { outcomes = λ A a z. rw (on_f, on_g, standard_same) (rest.outcomes A a z) }

-- ---- add, subtract, multiply

-- "coefficient by coefficient, the larger degree, radii added"
unfoldable pub former_sum : Model → Model → Model
former_sum a b = standard_model (max a.degree b.degree) (add_lists ℤ_ring a.coefficients b.coefficients) (a.radius + b.radius)

unfoldable pub former_difference : Model → Model → Model
former_difference a b = standard_model (max a.degree b.degree) (subtract_lists ℤ_ring a.coefficients b.coefficients) (a.radius + b.radius)

-- "255, which means 32": until S-27, and for callers that state 32 instead
abbrev pub former_kept : ℕ → ℕ
former_kept d = cond (eqb d 255) max_degree d

-- "degree min(d, sum of the degrees), coefficients c_k = near(C_k/(2S)), and radius up(E/(2S))", "E = Σ|C_k − 2S·c_k| over kept k
-- + Σ|C_k| over dropped k + 2(A·e_b + B·e_a + e_a·e_b)"
unfoldable pub former_product : ℕ → Model → Model → Model
former_product d a b =
    let n = min (former_kept d) (a.degree + b.degree) in
    let cs = product ℤ_ring product_size (terms a) (terms b) in
    standard_model n
    (rounded (2 * scale) (take (suc n) cs) ++ replicate (coefficient_count - suc n) (pos 0))
    (upℕ
    (rounding_loss (2 * scale) (take (suc n) cs) + weight (drop (suc n) cs)
    + 2 * (weight a.coefficients * b.radius + weight b.coefficients * a.radius + a.radius * b.radius))
    (2 * scale))

abbrev pub former_loading : Model → Outcome Model
former_loading m = outcome (former_place m ∷ []) m zero_model

abbrev pub former_addition : Model → Model → Outcome Model
former_addition a b = outcome (former_place a ∷ former_place b ∷ large_place (former_sum a b) ∷ []) (former_sum a b) zero_model

abbrev pub former_subtraction : Model → Model → Outcome Model
former_subtraction a b =
    outcome (former_place a ∷ former_place b ∷ large_place (former_difference a b) ∷ []) (former_difference a b) zero_model

abbrev pub former_multiplication : ℕ → Model → Model → Outcome Model
former_multiplication d a b =
    outcome (former_place a ∷ former_place b ∷ (not (leb (former_kept d) max_degree), 9) ∷ large_place (former_product d a b) ∷ [])
    (former_product d a b)
    zero_model

-- what d stood for stands for itself, and is refused as d is
pub kept_stated : (d n m : ℕ) → kept_degree (former_kept d) n m ≡ former_kept d
kept_stated d n m = by (eqb d 255) refl
  where
    by : (t : Bool) → eqb d 255 ≡ t → cond (eqb (cond t max_degree d) 255) (max n m) (cond t max_degree d) ≡ cond t max_degree d
    by true e = refl
    by false e = rw e

pub kept_again : (d : ℕ) → former_kept (former_kept d) ≡ former_kept d
kept_again d = kept_stated d max_degree max_degree

pub kept_above : (d : ℕ) → bad_kept d ≡ ltb max_degree (former_kept d)
kept_above d = by (eqb d 255)
  where
    by : (t : Bool) → (not t && ltb max_degree d) ≡ ltb max_degree (cond t max_degree d)
    by true = refl
    by false = refl

kept_refused : (d : ℕ) → bad_kept (former_kept d) ≡ not (leb (former_kept d) max_degree)
kept_refused d = kept_above (former_kept d) ∙ ap (ltb max_degree) (kept_again d) ∙ by (former_kept d) (leb (former_kept d) max_degree) refl
  where
    by : (k : ℕ) (t : Bool) → leb k max_degree ≡ t → ltb max_degree k ≡ not t
    by k true e = le-ltb max_degree k (leb-true k max_degree e)
    by k false e = lt-ltb max_degree k (leb-false k max_degree e)

pub loading_former : (m : Model) → m.interval ≡ standard_interval → loading m ≡ former_loading m
unfolding loading
loading_former m on = (place_former (same_refusal []) m on).outcomes Model m zero_model

-- two operands: neither 18 nor 19
module _ (a b : Model) (on_a : a.interval ≡ standard_interval) (on_b : b.interval ≡ standard_interval) where
  pub places_former : (ps : List (Bool × ℕ)) → SameRefusal (bad_place a ∷ bad_place b ∷ different_place a b ∷ ps) (former_place a ∷ former_place b ∷ ps)
  places_former ps = place_former (place_former (different_former (same_refusal ps) a b on_a on_b) b on_b) a on_a

  sum_former : sum_model a b ≡ former_sum a b
  unfolding sum_model former_sum
  sum_former = rw on_a

  difference_former : difference_model a b ≡ former_difference a b
  unfolding difference_model former_difference
  difference_former = rw on_a

  product_former : (d : ℕ) → product_model (former_kept d) a b ≡ former_product d a b
  unfolding product_model product_loss product_list former_product
  product_former d = rw (on_a, kept_stated d a.degree b.degree)

  pub addition_former : addition a b ≡ former_addition a b
  unfolding addition
  addition_former =
      (places_former (large_place (sum_model a b) ∷ [])).outcomes Model (sum_model a b) zero_model
      ∙ ap (λ m. outcome (former_place a ∷ former_place b ∷ large_place m ∷ []) m zero_model) sum_former

  pub subtraction_former : subtraction a b ≡ former_subtraction a b
  unfolding subtraction
  subtraction_former =
      (places_former (large_place (difference_model a b) ∷ [])).outcomes Model (difference_model a b) zero_model
      ∙ ap (λ m. outcome (former_place a ∷ former_place b ∷ large_place m ∷ []) m zero_model) difference_former

  -- 02, S-27: "callers who left the choice open must state 32 to get former results"
  pub multiplication_former : (d : ℕ) → multiplication (former_kept d) a b ≡ former_multiplication d a b
  unfolding multiplication
  multiplication_former d =
      let k = former_kept d in
      let kept : Bool × ℕ = (bad_kept k, 9) in
      (places_former (kept ∷ large_place (product_model k a b) ∷ [])).outcomes Model (product_model k a b) zero_model
      ∙ ap (λ m. outcome (former_place a ∷ former_place b ∷ kept ∷ large_place m ∷ []) m zero_model) (product_former d)
      ∙ ap (λ t. outcome (former_place a ∷ former_place b ∷ (t, 9) ∷ large_place (former_product d a b) ∷ []) (former_product d a b) zero_model) (kept_refused d)

-- ---- integrate

-- "c_k = near((a_(k−1) − a_(k+1))/(2k))"
unfoldable pub former_halved : ℕ → List ℤ → List ℤ
former_halved k [] = []
former_halved k (n ∷ ns) = near n (2 * k) ∷ former_halved (suc k) ns

-- "Radius 2e + n + 1."
unfoldable pub former_integral : Model → Model
former_integral a =
    let tail = former_halved 1 (numerators (terms a)) in
    let cs = alternating tail ∷ tail in
    standard_model (a.degree + 1) (cs ++ replicate (coefficient_count - length cs) (pos 0)) (2 * a.radius + a.degree + 1)

halved_former : (k : ℕ) (ns : List ℤ) → halved (2 * scale) (suc k) ns ≡ former_halved (suc k) ns
unfolding halved former_halved
halved_former k [] = refl
halved_former k (n ∷ ns) =
    ap₂ ◌∷◌
    (near_same (n *ℤ pos (2 * scale)) n (4 * scale * suc k) (2 * suc k) (omega arith) (omega arith)
    (assoc n (pos (2 * scale)) (pos (2 * suc k)) ∙ ap (λ (m : ℕ). n *ℤ pos m) (omega arith)))
    (halved_former (suc k) ns)
  where
    assoc : (x y z : ℤ) → x *ℤ y *ℤ z ≡ x *ℤ (y *ℤ z)
    assoc x y z = solveℤ (x ∷ y ∷ z ∷ []) (search reifyℤ depth 9) (search reifyℤ depth 9) tt

radius_former : (e : ℕ) → upℕ (e * (2 * scale)) scale ≡ 2 * e
radius_former e = sym (upℕ_unique (e * (2 * scale)) scale (2 * e) (omega arith) (omega arith) (omega arith))

pub integral_former : (a : Model) → a.interval ≡ standard_interval → integral_model a ≡ former_integral a
unfolding integral_model integral_list former_integral
integral_former a on =
    ap (λ i. formed (integral_list (extent i) (terms a)) (upℕ (a.radius * extent i) scale) i) on
    ∙ ap (λ (d : ℕ). formed (integral_list d (terms a)) (upℕ (a.radius * d) scale) standard_interval) standard_extent
    ∙ ap₂ (λ tail (e : ℕ). formed (alternating tail ∷ tail) e standard_interval) (halved_former 0 (numerators (terms a))) (radius_former a.radius)
  where
    formed : List ℤ → ℕ → Interval → Model
    formed cs e i = make_model (a.degree + 1) (cs ++ replicate (coefficient_count - length cs) (pos 0)) (e + a.degree + 1) i

abbrev pub former_integration : Model → Outcome Model
former_integration a = outcome (former_place a ∷ large_place (former_integral a) ∷ []) (former_integral a) zero_model

pub integration_former : (a : Model) → a.interval ≡ standard_interval → integration a ≡ former_integration a
unfolding integration
integration_former a on =
    (place_former (same_refusal (large_place (integral_model a) ∷ [])) a on).outcomes Model (integral_model a) zero_model
    ∙ ap (λ m. outcome (former_place a ∷ large_place m ∷ []) m zero_model) (integral_former a on)

-- ---- evaluate

numerator_former : (p : ℤ) → mapped_numerator standard_interval p ≡ p *ℤ pos (2 * scale)
numerator_former = all1 _ (simp differences (omega arith))

pub mapped_former : (p : ℤ) → mapped_point standard_interval p ≡ p
unfolding mapped_point
mapped_former p = ap₂ near (numerator_former p) standard_extent ∙ near-whole p (2 * scale) (omega arith)

pub exact_former : (p : ℤ) → maps_exactly standard_interval p ≡ true
unfolding maps_exactly
exact_former p =
    ap (λ (d : ℕ). eqb (nat_abs (mapped_point standard_interval p *ℤ pos d -ℤ mapped_numerator standard_interval p)) 0) standard_extent
    ∙ ap (λ (n : ℕ). eqb n 0) (ap₂ (λ q n. nat_abs (q *ℤ pos (2 * scale) -ℤ n)) (mapped_former p) (numerator_former p) ∙ none (p *ℤ pos (2 * scale)))
  where
    none : (z : ℤ) → nat_abs (z -ℤ z) ≡ 0
    none z = omega (arith, difference z z, abs (z -ℤ z), apart (z -ℤ z))

-- "p outside −S..S"
contains_former : (p : ℤ) → not (contains standard_interval p) ≡ ltb scale (nat_abs p)
unfolding contains
contains_former (pos n) = by (leb n scale) refl
  where
    by : (t : Bool) → leb n scale ≡ t → not t ≡ ltb scale n
    by true e = sym (le-ltb scale n (leb-true n scale e))
    by false e = sym (lt-ltb scale n (leb-false n scale e))
contains_former (negsuc n) = by (leb n 1048575) refl
  where
    by : (t : Bool) → leb n 1048575 ≡ t → not (t && true) ≡ ltb scale (suc n)
    by true e = sym (le-ltb scale (suc n) (omega (arith, leb-true n 1048575 e)))
    by false e = sym (lt-ltb scale (suc n) (omega (arith, leb-false n 1048575 e)))

unfoldable pub former_low : Model → ℤ → ℤ
former_low a p = floor (pos 4 *ℤ point_sum p 0 (terms a) -ℤ pos (point_error 0 (terms a))) (2 ^ 32) -ℤ pos a.radius

unfoldable pub former_high : Model → ℤ → ℤ
former_high a p = up (pos 4 *ℤ point_sum p 0 (terms a) +ℤ pos (point_error 0 (terms a))) (2 ^ 32) +ℤ pos a.radius

abbrev pub former_evaluation : Model → ℤ → Outcome Bounds
former_evaluation a p =
    outcome (former_place a ∷ (ltb scale (nat_abs p), 4) ∷ []) (record { low = former_low a p; high = former_high a p }) zero_bounds

pub evaluation_former : (a : Model) (p : ℤ) → a.interval ≡ standard_interval → evaluation a p ≡ former_evaluation a p
unfolding evaluation low_bound high_bound growth former_low former_high
evaluation_former a p on =
    (place_former (same_refusal ((not (contains a.interval p), 4) ∷ [])) a on).outcomes Bounds _ zero_bounds
    ∙ rw (on, contains_former p, mapped_former p, exact_former p, plain (point_error 0 (terms a)))
  where
    plain : (n : ℕ) → n + 0 ≡ n
    plain n = omega arith

-- ---- areas

-- "35 numbers …: degree, coefficients, radius"
abbrev pub former_words : Model → List ℤ
former_words m = pos m.degree ∷ (m.coefficients ++ (pos m.radius ∷ []))

-- behind them the two ends
pub words_ends : (m : Model) → words m ≡ former_words m ++ (m.interval.lower ∷ m.interval.upper ∷ [])
words_ends m =
    ap (λ x. pos m.degree ∷ x) (sym (append_assoc m.coefficients (pos m.radius ∷ []) (m.interval.lower ∷ m.interval.upper ∷ [])))

pub words_former : (m : Model) → m.interval ≡ standard_interval → words m ≡ former_words m ++ (neg_ℤ (pos scale) ∷ pos scale ∷ [])
words_former m on = words_ends m ∙ ap (λ (i : Interval). former_words m ++ (i.lower ∷ i.upper ∷ [])) on

-- the model in the first 35 numbers of an area
abbrev pub former_area_model : List ℤ → Model
former_area_model s =
    standard_model (unsigned_of (get_or s 0 (pos 0))) (take coefficient_count (drop 1 s)) (unsigned_of (get_or s 34 (pos 0)))

pub area_former : (s : List ℤ) → get_or s 35 (pos 0) ≡ neg_ℤ (pos scale) → get_or s 36 (pos 0) ≡ pos scale → area_model s ≡ former_area_model s
area_former s l u = rw (l, u)
