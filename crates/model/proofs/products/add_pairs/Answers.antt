-- `products::add_pairs` meets its contract. The loop's invariant in rest form: the pairs that are left, visited after the k
-- that were, give the whole term added to the list as it came, and no weight is above what the whole term may bring.
use Rattle.std.proofs.Common.{rules, arith, ◌≡◌, sym, ◌∙◌, ap, List, ℕ, ◌+◌, ◌*◌, ◌<◌, ℤ, pos, nat_abs, ◌*ℤ◌, length, get_or, drop, w32, w64, FitsSigned}
use mir.Facts.{to_z-of_z}
use Rattle.ring.specs.laws.Parts.{abs-mul}
use Rattle.ring.specs.definitions.Integer.{ℤ_ring}
use Rattle.integer.proofs.laws.Machine.{abs-fits, fits_widens}
use Rattle.chebyshev.specs.definitions.Coefficients.{weight}
use Rattle.chebyshev.proofs.laws.Weight.{weight_step}
use Rattle.chebyshev.specs.definitions.Product.{add_pair, add_term}
use Rattle.chebyshev.proofs.laws.ProductLaws.{length_add_pair, term_step, term_end}
use Rattle.chebyshev.proofs.laws.ProductWeight.{weight_add_pair}
use Rattle.model.proofs.products.add_pairs.Invariants.{Walked}
use Rattle.model.proofs.products.add_pairs.Goals as goal
use Rattle.model.proofs.products.add_pairs.Goals.{In-loop-k}

-- |x|·|b_k| is a part of |x|·(the weight that is left of b)
part : (x : ℤ) (b : List ℤ) (k : ℕ) → k < length b → nat_abs x * weight (drop k b) ≡ nat_abs (x *ℤ get_or b k (pos 0)) + nat_abs x * weight (drop (k + 1) b)
part x b k h = omega (arith, ap (λ (n : ℕ). nat_abs x * n) (weight_step b k h), abs-mul x (get_or b k (pos 0)))

walk : (c₀ : List ℤ) (x : ℤ) (i j : ℕ) (b c : List ℤ) (k : ℕ) → Walked c₀ x i j b c k → k < length b → Walked c₀ x i j b (add_pair ℤ_ring c i (j + k) (x *ℤ get_or b k (pos 0))) (k + 1)
walk c₀ x i j b c k w h =
    let v = x *ℤ get_or b k (pos 0) in
    let e : j + (k + 1) ≡ j + k + 1 = omega arith in record {
      size = length_add_pair ℤ_ring c i (j + k) v ∙ w.size;
      rest = rw e (sym (term_step ℤ_ring (c, k) x i (j + k) b k h)) ∙ w.rest;
      bound = omega (arith, w.bound, weight_add_pair c i (j + k) v, part x b k h);
    }

-- all are visited
all : (c₀ : List ℤ) (x : ℤ) (i j : ℕ) (b c : List ℤ) (k : ℕ) → Walked c₀ x i j b c k → k ≡ length b → (c, length b) ≡ add_term ℤ_ring (c₀, 0) x i j b
all c₀ x i j b c k w e = ap (λ (n : ℕ). (c, n)) (sym e) ∙ sym (term_end ℤ_ring (c, k) x i (j + k) b k (omega arith)) ∙ w.rest

-- in a turn
inv : (c : In-loop-k) → Walked c.args.c.now c.args.x c.args.i c.args.j c.args.b.now c.loop-k.c c.loop-k.k
inv c = rw (to_z-of_z c.ranges.x) at c.loop-k.invariant

fits-v : (c : In-loop-k) → FitsSigned w64 (c.args.x *ℤ get_or c.args.b.now c.loop-k.k (pos 0))
fits-v c = abs-fits w64 (c.args.x *ℤ get_or c.args.b.now c.loop-k.k (pos 0)) (omega (arith, inv c, part c.args.x c.args.b.now c.loop-k.k (omega arith), c.requires))

pub overflow_mul-x : goal.overflow_mul-x
overflow_mul-x c =
    let fits-y : FitsSigned w32 (get_or c.args.b.now c.loop-k.k (pos 0)) = search rules in
    simp (to_z-of_z c.ranges.x, to_z-of_z fits-y, to_z-of_z (fits_widens fits-y)) (fits-v (goal.at.overflow_mul-x c).In-loop-k)

pub add_pair-requires : goal.add_pair-requires
add_pair-requires c =
    let t = (goal.at.add_pair-requires c).In-loop-k in
    let fits-y : FitsSigned w32 (get_or c.args.b.now c.loop-k.k (pos 0)) = search rules in
    simp (to_z-of_z c.ranges.x, to_z-of_z fits-y, to_z-of_z (fits_widens fits-y), to_z-of_z (fits-v t))
    (omega (arith, inv t, part c.args.x c.args.b.now c.loop-k.k (omega arith), c.requires))

pub loop-k-preserved : goal.loop-k-preserved
loop-k-preserved c =
    let t = (goal.at.loop-k-preserved c).In-loop-k in
    let fits-y : FitsSigned w32 (get_or c.args.b.now c.loop-k.k (pos 0)) = search rules in
    let e = simp (to_z-of_z c.ranges.x, to_z-of_z fits-y, to_z-of_z (fits_widens fits-y), to_z-of_z (fits-v t)) at c.add_pair.ensures in
    rw (to_z-of_z c.ranges.x, e) (walk c.args.c.now c.args.x c.args.i c.args.j c.args.b.now c.loop-k.c c.loop-k.k (inv t) (omega arith))

pub returns : goal.returns
returns c =
    all c.args.c.now c.args.x c.args.i c.args.j c.args.b.now c.loop-k.c c.loop-k.k (rw (to_z-of_z c.ranges.x) at c.loop-k.invariant) (omega arith)
