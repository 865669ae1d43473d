-- `products::add_products` meets its contract. The loop's invariant in rest form, as for a term: the terms that are left,
-- visited after the i · length b pairs that were, give all terms added to the list as it came.
use Rattle.std.proofs.Common.{rules, arith, ◌≡◌, sym, ◌∙◌, ap, List, ℕ, ◌+◌, ◌*◌, ◌<◌, ◌≤◌, ℤ, pos, nat_abs, length, get_or, drop, w32, FitsSigned}
use native.Mathlib.Nat.{mul-le-mul, le_refl}
use mir.Facts.{to_z-of_z}
use Rattle.ring.specs.definitions.Integer.{ℤ_ring}
use Rattle.integer.proofs.laws.Machine.{fits_widens}
use Rattle.chebyshev.specs.definitions.Coefficients.{weight}
use Rattle.chebyshev.proofs.laws.Weight.{weight_step}
use Rattle.chebyshev.specs.definitions.Product.{add_term, add_terms}
use Rattle.chebyshev.proofs.laws.PairVisits.{term_visits}
use Rattle.chebyshev.proofs.laws.ProductLaws.{length_add_term, term_counted, terms_step, terms_end}
use Rattle.chebyshev.proofs.laws.ProductWeight.{weight_add_term}
use Rattle.model.proofs.products.add_products.Invariants.{Walked}
use Rattle.model.proofs.products.add_products.Goals as goal
use Rattle.model.proofs.products.add_products.Goals.{After-add_term-visits}

part : (a b : List ℤ) (i : ℕ) → i < length a → weight (drop i a) * weight b ≡ nat_abs (get_or a i (pos 0)) * weight b + weight (drop (i + 1) a) * weight b
part a b i h = omega (arith, ap (λ (n : ℕ). n * weight b) (weight_step a i h))

-- the term of a_i leaves d, in r visits
walk : (c₀ a b c : List ℤ) (visits i : ℕ) → Walked c₀ a b c visits i → i < length a → (d : List ℤ) (r : ℕ)
    → (d, r) ≡ add_term ℤ_ring (c, 0) (get_or a i (pos 0)) i 0 b → Walked c₀ a b d (visits + r) (i + 1)
walk c₀ a b c visits i w h d r e =
    let x = get_or a i (pos 0) in
    let list : d ≡ (add_term ℤ_ring (c, 0) x i 0 b).0 = ap (λ v. v.0) e in record {
      size = ap length list ∙ length_add_term ℤ_ring (c, 0) x i 0 b ∙ w.size;
      count = omega (arith, w.count, term_visits ℤ_ring (c, 0) x i 0 b, ap (λ v. v.1) e);
      rest =
          ap (λ v. add_terms ℤ_ring v (i + 1) (drop (i + 1) a) b) (term_counted ℤ_ring visits c x i 0 b d r e)
          ∙ sym (terms_step ℤ_ring (c, visits) i a b h)
          ∙ w.rest;
      bound = omega (arith, w.bound, ap weight list, weight_add_term (c, 0) x i 0 b, part a b i h);
    }

pub add_term-visits-requires : goal.add_term-visits-requires
add_term-visits-requires c =
    let a = c.args.a.now in
    let fits-x : FitsSigned w32 (get_or a c.loop-i.i (pos 0)) = search rules in
    simp (to_z-of_z fits-x, to_z-of_z (fits_widens fits-x)) (omega (arith, c.loop-i.invariant, part a c.args.b.now c.loop-i.i (omega arith), c.requires))

-- after a turn
turned : (c : After-add_term-visits) → Walked c.args.c.now c.args.a.now c.args.b.now c.add_term-visits.new.c (c.loop-i.visits + c.add_term-visits.result) (c.loop-i.i + 1)
turned c =
    let a = c.args.a.now in
    let fits-x : FitsSigned w32 (get_or a c.loop-i.i (pos 0)) = search rules in
    walk c.args.c.now a c.args.b.now c.loop-i.c c.loop-i.visits c.loop-i.i c.loop-i.invariant (omega arith) c.add_term-visits.new.c c.add_term-visits.result
    (simp (to_z-of_z fits-x, to_z-of_z (fits_widens fits-x)) at c.add_term-visits.ensures)

pub overflow_add-visits : goal.overflow_add-visits
overflow_add-visits k =
    let c = (goal.at.overflow_add-visits k).After-add_term-visits in
    let h : c.loop-i.i + 1 ≤ length c.args.a.now = omega arith in
    omega (arith, (turned c).count, mul-le-mul h (le_refl (length c.args.b.now)), c.requires)

pub loop-i-preserved : goal.loop-i-preserved
loop-i-preserved k = turned (goal.at.loop-i-preserved k).After-add_term-visits

pub returns-clause-result_after : goal.returns-clause-result_after
returns-clause-result_after c = sym (terms_end ℤ_ring (c.loop-i.c, c.loop-i.visits) c.loop-i.i c.args.a.now c.args.b.now (omega arith)) ∙ c.loop-i.invariant.rest
