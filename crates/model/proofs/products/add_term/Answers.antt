-- `products::add_term` meets its contract: the two parts, one after the other, are the term cut at place i.
use Rattle.std.proofs.Common.{arith, ◌≡◌, ap, ℕ, ◌+◌, ◌-◌, ◌*◌, List, ℤ, nat_abs, length, take, drop, length-drop}
use lib.Seq.{length-take-le, take_all}
use mir.Facts.{to_z-of_z}
use Rattle.ring.specs.definitions.Integer.{ℤ_ring}
use Rattle.chebyshev.specs.definitions.Coefficients.{weight}
use Rattle.chebyshev.proofs.laws.Weight.{weight_split}
use Rattle.chebyshev.specs.definitions.Product.{add_term}
use Rattle.chebyshev.proofs.laws.PairVisits.{term_visits}
use Rattle.chebyshev.proofs.laws.ProductLaws.{length_add_term, term_joined}
use Rattle.chebyshev.proofs.laws.ProductWeight.{weight_add_term}
use Rattle.model.proofs.products.add_term.Goals as goal
use Rattle.model.proofs.products.add_term.Goals.{After-add_pairs-behind}

-- a list cut at place i
module _ (i : ℕ) (b : List ℤ) where
  parts : (x : ℤ) → nat_abs x * weight b ≡ nat_abs x * weight (take i b) + nat_abs x * weight (drop i b)
  parts x = omega (arith, ap (λ (n : ℕ). nat_abs x * n) (weight_split i b))

  rest-is : take (length b - i) (drop i b) ≡ drop i b
  rest-is = take_all (length b - i) (drop i b) (omega (arith, length-drop i b))

pub add_pairs-before-requires : goal.add_pairs-before-requires
add_pairs-before-requires c =
    let a = c.args in
    simp (to_z-of_z c.ranges.x) (omega (arith, length-take-le a.i a.b.now (omega arith), parts a.i a.b.now a.x, c.requires))

pub add_pairs-behind-requires : goal.add_pairs-behind-requires
add_pairs-behind-requires c =
    let a = c.args in
    let front = take a.i a.b.now in
    let first_is : c.add_pairs-before.new.c ≡ (add_term ℤ_ring (a.c.now, 0) a.x a.i 0 front).0 = ap (λ w. w.0) (rw (to_z-of_z c.ranges.x) at c.add_pairs-before.ensures) in
    simp (to_z-of_z c.ranges.x, first_is, rest-is a.i a.b.now)
    (omega (arith, length_add_term ℤ_ring (a.c.now, 0) a.x a.i 0 front, weight_add_term (a.c.now, 0) a.x a.i 0 front, length-drop a.i a.b.now, parts a.i a.b.now a.x, c.requires))

-- both parts are done
joined : (c : After-add_pairs-behind) → (c.add_pairs-behind.new.c, c.add_pairs-before.result + c.add_pairs-behind.result) ≡ add_term ℤ_ring (c.args.c.now, 0) c.args.x c.args.i 0 c.args.b.now
joined c =
    let a = c.args in
    let e : 0 + a.i ≡ a.i = omega arith in
    (rw e at (term_joined ℤ_ring a.c.now a.x a.i 0 a.i a.b.now c.add_pairs-before.new.c c.add_pairs-behind.new.c c.add_pairs-before.result c.add_pairs-behind.result (omega arith) (rw (to_z-of_z c.ranges.x) at c.add_pairs-before.ensures)))
    (rw (to_z-of_z c.ranges.x, rest-is a.i a.b.now) at c.add_pairs-behind.ensures)

pub overflow_add-result : goal.overflow_add-result
overflow_add-result k =
    let c = (goal.at.overflow_add-result k).After-add_pairs-behind in
    omega (arith, ap (λ w. w.1) (joined c), term_visits ℤ_ring (c.args.c.now, 0) c.args.x c.args.i 0 c.args.b.now)

pub returns-then-i-b : goal.returns-then-i-b
returns-then-i-b k = joined (goal.at.returns-then-i-b k).After-add_pairs-behind
