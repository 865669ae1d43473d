-- What is not finite in a walk of pairs, a product of two elements or a sum, shows in the list that the walk ends with.
use Rattle.std.specs.Prelude.{◌≡◌, List, [], ◌∷◌, map, ◌++◌, ℕ, zero, suc, ◌+◌, ◌≤◌, ◌<◌, T, Float}
use Rattle.std.proofs.Common.{arith}
use Rattle.std.proofs.Math.ListN.{length}
use Rattle.std.specs.Float.{binary64}
use Rattle.std.specs.Float.Ieee.{add, mul}
use Rattle.std.specs.Float.Ieee.Fits.{and_i}
use Rattle.std.specs.Float.Ieee.Scale.{finite}
use Rattle.chebyshev.specs.definitions.Product.{distance, Walk, add_at_by, add_pair_by, add_term_by, add_terms_by}
use Rattle.chebyshev.proofs.laws.ProductLaws.{length_add_at_by, length_add_pair_by, length_add_term_by}
use Rattle.proposals.specs.definitions.Values.{all_finite}
use Rattle.proposals.specs.definitions.Finite.{walk_term, walk_terms, products_finite, all_products_finite}
use Rattle.proposals.proofs.laws.FiniteOperations.{add_finite, head_finite, tail_finite, cons_finite, none_finite}

-- ---- one place, one pair

pub at_finite : (c : List Float) (k : ℕ) (v : Float) → T (all_finite (add_at_by (add binary64) c k v)) → T (all_finite c)
unfolding add_at_by
at_finite [] k v h = h
at_finite (x ∷ c) zero v h = cons_finite x c (add_finite binary64 x v (head_finite (add binary64 x v) c h)).0 (tail_finite (add binary64 x v) c h)
at_finite (x ∷ c) (suc k) v h =
    let d = add_at_by (add binary64) c k v in
    cons_finite x c (head_finite x d h) (at_finite c k v (tail_finite x d h))

-- and what was added, at a place that the list has
pub added_finite : (c : List Float) (k : ℕ) (v : Float) → k < length c → T (all_finite (add_at_by (add binary64) c k v)) → T (finite v)
unfolding add_at_by
added_finite [] k v l h = absurd (omega arith)
added_finite (x ∷ c) zero v l h = (add_finite binary64 x v (head_finite (add binary64 x v) c h)).1
added_finite (x ∷ c) (suc k) v l h = added_finite c k v (omega arith) (tail_finite x (add_at_by (add binary64) c k v) h)

module _ (c : List Float) (i j : ℕ) (v : Float) (h : T (all_finite (add_pair_by (add binary64) c i j v))) where
  -- the list between the two sums of a pair, and before them
  pub half_pair_finite : T (all_finite (add_at_by (add binary64) c (i + j) v))
  unfolding add_pair_by
  half_pair_finite = at_finite (add_at_by (add binary64) c (i + j) v) (distance i j) v h

  pub pair_finite : T (all_finite c)
  pair_finite = at_finite c (i + j) v half_pair_finite

  -- place i + j may be beyond the list; place |i − j| is not, where i and j are places of it
  pub pair_added_finite : i < length c → j < length c → T (finite v)
  unfolding add_pair_by
  pair_added_finite l m =
      let d = add_at_by (add binary64) c (i + j) v in
      let p : distance i j < length d = rw (length_add_at_by (add binary64) c (i + j) v) (omega arith) in
      added_finite d (distance i j) v p h

-- ---- the walk

pub term_finite : (w : Walk Float) (x : Float) (i j : ℕ) (b : List Float) → T (all_finite (walk_term w x i j b).0) → T (all_finite w.0)
unfolding add_term_by
term_finite w x i j [] h = h
term_finite w x i j (y ∷ b) h =
    let v = mul binary64 x y in
    pair_finite w.0 i j v (term_finite (add_pair_by (add binary64) w.0 i j v, w.1 + 1) x i (suc j) b h)

pub term_products_finite : (w : Walk Float) (x : Float) (i j : ℕ) (b : List Float) → i < length w.0 → j + length b ≤ length w.0
    → T (all_finite (walk_term w x i j b).0) → T (products_finite x b)
unfolding add_term_by
term_products_finite w x i j [] l m h = none_finite
term_products_finite w x i j (y ∷ b) l m h =
    let v = mul binary64 x y in
    let c = add_pair_by (add binary64) w.0 i j v in
    let e : length c ≡ length w.0 = length_add_pair_by (add binary64) w.0 i j v in
    let k : j < length w.0 = omega arith in
    let l' : i < length c = rw e l in
    let m' : suc j + length b ≤ length c = rw e (omega arith) in
    cons_finite v (map (mul binary64 x) b)
    (pair_added_finite w.0 i j v (term_finite (c, w.1 + 1) x i (suc j) b h) l k)
    (term_products_finite (c, w.1 + 1) x i (suc j) b l' m' h)

pub terms_finite : (w : Walk Float) (i : ℕ) (a b : List Float) → T (all_finite (walk_terms w i a b).0) → T (all_finite w.0)
unfolding add_terms_by
terms_finite w i [] b h = h
terms_finite w i (x ∷ a) b h = term_finite w x i 0 b (terms_finite (walk_term w x i 0 b) (suc i) a b h)

pub terms_products_finite : (w : Walk Float) (i : ℕ) (a b : List Float) → i + length a ≤ length w.0 → length b ≤ length w.0
    → T (all_finite (walk_terms w i a b).0) → T (all_products_finite a b)
unfolding add_terms_by all_products_finite
terms_products_finite w i [] b l m h = tt
terms_products_finite w i (x ∷ a) b l m h =
    let v = walk_term w x i 0 b in
    let e : length v.0 ≡ length w.0 = length_add_term_by (add binary64) (mul binary64) w x i 0 b in
    let k : i < length w.0 = omega arith in
    let n : 0 + length b ≤ length w.0 = omega arith in
    let l' : suc i + length a ≤ length v.0 = rw e (omega arith) in
    let m' : length b ≤ length v.0 = rw e m in
    and_i (products_finite x b) (all_products_finite a b)
    (term_products_finite w x i 0 b k n (terms_finite v (suc i) a b h))
    (terms_products_finite v (suc i) a b l' m' h)

-- ---- every state of the list

term_state_finite : (w : Walk Float) (x : Float) (i j : ℕ) (b b' : List Float) → T (all_finite (walk_term w x i j (b ++ b')).0) → T (all_finite (walk_term w x i j b).0)
unfolding add_term_by
term_state_finite w x i j [] b' h = term_finite w x i j b' h
term_state_finite w x i j (y ∷ b) b' h = term_state_finite (add_pair_by (add binary64) w.0 i j (mul binary64 x y), w.1 + 1) x i (suc j) b b' h

-- the list after the terms of a and the pairs of x with b, and before the pairs of x with b' and the terms of a'
pub state_finite : (w : Walk Float) (i : ℕ) (a : List Float) (x : Float) (a' b b' : List Float)
    → T (all_finite (walk_terms w i (a ++ (x ∷ a')) (b ++ b')).0) → T (all_finite (walk_term (walk_terms w i a (b ++ b')) x (i + length a) 0 b).0)
unfolding add_terms_by
state_finite w i [] x a' b b' h =
    let e : i + 0 ≡ i = omega arith in
    rw e (term_state_finite w x i 0 b b' (terms_finite (walk_term w x i 0 (b ++ b')) (suc i) a' (b ++ b') h))
state_finite w i (y ∷ a) x a' b b' h =
    let e : i + suc (length a) ≡ suc i + length a = omega arith in
    rw e (state_finite (walk_term w y i 0 (b ++ b')) (suc i) a x a' b b' h)
