-- Loops that write the n elements of a list Z one by one into a list, from place a on.
use Rattle.std.specs.Prelude.{◌≡◌, refl, List, ◌++◌, ℕ, zero, suc, ◌+◌, ◌-◌, ◌≤◌, ◌<◌, length, get_or, set, take, drop, replicate}
use Rattle.std.proofs.Common.{ap, subst, ◌∙◌, append-nil, arith, add-one, length-set, drop_of_length-le, get_or-drop, take_all}
use Rattle.std.proofs.Math.Seq.{paste, paste-zero, paste-suc}
use Rattle.std.proofs.lemmas.List.Edits.{drop-paste}
use Rattle.std.proofs.lemmas.List.{set-get_or}

-- the invariant after i of them: `start` is the list where the loop begins, `l` the list now
pub record Filling {A : Type 0} (Z start l : List A) (a n i : ℕ) : Type 0 where
  pub wide : length Z ≡ n
  pub room : a + n ≤ length start
  pub same : length l ≡ length start
  pub bound : i ≤ n
  pub is : l ≡ paste start a Z i

module _ {A : Type 0} where
  pub begins : (Z start : List A) (a n : ℕ) → length Z ≡ n → a + n ≤ length start → Filling Z start start a n 0
  begins Z start a n e h = record { wide = e; room = h; same = refl; bound = omega arith; is = paste-zero start a Z }

  -- a turn stores element i at place p = a + i
  pub turn : {Z start l : List A} {a n i : ℕ} (p : ℕ) (v d : A) → Filling Z start l a n i → i < n → p ≡ a + i → v ≡ get_or Z i d
      → Filling Z start (set l p v) a n (i + 1)
  turn {Z} {start} {l} {a} {n} {i} p v d f h e ev = record {
    wide = f.wide;
    room = f.room;
    same = length-set l p v ∙ f.same;
    bound = omega arith;
    is = rw (e, ev, f.is, add-one) (paste-suc start a Z i d (omega (arith, f.room)) (omega (arith, f.wide)));
  }

  -- element i stands at its place p already
  pub skip : {Z start l : List A} {a n i : ℕ} (p : ℕ) (d : A) → Filling Z start l a n i → i < n → p ≡ a + i → get_or l p d ≡ get_or Z i d
      → Filling Z start l a n (i + 1)
  skip {Z} {start} {l} {a} {n} {i} p d f h e ev =
      subst (λ (t : List A). Filling Z start t a n (i + 1)) (set-get_or l p d) (turn p (get_or l p d) d f h e ev)

  -- the place that the next turn stores into is as it was
  pub next : {Z start l : List A} {a n i : ℕ} (p : ℕ) (d : A) → Filling Z start l a n i → p ≡ a + i → get_or l p d ≡ get_or start p d
  next {Z} {start} {l} {a} {n} {i} p d f e =
      let q : p ≡ a + i + 0 = omega arith in
      rw (q, f.is, ← get_or-drop (a + i) (paste start a Z i) 0 d, drop-paste start a Z i (omega (arith, f.room)) (omega (arith, f.wide, f.bound)))
      (get_or-drop (a + i) start 0 d)

  pub ends : {Z start l : List A} {a n i : ℕ} → Filling Z start l a n i → n ≤ i → l ≡ take a start ++ Z ++ drop (a + n) start
  ends {Z} {start} {l} {a} {n} {i} f h =
      let e : i ≡ n = omega (arith, f.bound) in
      f.is
      ∙ ap (paste start a Z) e
      ∙ ap (λ (t : List A). take a start ++ t ++ drop (a + n) start) (take_all n Z (omega (arith, f.wide)))

  -- a whole list
  pub whole : {Z start l : List A} {n i : ℕ} → Filling Z start l 0 n i → n ≤ i → length start ≡ n → l ≡ Z
  whole {Z} {start} {l} {n} f h e = ends f h ∙ rw (drop_of_length-le start {i = 0 + n} (omega arith)) (append-nil Z)

  pub drop_replicate : (m n : ℕ) (d : A) → drop m (replicate n d) ≡ replicate (n - m) d
  drop_replicate zero n d = let e : n - 0 ≡ n = omega arith in rw e
  drop_replicate (suc m) zero d = let e : 0 - suc m ≡ 0 = omega arith in rw e
  drop_replicate (suc m) (suc n) d = let e : suc n - suc m ≡ n - m = omega arith in rw e (drop_replicate m n d)

  -- the first n of m places that held d
  pub padded : (m : ℕ) (d : A) {Z l : List A} {n i : ℕ} → Filling Z (replicate m d) l 0 n i → n ≤ i → l ≡ Z ++ replicate (m - n) d
  padded m d {Z} {l} {n} f h =
      let e : 0 + n ≡ n = omega arith in
      ends f h ∙ rw (e, drop_replicate n m d)
