-- What `values::each` gives is `map`.
use mathlib.Core.Path.{◌≡◌, refl, sym, ◌∙◌, ap}
use mathlib.Core.List.{List, map}
use Prim.Native.Nat.{ℕ, ◌+◌, ◌≤◌, ◌<◌}
use native.Mathlib.Omega.{arith}
use lib.ListN.{length, get_or, set, length-map, get_or-map}
use lib.Seq.{ext_get_or}
use Rattle.integer.proofs.laws.Filling.{Filling, begins, turn, next, whole}
use Rattle.proposals.specs.definitions.InnerContracts.{Each}

pub mapped : {A B : Type 0} {R : A → B → Type 0} (f : A → B) (d : A) (xs : List A) (ys : List B) → ((k : ℕ) (y : B) → k < length xs → R (get_or xs k d) y → y ≡ f (get_or xs k d))
    → Each R xs ys → ys ≡ map f xs
mapped f d xs ys given r =
    ext_get_or (f d) ys (map f xs) (r.long ∙ sym (length-map xs f))
    (λ k h. let j : k < length xs = omega (arith, r.long) in given k (get_or ys k (f d)) j (r.at k d (f d) j) ∙ sym (get_or-map f xs k d))

-- A loop that puts f of each element in its place.
module _ {A : Type 0} (f : A → A) (start : List A) where
  abbrev pub Mapping : List A → ℕ → Type 0
  Mapping l k = Filling (map f start) start l 0 (length start) k

  pub map_begins : Mapping start 0
  map_begins = begins (map f start) start 0 (length start) (length-map start f) (omega arith)

  pub map_turn : (l : List A) (k : ℕ) (v d : A) → Mapping l k → k < length start → v ≡ f (get_or l k d) → Mapping (set l k v) (k + 1)
  map_turn l k v d m h e =
      let p : k ≡ 0 + k = omega arith in
      turn k v (f d) m h p (e ∙ ap f (next k d m p) ∙ sym (get_or-map f start k d))

  pub map_ends : (l : List A) (k : ℕ) → Mapping l k → length start ≤ k → l ≡ map f start
  map_ends l k m h = whole m h refl
