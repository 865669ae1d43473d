-- A reversed list by its places, and its end.
use mathlib.Core.Path.{◌≡◌, sym, ◌∙◌, ap}
use mathlib.Core.List.{List, [], ◌∷◌, ◌++◌, reverse, reverse-cons, reverse-append}
use Prim.Native.Nat.{ℕ, zero, suc, ◌+◌}
use native.Mathlib.Omega.{arith}
use lib.ListN.{length, get_or, take, drop, length-reverse, length-drop, take-append-drop, get_or-append}
use lib.Seq.{drop-append_seam, get_or_at}

module _ {A : Type 0} where
  -- the first n elements reversed are the last n of all reversed
  pub reverse-take : (n k : ℕ) (b : List A) → k + n ≡ length b → drop k (reverse b) ≡ reverse (take n b)
  reverse-take n k b h =
      let e : k ≡ length (reverse (drop n b)) = rw (length-reverse, length-drop) (omega arith) in
      ap (λ l. drop k (reverse l)) (sym (take-append-drop n b))
      ∙ ap (drop k) (reverse-append (take n b) (drop n b))
      ∙ ap (λ (m : ℕ). drop m (reverse (drop n b) ++ reverse (take n b))) e
      ∙ drop-append_seam (reverse (drop n b)) (reverse (take n b))

  pub get_d_reverse : (b : List A) (k j : ℕ) (d : A) → k + suc j ≡ length b → get_or (reverse b) k d ≡ get_or b j d
  get_d_reverse [] k j d h = absurd (omega arith)
  get_d_reverse (y ∷ b) k zero d h =
      ap (λ l. get_or l k d) (reverse-cons y b) ∙ get_or_at (reverse b) y [] d k (rw length-reverse (omega arith))
  get_d_reverse (y ∷ b) k (suc j) d h =
      ap (λ l. get_or l k d) (reverse-cons y b)
      ∙ get_or-append (reverse b) (y ∷ []) d k (rw length-reverse (omega arith))
      ∙ get_d_reverse b k j d (omega arith)
