-- One test of a whole table, which antt computes row after row from the table's own numbers, and the lemma that turns it into the
-- rule: a list that passes is `expansion_table`.
use mathlib.Core.Path.{◌≡◌, refl, sym, ◌∙◌, ap, ap₂}
use mathlib.Core.Bool.{Bool, true, false}
use mathlib.Core.List.{List, [], ◌∷◌, ◌++◌, map}
use Prim.Native.Nat.{ℕ, zero, suc, ◌-◌}
use lib.Dec.{T, eqb, eqb→eq}
use lib.IntN.{ℤ, pos, negsuc}
use lib.ListN.{take, drop, replicate, take-append-drop}
use Rattle.ring.proofs.laws.Polynomial.{both, both_left, both_right}
use Rattle.ring.specs.definitions.Integer.{ℤ_ring}
use Rattle.integer.specs.definitions.Rounding.{floor}
use Rattle.chebyshev.specs.definitions.Coefficients.{scale_list}
use Rattle.chebyshev.specs.definitions.Neighbours.{neighbour_sums}
use Rattle.model.specs.definitions.Models.{max_degree}
use Rattle.series.specs.definitions.Table.{expansion_unit, expansion_row, rows_from, expansion_table}
use Rattle.series.proofs.laws.RowLaws.{halves_of_twice}

-- ---- equal lists

abbrev same_number : ℤ → ℤ → Bool
same_number (pos a) (pos b) = eqb a b
same_number (pos a) (negsuc b) = false
same_number (negsuc a) (pos b) = false
same_number (negsuc a) (negsuc b) = eqb a b

same_number_lem : (a b : ℤ) → T (same_number a b) → a ≡ b
same_number_lem (pos a) (pos b) t = ap pos (eqb→eq a b t)
same_number_lem (pos a) (negsuc b) t = absurd t
same_number_lem (negsuc a) (pos b) t = absurd t
same_number_lem (negsuc a) (negsuc b) t = ap negsuc (eqb→eq a b t)

abbrev same_list : List ℤ → List ℤ → Bool
same_list [] [] = true
same_list [] (y ∷ b) = false
same_list (x ∷ a) [] = false
same_list (x ∷ a) (y ∷ b) = both (same_number x y) (same_list a b)

same_list_lem : (a b : List ℤ) → T (same_list a b) → a ≡ b
same_list_lem [] [] t = refl
same_list_lem [] (y ∷ b) t = absurd t
same_list_lem (x ∷ a) [] t = absurd t
same_list_lem (x ∷ a) (y ∷ b) t =
    let l = same_number x y in
    let r = same_list a b in
    ap₂ ◌∷◌ (same_number_lem x y (both_left l r t)) (same_list_lem a b (both_right l r t))

-- ---- the rows

-- row k of the rest t of a table, the zeros behind it, and what is left
abbrev row_in : ℕ → List ℤ → List ℤ
row_in k t = take (suc k) t

abbrev zeros_in : ℕ → List ℤ → List ℤ
zeros_in k t = take (max_degree - k) (drop (suc k) t)

abbrev rest_in : ℕ → List ℤ → List ℤ
rest_in k t = drop (max_degree - k) (drop (suc k) t)

-- n rows from row k on, the row before being e: twice each row is the sums of the neighbours in the one before, zeros fill it up,
-- and nothing stands behind the last
abbrev follow : ℕ → ℕ → List ℤ → List ℤ → Bool
follow zero k e t = same_list t []
follow (suc n) k e t =
    both (same_list (scale_list ℤ_ring (pos 2) (row_in k t)) (neighbour_sums ℤ_ring e))
    (both (same_list (zeros_in k t) (replicate (max_degree - k) (pos 0))) (follow n (suc k) (row_in k t) (rest_in k t)))

abbrev pub is_table : List ℤ → Bool
is_table t =
    both (same_list (row_in 0 t) (pos expansion_unit ∷ []))
    (both (same_list (zeros_in 0 t) (replicate max_degree (pos 0))) (follow max_degree 1 (row_in 0 t) (rest_in 0 t)))

-- ---- the lemma

parts : (k : ℕ) (t : List ℤ) → t ≡ row_in k t ++ (zeros_in k t ++ rest_in k t)
parts k t =
    sym (take-append-drop (suc k) t) ∙ ap (λ r. row_in k t ++ r) (sym (take-append-drop (max_degree - k) (drop (suc k) t)))

joined : {a a' b b' c c' : List ℤ} → a ≡ a' → b ≡ b' → c ≡ c' → a ++ (b ++ c) ≡ a' ++ (b' ++ c')
joined p q r = ap₂ ◌++◌ p (ap₂ ◌++◌ q r)

follows : (n k : ℕ) (e t : List ℤ) → e ≡ expansion_row k → T (follow n (suc k) e t) → t ≡ rows_from n (suc k)
unfolding expansion_row
follows zero k e t h p = same_list_lem t [] p
follows (suc n) k e t h p =
    let row = same_list (scale_list ℤ_ring (pos 2) (row_in (suc k) t)) (neighbour_sums ℤ_ring e) in
    let fill = same_list (zeros_in (suc k) t) (replicate (max_degree - suc k) (pos 0)) in
    let more = follow n (suc (suc k)) (row_in (suc k) t) (rest_in (suc k) t) in
    let q = both_right row (both fill more) p in
    let r : row_in (suc k) t ≡ expansion_row (suc k) = next (both_left row (both fill more) p) in
    parts (suc k) t
    ∙ joined r (same_list_lem (zeros_in (suc k) t) (replicate (max_degree - suc k) (pos 0)) (both_left fill more q))
    (follows n (suc k) (row_in (suc k) t) (rest_in (suc k) t) r (both_right fill more q))
  where
    next : T (same_list (scale_list ℤ_ring (pos 2) (row_in (suc k) t)) (neighbour_sums ℤ_ring e)) → row_in (suc k) t ≡ expansion_row (suc k)
    next p =
        sym (halves_of_twice (row_in (suc k) t))
        ∙ ap (map (λ n. floor n 2)) (same_list_lem (scale_list ℤ_ring (pos 2) (row_in (suc k) t)) (neighbour_sums ℤ_ring e) p ∙ ap (neighbour_sums ℤ_ring) h)

pub table_is : (t : List ℤ) → T (is_table t) → t ≡ expansion_table
unfolding expansion_row expansion_table
table_is t p =
    let row = same_list (row_in 0 t) (pos expansion_unit ∷ []) in
    let fill = same_list (zeros_in 0 t) (replicate max_degree (pos 0)) in
    let more = follow max_degree 1 (row_in 0 t) (rest_in 0 t) in
    let q = both_right row (both fill more) p in
    let r : row_in 0 t ≡ expansion_row 0 = same_list_lem (row_in 0 t) (pos expansion_unit ∷ []) (both_left row (both fill more) p) in
    parts 0 t
    ∙ joined r (same_list_lem (zeros_in 0 t) (replicate max_degree (pos 0)) (both_left fill more q))
    (follows max_degree 0 (row_in 0 t) (rest_in 0 t) r (both_right fill more q))
