-- `area::write` meets its contract: the degree, the coefficients copied into the part lent on, then the radius and the ends.
use Rattle.std.proofs.Common.{rules, arith, ◌≡◌, ap, ◌∙◌, List, [], ◌∷◌, ◌++◌, ℕ, zero, suc, ◌+◌, ℤ, pos, length, set, drop, length-drop, w32, FitsSigned, to_z-of_z}
use borrow.Rule.Slice.PartMut.{put_mid}
use mir.ValLaws.{to_z_pos}
use Rattle.model.specs.definitions.Models.{coefficient_count}
use Rattle.model.proofs.area.write.Goals as goal

set-behind : (a b : List ℤ) (n k : ℕ) (v : ℤ) → n ≡ length a + k → set (a ++ b) n v ≡ a ++ set b k v
set-behind [] b n k v e = ap (λ (j : ℕ). set b j v) (omega arith)
set-behind (c ∷ a) b zero k v e = absurd (omega arith)
set-behind (c ∷ a) b (suc n) k v e = ap (λ (z : List ℤ). c ∷ z) (set-behind a b n k v (omega arith))

-- a first number and n numbers behind it in n + 4 places, then three more
written : (o cs : List ℤ) (d r l u : ℤ) (n : ℕ) → length cs ≡ n → length o ≡ n + 4
    → set (set (set (put_mid 1 n (set o 0 d) cs) (1 + n) r) (2 + n) l) (3 + n) u ≡ d ∷ (cs ++ (r ∷ l ∷ u ∷ []))
written [] cs d r l u n hc ho = absurd (omega arith)
written (x ∷ o) cs d r l u n hc ho = go (drop n o) (rw length-drop (omega arith))
  where
    go : (t : List ℤ) → length t ≡ 3 → set (set (set (d ∷ (cs ++ t)) (1 + n) r) (2 + n) l) (3 + n) u ≡ d ∷ (cs ++ (r ∷ l ∷ u ∷ []))
    go (a ∷ b ∷ c ∷ []) h =
        ap (λ (z : List ℤ). set (set z (2 + n) l) (3 + n) u) (set-behind (d ∷ cs) (a ∷ b ∷ c ∷ []) (1 + n) 0 r (omega arith))
        ∙ ap (λ (z : List ℤ). set z (3 + n) u) (set-behind (d ∷ cs) (r ∷ b ∷ c ∷ []) (2 + n) 1 l (omega arith))
        ∙ set-behind (d ∷ cs) (r ∷ l ∷ c ∷ []) (3 + n) 2 u (omega arith)
    go [] h = absurd (omega arith)
    go (a ∷ []) h = absurd (omega arith)
    go (a ∷ b ∷ []) h = absurd (omega arith)
    go (a ∷ b ∷ c ∷ e ∷ t) h = absurd (omega arith)

pub returns : goal.returns
returns c =
    let a = c.args in
    let lower : FitsSigned w32 a.m.interval.lower = search rules in
    let upper : FitsSigned w32 a.m.interval.upper = search rules in
    rw (c.copy.ensures, to_z_pos w32 a.m.degree (omega arith), to_z_pos w32 a.m.radius (omega arith), to_z-of_z lower, to_z-of_z upper)
    (written a.area.now a.m.coefficients (pos a.m.degree) (pos a.m.radius) a.m.interval.lower a.m.interval.upper coefficient_count (search rules) (omega arith))
