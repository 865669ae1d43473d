-- The solver at ℤ, and equations as combinations of equations.
--   solveℤ (x ∷ y ∷ []) (search reifyℤ depth 20) (search reifyℤ depth 20) tt : a ≡ b
--   combine2 k k' e f (solveℤ ..) : a ≡ b     for e : l ≡ r, f : l' ≡ r' and a − b ≡ k (l − r) + k' (l' − r')
use Rattle.std.specs.Prelude.{◌≡◌, List, [], ◌∷◌, ℕ, T, ℤ, pos, negsuc, neg_ℤ, ◌+ℤ◌, ◌-ℤ◌, ◌*ℤ◌}
use Rattle.std.proofs.Common.{◌∙◌, ap, ap₂, arith}
use Rattle.ring.specs.laws.Difference.{all1, all2, differences}
use Rattle.ring.proofs.laws.Polynomial.{◌⊖◌, normal, vanishes}
use Rattle.ring.proofs.laws.Solver.{Reified, Atom, reify_var, reify_add, reify_mul, reify_opp, reify_lit, reify_litn, atom_here, atom_there, solve}
use Rattle.ring.specs.definitions.Integer.{ℤ_ring}

pub one_* : (x : ℤ) → pos 1 *ℤ x ≡ x
one_* = ℤ_ring.one-mul

pub *_one : (x : ℤ) → x *ℤ pos 1 ≡ x
*_one = all1 _ (simp differences (omega arith))

pub neg_is : (x : ℤ) → neg_ℤ x ≡ negsuc 0 *ℤ x
neg_is = ℤ_ring.opp_is

-- the rules of `reify` once more at ℤ: `search` does not see that `ℤ_ring.A` is ℤ
abbrev pub atom_hereℤ : (x : ℤ) (ρ : List ℤ) → Atom ℤ_ring (x ∷ ρ) x
atom_hereℤ x ρ = atom_here ℤ_ring x ρ

abbrev pub atom_thereℤ : (x z : ℤ) (ρ : List ℤ) → Atom ℤ_ring ρ z → Atom ℤ_ring (x ∷ ρ) z
atom_thereℤ x z ρ h = atom_there ℤ_ring x z ρ h

abbrev pub varℤ : (ρ : List ℤ) (x : ℤ) → Atom ℤ_ring ρ x → Reified ℤ_ring ρ x
varℤ ρ x h = reify_var ℤ_ring ρ x h

abbrev pub addℤ : (ρ : List ℤ) (x y : ℤ) → Reified ℤ_ring ρ x → Reified ℤ_ring ρ y → Reified ℤ_ring ρ (x +ℤ y)
addℤ ρ x y a b = reify_add ℤ_ring ρ x y a b

abbrev pub mulℤ : (ρ : List ℤ) (x y : ℤ) → Reified ℤ_ring ρ x → Reified ℤ_ring ρ y → Reified ℤ_ring ρ (x *ℤ y)
mulℤ ρ x y a b = reify_mul ℤ_ring ρ x y a b

abbrev pub oppℤ : (ρ : List ℤ) (x : ℤ) → Reified ℤ_ring ρ x → Reified ℤ_ring ρ (neg_ℤ x)
oppℤ ρ x a = reify_opp ℤ_ring ρ x a

abbrev pub litℤ : (ρ : List ℤ) (n : ℕ) → Reified ℤ_ring ρ (pos n)
litℤ ρ n = reify_lit ℤ_ring ρ n

abbrev pub litnℤ : (ρ : List ℤ) (n : ℕ) → Reified ℤ_ring ρ (negsuc n)
litnℤ ρ n = reify_litn ℤ_ring ρ n

pub ruleset reifyℤ = (addℤ, mulℤ, oppℤ, litℤ, litnℤ, varℤ, atom_hereℤ, atom_thereℤ)

pub solveℤ : (ρ : List ℤ) {a b : ℤ} (l : Reified ℤ_ring ρ a) (r : Reified ℤ_ring ρ b) → T (vanishes (normal (l.e ⊖ r.e))) → a ≡ b
solveℤ ρ l r t = solve ℤ_ring ρ l r t

sub-zero : (a b : ℤ) → a -ℤ b ≡ pos 0 → a ≡ b
sub-zero = all2 _ (simp differences (omega arith))

pub combine1 : (k : ℤ) {l r a b : ℤ} → l ≡ r → a -ℤ b ≡ k *ℤ (l -ℤ r) → a ≡ b
combine1 k {l} {r} {a} {b} e h =
    sub-zero a b (h ∙ ap (λ x. k *ℤ (x -ℤ r)) e ∙ solveℤ (k ∷ r ∷ []) (search reifyℤ depth 9) (search reifyℤ depth 9) tt)

pub combine2 : (k : ℤ) {l r : ℤ} (k' : ℤ) {l' r' a b : ℤ} → l ≡ r → l' ≡ r' → a -ℤ b ≡ k *ℤ (l -ℤ r) +ℤ k' *ℤ (l' -ℤ r') → a ≡ b
combine2 k {l} {r} k' {l'} {r'} {a} {b} e f h =
    sub-zero a b
    (h
    ∙ ap₂ (λ x y. k *ℤ (x -ℤ r) +ℤ k' *ℤ (y -ℤ r')) e f
    ∙ solveℤ (k ∷ r ∷ k' ∷ r' ∷ []) (search reifyℤ depth 9) (search reifyℤ depth 9) tt)
