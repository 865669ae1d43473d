-- The solver at ℚ:  solveℚ (x ∷ y ∷ []) (search reifyℚ depth 20) (search reifyℚ depth 20) tt : a ≡ b
use Rattle.std.specs.Prelude.{◌≡◌, List, ◌∷◌, ℕ, T, pos, negsuc}
use Rattle.ring.proofs.laws.Polynomial.{◌⊖◌, normal, vanishes}
use Rattle.ring.proofs.laws.Solver.{Reified, Atom, reify_var, reify_add, reify_mul, reify_opp, reify_lit, reify_litn, atom_here, atom_there, solve}
use Rattle.fraction.specs.definitions.Fraction.{ℚ, ◌+ℚ◌, ◌*ℚ◌, -ℚ◌, whole}
use Rattle.integer.specs.definitions.FractionRing.{ℚ_ring}

-- the rules of `reify` once more at ℚ: `search` does not see that `ℚ_ring.A` is ℚ
abbrev pub atom_hereℚ : (x : ℚ) (ρ : List ℚ) → Atom ℚ_ring (x ∷ ρ) x
atom_hereℚ x ρ = atom_here ℚ_ring x ρ

abbrev pub atom_thereℚ : (x z : ℚ) (ρ : List ℚ) → Atom ℚ_ring ρ z → Atom ℚ_ring (x ∷ ρ) z
atom_thereℚ x z ρ h = atom_there ℚ_ring x z ρ h

abbrev pub varℚ : (ρ : List ℚ) (x : ℚ) → Atom ℚ_ring ρ x → Reified ℚ_ring ρ x
varℚ ρ x h = reify_var ℚ_ring ρ x h

abbrev pub addℚ : (ρ : List ℚ) (x y : ℚ) → Reified ℚ_ring ρ x → Reified ℚ_ring ρ y → Reified ℚ_ring ρ (x +ℚ y)
addℚ ρ x y a b = reify_add ℚ_ring ρ x y a b

abbrev pub mulℚ : (ρ : List ℚ) (x y : ℚ) → Reified ℚ_ring ρ x → Reified ℚ_ring ρ y → Reified ℚ_ring ρ (x *ℚ y)
mulℚ ρ x y a b = reify_mul ℚ_ring ρ x y a b

abbrev pub oppℚ : (ρ : List ℚ) (x : ℚ) → Reified ℚ_ring ρ x → Reified ℚ_ring ρ (-ℚ x)
oppℚ ρ x a = reify_opp ℚ_ring ρ x a

abbrev pub litℚ : (ρ : List ℚ) (n : ℕ) → Reified ℚ_ring ρ (whole (pos n))
litℚ ρ n = reify_lit ℚ_ring ρ n

abbrev pub litnℚ : (ρ : List ℚ) (n : ℕ) → Reified ℚ_ring ρ (whole (negsuc n))
litnℚ ρ n = reify_litn ℚ_ring ρ n

pub ruleset reifyℚ = (addℚ, mulℚ, oppℚ, litℚ, litnℚ, varℚ, atom_hereℚ, atom_thereℚ)

pub solveℚ : (ρ : List ℚ) {a b : ℚ} (l : Reified ℚ_ring ρ a) (r : Reified ℚ_ring ρ b) → T (vanishes (normal (l.e ⊖ r.e))) → a ≡ b
solveℚ ρ l r t = solve ℚ_ring ρ l r t
