-- Polynomials with coefficients in ℤ in Horner form, as antt computes them, and the expressions that the ring solver
-- (Solver.antt) reads. No ring is named here.
use Rattle.std.specs.Prelude.{◌≡◌, refl, Bool, true, false, ℕ, zero, suc, T, ℤ, pos, negsuc, ◌+ℤ◌, ◌*ℤ◌}

-- `horner p q` is p + x·q, with x the first variable, which p does not have
pub data Polynomial : Type 0 where
  constant : ℤ → Polynomial
  horner : Polynomial → Polynomial → Polynomial

-- p + x·q, where no x·0 is left behind
abbrev pub compact : Polynomial → Polynomial → Polynomial
compact (constant c) (constant (pos zero)) = constant c
compact (constant c) (constant (pos (suc n))) = horner (constant c) (constant (pos (suc n)))
compact (constant c) (constant (negsuc n)) = horner (constant c) (constant (negsuc n))
compact (constant c) (horner r s) = horner (constant c) (horner r s)
compact (horner r s) q = horner (horner r s) q

abbrev pub add : Polynomial → Polynomial → Polynomial
add (constant a) (constant b) = constant (a +ℤ b)
add (constant a) (horner p q) = horner (add (constant a) p) q
add (horner p q) (constant b) = horner (add p (constant b)) q
add (horner p q) (horner p' q') = compact (add p p') (add q q')

abbrev pub scale : ℤ → Polynomial → Polynomial
scale a (constant b) = constant (a *ℤ b)
scale a (horner p q) = horner (scale a p) (scale a q)

-- the same, with 0 recognised
abbrev pub scaled : ℤ → Polynomial → Polynomial
scaled (pos zero) p = constant (pos 0)
scaled (pos (suc n)) p = scale (pos (suc n)) p
scaled (negsuc n) p = scale (negsuc n) p

-- f multiplies by p, which does not have the first variable
abbrev pub under : (Polynomial → Polynomial) → Polynomial → Polynomial → Polynomial
under f p (constant b) = compact (scaled b p) (constant (pos 0))
under f p (horner p' q') = compact (f p') (under f p q')

abbrev pub multiply : Polynomial → Polynomial → Polynomial
multiply (constant a) y = scaled a y
multiply (horner p q) y = add (under (multiply p) p y) (compact (constant (pos 0)) (multiply q y))

abbrev pub variable : ℕ → Polynomial
variable zero = horner (constant (pos 0)) (constant (pos 1))
variable (suc i) = horner (variable i) (constant (pos 0))

-- ---- expressions

pub data Expression : Type 0 where
  var : ℕ → Expression
  lit litn : ℕ → Expression
  ◌⊕◌ ◌⊖◌ ◌⊗◌ : Expression → Expression → Expression
  neg : Expression → Expression

infixl 6 ◌⊕◌ ◌⊖◌
infixl 7 ◌⊗◌
abbrev pub normal : Expression → Polynomial
normal (var i) = variable i
normal (lit n) = constant (pos n)
normal (litn n) = constant (negsuc n)
normal (a ⊕ b) = add (normal a) (normal b)
normal (a ⊖ b) = add (normal a) (scale (negsuc 0) (normal b))
normal (a ⊗ b) = multiply (normal a) (normal b)
normal (neg a) = scale (negsuc 0) (normal a)

-- ---- the test that a polynomial has only zero coefficients

abbrev pub is_zero : ℤ → Bool
is_zero (pos zero) = true
is_zero (pos (suc n)) = false
is_zero (negsuc n) = false

abbrev pub both : Bool → Bool → Bool
both true b = b
both false b = false

abbrev pub vanishes : Polynomial → Bool
vanishes (constant c) = is_zero c
vanishes (horner p q) = both (vanishes p) (vanishes q)

pub is_zero_sound : (c : ℤ) → T (is_zero c) → c ≡ pos 0
is_zero_sound (pos zero) t = refl
is_zero_sound (pos (suc n)) t = absurd t
is_zero_sound (negsuc n) t = absurd t

pub both_left : (a b : Bool) → T (both a b) → T a
both_left true b t = tt
both_left false b t = t

pub both_right : (a b : Bool) → T (both a b) → T b
both_right true b t = t
both_right false b t = absurd t
