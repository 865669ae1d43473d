-- The solver of identities in a commutative ring.
--
-- GUIDE. In a section over R : CommutativeRing, an identity of the ring is one line; list only the goal's atoms (any
-- terms, also calls such as `T x k`):
--   lemma : (x y : A) → (x + y) * (x + y) ≡ x * x + ι (pos 2) * x * y + y * y
--   lemma x y = solve R (x ∷ y ∷ []) (search reify depth 20) (search reify depth 20) tt
-- At ℤ: `solveℤ (x ∷ y ∷ []) (search reifyℤ depth 20) (search reifyℤ depth 20) tt` (IntegerSolver.antt), at ℚ `solveℚ` (FractionSolver.antt).
-- A false identity reports "the two sides are ⊥ and Unit", a missing atom "no proof of `Reified ..`". From about ten
-- atoms on write `depth 20 fits 9000`. `pos m` of a variable m counts as a numeral: state the helper over ℤ variables.
-- Linear facts: Difference.antt (ℤ), FractionLinear.antt (ℚ). Certificates for inequalities: OrderedRingLaws.antt.
-- Examples.antt has examples at ℤ and ℚ.
use Rattle.std.specs.Prelude.{◌≡◌, T, ℤ, pos, negsuc}
use Rattle.std.proofs.Math.Path.{refl, sym, ap, ap₂}
use Rattle.std.proofs.Common.{◌∙◌}
use mathlib.Core.List.{List, [], ◌∷◌}
use Prim.Native.Nat.{ℕ, zero, suc}
use Rattle.ring.proofs.laws.Polynomial.{Polynomial, constant, horner, compact, scale, scaled, under, variable, Expression, var, lit, litn, ◌⊕◌, ◌⊖◌, ◌⊗◌, neg, normal, vanishes, is_zero_sound, both_left, both_right}
use Rattle.ring.proofs.laws.Polynomial as P
use Rattle.ring.specs.definitions.Ring.{CommutativeRing}

module _ (R : CommutativeRing) where
  open R use {A, add as ◌+◌, mul as ◌*◌, opp, ι, add_assoc, add_comm, mul_assoc, mul_comm, dist, ι_add, ι_mul, zero-add, zero-mul, one-mul, opp_is}

  infixl 6 ◌+◌
  infixl 7 ◌*◌
  -- ---- the value of a polynomial and of an expression, its variables read from a list

  abbrev pub head : List A → A
  head [] = ι (pos 0)
  head (x ∷ ρ) = x

  abbrev pub tail : List A → List A
  tail [] = []
  tail (x ∷ ρ) = ρ

  abbrev pub nth : List A → ℕ → A
  nth [] i = ι (pos 0)
  nth (x ∷ ρ) zero = x
  nth (x ∷ ρ) (suc i) = nth ρ i

  pub eval : Polynomial → List A → A
  eval (constant c) ρ = ι c
  eval (horner p q) ρ = eval p (tail ρ) + head ρ * eval q ρ

  unfoldable pub denote : Expression → List A → A
  denote (var i) ρ = nth ρ i
  denote (lit n) ρ = ι (pos n)
  denote (litn n) ρ = ι (negsuc n)
  denote (a ⊕ b) ρ = denote a ρ + denote b ρ
  denote (a ⊖ b) ρ = denote a ρ + opp (denote b ρ)
  denote (a ⊗ b) ρ = denote a ρ * denote b ρ
  denote (neg a) ρ = opp (denote a ρ)

  -- ---- the rearrangements that the solver's own proof uses

  add_left_comm : (x y z : A) → x + (y + z) ≡ y + (x + z)
  add_left_comm x y z = sym (add_assoc x y z) ∙ ap (λ t. t + z) (add_comm x y) ∙ add_assoc y x z

  mul_left_comm : (x y z : A) → x * (y * z) ≡ y * (x * z)
  mul_left_comm x y z = sym (mul_assoc x y z) ∙ ap (λ t. t * z) (mul_comm x y) ∙ mul_assoc y x z

  dist_right : (x y z : A) → (y + z) * x ≡ y * x + z * x
  dist_right x y z = mul_comm (y + z) x ∙ dist x y z ∙ ap₂ ◌+◌ (mul_comm x y) (mul_comm x z)

  add-zero : (x : A) → x + ι (pos 0) ≡ x
  add-zero x = add_comm x (ι (pos 0)) ∙ zero-add x

  mul-zero : (x : A) → x * ι (pos 0) ≡ ι (pos 0)
  mul-zero x = mul_comm x (ι (pos 0)) ∙ zero-mul x

  mul-one : (x : A) → x * ι (pos 1) ≡ x
  mul-one x = mul_comm x (ι (pos 1)) ∙ one-mul x

  add-pairs : (h p p' q q' : A) → (p + p') + h * (q + q') ≡ (p + h * q) + (p' + h * q')
  add-pairs h p p' q q' = simp (dist, add_assoc, add_left_comm)

  scale-pair : (h a p q : A) → a * p + h * (a * q) ≡ a * (p + h * q)
  scale-pair h a p q = simp (dist, mul_left_comm)

  mul-pair : (h p q y : A) → p * y + (ι (pos 0) + h * (q * y)) ≡ (p + h * q) * y
  mul-pair h p q y = simp (zero-add, dist_right, mul_assoc)

  drop-zero : (h v : A) → v + h * ι (pos 0) ≡ v
  drop-zero h v = simp (mul-zero, add-zero)

  -- ---- each operation on polynomials has the operation's value

  eval_compact : (p q : Polynomial) (ρ : List A) → eval (compact p q) ρ ≡ eval p (tail ρ) + head ρ * eval q ρ
  unfolding eval
  eval_compact (constant c) (constant (pos zero)) ρ = sym (drop-zero (head ρ) (ι c))
  eval_compact (constant c) (constant (pos (suc n))) ρ = refl
  eval_compact (constant c) (constant (negsuc n)) ρ = refl
  eval_compact (constant c) (horner r s) ρ = refl
  eval_compact (horner r s) q ρ = refl

  eval_add : (p q : Polynomial) (ρ : List A) → eval (P.add p q) ρ ≡ eval p ρ + eval q ρ
  unfolding eval
  eval_add (constant a) (constant b) ρ = ι_add a b
  eval_add (constant a) (horner p q) ρ =
      ap (λ x. x + head ρ * eval q ρ) (eval_add (constant a) p (tail ρ))
      ∙ add_assoc (ι a) (eval p (tail ρ)) (head ρ * eval q ρ)
  eval_add (horner p q) (constant b) ρ = ap (λ x. x + head ρ * eval q ρ) (eval_add p (constant b) (tail ρ)) ∙ simp (add_assoc, add_comm)
  eval_add (horner p q) (horner p' q') ρ =
      eval_compact (P.add p p') (P.add q q') ρ
      ∙ ap₂ (λ x y. x + head ρ * y) (eval_add p p' (tail ρ)) (eval_add q q' ρ)
      ∙ add-pairs (head ρ) (eval p (tail ρ)) (eval p' (tail ρ)) (eval q ρ) (eval q' ρ)

  eval_scale : (a : ℤ) (p : Polynomial) (ρ : List A) → eval (scale a p) ρ ≡ ι a * eval p ρ
  unfolding eval
  eval_scale a (constant b) ρ = ι_mul a b
  eval_scale a (horner p q) ρ =
      ap₂ (λ x y. x + head ρ * y) (eval_scale a p (tail ρ)) (eval_scale a q ρ)
      ∙ scale-pair (head ρ) (ι a) (eval p (tail ρ)) (eval q ρ)

  eval_scaled : (a : ℤ) (p : Polynomial) (ρ : List A) → eval (scaled a p) ρ ≡ ι a * eval p ρ
  unfolding eval
  eval_scaled (pos zero) p ρ = sym (zero-mul (eval p ρ))
  eval_scaled (pos (suc n)) p ρ = eval_scale (pos (suc n)) p ρ
  eval_scaled (negsuc n) p ρ = eval_scale (negsuc n) p ρ

  eval_under : (f : Polynomial → Polynomial) (p y : Polynomial) (ρ : List A)
      → ((z : Polynomial) → eval (f z) (tail ρ) ≡ eval p (tail ρ) * eval z (tail ρ))
      → eval (under f p y) ρ ≡ eval p (tail ρ) * eval y ρ
  unfolding eval
  eval_under f p (constant b) ρ s =
      eval_compact (scaled b p) (constant (pos 0)) ρ
      ∙ drop-zero (head ρ) (eval (scaled b p) (tail ρ))
      ∙ eval_scaled b p (tail ρ)
      ∙ mul_comm (ι b) (eval p (tail ρ))
  eval_under f p (horner p' q') ρ s =
      eval_compact (f p') (under f p q') ρ
      ∙ ap₂ (λ x y. x + head ρ * y) (s p') (eval_under f p q' ρ s)
      ∙ scale-pair (head ρ) (eval p (tail ρ)) (eval p' (tail ρ)) (eval q' ρ)

  eval_multiply : (p y : Polynomial) (ρ : List A) → eval (P.multiply p y) ρ ≡ eval p ρ * eval y ρ
  unfolding eval
  eval_multiply (constant a) y ρ = eval_scaled a y ρ
  eval_multiply (horner p q) y ρ =
      eval_add (under (P.multiply p) p y) (compact (constant (pos 0)) (P.multiply q y)) ρ
      ∙ ap₂ ◌+◌ (eval_under (P.multiply p) p y ρ (λ z. eval_multiply p z (tail ρ)))
      (eval_compact (constant (pos 0)) (P.multiply q y) ρ ∙ ap (λ v. ι (pos 0) + head ρ * v) (eval_multiply q y ρ))
      ∙ mul-pair (head ρ) (eval p (tail ρ)) (eval q ρ) (eval y ρ)

  eval_variable : (i : ℕ) (ρ : List A) → eval (variable i) ρ ≡ nth ρ i
  unfolding eval
  eval_variable zero [] = simp (zero-add, mul-one)
  eval_variable zero (x ∷ ρ) = simp (zero-add, mul-one)
  eval_variable (suc i) [] = drop-zero (ι (pos 0)) (eval (variable i) []) ∙ eval_variable i [] ∙ refl
  eval_variable (suc i) (x ∷ ρ) = drop-zero x (eval (variable i) ρ) ∙ eval_variable i ρ

  opp_eval : (p : Polynomial) (ρ : List A) → eval (scale (negsuc 0) p) ρ ≡ opp (eval p ρ)
  opp_eval p ρ = eval_scale (negsuc 0) p ρ ∙ sym (opp_is (eval p ρ))

  normal_sound : (e : Expression) (ρ : List A) → eval (normal e) ρ ≡ denote e ρ
  unfolding eval denote
  normal_sound (var i) ρ = eval_variable i ρ
  normal_sound (lit n) ρ = refl
  normal_sound (litn n) ρ = refl
  normal_sound (a ⊕ b) ρ = eval_add (normal a) (normal b) ρ ∙ ap₂ ◌+◌ (normal_sound a ρ) (normal_sound b ρ)
  normal_sound (a ⊖ b) ρ =
      eval_add (normal a) (scale (negsuc 0) (normal b)) ρ
      ∙ ap₂ ◌+◌ (normal_sound a ρ) (opp_eval (normal b) ρ ∙ ap opp (normal_sound b ρ))
  normal_sound (a ⊗ b) ρ = eval_multiply (normal a) (normal b) ρ ∙ ap₂ ◌*◌ (normal_sound a ρ) (normal_sound b ρ)
  normal_sound (neg a) ρ = opp_eval (normal a) ρ ∙ ap opp (normal_sound a ρ)

  vanishes_sound : (p : Polynomial) (ρ : List A) → T (vanishes p) → eval p ρ ≡ ι (pos 0)
  unfolding eval
  vanishes_sound (constant c) ρ t = ap ι (is_zero_sound c t)
  vanishes_sound (horner p q) ρ t =
      ap₂ (λ x y. x + head ρ * y) (vanishes_sound p (tail ρ) (both_left (vanishes p) (vanishes q) t)) (vanishes_sound q ρ (both_right (vanishes p) (vanishes q) t))
      ∙ drop-zero (head ρ) (ι (pos 0))

  opp_self : (y : A) → opp y + y ≡ ι (pos 0)
  opp_self y =
      ap₂ ◌+◌ (opp_is y) (sym (one-mul y))
      ∙ sym (dist_right y (ι (negsuc 0)) (ι (pos 1)))
      ∙ ap (λ t. t * y) (sym (ι_add (negsuc 0) (pos 1)))
      ∙ zero-mul y

  sub-zero : (x y : A) → x + opp y ≡ ι (pos 0) → x ≡ y
  sub-zero x y h = sym (add-zero x) ∙ ap (λ t. x + t) (sym (opp_self y)) ∙ sym (add_assoc x (opp y) y) ∙ ap (λ t. t + y) h ∙ zero-add y

  -- two expressions whose difference normalises to zero have the same value
  pub solved : (ρ : List A) (a b : Expression) → T (vanishes (normal (a ⊖ b))) → denote a ρ ≡ denote b ρ
  unfolding denote
  solved ρ a b t = sub-zero (denote a ρ) (denote b ρ) (sym (normal_sound (a ⊖ b) ρ) ∙ vanishes_sound (normal (a ⊖ b)) ρ t)

-- ---- an expression is read off a term by `search`, backwards by the term's shape

pub record Reified (R : CommutativeRing) (ρ : List R.A) (z : R.A) : Type 0 where
  pub e : Expression
  pub ok : denote R e ρ ≡ z

pub record Atom (R : CommutativeRing) (ρ : List R.A) (z : R.A) : Type 0 where
  pub i : ℕ
  pub at : nth R ρ i ≡ z

abbrev pub atom_here : (R : CommutativeRing) (x : R.A) (ρ : List R.A) → Atom R (x ∷ ρ) x
atom_here R x ρ = record { i = 0; at = refl }

abbrev pub atom_there : (R : CommutativeRing) (x z : R.A) (ρ : List R.A) → Atom R ρ z → Atom R (x ∷ ρ) z
atom_there R x z ρ h = record { i = suc h.i; at = h.at }

pub ok_var : (R : CommutativeRing) (ρ : List R.A) (i : ℕ) (z : R.A) → nth R ρ i ≡ z → denote R (var i) ρ ≡ z
unfolding denote
ok_var R ρ i z h = h

pub ok_add : (R : CommutativeRing) (ρ : List R.A) (a b : Expression) (x y : R.A) → denote R a ρ ≡ x → denote R b ρ ≡ y → denote R (a ⊕ b) ρ ≡ R.add x y
unfolding denote
ok_add R ρ a b x y h k = ap₂ R.add h k

pub ok_mul : (R : CommutativeRing) (ρ : List R.A) (a b : Expression) (x y : R.A) → denote R a ρ ≡ x → denote R b ρ ≡ y → denote R (a ⊗ b) ρ ≡ R.mul x y
unfolding denote
ok_mul R ρ a b x y h k = ap₂ R.mul h k

pub ok_opp : (R : CommutativeRing) (ρ : List R.A) (a : Expression) (x : R.A) → denote R a ρ ≡ x → denote R (neg a) ρ ≡ R.opp x
unfolding denote
ok_opp R ρ a x h = ap R.opp h

pub ok_lit : (R : CommutativeRing) (ρ : List R.A) (n : ℕ) → denote R (lit n) ρ ≡ R.ι (pos n)
unfolding denote
ok_lit R ρ n = refl

pub ok_litn : (R : CommutativeRing) (ρ : List R.A) (n : ℕ) → denote R (litn n) ρ ≡ R.ι (negsuc n)
unfolding denote
ok_litn R ρ n = refl

abbrev pub reify_var : (R : CommutativeRing) (ρ : List R.A) (x : R.A) → Atom R ρ x → Reified R ρ x
reify_var R ρ x h = record { e = var h.i; ok = ok_var R ρ h.i x h.at }

abbrev pub reify_add : (R : CommutativeRing) (ρ : List R.A) (x y : R.A) → Reified R ρ x → Reified R ρ y → Reified R ρ (R.add x y)
reify_add R ρ x y a b = record { e = a.e ⊕ b.e; ok = ok_add R ρ a.e b.e x y a.ok b.ok }

abbrev pub reify_mul : (R : CommutativeRing) (ρ : List R.A) (x y : R.A) → Reified R ρ x → Reified R ρ y → Reified R ρ (R.mul x y)
reify_mul R ρ x y a b = record { e = a.e ⊗ b.e; ok = ok_mul R ρ a.e b.e x y a.ok b.ok }

abbrev pub reify_opp : (R : CommutativeRing) (ρ : List R.A) (x : R.A) → Reified R ρ x → Reified R ρ (R.opp x)
reify_opp R ρ x a = record { e = neg a.e; ok = ok_opp R ρ a.e x a.ok }

abbrev pub reify_lit : (R : CommutativeRing) (ρ : List R.A) (n : ℕ) → Reified R ρ (R.ι (pos n))
reify_lit R ρ n = record { e = lit n; ok = ok_lit R ρ n }

abbrev pub reify_litn : (R : CommutativeRing) (ρ : List R.A) (n : ℕ) → Reified R ρ (R.ι (negsuc n))
reify_litn R ρ n = record { e = litn n; ok = ok_litn R ρ n }

pub ruleset reify = (reify_add, reify_mul, reify_opp, reify_lit, reify_litn, reify_var, atom_here, atom_there)

pub solve : (R : CommutativeRing) (ρ : List R.A) {a b : R.A} (l : Reified R ρ a) (r : Reified R ρ b) → T (vanishes (normal (l.e ⊖ r.e))) → a ≡ b
solve R ρ l r t = sym l.ok ∙ solved R ρ l.e r.e t ∙ r.ok
