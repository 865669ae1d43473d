-- Sums, differences, products and halves that are finite come of finite numbers: none of these operations makes a finite number of
-- a NaN or an infinity.
use Rattle.std.specs.Prelude.{Bool, true, false, cond, List, [], ◌∷◌, map, T, eqb, Float}
use Rattle.std.specs.Float.{nan, inf, fin, Format}
use Rattle.std.specs.Float.Ieee.{unlike, add, sub, neg, mul, div}
use Rattle.std.specs.Float.Ieee.Fits.{and_i, and_l, and_r}
use Rattle.std.specs.Float.Ieee.Scale.{finite}
use Rattle.proposals.specs.definitions.Values.{all_finite}
use Rattle.proposals.specs.definitions.Product.{half}

neither : (b s : Bool) → T (finite (cond b nan (inf s))) → ⊥
neither true s h = h
neither false s h = h

pub add_finite : (f : Format) (x y : Float) → T (finite (add f x y)) → T (finite x) × T (finite y)
unfolding add
add_finite f nan y h = absurd h
add_finite f (inf s) nan h = absurd h
add_finite f (inf true) (inf true) h = absurd h
add_finite f (inf true) (inf false) h = absurd h
add_finite f (inf false) (inf true) h = absurd h
add_finite f (inf false) (inf false) h = absurd h
add_finite f (inf s) (fin t n d) h = absurd h
add_finite f (fin s m e) nan h = absurd h
add_finite f (fin s m e) (inf t) h = absurd h
add_finite f (fin s m e) (fin t n d) h = (tt, tt)

pub mul_finite : (f : Format) (x y : Float) → T (finite (mul f x y)) → T (finite x) × T (finite y)
unfolding mul
mul_finite f nan y h = absurd h
mul_finite f (inf s) nan h = absurd h
mul_finite f (inf s) (inf t) h = absurd h
mul_finite f (inf s) (fin t n d) h = absurd (neither (eqb n 0) (unlike s t) h)
mul_finite f (fin s m e) nan h = absurd h
mul_finite f (fin s m e) (inf t) h = absurd (neither (eqb m 0) (unlike s t) h)
mul_finite f (fin s m e) (fin t n d) h = (tt, tt)

neg_finite : (x : Float) → T (finite (neg x)) → T (finite x)
unfolding neg
neg_finite nan h = h
neg_finite (inf s) h = h
neg_finite (fin s m e) h = tt

pub sub_finite : (f : Format) (x y : Float) → T (finite (sub f x y)) → T (finite x) × T (finite y)
unfolding sub
sub_finite f x y h = let p = add_finite f x (neg y) h in (p.0, neg_finite y p.1)

pub half_finite : (x : Float) → T (finite (half x)) → T (finite x)
unfolding half div
half_finite nan h = h
half_finite (inf s) h = h
half_finite (fin s m e) h = tt

-- ---- lists

module _ (x : Float) (a : List Float) where
  pub head_finite : T (all_finite (x ∷ a)) → T (finite x)
  unfolding all_finite
  head_finite h = and_l (finite x) (all_finite a) h

  pub tail_finite : T (all_finite (x ∷ a)) → T (all_finite a)
  unfolding all_finite
  tail_finite h = and_r (finite x) (all_finite a) h

  pub cons_finite : T (finite x) → T (all_finite a) → T (all_finite (x ∷ a))
  unfolding all_finite
  cons_finite h k = and_i (finite x) (all_finite a) h k

pub none_finite : T (all_finite [])
unfolding all_finite
none_finite = tt

-- every f x is finite: so is every x, where f makes no finite number of one that is not
pub map_finite : (f : Float → Float) → ((x : Float) → T (finite (f x)) → T (finite x)) → (a : List Float) → T (all_finite (map f a)) → T (all_finite a)
map_finite f p [] h = none_finite
map_finite f p (x ∷ a) h = cons_finite x a (p x (head_finite (f x) (map f a) h)) (map_finite f p a (tail_finite (f x) (map f a) h))
