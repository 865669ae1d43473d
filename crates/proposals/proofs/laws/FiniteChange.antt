-- The change of a round (Rounds.antt): where it is finite, every difference that it is the largest of is finite.
use Rattle.std.specs.Prelude.{Bool, true, false, not, ◌&&◌, cond, List, [], ◌∷◌, T, ltb, Float}
use Rattle.std.specs.Bool.{beq}
use Prim.Native.Nat.{ℕ, zero, suc, ◌+◌, ◌-◌, ◌*◌, ◌/◌, ◌%◌, ◌^◌, compare}
use Rattle.std.specs.Float.{nan, inf, fin, Format, binary64}
use Rattle.std.specs.Float.Ieee.{prec, emax, low, up, down, size, nearest, odd, units, round, sum, sub, neg, lt, is_nan}
use Rattle.std.specs.Float.Ieee.Scale.{finite}
use Rattle.proposals.specs.definitions.Values.{nought, magnitude, difference, greater, all_finite}
use Rattle.proposals.specs.definitions.Rounds.{change_from}
use Rattle.proposals.specs.definitions.Finite.{differences}
use Rattle.proposals.proofs.laws.FiniteOperations.{head_finite, tail_finite, cons_finite, none_finite}

-- ---- a difference of finite numbers is no NaN

abbrev Number : Float → Type 0
Number x = T (not (is_nan x))

cond_number : (b : Bool) (x y : Float) → Number x → Number y → Number (cond b x y)
cond_number true x y h k = h
cond_number false x y h k = k

odd_number : (d : ℕ) (s : Bool) (q k l : ℕ) → Number (odd d s q k l)
unfolding odd is_nan
odd_number d s zero k l = tt
odd_number d s (suc q) k l = tt

units_number : (f : Format) (s : Bool) (q k : ℕ) → Number (units f s q k)
unfolding units is_nan
units_number f s q k = cond_number (ltb (q * 2 ^ k) (2 ^ (low f + suc (emax f)))) (odd (suc (prec f)) s q k (low f)) (inf s) (odd_number (suc (prec f)) s q k (low f)) tt

round_number : (f : Format) (s : Bool) (a c : ℕ) → Number (round f s a c)
unfolding round
round_number f s a c =
    let n = a * 2 ^ low f in
    let k = size (n / c) - prec f in
    let u = c * 2 ^ k in
    units_number f s (nearest (n / u) (compare (n % u * 2) u)) k

sum_number : (f : Format) (s : Bool) (a : ℕ) (t : Bool) (b c : ℕ) → Number (sum f s a t b c)
unfolding sum
sum_number f s a t b c =
    let x = round f t (b - a) c in
    let y = round f (s && ltb b a) (a - b) c in
    cond_number (beq s t) (round f s (a + b) c) (cond (ltb a b) x y) (round_number f s (a + b) c)
    (cond_number (ltb a b) x y (round_number f t (b - a) c) (round_number f (s && ltb b a) (a - b) c))

sub_number : (f : Format) (x y : Float) → T (finite x) → T (finite y) → Number (sub f x y)
unfolding sub
sub_number f nan y h k = absurd h
sub_number f (inf s) y h k = absurd h
sub_number f (fin s m e) nan h k = absurd k
sub_number f (fin s m e) (inf t) h k = absurd k
sub_number f (fin s m e) (fin t n d) h k = sum_number f s (m * up e * down d) (not t) (n * up d * down e) (down e * down d)

-- ---- the larger of two numbers

-- finite or +∞
abbrev pub not_below : Float → Bool
not_below nan = false
not_below (inf s) = not s
not_below (fin s m e) = true

cond_not_below : (b : Bool) (x y : Float) → T (not_below x) → T (not_below y) → T (not_below (cond b x y))
cond_not_below true x y h k = h
cond_not_below false x y h k = k

magnitude_not_below : (x : Float) → Number x → T (not_below (magnitude x))
unfolding magnitude is_nan neg lt
magnitude_not_below nan h = absurd h
magnitude_not_below (inf true) h = tt
magnitude_not_below (inf false) h = tt
magnitude_not_below (fin s m e) h = cond_not_below (lt (fin s m e) nought) (fin (not s) m e) (fin s m e) tt tt

difference_not_below : (x y : Float) → T (finite x) → T (finite y) → T (not_below (difference x y))
unfolding difference
difference_not_below x y h k = magnitude_not_below (sub binary64 x y) (sub_number binary64 x y h k)

greater_not_below : (x y : Float) → T (not_below x) → T (not_below y) → T (not_below (greater x y))
unfolding greater
greater_not_below x y h k = cond_not_below (lt x y) y x k h

greater_finite : (x y : Float) → T (not_below x) → T (not_below y) → T (finite (greater x y)) → T (finite x) × T (finite y)
unfolding greater lt
greater_finite nan y h k t = absurd h
greater_finite (inf true) y h k t = absurd h
greater_finite (inf false) nan h k t = absurd k
greater_finite (inf false) (inf true) h k t = absurd k
greater_finite (inf false) (inf false) h k t = absurd t
greater_finite (inf false) (fin r n d) h k t = absurd t
greater_finite (fin s m e) nan h k t = absurd k
greater_finite (fin s m e) (inf true) h k t = absurd k
greater_finite (fin s m e) (inf false) h k t = absurd t
greater_finite (fin s m e) (fin r n d) h k t = (tt, tt)

-- ---- the change

-- of finite lists: where the change is finite, every difference is
pub change_finite : (d : Float) (a b : List Float) → T (not_below d) → T (all_finite a) → T (all_finite b) → T (finite (change_from d a b))
    → T (finite d) × T (all_finite (differences a b))
unfolding change_from differences
change_finite d [] b n h k t = (t, none_finite)
change_finite d (x ∷ a) [] n h k t = (t, none_finite)
change_finite d (x ∷ a) (y ∷ b) n h k t =
    let v = difference x y in
    let m : T (not_below v) = difference_not_below x y (head_finite x a h) (head_finite y b k) in
    let r = change_finite (greater d v) a b (greater_not_below d v n m) (tail_finite x a h) (tail_finite y b k) t in
    let p = greater_finite d v n m r.0 in
    (p.0, cons_finite v (differences a b) p.1 r.1)
