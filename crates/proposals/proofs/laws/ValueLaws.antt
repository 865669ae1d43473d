-- Constants as code has them, by their bits; the test for finite values.
use Rattle.std.specs.Prelude.{◌≡◌, refl, Bool, true, false, not, ◌&&◌, List, [], ◌∷◌, ℕ, zero, suc, ◌+◌, ◌<◌, ◌≤◌, T, length, get_or, drop, Float}
use Rattle.std.proofs.Common.{ap, sym, arith, add-one, ◌∙◌, subst, drop_of_length-le, drop-cons}
use Rattle.std.specs.Bool.{MatchBool}
use Rattle.std.specs.List.{AllWithin, HoldsAt}
use Rattle.std.specs.Float.{nan, inf, fin, binary64, float_is_finite}
use Rattle.std.specs.Float.Ieee.{of_bits, lt, is_nan}
use Rattle.std.specs.Float.Ieee.Bits.{is_true}
use Rattle.std.specs.Float.Ieee.Fits.{and_l, and_r}
use Rattle.std.specs.Float.Ieee.Scale.{finite}
use Rattle.proposals.specs.definitions.Values.{nought, one, two, scale_value, settled_limit, all_finite}

pub nought_is : of_bits binary64 0 ≡ nought
unfolding of_bits
nought_is = refl

pub one_is : of_bits binary64 0x3ff0_0000_0000_0000 ≡ one
unfolding of_bits
one_is = refl

pub two_is : of_bits binary64 0x4000_0000_0000_0000 ≡ two
unfolding of_bits
two_is = refl

pub scale_is : of_bits binary64 0x4130_0000_0000_0000 ≡ scale_value
unfolding of_bits
scale_is = refl

pub limit_is : of_bits binary64 0x3e70_0000_0000_0000 ≡ settled_limit
unfolding of_bits
limit_is = refl

-- ---- finite values

-- between the infinities
pub finite_between : (x : Float) → lt (inf true) x && lt x (inf false) ≡ finite x
unfolding lt
finite_between nan = refl
finite_between (inf true) = refl
finite_between (inf false) = refl
finite_between (fin s m e) = refl

pub finite_step : (a : List Float) (k : ℕ) → k < length a → all_finite (drop k a) ≡ finite (get_or a k nan) && all_finite (drop (k + 1) a)
unfolding all_finite
finite_step a k h = rw (drop-cons a k nan h, add-one k)

pub finite_end : (a : List Float) (k : ℕ) → length a ≤ k → all_finite (drop k a) ≡ true
unfolding all_finite
finite_end a k h = rw (drop_of_length-le a {i = k} h)

-- turns of a loop over a list: it has found a value that is not finite, or goes on
pub finite_stop : (a : List Float) (k : ℕ) (b : Bool) → k < length a → all_finite (drop k a) ≡ all_finite a → b ≡ finite (get_or a k nan) → b ≡ false → false ≡ all_finite a
finite_stop a k b h i e f = sym (sym i ∙ finite_step a k h ∙ rw (← e, f))

pub finite_again : (a : List Float) (k : ℕ) (b : Bool) → k < length a → all_finite (drop k a) ≡ all_finite a → b ≡ finite (get_or a k nan) → b ≡ true → all_finite (drop (k + 1) a) ≡ all_finite a
finite_again a k b h i e f = sym (sym i ∙ finite_step a k h ∙ rw (← e, f))

-- std's test
pub finite_is : (x : Float) → float_is_finite x ≡ finite x
unfolding float_is_finite
finite_is nan = refl
finite_is (inf s) = refl
finite_is (fin s m e) = refl

finite_each : (a : List Float) → ((k : ℕ) → k < length a → float_is_finite (get_or a k nan) ≡ true) → all_finite a ≡ true
unfolding all_finite
finite_each [] h = refl
finite_each (x ∷ a) h = rw (sym (finite_is x) ∙ h 0 (omega arith)) (finite_each a (λ k l. h (suc k) (omega arith)))

finite_but : (a : List Float) (k : ℕ) → k < length a → float_is_finite (get_or a k nan) ≡ false → all_finite a ≡ false
unfolding all_finite
finite_but [] k l h = absurd (omega arith)
finite_but (x ∷ a) zero l h = rw (sym (finite_is x) ∙ h)
finite_but (x ∷ a) (suc k) l h = ap (◌&&◌ (finite x)) (finite_but a k (omega arith) h) ∙ go (finite x)
  where
    go : (b : Bool) → b && false ≡ false
    go true = refl
    go false = refl

-- what std's `all` says of the test
pub finite_all : (a : List Float) (r : Bool) → MatchBool r (AllWithin (λ x. float_is_finite x ≡ true) a 0 (length a)) ((k : ℕ) × (k < length a) × HoldsAt (λ x. float_is_finite x ≡ false) a k) → r ≡ all_finite a
finite_all a true h = sym (finite_each a (λ k l. h k nan (omega arith) l))
finite_all a false h = sym (finite_but a h.0 h.1 (h.2 nan))

pub finite_at : (a : List Float) (k : ℕ) (d : Float) → all_finite a ≡ true → k < length a → T (finite (get_or a k d))
unfolding all_finite
finite_at [] k d e h = absurd (omega arith)
finite_at (x ∷ a) zero d e h = and_l (finite x) (all_finite a) (subst T (sym e) tt)
finite_at (x ∷ a) (suc k) d e h = finite_at a k d (is_true (all_finite a) (and_r (finite x) (all_finite a) (subst T (sym e) tt))) (omega arith)

pub no_nan : (x : Float) → T (finite x) → T (not (is_nan x))
unfolding is_nan
no_nan nan h = absurd h
no_nan (inf s) h = absurd h
no_nan (fin s m e) h = tt
