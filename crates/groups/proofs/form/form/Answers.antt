-- `form::form` meets its contract: each turn writes two places of the group, or the last one.
use Rattle.std.proofs.Common.{rules}
use mathlib.Core.Path.{◌≡◌, refl, sym, ◌∙◌, ap}
use mathlib.Core.List.{List}
use Prim.Native.Nat.{ℕ, ◌+◌, ◌<◌}
use native.Mathlib.Omega.{arith}
use lib.IntN.{ℤ, pos}
use lib.ListN.{length, get_or, set, length-set}
use mir.Syntax.{w64}
use mir.Val.{SFits}
use mir.Facts.{to_z-of_z}
use Rattle.ring.specs.definitions.Integer.{ℤ_ring}
use Rattle.integer.proofs.laws.Filling.{Filling, begins, turn}
use Rattle.chebyshev.specs.definitions.TwoSums.{two_sums, places_from}
use Rattle.chebyshev.proofs.laws.Tabulated.{length-tabulate, at_tabulate}
use Rattle.groups.proofs.form.form.Goals as goal

pub loop-t-init : goal.loop-t-init
loop-t-init c =
    let p = c.args.part.now in
    begins (places_from ℤ_ring (length p) c.args.start c.args.a.now c.args.b.now) p 0 (length p)
    (length-tabulate (length p) (λ k. two_sums ℤ_ring (c.args.start + k) c.args.a.now c.args.b.now)) (omega arith)

-- a turn: the number at place t, and the one behind it
module _ (part : List ℤ) (start : ℕ) (a b : List ℤ) where
  abbrev n : ℕ
  n = length part

  abbrev G : List ℤ
  G = places_from ℤ_ring n start a b

  at_place : (i k : ℕ) → i < n → k ≡ start + i → two_sums ℤ_ring k a b ≡ get_or G i (pos 0)
  at_place i k h e =
      let place : ℕ → ℤ = λ k. two_sums ℤ_ring k a b in
      ap place e ∙ sym (at_tabulate n (λ i. place (start + i)) i (pos 0) h)

  one : {l : List ℤ} {t : ℕ} (x : ℤ) → Filling G part l 0 n t → t < n → x ≡ two_sums ℤ_ring (start + t) a b
      → Filling G part (set l t x) 0 n (t + 1)
  one {l} {t} x f h e = turn t x (pos 0) f h (omega arith) (e ∙ at_place t (start + t) h refl)

  both : {l : List ℤ} {t : ℕ} (x y : ℤ) → Filling G part l 0 n t → t + 1 < n → x ≡ two_sums ℤ_ring (start + t) a b
      → y ≡ two_sums ℤ_ring (start + t + 1) a b → Filling G part (set (set l t x) (t + 1) y) 0 n (t + 1 + 1)
  both {l} {t} x y f h e g =
      turn (t + 1) y (pos 0) (one x f (omega arith) e) h (omega arith) (g ∙ at_place (t + 1) (start + t + 1) h (omega arith))

pub loop-t-preserved-then-t-part : goal.loop-t-preserved-then-t-part
loop-t-preserved-then-t-part c =
    let a = c.args in
    let two = c.two_places-two in
    let first : SFits w64 two.result.first = search rules in
    let second : SFits w64 two.result.second = search rules in
    simp (to_z-of_z first, to_z-of_z second)
    (both a.part.now a.start a.a.now a.b.now two.result.first two.result.second c.loop-t.invariant (omega (arith, length-set {A = ℤ})) two.ensures.0 two.ensures.1)

pub loop-t-preserved : goal.loop-t-preserved
loop-t-preserved c =
    let a = c.args in
    let two = c.two_places-two in
    let first : SFits w64 two.result.first = search rules in
    simp (to_z-of_z first) (one a.part.now a.start a.a.now a.b.now two.result.first c.loop-t.invariant (omega arith) two.ensures.0)
