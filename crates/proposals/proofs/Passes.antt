-- Three passes over parts of a list are a term of the walk.
use borrow.Rule.Slice.PartMut.{mid_of, put_mid}
use mathlib.Core.Path.{◌≡◌, sym, ◌∙◌, ap}
use mathlib.Core.List.{List, ◌++◌, append-nil, reverse}
use Prim.Native.Nat.{ℕ, suc, ◌+◌, ◌-◌, ◌<◌}
use native.Mathlib.Omega.{arith}
use native.Mathlib.Numerals.{add-one}
use lib.ListN.{length, take, drop, length-drop, drop_of_length-le}
use lib.Seq.{take_all}
use lib.Ieee.{Float, binary64, add, mul}
use Rattle.chebyshev.specs.definitions.Product.{add_term_by}
use Rattle.chebyshev.specs.definitions.Passes.{add_from_by}
use Rattle.chebyshev.proofs.laws.PassLaws.{from_part, term_passes}
use Rattle.proposals.proofs.Reversal.{reverse-take}

abbrev from : List Float → Float → ℕ → List Float → List Float
from = add_from_by (add binary64) (mul binary64)

-- the part from p to the end
pub part_rest : (c : List Float) (p : ℕ) → mid_of p (length c - p) c ≡ drop p c
part_rest c p = take_all (length c - p) (drop p c) (rw length-drop (omega arith))

pub put_rest : (c d : List Float) (p : ℕ) → put_mid p (length c - p) c d ≡ take p c ++ d
put_rest c d p =
    ap (λ (l : List Float). take p c ++ (d ++ l)) (drop_of_length-le (drop p c) {i = length c - p} (rw length-drop (omega arith)))
    ∙ ap (λ (l : List Float). take p c ++ l) (append-nil d)

pass_part : (c d b : List Float) (x : Float) (p : ℕ) → d ≡ from (mid_of p (length c - p) c) x 0 b → put_mid p (length c - p) c d ≡ from c x p b
pass_part c d b x p e =
    put_rest c d p
    ∙ ap (λ (l : List Float). take p c ++ l) (e ∙ ap (λ (l : List Float). from l x 0 b) (part_rest c p))
    ∙ from_part (add binary64) (mul binary64) c x p b

module _ (c d₁ d₂ d₃ b back : List Float) (x : Float) (i : ℕ) (h : i < length b) (r : back ≡ reverse b) where
  abbrev n : ℕ
  n = length b - 1 - i

  abbrev c₁ : List Float
  c₁ = put_mid i (length c - i) c d₁

  back_part : mid_of n (length back - n) back ≡ reverse (take (suc i) b)
  back_part = part_rest back n ∙ ap (drop n) r ∙ reverse-take (suc i) n b (omega arith)

  pub passes : d₁ ≡ from (mid_of i (length c - i) c) x 0 b → d₂ ≡ from c₁ x 0 (mid_of n (length back - n) back)
      → d₃ ≡ from (mid_of 1 (length d₂ - 1) d₂) x 0 (mid_of (i + 1) (length b - (i + 1)) b)
      → put_mid 1 (length d₂ - 1) d₂ d₃ ≡ (add_term_by (add binary64) (mul binary64) (c, 0) x i 0 b).0
  passes e₁ e₂ e₃ =
      pass_part d₂ d₃ (mid_of (i + 1) (length b - (i + 1)) b) x 1 e₃
      ∙ ap (from d₂ x 1) (part_rest b (i + 1) ∙ ap (λ (k : ℕ). drop k b) (add-one i))
      ∙ ap (λ (l : List Float). from l x 1 (drop (suc i) b)) (e₂ ∙ ap (from c₁ x 0) back_part)
      ∙ ap (λ (l : List Float). from (from l x 0 (reverse (take (suc i) b))) x 1 (drop (suc i) b)) (pass_part c d₁ b x i e₁)
      ∙ sym (term_passes (add binary64) (mul binary64) (c, 0) x i b h)
