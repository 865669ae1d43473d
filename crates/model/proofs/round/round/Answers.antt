-- `round::round` meets its contract: a turn is that of the walk (RoundingWalk.antt). A rounded number is written only where the
-- weight so far is within its limit, so it fits.
use Rattle.std.proofs.Common.{arith, ◌≡◌, refl, ◌∙◌, ap, ap₂, List, ℕ, ◌+◌, ◌-◌, ◌^◌, ◌<◌, ◌≤◌, ℤ, pos, nat_abs, ◌-ℤ◌, ◌*ℤ◌, length, get_or, take, drop, set, length-drop, w64, w32, FitsSigned, to_z, of_z, to_z-of_z}
use lib.Seq.{length-take-le, take_all}
use Rattle.integer.proofs.laws.Machine.{abs-fits, is_positive, above_one, positive_is}
use Rattle.chebyshev.specs.definitions.Coefficients.{weight}
use Rattle.chebyshev.proofs.laws.Weight.{weight_at, weight-take, weight-drop, weight_split}
use Rattle.model.specs.definitions.Models.{max_weight}
use Rattle.model.specs.definitions.InnerContracts.{Roundable}
use Rattle.model.proofs.laws.RoundingPassLaws.{rounded_at, loss_at, loss_small, product_small}
use Rattle.model.proofs.RoundingWalk.{Walk, begins, turn, ends, small}
use Rattle.model.proofs.round.round.Goals as goal
use Rattle.model.proofs.round.round.Goals.{After-near-q, then-weight-le-MAX_WEIGHT, else-weight-le-MAX_WEIGHT}

-- the list and its kept numbers
module _ {all : List ℤ} {n : ℕ} {u : ℤ} (pre : Roundable all n u) where
  unit-is : u ≡ pos (nat_abs u)
  unit-is = positive_is u (is_positive u (above_one u pre.divides).0)

  two : 2 ≤ nat_abs u
  two = (above_one u pre.divides).1

  -- what is lent to `weigh`
  rest-is : take (length all - n) (drop n all) ≡ drop n all
  rest-is = take_all (length all - n) (drop n all) (omega (arith, length-drop n all))

  bounded : {out : List ℤ} {total loss k : ℕ} → Walk (nat_abs u) (take n all) (weight (drop n all)) out total loss k → (total < 2 ^ 62) × (loss < 2 ^ 62)
  bounded w = let h = small two w in omega (arith, weight_split n all, pre.light)

  light : (k : ℕ) → nat_abs (get_or (take n all) k (pos 0)) < 2 ^ 62
  light k = omega (arith, weight_at (take n all) k, weight-take n all, pre.light)

pub weigh-loss-requires : goal.weigh-loss-requires
weigh-loss-requires c = rw (rest-is c.requires) (omega (arith, weight-drop c.args.kept c.args.c.now, c.requires))

pub loop-k-init : goal.loop-k-init
loop-k-init c =
    rw (to_z-of_z c.ranges.unit, rw (rest-is c.requires) at c.weigh-loss.ensures)
    (begins (nat_abs c.args.unit) (take c.args.kept c.args.c.now) (weight (drop c.args.kept c.args.c.now)) (omega (arith, length-take-le c.args.kept c.args.c.now c.requires.there, c.requires)))

-- in a turn, with q rounded
module _ (c : After-near-q) where
  abbrev u : ℤ
  u = c.args.unit

  abbrev cs : List ℤ
  cs = take c.args.kept c.args.c.now

  abbrev k : ℕ
  k = c.loop-k.k

  abbrev x : ℤ
  x = get_or cs k (pos 0)

  abbrev q : ℤ
  q = c.near-q.result

  fits-u : FitsSigned w64 u
  fits-u = c.ranges.unit

  fits-x : FitsSigned w64 x
  fits-x = abs-fits w64 x (omega (arith, light c.requires k))

  q_is : q ≡ rounded_at (nat_abs u) x
  q_is = rw (to_z-of_z fits-x, to_z-of_z fits-u) at c.near-q.ensures

  fits-q : FitsSigned w64 q
  fits-q = record { sfits = c.near-q.type_inv }

  fits-product : FitsSigned w64 (u *ℤ q)
  fits-product =
      abs-fits w64 (u *ℤ q) (omega (arith, ap (λ (z : ℤ). nat_abs (u *ℤ z)) q_is, product_small (nat_abs u) (two c.requires) x, ap (λ (z : ℤ). nat_abs (z *ℤ rounded_at (nat_abs u) x)) (unit-is c.requires), light c.requires k))

  loss_is : nat_abs (x -ℤ u *ℤ q) ≡ loss_at (nat_abs u) x
  loss_is = ap₂ (λ (y z : ℤ). nat_abs (x -ℤ y *ℤ z)) (unit-is c.requires) q_is

  fits-loss : FitsSigned w64 (x -ℤ u *ℤ q)
  fits-loss = abs-fits w64 (x -ℤ u *ℤ q) (omega (arith, loss_is, loss_small (nat_abs u) (two c.requires) x, light c.requires k))

  -- as the code has it
  lost : nat_abs (to_z w64 (of_z w64 (to_z w64 (of_z w64 x) -ℤ to_z w64 (of_z w64 (to_z w64 (of_z w64 u) *ℤ to_z w64 (of_z w64 q)))))) ≡ loss_at (nat_abs u) x
  lost = simp (to_z-of_z fits-x, to_z-of_z fits-q, to_z-of_z fits-u, to_z-of_z fits-product, to_z-of_z fits-loss) loss_is

  after : (m n : ℕ) (out : List ℤ) → m ≡ nat_abs q → n ≡ loss_at (nat_abs u) x → (c.loop-k.weight + m ≤ max_weight → out ≡ set c.loop-k.coefficients k q)
      → Walk (nat_abs u) cs (weight (drop c.args.kept c.args.c.now)) out (c.loop-k.weight + m) (c.loop-k.loss + n) (k + 1)
  after m n out =
      turn x q m n out (two c.requires) (rw (to_z-of_z fits-u) at c.loop-k.invariant) (omega (arith, length-take-le c.args.kept c.args.c.now c.requires.there)) refl q_is

pub overflow_mul-unit : goal.overflow_mul-unit
overflow_mul-unit c = let t = (goal.at.overflow_mul-unit c).After-near-q in simp (to_z-of_z (fits-u t), to_z-of_z (fits-q t)) (fits-product t)

pub overflow_sub-exact : goal.overflow_sub-exact
overflow_sub-exact c = let t = (goal.at.overflow_sub-exact c).After-near-q in simp (to_z-of_z (fits-u t), to_z-of_z (fits-x t), to_z-of_z (fits-q t), to_z-of_z (fits-product t)) (fits-loss t)

pub overflow_add-loss : goal.overflow_add-loss
overflow_add-loss c =
    let t = (goal.at.overflow_add-loss c).After-near-q in
    omega (arith, (bounded c.requires (after t (nat_abs (q t)) c.unsigned_abs-loss.result _ refl (c.unsigned_abs-loss.ensures.value ∙ lost t) (λ _. refl))).1)

pub overflow_add-weight : goal.overflow_add-weight
overflow_add-weight c =
    let t = (goal.at.overflow_add-weight c).After-near-q in
    let size = rw (to_z-of_z (fits-q t)) at c.unsigned_abs-weight.ensures.value in
    omega (arith, (bounded c.requires (after t c.unsigned_abs-weight.result c.unsigned_abs-loss.result _ size (c.unsigned_abs-loss.ensures.value ∙ lost t) (λ _. refl))).0)

pub loop-k-preserved : goal.loop-k-preserved
loop-k-preserved c =
    let t = (goal.at.loop-k-preserved c).After-near-q in
    let m = c.unsigned_abs-weight.result in
    let size : m ≡ nat_abs (q t) = rw (to_z-of_z (fits-q t)) at c.unsigned_abs-weight.ensures.value in
    let narrow : c.loop-k.weight + m ≤ max_weight → FitsSigned w32 (q t) = λ h. abs-fits w32 (q t) (omega (arith, size)) in
    rw (to_z-of_z (fits-u t)) (after t m c.unsigned_abs-loss.result c.if-weight-le-MAX_WEIGHT.coefficients size (c.unsigned_abs-loss.ensures.value ∙ lost t) (λ h. elim c.if-weight-le-MAX_WEIGHT.branch [
      | then-weight-le-MAX_WEIGHT w ↦ w.coefficients-is ∙ simp (to_z-of_z (fits-q t), to_z-of_z (narrow h))
      | else-weight-le-MAX_WEIGHT w ↦ absurd (omega (arith, w.if-weight-le-MAX_WEIGHT.false))
    ]))

pub returns : goal.returns
returns c = ends c.args.c.now c.args.kept c.requires.there (rw (to_z-of_z c.ranges.unit) at c.loop-k.invariant) (omega (arith, length-take-le c.args.kept c.args.c.now c.requires.there))
