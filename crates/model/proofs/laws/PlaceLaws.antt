-- Lists of places (Outcomes.antt): an outcome accepts exactly if no condition holds, and then has the operation's own values.
use Rattle.std.specs.Prelude.{◌≡◌, ◌↔◌, ◌≢◌, ◌⊎◌, Bool, not, ◌&&◌, ℕ}
use Rattle.std.proofs.Math.Path.{refl, sym, ap}
use Rattle.std.proofs.Common.{◌∙◌, inl, inr, true≢false, arith}
use Rattle.std.proofs.Math.Bool.{true, false, cond}
use mathlib.Core.List.{List, [], ◌∷◌, ◌++◌}
use Rattle.std.proofs.lemmas.Bool.{not-false}
use Rattle.model.specs.definitions.Models.{within_limits, good, zero_model, bad_place, different_place}
use Rattle.model.specs.definitions.Intervals.{good_ends, same_interval}
use Rattle.model.proofs.laws.IntervalLaws.{same_is}
use Rattle.model.specs.definitions.Outcomes.{Outcome, accepted, refused, number, payload, map_outcome, outcome, passing, Passed, First, here, later}
use Rattle.model.specs.definitions.Add.{sum_model, difference_model, addition, subtraction}
use Rattle.model.specs.definitions.Multiply.{product_model, multiplication}
use Rattle.model.specs.declared.types.Model.{Model}

module _ {A : Type 0} where
  -- places that are passed do not count
  pub passing_behind : (ps qs : List (Bool × ℕ)) (a : A) (r : ℕ → A) → Passed ps → passing (ps ++ qs) a r ≡ passing qs a r
  unfolding passing
  passing_behind [] qs a r h = refl
  passing_behind (p ∷ ps) qs a r h = rw h.0 (passing_behind ps qs a r h.1)

  pub passing_passed : (ps : List (Bool × ℕ)) (a : A) (r : ℕ → A) → Passed ps → passing ps a r ≡ a
  unfolding passing
  passing_passed [] a r h = refl
  passing_passed (p ∷ ps) a r h = rw h.0 (passing_passed ps a r h.1)

  -- what no refusal gives tells that all were passed
  pub passing_unrefused : (ps : List (Bool × ℕ)) (a b : A) (r : ℕ → A) → ((n : ℕ) → ¬ (r n ≡ b)) → passing ps a r ≡ b → Passed ps × (b ≡ a)
  unfolding passing
  passing_unrefused [] a b r never e = (tt, sym e)
  passing_unrefused (p ∷ ps) a b r never e = pick p.0 (passing_unrefused ps a b r never) e
    where
      pick : (t : Bool) → (passing ps a r ≡ b → Passed ps × (b ≡ a))
          → cond t (r p.1) (passing ps a r) ≡ b → ((t ≡ false) × Passed ps) × (b ≡ a)
      pick true rest e = absurd (never p.1 e)
      pick false rest e = let q = rest e in ((refl, q.0), q.1)

-- ---- the first place that holds

-- the first place that holds refuses
pub passing_first : {A : Type 0} {ps : List (Bool × ℕ)} {n : ℕ} (a : A) (r : ℕ → A) → First ps n → passing ps a r ≡ r n
unfolding passing
passing_first a r (here t e) = rw (t, e)
passing_first a r (later t f) = rw t (passing_first a r f)

-- a place holds, or all are passed
pub first_or_passed : (ps : List (Bool × ℕ)) → ((n : ℕ) × First ps n) ⊎ Passed ps
first_or_passed [] = inr tt
first_or_passed (p ∷ ps) = by p.0 refl (first_or_passed ps)
  where
    by : (t : Bool) → p.0 ≡ t → ((n : ℕ) × First ps n) ⊎ Passed ps → ((n : ℕ) × First (p ∷ ps) n) ⊎ Passed (p ∷ ps)
    by true e r = inl (p.1, here e refl)
    by false e (inl f) = inl (f.0, later e f.1)
    by false e (inr f) = inr (e, f)

-- not both
pub none_first : {ps : List (Bool × ℕ)} {n : ℕ} → Passed ps → First ps n → ⊥
none_first f (here t e) = true≢false (sym t ∙ f.0)
none_first f (later t g) = none_first f.1 g

-- ---- the same of outcomes

pub refused_not_accepted : {A : Type 0} {n : ℕ} {a b : A} → refused n a ≡ accepted b → ⊥
refused_not_accepted e = let z : ◌≡◌ {A = ℕ} 0 1 = cc e in absurd (omega arith)

-- where a part of the values is accepted, they were
pub mapped_accepted : {A B : Type 0} (f : A → B) (o : Outcome A) {b : B} → map_outcome f o ≡ accepted b → (a : A) × ((o ≡ accepted a) × (f a ≡ b))
mapped_accepted f (accepted a) e = (a, (refl, ap payload e))
mapped_accepted f (refused n a) e = absurd (refused_not_accepted e)

module _ {A : Type 0} where
  pub outcome_behind : (ps qs : List (Bool × ℕ)) (a z : A) → Passed ps → outcome (ps ++ qs) a z ≡ outcome qs a z
  outcome_behind ps qs a z h = passing_behind ps qs (accepted a) (λ n. refused n z) h

  pub outcome_passed : (ps : List (Bool × ℕ)) (a z : A) → Passed ps → outcome ps a z ≡ accepted a
  outcome_passed ps a z h = passing_passed ps (accepted a) (λ n. refused n z) h

  pub outcome_accepted : (ps : List (Bool × ℕ)) (a z : A) {b : A} → outcome ps a z ≡ accepted b → Passed ps × (b ≡ a)
  outcome_accepted ps a z {b} e =
      let (passed, same) = passing_unrefused ps (accepted a) (accepted b) (λ n. refused n z) (λ n h. refused_not_accepted h) e in
      (passed, ap payload same)

  -- a refusal stays the first, whatever is behind and whatever the values are
  pub outcome_refused : {B : Type 0} (ps qs : List (Bool × ℕ)) (a z : A) (b y : B) {k : ℕ} {c : A}
      → outcome ps a z ≡ refused k c → outcome (ps ++ qs) b y ≡ refused k y
  unfolding passing
  outcome_refused [] qs a z b y e = absurd (refused_not_accepted (sym e))
  outcome_refused (p ∷ ps) qs a z b y {k} {c} e = pick p.0 (outcome_refused ps qs a z b y) e
    where
      pick : (t : Bool) → (outcome ps a z ≡ refused k c → outcome (ps ++ qs) b y ≡ refused k y)
          → cond t (refused p.1 z) (outcome ps a z) ≡ refused k c → cond t (refused p.1 y) (outcome (ps ++ qs) b y) ≡ refused k y
      pick true rest e = ap (λ (n : ℕ). refused n y) (ap number e)
      pick false rest e = rest e

-- ---- places of two parts

pub passed_append : (ps qs : List (Bool × ℕ)) → Passed (ps ++ qs) ↔ (Passed ps × Passed qs)
passed_append [] qs = (λ q. (tt, q), λ q. q.1)
passed_append (p ∷ ps) qs =
    let rest = passed_append ps qs in
    (λ q. ((q.0, (rest.0 q.1).0), (rest.0 q.1).1), λ q. (q.0.0, rest.1 (q.0.1, q.1)))

pub first_parts : (ps qs : List (Bool × ℕ)) {n : ℕ} → First (ps ++ qs) n → First ps n ⊎ (Passed ps × First qs n)
first_parts [] qs f = inr (tt, f)
first_parts (p ∷ ps) qs (here t e) = inl (here t e)
first_parts (p ∷ ps) qs {n} (later t f) = by (first_parts ps qs f)
  where
    by : First ps n ⊎ (Passed ps × First qs n) → First (p ∷ ps) n ⊎ (Passed (p ∷ ps) × First qs n)
    by (inl g) = inl (later t g)
    by (inr g) = inr ((t, g.0), g.1)

pub first_behind : (ps : List (Bool × ℕ)) {qs : List (Bool × ℕ)} {n : ℕ} → Passed ps → First qs n → First (ps ++ qs) n
first_behind [] f g = g
first_behind (p ∷ ps) f g = later f.0 (first_behind ps f.1 g)

-- S-24: "Number 18: ends wrong, straight after number 2 for the same model": wherever a model's place stands, it is those two
module _ {A : Type 0} (m : Model) (a : A) (r : ℕ → A) where
  pub model_places : (ps qs : List (Bool × ℕ))
      → passing (ps ++ (bad_place m ∷ qs)) a r
      ≡ passing (ps ++ ((not (within_limits m), 2) ∷ (not (good_ends m.interval), 18) ∷ qs)) a r
  unfolding passing good
  model_places [] qs = by (within_limits m) (good_ends m.interval) (passing qs a r)
    where
      by : (s t : Bool) (rest : A) → cond (not (s && t)) (r (cond t 2 (cond s 18 2))) rest ≡ cond (not s) (r 2) (cond (not t) (r 18) rest)
      by true true rest = refl
      by true false rest = refl
      by false true rest = refl
      by false false rest = refl
  model_places (p ∷ ps) qs = ap (cond p.0 (r p.1)) (model_places ps qs)

-- the place "not (good m)" passes
pub not_of_true : (t : Bool) → t ≡ true → not t ≡ false
not_of_true t e = ap not e

-- ---- a place that never refuses

-- n is none of the numbers of the list
abbrev pub Without : ℕ → List (Bool × ℕ) → Type 0
Without n [] = Unit {0}
Without n (p ∷ ps) = (p.1 ≢ n) × Without n ps

-- a last place whose condition fails wherever those before it do never refuses
pub last_unused : {A : Type 0} (ps : List (Bool × ℕ)) (c : Bool) (n : ℕ) (a z : A) → Without n ps → 0 ≢ n → (Passed ps → c ≡ false)
    → number (outcome (ps ++ ((c, n) ∷ [])) a z) ≢ n
unfolding passing
last_unused [] c n a z others k unused = rw (unused tt) k
last_unused (p ∷ ps) c n a z others k unused =
    pick p.0 refl (λ e. last_unused ps c n a z others.1 k (λ q. unused (e, q)))
  where
    pick : (t : Bool) → p.0 ≡ t → (p.0 ≡ false → number (outcome (ps ++ ((c, n) ∷ [])) a z) ≢ n)
        → number (cond t (refused p.1 z) (outcome (ps ++ ((c, n) ∷ [])) a z)) ≢ n
    pick true e rest = others.0
    pick false e rest = rest e

-- ---- the operations on two models

-- what acceptance tells of an operation on a and b that forms m and answers c
pub record Performed (a b m c : Model) : Type 0 where
  pub first_good : good a ≡ true
  pub second_good : good b ≡ true
  pub same_interval_lem : a.interval ≡ b.interval
  pub result : c ≡ m

operation_accepted : (a b m : Model) (ps : List (Bool × ℕ)) {c : Model}
    → outcome (bad_place a ∷ bad_place b ∷ different_place a b ∷ ps) m zero_model ≡ accepted c → Performed a b m c
operation_accepted a b m ps e =
    let (passed, same) = outcome_accepted (bad_place a ∷ bad_place b ∷ different_place a b ∷ ps) m zero_model e in record {
      first_good = not-false (good a) passed.0;
      second_good = not-false (good b) passed.1.0;
      same_interval_lem = same_is a.interval b.interval (not-false (same_interval a.interval b.interval) passed.1.1.0);
      result = same;
    }

pub addition_accepted : (a b : Model) {c : Model} → addition a b ≡ accepted c → Performed a b (sum_model a b) c
unfolding addition
addition_accepted a b = operation_accepted a b (sum_model a b) _

pub subtraction_accepted : (a b : Model) {c : Model} → subtraction a b ≡ accepted c → Performed a b (difference_model a b) c
unfolding subtraction
subtraction_accepted a b = operation_accepted a b (difference_model a b) _

pub multiplication_accepted : (d : ℕ) (a b : Model) {c : Model} → multiplication d a b ≡ accepted c
    → Performed a b (product_model d a b) c
unfolding multiplication
multiplication_accepted d a b = operation_accepted a b (product_model d a b) _
