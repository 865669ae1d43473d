-- Requirement 3 put to use, continued: for every choice of values that the loaded models allow, and of fractions whose squares
-- stand under roots, the exact values of an accepted job's results exist.
use Rattle.std.specs.Prelude.{◌≡◌, refl, Bool, false, List, [], ◌∷◌, ◌⊎◌, ℕ, zero, suc, ◌<◌, ℤ}
use Rattle.std.proofs.Common.{sym, ◌∙◌, inl, inr, arith, leb-false}
use Rattle.std.proofs.Math.Path.{subst⁻¹}
use Rattle.fraction.specs.definitions.Fraction.{ℚ, ◌*ℚ◌, -ℚ◌, ∣◌∣ℚ}
use Rattle.integer.proofs.laws.FractionSolver.{reifyℚ, solveℚ}
use Rattle.integer.proofs.laws.FractionOrder.{absℚ_nonneg, absℚ_cases}
use Rattle.model.specs.definitions.Allowed.{Allows}
use Rattle.job.specs.definitions.Operations.{Maker, load, add, subtract, multiply, quotient, root, making_for, names_bad}
use Rattle.job.specs.definitions.Decode.{Command, result}
use Rattle.job.specs.definitions.Reader.{command_for}
use Rattle.job.specs.definitions.Outcomes.{JobOutcome, accepted}
use Rattle.job.specs.definitions.Work.{stored_result}
use Rattle.job.proofs.laws.WorkLaws.{length-models_in}
use Rattle.job.proofs.laws.CommandLaws.{both_below}
use Rattle.job.specs.definitions.Requirement.{Requirement3}
use Rattle.job.proofs.laws.MadeLaws.{made_maker, made_by_maker}
use Rattle.job.specs.definitions.ExactValues.{Exact, load_value, add_value, subtract_value, multiply_value, quotient_value, root_value, NamedBy, itself, through, Chosen, Follows}
use Rattle.job.proofs.laws.ChosenValues.{values_to}
use Rattle.job.proofs.laws.ExactAllowed.{vouched_for, cs, OnResult, on_named, exact_allowed, exact_divisor}

-- the square of an absolute value
square_abs : (c : ℚ) → ∣ c ∣ℚ *ℚ ∣ c ∣ℚ ≡ c *ℚ c
square_abs c = by (absℚ_cases c)
  where
    by : (∣ c ∣ℚ ≡ c) ⊎ (∣ c ∣ℚ ≡ -ℚ c) → ∣ c ∣ℚ *ℚ ∣ c ∣ℚ ≡ c *ℚ c
    by (inl e) = rw e
    by (inr e) = rw e (solveℚ (c ∷ []) (search reifyℚ depth 9) (search reifyℚ depth 9) tt)

-- ---- an accepted job

module _ {areas : List (Bool × ℕ)} {job : List ℕ} {answer : JobOutcome ℕ} {work : List ℤ} (claim : Requirement3 areas job answer work)
    {count : ℕ} (e : answer ≡ accepted count) where
  abbrev commands : List Command
  commands = cs claim e

  pub named : (i : ℕ) (m : Maker) → command_for commands i ≡ result m → names_bad m i ≡ false
  named i m f = (made_maker (vouched_for claim e).made i m f).names

  pub maker : (i : ℕ) → i < count → (m : Maker) × (command_for commands i ≡ result m)
  maker i h = made_by_maker (vouched_for claim e).made i (omega (arith, length-models_in work count))

  module _ (x : ℚ) (choice v : ℕ → ℚ) (follows : Follows commands choice count v) where
    abbrev Found : ℕ → Type 0
    Found i = Exact commands x v i

    -- a result below i that its command names, for a choice that suits result i
    abbrev Named : ℕ → Maker → Type 0
    Named i m = (j : ℕ) → j < i → NamedBy (making_for m) j → Found j

    by_maker : (i : ℕ) → i < count → OnResult claim e x i → Chosen commands x choice v i → (m : Maker) → command_for commands i ≡ result m → Named i m → Found i
    by_maker i h on c (load m) f r = load_value i m f (subst⁻¹ (Allows m x) (follows i h (load m) f) (c i (load m) (itself i) f))
    by_maker i h on c (add j k) f r =
        let b = both_below i j k (named i (add j k) f) in
        add_value i j k f (r j b.0 (inl refl)) (r k b.1 (inr refl)) (follows i h (add j k) f)
    by_maker i h on c (subtract j k) f r =
        let b = both_below i j k (named i (subtract j k) f) in
        subtract_value i j k f (r j b.0 (inl refl)) (r k b.1 (inr refl)) (follows i h (subtract j k) f)
    by_maker i h on c (multiply j k d) f r =
        let b = both_below i j k (named i (multiply j k d) f) in
        multiply_value i j k d f (r j b.0 (inl refl)) (r k b.1 (inr refl)) (follows i h (multiply j k d) f)
    by_maker i h on c (quotient j k d w) f r =
        let b = both_below i j k (named i (quotient j k d w) f) in
        let q = r k b.1 (inr refl) in
        quotient_value i j k d w f (r j b.0 (inl refl)) q (exact_divisor claim e x h (omega (arith, b)) on f q)
        (follows i h (quotient j k d w) f)
    by_maker i h on c (root rule j d w) f r =
        let s = follows i h (root rule j d w) f in
        root_value i j rule d w f (r j (leb-false i j (named i (root rule j d w) f)) refl) (rw s (absℚ_nonneg (choice i)))
        (rw s (square_abs (choice i)) ∙ sym (c i (root rule j d w) (itself i) f))

    found : (n i : ℕ) → i < n → i < count → OnResult claim e x i → Chosen commands x choice v i → Found i
    found zero i lt h on c = absurd (omega arith)
    found (suc n) i lt h on c =
        let m = maker i h in
        by_maker i h on c m.0 m.1
        (λ j b t. found n j (omega arith) (omega arith) (on_named claim e x h m.0 m.1 j (omega arith) t on) (λ r m' p g. c r m' (through i j r m.0 m.1 t p) g))

  -- for every choice there are values that follow it, and those of a result that it suits, at a fraction of its interval, are exact
  -- and allowed by its model
  pub exact_values : (x : ℚ) (choice : ℕ → ℚ)
      → (v : ℕ → ℚ) × Follows commands choice count v
      × ((i : ℕ) → i < count → OnResult claim e x i → Chosen commands x choice v i → Exact commands x v i × Allows (stored_result work i) x (v i))
  exact_values x choice =
      let r = values_to commands named choice count in (
        r.0,
        r.1,
        λ i h on c. let p = found x choice r.0 r.1 (suc i) i (omega arith) h on c in (p, exact_allowed claim e x h on p),
      )
