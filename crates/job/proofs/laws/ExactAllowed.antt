-- Requirement 3 put to use, from its definition alone: the exact values of an accepted job's results are allowed by their models
-- in the work area, no divisor is zero, and nothing under a root is negative.
use Rattle.std.specs.Prelude.{◌≡◌, refl, Bool, List, ◌⊎◌, ℕ, ◌<◌, ℤ, pos}
use Rattle.std.proofs.Common.{sym, ◌∙◌, ap, subst, inl, inr}
use Rattle.ring.proofs.laws.OrderedRingLaws.{le_refl, le_of_eq}
use Rattle.fraction.specs.definitions.Fraction.{ℚ, whole, ◌*ℚ◌, ◌≤ℚ◌, ◌<ℚ◌}
use Rattle.integer.proofs.laws.FractionOrder.{ℚ_ordered, ≤ℚ_antisym, ≤ℚ_decide}
use Rattle.model.specs.definitions.Allowed.{Allows, OnInterval}
use Rattle.certificate.specs.declared.types.RootRule.{RootRule}
use Rattle.model.specs.declared.types.Candidate.{Candidate}
use Rattle.model.specs.declared.types.Model.{Model}
use Rattle.job.specs.definitions.Operations.{Maker, quotient, root, making_for}
use Rattle.job.specs.definitions.Decode.{Command, result}
use Rattle.job.specs.definitions.Reader.{command_for}
use Rattle.job.specs.definitions.Outcomes.{JobOutcome, accepted}
use Rattle.job.specs.definitions.Work.{stored_result}
use Rattle.job.specs.definitions.Requirement.{Box, Lies, Permitted, load_box, add_box, subtract_box, multiply_box, quotient_box, root_box, Results, Requirement3}
use Rattle.job.specs.definitions.ExactValues.{Exact, load_value, add_value, subtract_value, multiply_value, quotient_value, root_value, NamedBy}
use Rattle.job.proofs.laws.Claim.{same_interval_lem}
use Rattle.job.proofs.laws.WorkLaws.{models_in_at}

-- ---- boxes of single fractions

abbrev point : ℚ → Box
point v = record { low = v; high = v; ordered = le_refl ℚ_ordered v }

lies_point : {u v : ℚ} → u ≡ v → Lies u (point v)
lies_point e = record { above = le_of_eq ℚ_ordered (sym e); below = le_of_eq ℚ_ordered e }

point_is : {u v : ℚ} → Lies u (point v) → u ≡ v
point_is {u} {v} l = ≤ℚ_antisym u v l.below l.above

-- exact values, as boxes of single fractions, are permitted
exact_permitted : {cs : List Command} {x : ℚ} {v : ℕ → ℚ} {i : ℕ} → Exact cs x v i → Permitted cs x (λ j. point (v j)) i
exact_permitted {v = v} (load_value i m e a) = load_box i m (v i) e a refl refl
exact_permitted (add_value i j k e p q s) = add_box i j k e (exact_permitted p) (exact_permitted q) s s
exact_permitted (subtract_value i j k e p q s) = subtract_box i j k e (exact_permitted p) (exact_permitted q) s s
exact_permitted (multiply_value i j k d e p q s) =
    let l = lies_point (sym s) in
    multiply_box i j k d e (exact_permitted p) (exact_permitted q) (record { low_low = l; low_high = l; high_low = l; high_high = l })
exact_permitted (quotient_value i j k h w e p q n s) =
    let l = lies_point (sym s) in
    quotient_box i j k h w e (exact_permitted p) (exact_permitted q) (λ z. n (sym (point_is z)))
    (record { low_low = l; low_high = l; high_low = l; high_high = l })
exact_permitted {v = v} (root_value i j rule h w e p n s) =
    root_box i j rule h w e (exact_permitted p) (low (≤ℚ_decide (v i) (whole (pos 0)))) n (le_of_eq ℚ_ordered (sym s))
  where
    low : (v i ≤ℚ whole (pos 0)) ⊎ ¬ (v i ≤ℚ whole (pos 0))
        → (v i ≡ whole (pos 0)) ⊎ ((whole (pos 0) <ℚ v i) × ((v i *ℚ v i) ≤ℚ v j))
    low (inl z) = inl (≤ℚ_antisym (v i) (whole (pos 0)) z n)
    low (inr z) = inr (z, le_of_eq ℚ_ordered s)

-- ---- an accepted job

module _ {areas : List (Bool × ℕ)} {job : List ℕ} {answer : JobOutcome ℕ} {work : List ℤ} (claim : Requirement3 areas job answer work)
    {count : ℕ} (e : answer ≡ accepted count) where
  abbrev pub vouched_for : Results job count work
  vouched_for = claim.results count e

  abbrev pub cs : List Command
  cs = vouched_for.commands

  -- a fraction of a result's own interval
  abbrev pub OnResult : ℚ → ℕ → Type 0
  OnResult x i = OnInterval (stored_result work i).interval x

  -- is one of the intervals of the results that its command names
  pub on_named : (x : ℚ) {i : ℕ} → i < count → (m : Maker) → command_for cs i ≡ result m → (j : ℕ) → j < count → NamedBy (making_for m) j → OnResult x i → OnResult x j
  on_named x {i} hi m f j hj n on =
      subst (λ k. OnInterval k x)
      (ap (λ (r : Model). r.interval) (sym (models_in_at work count i hi)) ∙ same_interval_lem vouched_for.made i m f j n ∙ ap (λ (r : Model). r.interval) (models_in_at work count j hj)) on

  module _ (x : ℚ) where
    -- it is allowed by the result's model in the work area
    pub exact_allowed : {v : ℕ → ℚ} {i : ℕ} → i < count → OnResult x i → Exact cs x v i → Allows (stored_result work i) x (v i)
    exact_allowed {v} {i} h on p =
        let o = (vouched_for.vouched i h x on).overlaps (λ j. point (v j)) (exact_permitted p) in
        subst (λ z. Allows (stored_result work i) x z) (point_is o.lies) o.allowed

    -- no value that the divisor's model allows is zero
    pub allowed_divisor : (u : ℚ) {i j k : ℕ} {h w : Candidate} → i < count → OnResult x i → command_for cs i ≡ result (quotient j k h w)
        → Allows (stored_result work k) x u → ¬ (u ≡ whole (pos 0))
    allowed_divisor u {i} {j} {k} {h} {w} hi on f a = (vouched_for.vouched i hi x on).divisor j k h w f u a

    -- no divisor is zero
    pub exact_divisor : {v : ℕ → ℚ} {i j k : ℕ} {h w : Candidate} → i < count → k < count → OnResult x i → command_for cs i ≡ result (quotient j k h w)
        → Exact cs x v k → ¬ (v k ≡ whole (pos 0))
    exact_divisor {v} {i} {j} {k} {h} {w} hi hk on f p = allowed_divisor (v k) hi on f (exact_allowed hk (on_named x hi (quotient j k h w) f k hk (inr refl) on) p)

    -- what the model under a root allows is not negative
    pub exact_radicand : (u : ℚ) {i j : ℕ} {rule : RootRule} {h w : Candidate} → i < count → OnResult x i → command_for cs i ≡ result (root rule j h w)
        → Allows (stored_result work j) x u → whole (pos 0) ≤ℚ u
    exact_radicand u {i} {j} {rule} {h} {w} hi on f a = pick (≤ℚ_decide (whole (pos 0)) u)
      where
        pick : (whole (pos 0) ≤ℚ u) ⊎ ¬ (whole (pos 0) ≤ℚ u) → whole (pos 0) ≤ℚ u
        pick (inl p) = p
        pick (inr p) = absurd ((vouched_for.vouched i hi x on).radicand j rule h w f u a p)
