-- Models with negated coefficients (Mirror.antt), at any places: what rounding makes of them, and what the tests of a model and of
-- a result say of them.
use Rattle.std.specs.Prelude.{◌≡◌, Bool, true, false, cond, ℤ, pos, nat_abs, ◌-ℤ◌, ◌*ℤ◌}
use Rattle.std.proofs.Math.Path.{refl, ap, ap₂}
use Rattle.std.proofs.Common.{sym, ◌∙◌, arith}
use mathlib.Core.List.{List, [], ◌∷◌}
use Prim.Native.Nat.{ℕ, suc, ◌+◌, ◌<◌}
use Rattle.ring.specs.laws.Difference.{all3, differences}
use Rattle.integer.specs.definitions.Rounding.{near}
use Rattle.integer.proofs.laws.RoundingLaws.{near_opposite}
use Rattle.chebyshev.specs.definitions.Coefficients.{weight}
use Rattle.chebyshev.specs.definitions.Negation.{none, negated_if, negated_from}
use Rattle.chebyshev.proofs.laws.NegationLaws.{abs-negated, take-negated, drop-negated, weight-negated, negated-zeros, negated-none}
use Rattle.model.specs.definitions.Models.{coefficient_count, terms, beyond, parts_within_limits, within_limits, good, too_large, make_model, zero_model}
use Rattle.model.specs.definitions.Intervals.{zero_interval}
use Rattle.model.specs.definitions.Mirror.{negated_where, negated_candidate_where}
use Rattle.model.specs.definitions.Outcomes.{refused, outcome, passing, map_outcome}
use Rattle.model.specs.definitions.Round.{rounded, rounding_loss}
use Rattle.model.specs.declared.types.Candidate.{Candidate}
use Rattle.model.specs.declared.types.Model.{Model}

-- ---- rounding

pub near-negated : (b : Bool) (n : ℤ) (d : ℕ) → 0 < d → near (negated_if b n) d ≡ negated_if b (near n d)
near-negated true n d h = near_opposite n d h
near-negated false n d h = refl

loss_negated : (b : Bool) (n : ℤ) (d : ℕ) → 0 < d → nat_abs (negated_if b n -ℤ pos d *ℤ near (negated_if b n) d) ≡ nat_abs (n -ℤ pos d *ℤ near n d)
loss_negated b n d h =
    ap (λ c. nat_abs (negated_if b n -ℤ pos d *ℤ c)) (near-negated b n d h)
    ∙ ap nat_abs (turn b n (near n d) (pos d))
    ∙ abs-negated b (n -ℤ pos d *ℤ near n d)
  where
    turn : (b : Bool) (n c d : ℤ) → negated_if b n -ℤ d *ℤ negated_if b c ≡ negated_if b (n -ℤ d *ℤ c)
    turn true = all3 _ (simp differences (omega arith))
    turn false = λ n c d. refl

module _ (chosen : ℕ → Bool) where
  pub rounded-negated : (d : ℕ) → 0 < d → (k : ℕ) (cs : List ℤ) → rounded d (negated_from chosen k cs) ≡ negated_from chosen k (rounded d cs)
  unfolding rounded negated_from
  rounded-negated d h k [] = refl
  rounded-negated d h k (c ∷ cs) = ap₂ ◌∷◌ (near-negated (chosen k) c d h) (rounded-negated d h (suc k) cs)

  pub rounding_loss-negated : (d : ℕ) → 0 < d → (k : ℕ) (cs : List ℤ) → rounding_loss d (negated_from chosen k cs) ≡ rounding_loss d cs
  unfolding rounding_loss negated_from
  rounding_loss-negated d h k [] = refl
  rounding_loss-negated d h k (c ∷ cs) = ap₂ ◌+◌ (loss_negated (chosen k) c d h) (rounding_loss-negated d h (suc k) cs)

  -- ---- models

  pub terms-negated : (m : Model) → terms (negated_where chosen m) ≡ negated_from chosen 0 (terms m)
  terms-negated m = take-negated chosen (suc m.degree) 0 m.coefficients

  pub weight_of_negated : (m : Model) → weight (negated_where chosen m).coefficients ≡ weight m.coefficients
  weight_of_negated m = weight-negated chosen 0 m.coefficients

  pub within_limits-negated : (m : Model) → within_limits (negated_where chosen m) ≡ within_limits m
  unfolding parts_within_limits
  within_limits-negated m =
      rw (weight-negated chosen 0 m.coefficients, drop-negated chosen (suc m.degree) 0 m.coefficients, weight-negated chosen (0 + suc m.degree) (beyond m))

  pub good-negated : (m : Model) → good (negated_where chosen m) ≡ good m
  unfolding good
  good-negated m = rw (within_limits-negated m)

  pub too_large-negated : (m : Model) → too_large (negated_where chosen m) ≡ too_large m
  unfolding too_large
  too_large-negated m = rw (weight-negated chosen 0 m.coefficients)

  pub zero-negated : negated_where chosen zero_model ≡ zero_model
  unfolding zero_model
  zero-negated = ap (λ cs. make_model 0 cs 0 zero_interval) (negated-zeros chosen 0 coefficient_count)

pub negated_nowhere : (m : Model) → negated_where none m ≡ m
negated_nowhere m = ap (λ cs. make_model m.degree cs m.radius m.interval) (negated-none 0 m.coefficients)

pub candidate_nowhere : (c : Candidate) → negated_candidate_where none c ≡ c
candidate_nowhere c = ap (λ cs. record { degree = c.degree; coefficients = cs }) (negated-none 0 c.coefficients)

-- ---- outcomes

-- a map that keeps what stands beside a refusal
pub outcome_mapped : {A : Type 0} (f : A → A) (ps : List (Bool × ℕ)) (a z : A) → f z ≡ z → outcome ps (f a) z ≡ map_outcome f (outcome ps a z)
unfolding passing
outcome_mapped f [] a z e = refl
outcome_mapped {A} f (p ∷ ps) a z e = pick p.0 (outcome_mapped f ps a z e)
  where
    pick : (t : Bool) → outcome ps (f a) z ≡ map_outcome f (outcome ps a z)
        → cond t (refused p.1 z) (outcome ps (f a) z) ≡ map_outcome f (cond t (refused p.1 z) (outcome ps a z))
    pick true rest = ap (refused p.1) (sym e)
    pick false rest = rest
