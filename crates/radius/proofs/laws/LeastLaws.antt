-- The least radius is the least: what is found satisfies and nothing smaller does; none is found exactly if none satisfies.
use Rattle.std.specs.Prelude.{◌≡◌, refl, ◌↔◌, Bool, true, false, cond, ℕ, zero, suc, ◌+◌, ◌≤◌, ◌<◌, leb, Option, Some, None}
use Rattle.std.proofs.Common.{sym, ◌∙◌, ap, true≢false, arith}
use Rattle.std.proofs.Math.Decide.{dec_le}
use borrow.Author.Tests.{leb-true, leb-false, le-leb, lt-leb}
use Rattle.model.specs.definitions.Models.{scale}
use Rattle.radius.specs.definitions.LeastRadius.{RadiusSatisfies, radius_satisfies, first_of, least_radius, is_missing, radius_of, IsLeast}

-- ---- the first that passes a test

true_false : (t : Bool) → t ≡ true → t ≡ false → {A : Type 0} → A
true_false t e d {A} = absurd (true≢false (sym e ∙ d))

-- what fails at k and behind it fails from k on
fails_from : (test : ℕ → Bool) (k j : ℕ) → test k ≡ false → k ≤ j → (suc k ≤ j → test j ≡ false) → test j ≡ false
fails_from test k j d l later = pick (dec_le (suc k) j)
  where
    pick : Dec (suc k ≤ j) → test j ≡ false
    pick (yes g) = later g
    pick (no g) = let i : j ≡ k = omega arith in rw i d

record FirstFound (test : ℕ → Bool) (n k r : ℕ) : Type 0 where
  pub from : k ≤ r
  pub below_end : r < k + n
  pub passes : test r ≡ true
  pub first : (j : ℕ) → k ≤ j → j < r → test j ≡ false

first_found : (test : ℕ → Bool) (n k r : ℕ) → first_of test n k ≡ Some r → FirstFound test n k r
unfolding first_of
first_found test zero k r e = let q : ◌≡◌ {A = ℕ} 0 1 = cc in absurd (omega arith)
first_found test (suc n) k r e = pick (test k) refl e (first_found test n (suc k) r)
  where
    pick : (t : Bool) → test k ≡ t → cond t (Some k) (first_of test n (suc k)) ≡ Some r
        → (first_of test n (suc k) ≡ Some r → FirstFound test n (suc k) r) → FirstFound test (suc n) k r
    pick true d e later =
        let i : k ≡ r = cc in
        record { from = omega arith; below_end = omega arith; passes = rw (← i) d; first = λ j g l. absurd (omega arith) }
    pick false d e later =
        let rest = later e in record {
          from = omega (arith, rest.from);
          below_end = omega (arith, rest.below_end);
          passes = rest.passes;
          first = λ j g l. fails_from test k j d g (λ o. rest.first j o l);
        }

first_is : (test : ℕ → Bool) (n k r : ℕ) → FirstFound test n k r → first_of test n k ≡ Some r
unfolding first_of
first_is test zero k r f = absurd (omega (arith, f.from, f.below_end))
first_is test (suc n) k r f = pick (test k) refl (dec_le (suc k) r) (first_is test n (suc k) r)
  where
    pick : (t : Bool) → test k ≡ t → Dec (suc k ≤ r) → (FirstFound test n (suc k) r → first_of test n (suc k) ≡ Some r)
        → cond t (Some k) (first_of test n (suc k)) ≡ Some r
    pick true d (yes l) rest = true_false (test k) d (f.first k (omega arith) l)
    pick true d (no l) rest = let i : k ≡ r = omega (arith, f.from) in ap Some i
    pick false d (yes l) rest =
        rest (record { from = l; below_end = omega (arith, f.below_end); passes = f.passes; first = λ j g h. f.first j (omega arith) h })
    pick false d (no l) rest = let i : k ≡ r = omega (arith, f.from) in true_false (test r) f.passes (rw (← i) d)

first_missing : (test : ℕ → Bool) (n k : ℕ)
    → (first_of test n k ≡ None) ↔ ((j : ℕ) → k ≤ j → j < k + n → test j ≡ false)
unfolding first_of
first_missing test zero k = (λ e j g l. absurd (omega arith), λ none. refl)
first_missing test (suc n) k = pick (test k) refl (first_missing test n (suc k))
  where
    pick : (t : Bool) → test k ≡ t
        → (first_of test n (suc k) ≡ None) ↔ ((j : ℕ) → suc k ≤ j → j < suc k + n → test j ≡ false)
        → (cond t (Some k) (first_of test n (suc k)) ≡ None) ↔ ((j : ℕ) → k ≤ j → j < k + suc n → test j ≡ false)
    pick true d rest = (
      λ e. let q : ◌≡◌ {A = ℕ} 0 1 = cc in absurd (omega arith),
      λ none. true_false (test k) d (none k (omega arith) (omega arith)),
    )
    pick false d rest = (
      λ e j g l. fails_from test k j d g (λ o. rest.0 e j o (omega arith)),
      λ none. rest.1 (λ j g l. none j (omega arith) (omega arith)),
    )

-- ---- the least radius

above : (a c : ℕ) → leb a c ≡ false → ¬ (a ≤ c)
above a c e h = let l = leb-false a c e in absurd (omega arith)

not_below : (a c : ℕ) → ¬ (a ≤ c) → leb a c ≡ false
not_below a c h = lt-leb a c (omega arith)

pub found_is : (e : Option ℕ) → is_missing e ≡ false → e ≡ Some (radius_of e)
found_is (Some r) h = refl
found_is None h = absurd (true≢false h)

module _ (M m b : ℕ) where
  pub test_holds : (k : ℕ) → radius_satisfies M m b k ≡ true → RadiusSatisfies M m b k
  test_holds k e = leb-true _ _ e

  pub test_fails : (k : ℕ) → radius_satisfies M m b k ≡ false → ¬ RadiusSatisfies M m b k
  test_fails k e = above _ _ e

  fails_test : (k : ℕ) → ¬ RadiusSatisfies M m b k → radius_satisfies M m b k ≡ false
  fails_test k h = not_below _ _ h

  pub least_found : (r : ℕ) → least_radius M m b ≡ Some r → IsLeast M m b r
  unfolding least_radius
  least_found r e =
      let f = first_found _ _ _ r e in record {
        within = omega (arith, f.below_end);
        satisfies = test_holds r f.passes;
        least = λ k l. test_fails k (f.first k (omega arith) l);
      }

  pub least_is : (r : ℕ) → IsLeast M m b r → least_radius M m b ≡ Some r
  unfolding least_radius
  least_is r i =
      first_is _ _ _ r (record {
        from = omega arith;
        below_end = omega (arith, i.within);
        passes = le-leb _ _ i.satisfies;
        first = λ k g l. fails_test k (i.least k l);
      })

  -- none exactly if no r from 0 to S satisfies
  pub least_missing : (least_radius M m b ≡ None) ↔ ((r : ℕ) → r ≤ scale → ¬ RadiusSatisfies M m b r)
  unfolding least_radius
  least_missing = (
    λ e r h. test_fails r ((first_missing _ _ _).0 e r (omega arith) (omega arith)),
    λ none. (first_missing _ _ _).1 (λ r g h. fails_test r (none r (omega arith))),
  )
