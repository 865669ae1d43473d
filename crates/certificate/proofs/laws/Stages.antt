-- The answers of the tests by their parts, and what their places share: the scratch, models and candidates, the result.
use Rattle.std.specs.Prelude.{◌≡◌, Bool, true, false, cond, ◌≢◌, List, ◌++◌, ℕ, ◌*◌, ◌^◌, ◌≤◌, ◌<◌, ltb, ℤ, length, take, drop}
use Rattle.std.proofs.Math.Path.{refl}
use Rattle.std.proofs.Common.{sym, ◌∙◌, ap, arith, mul-le-mul, le_refl, length-append, length-drop, length-take-le, drop_at}
use Rattle.std.proofs.Math.Bool.{or-false, and-true}
use borrow.Author.Tests.{ltb-true, ltb-false, le-ltb, le-leb, lt-leb}
use Rattle.integer.specs.definitions.Lists.{zeros}
use Rattle.integer.specs.definitions.Rounding.{upℕ}
use Rattle.integer.proofs.laws.RoundingLaws.{upℕ_least}
use Rattle.integer.proofs.laws.Clearing.{length-zeros}
use Rattle.chebyshev.specs.definitions.Coefficients.{weight}
use Rattle.integer.proofs.laws.Machine.{both_true}
use Rattle.model.specs.definitions.Models.{scale, max_degree, max_weight, max_radius, parts_within_limits, within_limits, good, fault, too_large, candidate_model}
use Rattle.model.specs.definitions.Intervals.{good_ends, standard_interval}
use Rattle.model.specs.definitions.Multiply.{product_list}
use Rattle.model.specs.declared.types.Interval.{Interval}
use Rattle.model.specs.declared.types.Candidate.{Candidate}
use Rattle.model.proofs.laws.ModelLaws.{good_is}
use Rattle.model.specs.declared.types.Model.{Model}
use Rattle.certificate.specs.definitions.Tests.{with_radius, scratch_size, scratch_after}
use Rattle.certificate.specs.definitions.Quotient.{quotient_needing, quotient_test, quotient_contraction, quotient_residual}
use Rattle.certificate.specs.definitions.InnerContracts.{standard_candidate}
use Rattle.certificate.specs.definitions.Root.{root_needing, root_test, root_contraction, root_residual}
use Rattle.certificate.specs.declared.types.RootRule.{RootRule}

-- ---- the place of the result

-- of a good model with another radius only the radius can be too large
pub large_radius : (h : Model) (r : ℕ) → good h ≡ true → too_large (with_radius h r) ≡ ltb max_radius r
unfolding too_large
large_radius h r g =
    let p = good_is h g in
    rw (le-ltb max_weight (weight h.coefficients) p.weight-fits, le-ltb max_degree h.degree p.degree_fits) (or-false (ltb max_radius r))

-- ---- b

pub displacement_bound : (M n : ℕ) → M ≤ max_weight → n ≤ max_radius → upℕ (M * n) scale ≤ 2 ^ 36
displacement_bound M n p q = upℕ_least (M * n) scale (2 ^ 36) (omega arith) (mul-le-mul p q)

-- ---- the scratch

pub scratch_short : (s : List ℤ) → length s < scratch_size → scratch_after s ≡ s
unfolding scratch_after
scratch_short s e = rw (lt-leb scratch_size (length s) e)

pub scratch_cleared : (s : List ℤ) → scratch_size ≤ length s → scratch_after s ≡ zeros scratch_size ++ drop scratch_size s
unfolding scratch_after zeros
scratch_cleared s e = rw (le-leb scratch_size (length s) e)

module _ (s : List ℤ) where
  -- the part that a test is lent
  pub scratch_first : scratch_size ≤ length s → length (take scratch_size s) ≡ scratch_size
  scratch_first room = length-take-le scratch_size s room

  -- a scratch stays as long as it was
  pub scratch_length : length (scratch_after s) ≡ length s
  scratch_length = go (ltb (length s) scratch_size) refl
    where
      go : (t : Bool) → ltb (length s) scratch_size ≡ t → length (scratch_after s) ≡ length s
      go true e = ap length (scratch_short s (ltb-true (length s) scratch_size e))
      go false e =
          let room = ltb-false (length s) scratch_size e in
          ap length (scratch_cleared s room) ∙ length-append (zeros scratch_size) (drop scratch_size s)
          ∙ omega (arith, room, length-zeros scratch_size, length-drop scratch_size s)

  -- whatever a call has left in its numbers Z
  pub scratch_again : (Z : List ℤ) → scratch_size ≤ length s → length Z ≡ scratch_size → scratch_after (Z ++ drop scratch_size s) ≡ scratch_after s
  scratch_again Z room e =
      scratch_cleared (Z ++ drop scratch_size s) (omega (arith, length-append Z (drop scratch_size s)))
      ∙ ap (λ (l : List ℤ). zeros scratch_size ++ l) (drop_at Z (drop scratch_size s) scratch_size e)
      ∙ sym (scratch_cleared s room)

  -- a second call finds it cleared
  pub scratch_twice : scratch_after (scratch_after s) ≡ scratch_after s
  scratch_twice = go (ltb (length s) scratch_size) refl
    where
      go : (t : Bool) → ltb (length s) scratch_size ≡ t → scratch_after (scratch_after s) ≡ scratch_after s
      go true e = ap scratch_after (scratch_short s (ltb-true (length s) scratch_size e))
      go false e =
          let room = ltb-false (length s) scratch_size e in
          ap scratch_after (scratch_cleared s room) ∙ scratch_again (zeros scratch_size) room (length-zeros scratch_size)

-- ---- a scratch that is long enough plays no further part, however long it has to be

module _ {need len need' len' : ℕ} (room : need ≤ len) (room' : need' ≤ len') where
  pub quotient_needs : (f g : Model) (h w : Candidate) → quotient_needing need len f g h w ≡ quotient_needing need' len' f g h w
  unfolding quotient_needing
  quotient_needs f g h w = rw (le-ltb len need room, le-ltb len' need' room')

  pub root_needs : (rule : RootRule) (f : Model) (h w : Candidate) → root_needing rule need len f h w ≡ root_needing rule need' len' f h w
  unfolding root_needing
  root_needs rule f h w = rw (le-ltb len need room, le-ltb len' need' room')

pub quotient_room : (len : ℕ) (f g : Model) (h w : Candidate) → scratch_size ≤ len → quotient_test len f g h w ≡ quotient_test scratch_size f g h w
quotient_room len f g h w room = quotient_needs room (le_refl scratch_size) f g h w

pub root_room : (rule : RootRule) (len : ℕ) (f : Model) (h w : Candidate) → scratch_size ≤ len → root_test rule len f h w ≡ root_test rule scratch_size f h w
root_room rule len f h w room = root_needs room (le_refl scratch_size) rule f h w

-- ---- models and candidates

-- a candidate on good ends is good where its size is, so that it is refused with 2 alone
pub candidate_good : (i : Interval) (c : Candidate) → good_ends i ≡ true → good (candidate_model i c) ≡ parts_within_limits c.degree c.coefficients 0
unfolding good
candidate_good i c e = rw e (and-true (parts_within_limits c.degree c.coefficients 0))

pub standard_good : (i : Interval) (c : Candidate) → good (candidate_model i c) ≡ true → good (standard_candidate c) ≡ true
unfolding good good_ends
standard_good i c e = candidate_good standard_interval c refl ∙ (both_true (parts_within_limits c.degree c.coefficients 0) _ e).0

pub candidate_fault : (i : Interval) (c : Candidate) → parts_within_limits c.degree c.coefficients 0 ≡ false → 2 ≡ fault (candidate_model i c)
candidate_fault i c e = rw e (by (good_ends i))
  where
    by : (t : Bool) → ◌≡◌ {A = ℕ} 2 (cond t 2 2)
    by true = refl
    by false = refl

pub fault_not : (m : Model) (n : ℕ) → 2 ≢ n → 18 ≢ n → fault m ≢ n
fault_not m n h k = by (good_ends m.interval) (within_limits m)
  where
    by : (s t : Bool) → cond s 2 (cond t 18 2) ≢ n
    by true t = h
    by false true = k
    by false false = h

-- m, N and b do not ask where T_k is taken
module _ (i : Interval) where
  pub quotient_contraction_standard : (g : Model) (w : Candidate) → quotient_contraction g (standard_candidate w) ≡ quotient_contraction g (candidate_model i w)
  unfolding quotient_contraction product_list
  quotient_contraction_standard g w = refl

  pub quotient_residual_standard : (f g : Model) (h : Candidate) → quotient_residual f g (standard_candidate h) ≡ quotient_residual f g (candidate_model i h)
  unfolding quotient_residual product_list
  quotient_residual_standard f g h = refl

  pub root_contraction_standard : (h w : Candidate) → root_contraction (standard_candidate h) (standard_candidate w) ≡ root_contraction (candidate_model i h) (candidate_model i w)
  unfolding root_contraction product_list
  root_contraction_standard h w = refl

  pub root_residual_standard : (f : Model) (h : Candidate) → root_residual f (standard_candidate h) ≡ root_residual f (candidate_model i h)
  unfolding root_residual product_list
  root_residual_standard f h = refl
