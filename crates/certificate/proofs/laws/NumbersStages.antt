-- A root test up to N and b, place by place. `len` is the length of the scratch.
use Rattle.std.specs.Prelude.{◌≡◌, true, false, List, ℕ, ◌*◌, ◌≤◌, ◌<◌, ℤ, pos}
use Rattle.std.specs.Int.Signed.{le_z}
use borrow.Author.Tests.{lt-ltb, le-ltb, le-leb, lt-leb}
use Rattle.integer.specs.definitions.Rounding.{upℕ}
use Rattle.chebyshev.specs.definitions.Coefficients.{weight, coefficient_sum}
use Rattle.model.specs.definitions.Models.{scale, max_radius, good, fault}
use Rattle.model.specs.definitions.Outcomes.{accepted, refused, passing}
use Rattle.model.specs.declared.types.Candidate.{Candidate}
use Rattle.model.specs.declared.types.Model.{Model}
use Rattle.certificate.specs.definitions.Tests.{scratch_size, displacement, placed}
use Rattle.certificate.specs.definitions.Root.{root_places, root_contraction, root_residual}
use Rattle.certificate.specs.definitions.InnerContracts.{RootReady, make_reach, zero_reach, root_reach}

module _ (len : ℕ) (f : Model) (h w : Candidate) where
  pub numbers_short : len < scratch_size → root_reach len f h w ≡ refused 1 zero_reach
  unfolding root_reach root_places passing
  numbers_short e = rw (lt-ltb len scratch_size e)

  -- a scratch that is long enough plays no further part
  pub numbers_room : scratch_size ≤ len → root_reach len f h w ≡ root_reach scratch_size f h w
  unfolding root_reach root_places
  numbers_room room = rw (le-ltb len scratch_size room)

-- "each model, in operand order, h then w"
module _ (f : Model) (h w : Candidate) where
  pub numbers_bad_f : good f ≡ false → root_reach scratch_size f h w ≡ refused (fault f) zero_reach
  unfolding root_reach root_places passing
  numbers_bad_f e = rw e

  module _ (good_f : good f ≡ true) where
    pub numbers_bad_h : good (placed f h) ≡ false → root_reach scratch_size f h w ≡ refused (fault (placed f h)) zero_reach
    unfolding root_reach root_places passing
    numbers_bad_h e = rw (good_f, e)

    pub numbers_bad_w : good (placed f h) ≡ true → good (placed f w) ≡ false → root_reach scratch_size f h w ≡ refused (fault (placed f w)) zero_reach
    unfolding root_reach root_places passing
    numbers_bad_w good_h e = rw (good_f, good_h, e)

-- where all are good: from the helper's sign on, where m is 01's m, n its N, and so on
module _ {part : List ℤ} {f : Model} {h w : Candidate} (r : RootReady part f h w) where
  pub numbers_helper : le_z (coefficient_sum w.coefficients) (pos 0) ≡ true → root_reach scratch_size f h w ≡ refused 7 zero_reach
  unfolding root_reach root_places passing
  numbers_helper e = rw (r.good_f, r.good_h, r.good_w, e)

  module _ (positive : le_z (coefficient_sum w.coefficients) (pos 0) ≡ false) (m : ℕ) (is_m : m ≡ root_contraction (placed f h) (placed f w)) where
    pub numbers_not_contracting : scale ≤ m → root_reach scratch_size f h w ≡ refused 5 zero_reach
    unfolding root_reach root_places passing
    numbers_not_contracting e = rw (← is_m, r.good_f, r.good_h, r.good_w, positive, le-leb scale m e)

    module _ (contracting : m < scale) (n : ℕ) (is_n : n ≡ root_residual f (placed f h)) where
      pub numbers_large_residual : max_radius < n → root_reach scratch_size f h w ≡ refused 6 zero_reach
      unfolding root_reach root_places passing
      numbers_large_residual e =
          rw (← is_m, ← is_n, r.good_f, r.good_h, r.good_w, positive, lt-leb scale m contracting, lt-ltb max_radius n e)

      pub numbers_reached : n ≤ max_radius → (M b : ℕ) → M ≡ weight w.coefficients → b ≡ upℕ (M * n) scale
          → root_reach scratch_size f h w ≡ accepted (make_reach M m n b)
      unfolding root_reach root_places passing displacement
      numbers_reached small M b is_M is_b =
          rw (is_b, is_M, ← is_m, ← is_n, r.good_f, r.good_h, r.good_w, positive, lt-leb scale m contracting, le-ltb max_radius n small)
