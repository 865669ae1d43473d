-- The answer of the quotient test, place by place. `len` is the length of the scratch.
use Rattle.std.specs.Prelude.{◌≡◌, true, false, List, ℕ, ◌*◌, ◌-◌, ◌≤◌, ◌<◌, ℤ}
use borrow.Author.Tests.{lt-ltb, le-ltb, le-leb, lt-leb}
use Rattle.integer.specs.definitions.Rounding.{upℕ}
use Rattle.chebyshev.specs.definitions.Coefficients.{weight}
use Rattle.model.specs.definitions.Models.{scale, max_radius, good, fault}
use Rattle.model.specs.definitions.Intervals.{same_interval}
use Rattle.model.specs.definitions.Outcomes.{passing}
use Rattle.model.specs.declared.types.Candidate.{Candidate}
use Rattle.model.specs.declared.types.Model.{Model}
use Rattle.certificate.specs.definitions.Tests.{scratch_size, displacement, placed, refused_test}
use Rattle.certificate.specs.definitions.Quotient.{quotient_test, quotient_needing, quotient_contraction, quotient_residual, quotient_model}
use Rattle.certificate.specs.definitions.InnerContracts.{QuotientReady, formed_test}

pub quotient_short : (len : ℕ) (f g : Model) (h w : Candidate) → len < scratch_size → quotient_test len f g h w ≡ refused_test 1
unfolding quotient_needing passing
quotient_short len f g h w e = rw (lt-ltb len scratch_size e)

-- "each model, in operand order, h then w", then the intervals
module _ (f g : Model) (h w : Candidate) where
  pub quotient_bad_f : good f ≡ false → quotient_test scratch_size f g h w ≡ refused_test (fault f)
  unfolding quotient_needing passing
  quotient_bad_f e = rw e

  module _ (good_f : good f ≡ true) where
    pub quotient_bad_g : good g ≡ false → quotient_test scratch_size f g h w ≡ refused_test (fault g)
    unfolding quotient_needing passing
    quotient_bad_g e = rw (good_f, e)

    module _ (good_g : good g ≡ true) where
      pub quotient_bad_h : good (placed f h) ≡ false → quotient_test scratch_size f g h w ≡ refused_test (fault (placed f h))
      unfolding quotient_needing passing
      quotient_bad_h e = rw (good_f, good_g, e)

      module _ (good_h : good (placed f h) ≡ true) where
        pub quotient_bad_w : good (placed f w) ≡ false → quotient_test scratch_size f g h w ≡ refused_test (fault (placed f w))
        unfolding quotient_needing passing
        quotient_bad_w e = rw (good_f, good_g, good_h, e)

        pub quotient_different : good (placed f w) ≡ true → same_interval f.interval g.interval ≡ false → quotient_test scratch_size f g h w ≡ refused_test 19
        unfolding quotient_needing passing
        quotient_different good_w e = rw (good_f, good_g, good_h, good_w, e)

-- where all are good: from m on, where m is 01's m, n its N, and so on
module _ {part : List ℤ} {f g : Model} {h w : Candidate} (r : QuotientReady part f g h w) (m : ℕ) (is_m : m ≡ quotient_contraction g (placed f w)) where
  pub quotient_not_contracting : scale ≤ m → quotient_test scratch_size f g h w ≡ refused_test 5
  unfolding quotient_needing passing
  quotient_not_contracting e = rw (← is_m, r.good_f, r.good_g, r.good_h, r.good_w, r.same_interval_lem, le-leb scale m e)

  module _ (contracting : m < scale) (n : ℕ) (is_n : n ≡ quotient_residual f g (placed f h)) where
    pub quotient_large_residual : max_radius < n → quotient_test scratch_size f g h w ≡ refused_test 6
    unfolding quotient_needing passing
    quotient_large_residual e =
        rw (← is_m, ← is_n, r.good_f, r.good_g, r.good_h, r.good_w, r.same_interval_lem, lt-leb scale m contracting, lt-ltb max_radius n e)

    pub quotient_formed : n ≤ max_radius → (M b e : ℕ)
        → M ≡ weight w.coefficients → b ≡ upℕ (M * n) scale → e ≡ upℕ (b * scale) (scale - m)
        → quotient_test scratch_size f g h w ≡ formed_test (placed f h) e m n b
    unfolding quotient_needing passing quotient_model displacement
    quotient_formed small M b e is_M is_b is_e =
        rw (is_e, is_b, is_M, ← is_m, ← is_n, r.good_f, r.good_g, r.good_h, r.good_w, r.same_interval_lem, lt-leb scale m contracting, le-ltb max_radius n small)
