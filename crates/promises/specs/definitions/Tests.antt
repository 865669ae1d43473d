-- Requirement 2 and 01, "The two tests", with 02, S-17, S-22 and S-24: when candidates are accepted, with what, and what an
-- accepted result means. The list C( , ) is formed by its two sums (`quotient_m` and the others); h and w stand on their
-- operand's interval.
use Rattle.std.specs.Prelude.{◌≡◌, true, ◌↔◌, ◌⊎◌, ℕ, ◌+◌, ◌*◌, ◌-◌, ◌^◌, ◌≤◌, ◌<◌, pos, ◌<ℤ◌}
use Rattle.fraction.specs.definitions.Fraction.{ℚ, whole, ◌*ℚ◌, ◌/ℚ◌, ◌≤ℚ◌, ◌<ℚ◌}
use Rattle.chebyshev.specs.definitions.Coefficients.{weight, coefficient_sum}
use Rattle.model.specs.definitions.Intervals.{same_interval}
use Rattle.model.specs.definitions.Models.{scale, good, make_model}
use Rattle.model.specs.definitions.Outcomes.{accepted, refused, number}
use Rattle.model.specs.definitions.Allowed.{Allows, OnInterval}
use Rattle.model.specs.definitions.Integrate.{integration}
use Rattle.model.specs.definitions.Strips.{Chooses, StripsWithin}
use Rattle.model.specs.declared.types.Candidate.{Candidate}
use Rattle.model.specs.declared.types.Model.{Model}
use Rattle.certificate.specs.definitions.Tests.{scratch_size, placed, Certificate, make_certificate, zero_certificate}
use Rattle.certificate.specs.definitions.Quotient.{quotient_test, quotient_needing}
use Rattle.certificate.specs.definitions.Root.{root_test, root_needing}
use Rattle.certificate.specs.definitions.TwoSums.{quotient_m, quotient_N, quotient_b, quotient_radius}
use Rattle.certificate.specs.definitions.TwoSums.{root_m, root_N, root_b, root_radius}
use Rattle.certificate.specs.definitions.Groups.{quotient_in_groups, root_in_groups}
use Rattle.certificate.specs.declared.types.RootRule.{RootRule}
use Rattle.certificate.specs.declared.types.RootRule.TheVariants.{ByDiscriminant, ByLeastRadius}

-- ---- requirement 2

-- "For good models, good candidates and enough scratch"
pub record GoodQuotient (len : ℕ) (f g : Model) (h w : Candidate) : Type 0 where
  pub enough : scratch_size ≤ len
  pub good_f : good f ≡ true
  pub good_g : good g ≡ true
  pub good_h : good (placed f h) ≡ true
  pub good_w : good (placed f w) ≡ true
  -- 02, S-24: "two operands on different intervals, which requirement 2 doesn't count as good models together"
  pub same : same_interval f.interval g.interval ≡ true

pub record GoodRoot (len : ℕ) (f : Model) (h w : Candidate) : Type 0 where
  pub enough : scratch_size ≤ len
  pub good_f : good f ≡ true
  pub good_h : good (placed f h) ≡ true
  pub good_w : good (placed f w) ≡ true

-- "The test: m < S and N ≤ 2^28.", and "that radius is within 2^28"
abbrev pub QuotientPasses : Model → Model → Candidate → Candidate → Type 0
QuotientPasses f g h w =
    (quotient_m g (placed f w) < scale)
    × (quotient_N f g (placed f h) ≤ 2 ^ 28)
    × (quotient_radius f g (placed f h) (placed f w) ≤ 2 ^ 28)

-- "Σ w_k > 0, m < S, N ≤ 2^28"
abbrev pub RootNumbersPass : Model → Candidate → Candidate → Type 0
RootNumbersPass f h w =
    (pos 0 <ℤ coefficient_sum w.coefficients)
    × (root_m (placed f h) (placed f w) < scale)
    × (root_N f (placed f h) ≤ 2 ^ 28)

-- "(S−m)² ≥ 8·b·M"
abbrev pub RootPasses : Model → Candidate → Candidate → Type 0
RootPasses f h w =
    RootNumbersPass f h w
    × (8 * root_b f (placed f h) (placed f w) * weight w.coefficients
    ≤ (scale - root_m (placed f h) (placed f w)) * (scale - root_m (placed f h) (placed f w)))

-- 02, S-22: "2·M·r² + b·S² ≤ (S−m)·S·r"
abbrev pub Satisfies : Model → Candidate → Candidate → ℕ → Type 0
Satisfies f h w r =
    2 * weight w.coefficients * (r * r) + root_b f (placed f h) (placed f w) * (scale * scale)
    ≤ (scale - root_m (placed f h) (placed f w)) * scale * r

-- "Result h with radius" e, and m, N and b
abbrev pub quotient_result : Model → Model → Candidate → Candidate → ℕ → Certificate
quotient_result f g h w e =
    make_certificate (make_model h.degree h.coefficients e f.interval)
    (quotient_m g (placed f w))
    (quotient_N f g (placed f h))
    (quotient_b f g (placed f h) (placed f w))

abbrev pub root_result : Model → Candidate → Candidate → ℕ → Certificate
root_result f h w e =
    make_certificate (make_model h.degree h.coefficients e f.interval)
    (root_m (placed f h) (placed f w))
    (root_N f (placed f h))
    (root_b f (placed f h) (placed f w))

-- "a quotient or root candidate is accepted, with exactly the stated radius, if its published test holds in those whole numbers
-- and that radius is within 2^28; otherwise it is refused."
pub record Requirement2 : Type 0 where
  pub quotient_accepted : (len : ℕ) (f g : Model) (h w : Candidate) → GoodQuotient len f g h w → (c : Certificate)
      → (quotient_test len f g h w ≡ accepted c)
      ↔ (QuotientPasses f g h w × (c ≡ quotient_result f g h w (quotient_radius f g (placed f h) (placed f w))))
  pub quotient_refused : (len : ℕ) (f g : Model) (h w : Candidate) → GoodQuotient len f g h w
      → ((n : ℕ) × (quotient_test len f g h w ≡ refused n zero_certificate)) ↔ (¬ QuotientPasses f g h w)
  pub root_accepted : (len : ℕ) (f : Model) (h w : Candidate) → GoodRoot len f h w → (c : Certificate)
      → (root_test ByDiscriminant len f h w ≡ accepted c)
      ↔ (RootPasses f h w × (c ≡ root_result f h w (root_radius f (placed f h) (placed f w))))
  pub root_refused : (len : ℕ) (f : Model) (h w : Candidate) → GoodRoot len f h w
      → ((n : ℕ) × (root_test ByDiscriminant len f h w ≡ refused n zero_certificate)) ↔ (¬ RootPasses f h w)
  -- 01: "which these limits keep at or below 2^27"
  pub root_radius_lem : (len : ℕ) (f : Model) (h w : Candidate) → GoodRoot len f h w → RootPasses f h w
      → root_radius f (placed f h) (placed f w) ≤ 2 ^ 27

-- ---- 02, S-22

pub record TighterRoots : Type 0 where
  -- "Its radius is the least whole r from 0 to S with" that
  pub tight_accepted : (len : ℕ) (f : Model) (h w : Candidate) → GoodRoot len f h w → (c : Certificate)
      → (root_test ByLeastRadius len f h w ≡ accepted c)
      ↔ (RootNumbersPass f h w
      × (r : ℕ) × (r ≤ scale) × Satisfies f h w r × ((k : ℕ) → k < r → ¬ Satisfies f h w k) × (c ≡ root_result f h w r))
  -- "Once the sign of w, m and N have passed, it is refused exactly if no such r exists." "(Number 17: no such r, …)"
  pub tight_refused : (len : ℕ) (f : Model) (h w : Candidate) → GoodRoot len f h w → RootNumbersPass f h w
      → (root_test ByLeastRadius len f h w ≡ refused 17 zero_certificate) ↔ ((r : ℕ) → r ≤ scale → ¬ Satisfies f h w r)
  pub tight_refused_with_17 : (len : ℕ) (f : Model) (h w : Candidate) → GoodRoot len f h w → RootNumbersPass f h w
      → (n : ℕ) → root_test ByLeastRadius len f h w ≡ refused n zero_certificate → n ≡ 17
  -- "Where both commands accept the same candidates, its radius is never the larger.", and nothing else differs
  pub tight_not_larger : (len len' : ℕ) (f : Model) (h w : Candidate) (c d : Certificate)
      → root_test ByLeastRadius len f h w ≡ accepted c → root_test ByDiscriminant len' f h w ≡ accepted d
      → c.model.radius ≤ d.model.radius
  pub tight_same_but_radius : (len len' : ℕ) (f : Model) (h w : Candidate) (c d : Certificate)
      → root_test ByLeastRadius len f h w ≡ accepted c → root_test ByDiscriminant len' f h w ≡ accepted d
      → (c.model.degree ≡ d.model.degree) × (c.model.coefficients ≡ d.model.coefficients)
      × (c.model.interval ≡ d.model.interval) × (c.m ≡ d.m) × (c.N ≡ d.N) × (c.b ≡ d.b)
  -- where 0x22 accepts, 0x21 does
  pub tight_implies_root : (len : ℕ) (f : Model) (h w : Candidate) (c : Certificate)
      → root_test ByLeastRadius len f h w ≡ accepted c
      → (d : Certificate) × (root_test ByDiscriminant len f h w ≡ accepted d)
  -- 3 is met by neither
  pub root_never_large : (rule : RootRule) (len : ℕ) (f : Model) (h w : Candidate) → ¬ (number (root_test rule len f h w) ≡ 3)

-- ---- what an accepted result means, "at fractions of its own interval"

pub record SoundTests : Type 0 where
  pub quotient_sound : (len : ℕ) (f g : Model) (h w : Candidate) (c : Certificate) → quotient_test len f g h w ≡ accepted c
      → (x u v : ℚ) → OnInterval f.interval x → Allows f x u → Allows g x v → Allows c.model x (u /ℚ v)
  -- "no value that the divisor's model allows there is zero"
  pub quotient_nonzero : (len : ℕ) (f g : Model) (h w : Candidate) (c : Certificate) → quotient_test len f g h w ≡ accepted c
      → (x v : ℚ) → OnInterval f.interval x → Allows g x v → ¬ (v ≡ whole (pos 0))
  -- "no value that the model under the root allows there is negative", nor zero
  pub root_positive : (rule : RootRule) (len : ℕ) (f : Model) (h w : Candidate) (c : Certificate)
      → root_test rule len f h w ≡ accepted c
      → (x v : ℚ) → OnInterval f.interval x → Allows f x v → whole (pos 0) <ℚ v
  -- the root of an allowed value is allowed
  pub root_sound : (rule : RootRule) (len : ℕ) (f : Model) (h w : Candidate) (c : Certificate)
      → root_test rule len f h w ≡ accepted c
      → (x v y : ℚ) → OnInterval f.interval x → Allows f x v → whole (pos 0) ≤ℚ y → y *ℚ y ≡ v → Allows c.model x y
  -- and whether it is a fraction or not, every box of 01's rule around it holds a value that is allowed
  pub root_overlap : (rule : RootRule) (len : ℕ) (f : Model) (h w : Candidate) (c : Certificate)
      → root_test rule len f h w ≡ accepted c
      → (x v : ℚ) → OnInterval f.interval x → Allows f x v
      → (low high l u : ℚ) → (low ≡ whole (pos 0)) ⊎ ((whole (pos 0) <ℚ low) × (low *ℚ low ≤ℚ l))
      → whole (pos 0) ≤ℚ high → u ≤ℚ high *ℚ high → low ≤ℚ high → l ≤ℚ v → v ≤ℚ u
      → (r : ℚ) × (low ≤ℚ r) × (r ≤ℚ high) × Allows c.model x r
  -- 02, S-24: "A candidate has its operand's interval."
  pub quotient_interval : (len : ℕ) (f g : Model) (h w : Candidate) (c : Certificate) → quotient_test len f g h w ≡ accepted c
      → (c.model.interval ≡ f.interval) × (c.model.interval ≡ g.interval)
  pub root_interval : (rule : RootRule) (len : ℕ) (f : Model) (h w : Candidate) (c : Certificate)
      → root_test rule len f h w ≡ accepted c → c.model.interval ≡ f.interval
  -- 02, S-8: "A customer integrates a feed which is itself a certified quotient": the quotient of any values that f and g allow
  -- is what is summed over strips
  pub quotient_integrated : (len : ℕ) (f g : Model) (h w : Candidate) (q : Certificate) → quotient_test len f g h w ≡ accepted q
      → (c : Model) → integration q.model ≡ accepted c → (u v : ℚ → ℚ) → Chooses f u → Chooses g v
      → (x : ℚ) → OnInterval f.interval x → (k : ℕ) → 0 < k → StripsWithin q.model c (λ y. u y /ℚ v y) x k
  -- an accepted result is a good model
  pub quotient_good : (len : ℕ) (f g : Model) (h w : Candidate) (c : Certificate) → quotient_test len f g h w ≡ accepted c
      → good c.model ≡ true
  pub root_good : (rule : RootRule) (len : ℕ) (f : Model) (h w : Candidate) (c : Certificate)
      → root_test rule len f h w ≡ accepted c
      → good c.model ≡ true

-- ---- 02, S-17

-- "With 16 or more, answers agree with those that 65 gave on the same other input, which is to be shown for any group length of
-- one or more. Number 1 is now given below 16": whole outcomes, refusals included
pub record GroupLengths : Type 0 where
  pub quotient_groups_as_65 : (size len former : ℕ) → 0 < size → 16 ≤ len → 65 ≤ former → (f g : Model) (h w : Candidate)
      → quotient_in_groups size 16 len f g h w ≡ quotient_needing 65 former f g h w
  pub quotient_as_65 : (len former : ℕ) → 16 ≤ len → 65 ≤ former → (f g : Model) (h w : Candidate)
      → quotient_test len f g h w ≡ quotient_needing 65 former f g h w
  pub quotient_below_16 : (len : ℕ) → len < 16 → (f g : Model) (h w : Candidate)
      → quotient_test len f g h w ≡ refused 1 zero_certificate
  pub root_groups_as_65 : (rule : RootRule) (size len former : ℕ) → 0 < size → 16 ≤ len → 65 ≤ former
      → (f : Model) (h w : Candidate)
      → root_in_groups rule size 16 len f h w ≡ root_needing rule 65 former f h w
  pub root_as_65 : (rule : RootRule) (len former : ℕ) → 16 ≤ len → 65 ≤ former → (f : Model) (h w : Candidate)
      → root_test rule len f h w ≡ root_needing rule 65 former f h w
  pub root_below_16 : (rule : RootRule) (len : ℕ) → len < 16 → (f : Model) (h w : Candidate)
      → root_test rule len f h w ≡ refused 1 zero_certificate
