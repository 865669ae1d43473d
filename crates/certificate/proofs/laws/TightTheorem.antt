-- Document 02, S-22: command 0x22. "Once the sign of w, m and N have passed, it is refused exactly if no such r exists. Where both
-- commands accept the same candidates, its radius is never the larger."
use Rattle.std.specs.Prelude.{◌≡◌, refl, ◌↔◌, true, ℕ, ◌+◌, ◌*◌, ◌-◌, ◌≤◌, ◌<◌, pos, Option, Some, None}
use Rattle.std.proofs.Common.{sym, ◌∙◌, ap, subst, arith}
use Rattle.std.proofs.Math.Decide.{dec_le}
use Rattle.ring.proofs.laws.Order.{ℤ_ordered, pos-le, le-pos}
use Rattle.integer.proofs.laws.RoundingLaws.{le-upℕ}
use Rattle.chebyshev.specs.definitions.Coefficients.{weight}
use Rattle.model.specs.definitions.Models.{scale, good}
use Rattle.model.specs.definitions.Outcomes.{accepted}
use Rattle.model.proofs.laws.PlaceLaws.{refused_not_accepted}
use Rattle.radius.specs.definitions.LeastRadius.{least_radius, radius_of, IsLeast}
use Rattle.radius.proofs.laws.LeastLaws.{least_found, least_is, least_missing}
use Rattle.model.specs.declared.types.Candidate.{Candidate}
use Rattle.model.specs.declared.types.Model.{Model}
use Rattle.certificate.specs.definitions.Tests.{scratch_size, with_radius, Certificate, make_certificate, placed, refused_test}
use Rattle.certificate.specs.definitions.Root.{root_model, root_contraction, root_residual, root_certificate, root_test}
use Rattle.certificate.specs.definitions.TwoSums.{root_m, root_b, RootNumbersHold, root_given, TightSatisfies, TightHolds}
use Rattle.certificate.specs.declared.types.RootRule.TheVariants.{ByDiscriminant, ByLeastRadius}
use Rattle.certificate.proofs.laws.LeastAlgebra.{smaller_fits, discriminant_by}
use Rattle.certificate.proofs.laws.RootConditions.{RootConditions, root_displacement, root_passes, root_result_lem}
use Rattle.certificate.proofs.laws.RootRadius.{root_fits}
use Rattle.certificate.proofs.laws.RootEnd.{least_refused, end_refused}
use Rattle.certificate.proofs.laws.RootStages.{root_behind}
use Rattle.certificate.proofs.laws.RootTheorem.{numbers_hold, contraction_is, displacement_is, rule_accepted, rule_accepted_only}

-- ---- beside 0x21, on the same candidates

-- every number from 0x21's radius up to one that satisfies does so too
smaller : (M k b r s : ℕ) → 0 < k → s < r → 2 * b * scale ≤ s * k → 8 * b * M ≤ k * k
    → 2 * M * (r * r) + b * (scale * scale) ≤ k * scale * r → 2 * M * (s * s) + b * (scale * scale) ≤ k * scale * s
smaller M k b r s positive less radius discriminant fits =
    le-pos (2 * M * (s * s) + b * (scale * scale)) (k * scale * s)
    (smaller_fits ℤ_ordered (pos scale) (pos M) (pos b) (pos k) (pos r) (pos s)
    (pos-le 0 M (omega arith))
    (pos-le 0 b (omega arith))
    (λ l. absurd (omega (arith, le-pos k 0 l)))
    (pos-le s r (omega arith))
    (λ l. absurd (omega (arith, le-pos r s l)))
    (pos-le (2 * b * scale) (s * k) radius)
    (pos-le (8 * b * M) (k * k) discriminant)
    (pos-le (2 * M * (r * r) + b * (scale * scale)) (k * scale * r) fits))

-- so the least is at most 0x21's radius
least_at_most : (M m b r s : ℕ) → m < scale → 2 * b * scale ≤ s * (scale - m) → IsLeast M m b r → r ≤ s
least_at_most M m b r s contracting radius least = pick (dec_le r s)
  where
    pick : Dec (r ≤ s) → r ≤ s
    pick (yes l) = l
    pick (no l) =
        let less : s < r = omega arith in
        absurd
        (least.least s less
        (smaller M (scale - m) b r s (omega (arith, contracting)) less radius
        (discriminant_by M (scale - m) b r least.satisfies) least.satisfies))

module _ (len : ℕ) (f : Model) (h w : Candidate) {c : Certificate} (passed : root_test ByLeastRadius len f h w ≡ accepted c) where
  conditions : RootConditions ByLeastRadius len f h w
  conditions = (root_passes ByLeastRadius len f h w passed).0

  implied : RootConditions ByDiscriminant len f h w
  implied = record {
    numbers = conditions.numbers;
    holds = discriminant_by (weight w.coefficients) (scale - root_contraction (placed f h) (placed f w)) (root_displacement f h w) _ conditions.holds.satisfies;
  }

  -- where 0x22 accepts, 0x21 does
  pub tight_implies_root : root_test ByDiscriminant len f h w ≡ accepted (root_certificate ByDiscriminant f h w)
  tight_implies_root = root_result_lem ByDiscriminant len f h w implied (root_fits len f h w ByDiscriminant implied)

  module _ (len' : ℕ) {d : Certificate} (other : root_test ByDiscriminant len' f h w ≡ accepted d) where
    -- where both accept, whatever the scratch of each, 0x22's radius is never the larger
    pub tight_not_larger : c.model.radius ≤ d.model.radius
    unfolding root_model
    tight_not_larger =
        rw ((root_passes ByLeastRadius len f h w passed).2, (root_passes ByDiscriminant len' f h w other).2)
        (least_at_most (weight w.coefficients) (root_contraction (placed f h) (placed f w)) (root_displacement f h w) _ _ conditions.numbers.contraction
        (le-upℕ (2 * root_displacement f h w * scale) (scale - root_contraction (placed f h) (placed f w)) (omega (arith, conditions.numbers.contraction)))
        conditions.holds)

    -- and all else is the same
    pub tight_same_but_radius : make_certificate (with_radius c.model 0) c.m c.N c.b ≡ make_certificate (with_radius d.model 0) d.m d.N d.b
    unfolding root_model
    tight_same_but_radius = rw ((root_passes ByLeastRadius len f h w passed).2, (root_passes ByDiscriminant len' f h w other).2)

-- ---- with C( , ) formed by its two sums

module _ (len : ℕ) (f : Model) (h w : Candidate) (enough : scratch_size ≤ len) (gf : good f ≡ true) (gh : good (placed f h) ≡ true) (gw : good (placed f w) ≡ true) where
  -- the candidates on f's interval
  abbrev h' : Model
  h' = placed f h

  abbrev w' : Model
  w' = placed f w

  abbrev M : ℕ
  M = weight w.coefficients

  -- accepted with radius r where r is the least that satisfies
  pub tight_accepted : (r : ℕ) → TightHolds f h' w' r → root_test ByLeastRadius len f h w ≡ accepted (root_given f h' w' r)
  tight_accepted r t =
      let same : radius_of (least_radius M (root_m h' w') (root_b f h' w')) ≡ r = ap radius_of (least_is M (root_m h' w') (root_b f h' w') r t.1) in
      rule_accepted len f h w enough gf gh gw ByLeastRadius (t.0, subst (IsLeast M (root_m h' w') (root_b f h' w')) (sym same) t.1)
      ∙ ap (λ (k : ℕ). accepted (root_given f h' w' k)) same

  -- and only there
  pub tight_accepted_only : {c : Certificate} → root_test ByLeastRadius len f h w ≡ accepted c
      → TightHolds f h' w' c.model.radius × (c ≡ root_given f h' w' c.model.radius)
  tight_accepted_only e =
      let (t, same) = rule_accepted_only len f h w enough gf gh gw ByLeastRadius e in (rw same t, rw same)

  -- where the sign of w, m and N have passed
  module _ (numbers : RootNumbersHold f h' w') where
    abbrev least : Option ℕ
    least = least_radius M (root_m h' w') (root_b f h' w')

    -- no such r exists
    abbrev none : Type 0
    none = (r : ℕ) → r ≤ scale → ¬ TightSatisfies f h' w' r

    -- then 17
    pub tight_none : none → root_test ByLeastRadius len f h w ≡ refused_test 17
    tight_none n =
        root_behind len f h w ByLeastRadius ((numbers_hold len f h w enough gf gh gw).1 numbers)
        ∙ end_refused ByLeastRadius h' M (root_contraction h' w') (root_residual f h') (root_displacement f h w)
        (least_refused M (root_contraction h' w') (root_displacement f h w) (rw (contraction_is h' w' gh gw, displacement_is len f h w enough gf gh gw) ((least_missing M (root_m h' w') (root_b f h' w')).1 n)))

    -- "it is refused exactly if no such r exists"
    pub tight_refused : ((k : ℕ) × (root_test ByLeastRadius len f h w ≡ refused_test k)) ↔ none
    tight_refused = (λ e. pick least refl e.0 e.1, λ n. (17, tight_none n))
      where
        pick : (e : Option ℕ) → least ≡ e → (k : ℕ) → root_test ByLeastRadius len f h w ≡ refused_test k → none
        pick None e k refused = (least_missing M (root_m h' w') (root_b f h' w')).0 e
        pick (Some r) e k refused =
            absurd (refused_not_accepted (sym refused ∙ tight_accepted r (numbers, least_found M (root_m h' w') (root_b f h' w') r e)))
