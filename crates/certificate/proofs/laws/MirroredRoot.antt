-- Document 02, S-11, of the root tests, by either rule: "A mirrored crown must give mirrored models". An accepted root is accepted
-- mirrored, with the same m, N, b and radius. Whole outcomes need not agree: Σ w_k is w at the upper end, of the mirror at the lower
-- one, so that a refused root may have 7 for 5, or 5 for 7.
use Rattle.std.specs.Prelude.{◌≡◌, refl, [], ◌∷◌, ℕ, ◌+◌, ◌*◌, ℤ, pos, ◌<ℤ◌}
use Rattle.std.proofs.Common.{sym, ◌∙◌, ap}
use Rattle.fraction.specs.definitions.Fraction.{whole, -ℚ◌}
use Rattle.integer.specs.definitions.FractionRing.{ℚ_ring}
use Rattle.ring.specs.definitions.Integer.{ℤ_ring}
use Rattle.integer.specs.definitions.Rounding.{upℕ}
use Rattle.integer.proofs.laws.Embedding.{ι_abs}
use Rattle.integer.proofs.laws.FractionOrder.{ℚ_ordered, whole_le}
use Rattle.integer.proofs.laws.FractionSolver.{solveℚ, reifyℚ}
use Rattle.ring.proofs.laws.Order.{not_le→lt}
use Rattle.ring.proofs.laws.OrderedRingLaws.{le_of_eq, abs_neg}
use Rattle.chebyshev.specs.definitions.Coefficients.{coefficient_sum, scale_list}
use Rattle.chebyshev.specs.definitions.Negation.{odd}
use Rattle.chebyshev.proofs.laws.NegationLaws.{signs_odd, difference-weight, scale-negated, constant-negated}
use Rattle.chebyshev.proofs.laws.NegationValues.{value_mirrored}
use Rattle.chebyshev.proofs.laws.Sign.{value_one}
use Rattle.model.specs.definitions.Mirror.{mirrored, mirrored_candidate}
use Rattle.model.specs.definitions.Models.{scale, too_large}
use Rattle.model.specs.definitions.Multiply.{product_list}
use Rattle.model.specs.definitions.Outcomes.{accepted}
use Rattle.model.proofs.laws.MirrorLaws.{weight_of_negated, good-negated, too_large-negated}
use Rattle.model.proofs.laws.MirroredOperations.{product_list-negated}
use Rattle.model.proofs.laws.ValueLaws.{value_at}
use Rattle.model.specs.declared.types.Candidate.{Candidate}
use Rattle.model.specs.declared.types.Model.{Model}
use Rattle.certificate.specs.definitions.Mirror.{on_model}
use Rattle.certificate.specs.definitions.Root.{root_contraction, root_residual, root_model, root_certificate, root_test}
use Rattle.certificate.specs.definitions.Tests.{Certificate, placed}
use Rattle.certificate.specs.declared.types.RootRule.{RootRule}
use Rattle.certificate.proofs.laws.MirroredQuotient.{displacement-negated}
use Rattle.certificate.proofs.laws.RootConditions.{NumbersConditions, root_displacement, root_result, root_passes, root_result_lem}
use Rattle.certificate.proofs.laws.RootSound.{helper_value}

-- ---- the numbers of the test, which stay

contraction_mirrored : (h w : Model) → root_contraction (mirrored h) (mirrored w) ≡ root_contraction h w
unfolding root_contraction odd
contraction_mirrored h w =
    let c = pos (scale * scale) in
    ap (λ (n : ℕ). upℕ n scale)
    (difference-weight odd (c ∷ []) (product_list w h) (constant-negated odd refl c) (product_list-negated signs_odd w h))

residual_mirrored : (f h : Model) → root_residual (mirrored f) (mirrored h) ≡ root_residual f h
unfolding root_residual
residual_mirrored f h =
    let c = pos (2 * scale) in
    ap (λ (n : ℕ). upℕ (n + 2 * scale * f.radius) (2 * scale))
    (difference-weight odd (product_list h h) (scale_list ℤ_ring c f.coefficients) (product_list-negated signs_odd h h) (scale-negated odd 0 c f.coefficients))

module _ (rule : RootRule) (len : ℕ) (f : Model) (h w : Candidate) where
  -- w at −1 is positive too
  helper_mirrored : NumbersConditions len f h w → pos 0 <ℤ coefficient_sum (mirrored_candidate w).coefficients
  helper_mirrored c =
      not_le→lt (pos 0) s
      (λ k. helper_value len f h w c (-ℚ whole (pos 1)) (le_of_eq ℚ_ordered (abs_neg ℚ_ordered (whole (pos 1)) ∙ ι_abs ℚ_ordered (pos 1)))
      (rw (sym at_other_end) ((whole_le s (pos 0)).1 k)))
    where
      s : ℤ
      s = coefficient_sum (mirrored_candidate w).coefficients

      at_other_end : whole s ≡ value_at (-ℚ whole (pos 1)) w.coefficients
      at_other_end =
          sym (value_one (mirrored_candidate w).coefficients)
          ∙ ap (λ x. value_at x (mirrored_candidate w).coefficients) (solveℚ [] (search reifyℚ depth 9) (search reifyℚ depth 9) tt)
          ∙ value_mirrored ℚ_ring (-ℚ whole (pos 1)) w.coefficients

  displacement-mirrored : root_displacement (mirrored f) (mirrored_candidate h) (mirrored_candidate w) ≡ root_displacement f h w
  displacement-mirrored = rw (residual_mirrored f (placed f h)) (displacement-negated odd (placed f w) (root_residual f (placed f h)))

  certificate_mirrored : root_certificate rule (mirrored f) (mirrored_candidate h) (mirrored_candidate w) ≡ on_model mirrored (root_certificate rule f h w)
  unfolding root_model
  certificate_mirrored =
      rw (weight_of_negated odd (placed f w), contraction_mirrored (placed f h) (placed f w), displacement-mirrored, residual_mirrored f (placed f h))

  pub root_mirrored : {c : Certificate} → root_test rule len f h w ≡ accepted c
      → root_test rule len (mirrored f) (mirrored_candidate h) (mirrored_candidate w) ≡ accepted (on_model mirrored c)
  root_mirrored e =
      let (conditions, small, same) = root_passes rule len f h w e in
      let n = conditions.numbers in
      let m_same = contraction_mirrored (placed f h) (placed f w) in
      root_result_lem rule len (mirrored f) (mirrored_candidate h) (mirrored_candidate w)
      (record {
        numbers = record {
          scratch = n.scratch;
          good_f = good-negated odd f ∙ n.good_f;
          good_h = good-negated odd (placed f h) ∙ n.good_h;
          good_w = good-negated odd (placed f w) ∙ n.good_w;
          helper = helper_mirrored n;
          contraction = rw m_same n.contraction;
          residual = rw (residual_mirrored f (placed f h)) n.residual;
        };
        holds = rw (weight_of_negated odd (placed f w), m_same, displacement-mirrored) conditions.holds;
      })
      (ap (λ (r : Certificate). too_large r.model) certificate_mirrored ∙ too_large-negated odd (root_result rule f h w) ∙ small)
      ∙ ap accepted (certificate_mirrored ∙ ap (on_model mirrored) (sym same))
