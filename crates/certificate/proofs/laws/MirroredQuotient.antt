-- Document 02, S-11, of the quotient test: "A mirrored crown must give mirrored models", as equations of whole outcomes, refusals
-- included. Candidates are negated, or mirrored, as their quotient is.
use Rattle.std.specs.Prelude.{◌≡◌, Bool, false, [], ◌∷◌, ℕ, ◌+◌, ◌*◌, pos}
use Rattle.std.proofs.Math.Path.{refl}
use Rattle.std.proofs.Common.{sym, ◌∙◌, ap, ap₂}
use Rattle.ring.specs.definitions.Integer.{ℤ_ring}
use Rattle.integer.specs.definitions.Rounding.{upℕ}
use Rattle.chebyshev.specs.definitions.Coefficients.{scale_list}
use Rattle.chebyshev.specs.definitions.Negation.{odd}
use Rattle.chebyshev.proofs.laws.NegationLaws.{Signs, signs_none, signs_right, signs_both, signs_odd, difference-weight, scale-negated, constant-negated}
use Rattle.model.specs.definitions.Mirror.{negated_where, negated, mirrored, negated_candidate_where, negated_candidate, mirrored_candidate}
use Rattle.model.specs.definitions.Models.{scale}
use Rattle.model.specs.definitions.Multiply.{product_list}
use Rattle.model.specs.definitions.Outcomes.{map_outcome}
use Rattle.model.proofs.laws.MirrorLaws.{weight_of_negated, within_limits-negated, good-negated, too_large-negated, zero-negated, negated_nowhere, candidate_nowhere, outcome_mapped}
use Rattle.model.proofs.laws.MirroredOperations.{product_list-negated}
use Rattle.model.specs.declared.types.Candidate.{Candidate}
use Rattle.model.specs.declared.types.Model.{Model}
use Rattle.certificate.specs.definitions.Mirror.{on_model}
use Rattle.certificate.specs.definitions.Quotient.{quotient_contraction, quotient_residual, quotient_model, quotient_places, quotient_certificate, quotient_needing, quotient_test}
use Rattle.certificate.specs.definitions.Tests.{placed, displacement, make_certificate, zero_certificate}

-- ---- the numbers of the test, which stay

pub displacement-negated : (chosen : ℕ → Bool) (w : Model) (n : ℕ) → displacement (negated_where chosen w) n ≡ displacement w n
unfolding displacement
displacement-negated chosen w n = ap (λ (M : ℕ). upℕ (M * n) scale) (weight_of_negated chosen w)

-- w·g negated at places u, of which place 0 is none
contraction_negated : {s t u : ℕ → Bool} → Signs s t u → u 0 ≡ false → (g w : Model)
    → quotient_contraction (negated_where t g) (negated_where s w) ≡ quotient_contraction g w
unfolding quotient_contraction
contraction_negated {s} {t} {u} signs stays g w =
    let c = pos (2 * scale * scale) in
    ap₂ (λ (a M : ℕ). upℕ (a + 2 * M * g.radius) (2 * scale))
    (difference-weight u (c ∷ []) (product_list w g) (constant-negated u stays c) (product_list-negated signs w g))
    (weight_of_negated s w)

-- g·h negated at the places of f
residual_negated : {s t u : ℕ → Bool} → Signs s t u → (f g h : Model)
    → quotient_residual (negated_where u f) (negated_where s g) (negated_where t h) ≡ quotient_residual f g h
unfolding quotient_residual
residual_negated {s} {t} {u} signs f g h =
    let c = pos (2 * scale) in
    ap₂ (λ (a H : ℕ). upℕ (a + 2 * scale * f.radius + 2 * H * g.radius) (2 * scale))
    (difference-weight u (product_list g h) (scale_list ℤ_ring c f.coefficients) (product_list-negated signs g h) (scale-negated u 0 c f.coefficients))
    (weight_of_negated t h)

-- ---- the test

-- f, g, h and w negated at places of their own: w·g keeps its place 0, and g·h is negated where f is
module _ {sf sg sh sw u : ℕ → Bool} (one : Signs sw sg u) (stays : u 0 ≡ false) (dividend : Signs sg sh sf) (need len : ℕ) (f g : Model) (h w : Candidate) where
  pub quotient_negated : quotient_needing need len (negated_where sf f) (negated_where sg g) (negated_candidate_where sh h) (negated_candidate_where sw w)
      ≡ map_outcome (on_model (negated_where sh)) (quotient_needing need len f g h w)
  unfolding quotient_needing quotient_model
  quotient_negated =
      let h' = placed f h in
      let w' = placed f w in
      let m = quotient_contraction g w' in
      let n = quotient_residual f g h' in
      rw (
        contraction_negated one stays g w',
        residual_negated dividend f g h',
        displacement-negated sw w' n,
        good-negated sf f,
        good-negated sg g,
        good-negated sh h',
        good-negated sw w',
        within_limits-negated sf f,
        within_limits-negated sg g,
        within_limits-negated sh h',
        within_limits-negated sw w',
        too_large-negated sh (quotient_model h' m (displacement w' n)),
      )
      (outcome_mapped (on_model (negated_where sh)) (quotient_places need len f g h w) (quotient_certificate f g h w) zero_certificate
      (ap (λ r. make_certificate r 0 0 0) (zero-negated sh)))

module _ (len : ℕ) (f g : Model) (h w : Candidate) where
  -- f negated: the quotient is
  pub quotient_dividend : quotient_test len (negated f) g (negated_candidate h) w ≡ map_outcome (on_model negated) (quotient_test len f g h w)
  quotient_dividend =
      ap₂ (λ g' w'. quotient_test len (negated f) g' (negated_candidate h) w') (sym (negated_nowhere g)) (sym (candidate_nowhere w))
      ∙ quotient_negated signs_none refl signs_right _ len f g h w

  -- g negated: the quotient is, and 1/g, which w is near
  pub quotient_divisor : quotient_test len f (negated g) (negated_candidate h) (negated_candidate w) ≡ map_outcome (on_model negated) (quotient_test len f g h w)
  quotient_divisor =
      ap (λ f'. quotient_test len f' (negated g) (negated_candidate h) (negated_candidate w)) (sym (negated_nowhere f))
      ∙ quotient_negated signs_both refl signs_both _ len f g h w

  -- all read from the other end of their stretch
  pub quotient_mirrored : quotient_test len (mirrored f) (mirrored g) (mirrored_candidate h) (mirrored_candidate w)
      ≡ map_outcome (on_model mirrored) (quotient_test len f g h w)
  unfolding odd
  quotient_mirrored = quotient_negated signs_odd refl signs_odd _ len f g h w
