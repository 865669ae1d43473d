-- Document 02, S-24: on the interval −S..S both tests have their former outcomes, whatever the scratch. The former places and
-- numbers stand here written out: neither 18 nor 19, "Result h" on −S..S.
use Rattle.std.specs.Prelude.{◌≡◌, refl, Bool, List, [], ◌∷◌, ◌++◌, ℕ, ◌+◌, ◌-◌, ◌*◌, ◌^◌, leb, ltb, ℤ, pos}
use Rattle.std.proofs.Common.{◌∙◌, ap}
use Rattle.std.specs.Int.Signed.{le_z}
use Rattle.ring.specs.definitions.Integer.{ℤ_ring}
use Rattle.integer.specs.definitions.Rounding.{upℕ}
use Rattle.chebyshev.specs.definitions.Coefficients.{weight, subtract_lists, scale_list, coefficient_sum}
use Rattle.chebyshev.specs.definitions.Product.{product}
use Rattle.model.specs.definitions.Intervals.{standard_interval}
use Rattle.model.specs.definitions.Models.{scale, product_size, terms, candidate_model, standard_model, bad_place, large_place}
use Rattle.model.specs.definitions.Multiply.{product_list}
use Rattle.model.specs.definitions.Outcomes.{Outcome, outcome}
use Rattle.model.proofs.laws.FormerNumbers.{former_place, SameRefusal, same_refusal, behind_place, place_former, different_former}
use Rattle.model.specs.declared.types.Candidate.{Candidate}
use Rattle.model.specs.declared.types.Interval.{Interval}
use Rattle.model.specs.declared.types.Model.{Model}
use Rattle.radius.specs.definitions.LeastRadius.{least_radius, is_missing, radius_of}
use Rattle.certificate.specs.definitions.Quotient.{quotient_needing, quotient_contraction, quotient_residual, quotient_model, quotient_places_for, quotient_certificate_for}
use Rattle.certificate.specs.definitions.Root.{root_needing, root_contraction, root_residual, root_model, root_places_for, root_rule_places, root_certificate_for}
use Rattle.certificate.specs.definitions.Tests.{scratch_place, Certificate, make_certificate, zero_certificate, displacement}
use Rattle.certificate.specs.declared.types.RootRule.{RootRule}
use Rattle.certificate.specs.declared.types.RootRule.TheVariants.{ByDiscriminant, ByLeastRadius}

-- "A candidate is a model without a radius (taken as 0)."
abbrev pub former_candidate : Candidate → Model
former_candidate c = standard_model c.degree c.coefficients 0

-- "C( , ) is the whole list of up to 65 numbers, nothing dropped"
abbrev pub former_list : Model → Model → List ℤ
former_list a b = product ℤ_ring product_size (terms a) (terms b)

-- "b = up(M·N/S)"
abbrev pub former_displacement : Candidate → ℕ → ℕ
former_displacement w n = upℕ (weight w.coefficients * n) scale

-- "Result h with radius"
abbrev pub former_result : Candidate → ℕ → Model
former_result h r = standard_model h.degree h.coefficients r

-- ---- the quotient test

-- "m = up((weight(2S² − C(w,g)) + 2·M·e_g)/(2S))"
abbrev pub former_contraction : Model → Candidate → ℕ
former_contraction g w =
    upℕ
    (weight (subtract_lists ℤ_ring (pos (2 * scale * scale) ∷ []) (former_list (former_candidate w) g))
    + 2 * weight w.coefficients * g.radius)
    (2 * scale)

-- "N = up((weight(C(g,h) − 2S·f) + 2S·e_f + 2·H·e_g)/(2S))"
abbrev pub former_residual : Model → Model → Candidate → ℕ
former_residual f g h =
    upℕ
    (weight (subtract_lists ℤ_ring (former_list g (former_candidate h)) (scale_list ℤ_ring (pos (2 * scale)) f.coefficients))
    + 2 * scale * f.radius
    + 2 * weight h.coefficients * g.radius)
    (2 * scale)

-- "The test: m < S and N ≤ 2^28. Result h with radius up(b·S/(S−m))." With a scratch of len numbers, of which `need` are needed
unfoldable pub former_quotient : ℕ → ℕ → Model → Model → Candidate → Candidate → Outcome Certificate
former_quotient need len f g h w =
    let m = former_contraction g w in
    let n = former_residual f g h in
    let b = former_displacement w n in
    let r = former_result h (upℕ (b * scale) (scale - m)) in
    outcome
    ((ltb len need, 1)
    ∷ former_place f
    ∷ former_place g
    ∷ former_place (former_candidate h)
    ∷ former_place (former_candidate w)
    ∷ (leb scale m, 5)
    ∷ (ltb (2 ^ 28) n, 6)
    ∷ large_place r
    ∷ [])
    (make_certificate r m n b)
    zero_certificate

-- today's, of candidates as models
abbrev quotient_with : ℕ → ℕ → Model → Model → Model → Model → Outcome Certificate
quotient_with need len f g h w =
    let m = quotient_contraction g w in
    let n = quotient_residual f g h in
    outcome (scratch_place need len ∷ quotient_places_for m n f g h w) (quotient_certificate_for m n h w) zero_certificate

pub quotient_former : (need len : ℕ) (f g : Model) (h w : Candidate) → f.interval ≡ standard_interval → g.interval ≡ standard_interval
    → quotient_needing need len f g h w ≡ former_quotient need len f g h w
unfolding quotient_needing quotient_contraction quotient_residual quotient_model displacement product_list former_quotient
quotient_former need len f g h w on_f on_g =
    ap (λ (i : Interval). quotient_with need len f g (candidate_model i h) (candidate_model i w)) on_f
    ∙ (behind_place
    (place_former
    (place_former
    (place_former (place_former (different_former (same_refusal _) f g on_f on_g) (former_candidate w) refl) (former_candidate h) refl)
    g on_g)
    f on_f)
    (scratch_place need len)).outcomes Certificate _ zero_certificate

-- ---- the root tests

-- "m = up(weight(S² − C(w,h))/S)"
abbrev pub former_root_contraction : Candidate → Candidate → ℕ
former_root_contraction h w =
    upℕ (weight (subtract_lists ℤ_ring (pos (scale * scale) ∷ []) (former_list (former_candidate w) (former_candidate h)))) scale

-- "N = up((weight(C(h,h) − 2S·f) + 2S·e_f)/(2S))"
abbrev pub former_root_residual : Model → Candidate → ℕ
former_root_residual f h =
    upℕ
    (weight
    (subtract_lists ℤ_ring (former_list (former_candidate h) (former_candidate h)) (scale_list ℤ_ring (pos (2 * scale)) f.coefficients))
    + 2 * scale * f.radius)
    (2 * scale)

-- 0x21: 8 unless "(S−m)² ≥ 8·b·M", and "radius up(2·b·S/(S−m))"; 0x22: "the least whole r from 0 to S with 2·M·r² + b·S² ≤
-- (S−m)·S·r", or 17
abbrev pub former_rule_place : RootRule → ℕ → ℕ → ℕ → Bool × ℕ
former_rule_place ByDiscriminant M m b = (ltb ((scale - m) * (scale - m)) (8 * b * M), 8)
former_rule_place ByLeastRadius M m b = (is_missing (least_radius M m b), 17)

abbrev pub former_rule_radius : RootRule → ℕ → ℕ → ℕ → ℕ
former_rule_radius ByDiscriminant M m b = upℕ (2 * b * scale) (scale - m)
former_rule_radius ByLeastRadius M m b = radius_of (least_radius M m b)

-- "The test: Σ w_k > 0, m < S, N ≤ 2^28", then what the command asks
unfoldable pub former_root : RootRule → ℕ → ℕ → Model → Candidate → Candidate → Outcome Certificate
former_root rule need len f h w =
    let M = weight w.coefficients in
    let m = former_root_contraction h w in
    let n = former_root_residual f h in
    let b = former_displacement w n in
    let r = former_result h (former_rule_radius rule M m b) in
    outcome
    ((ltb len need, 1)
    ∷ former_place f
    ∷ former_place (former_candidate h)
    ∷ former_place (former_candidate w)
    ∷ (le_z (coefficient_sum w.coefficients) (pos 0), 7)
    ∷ (leb scale m, 5)
    ∷ (ltb (2 ^ 28) n, 6)
    ∷ former_rule_place rule M m b
    ∷ large_place r
    ∷ [])
    (make_certificate r m n b)
    zero_certificate

-- today's, of candidates as models
abbrev root_with : RootRule → ℕ → ℕ → Model → Model → Model → Outcome Certificate
root_with rule need len f h w =
    let m = root_contraction h w in
    let n = root_residual f h in
    outcome (scratch_place need len ∷ (root_places_for m n f h w ++ root_rule_places rule m n h w)) (root_certificate_for rule m n h w)
    zero_certificate

on_standard : (rule : RootRule) (need len : ℕ) (f : Model) (h w : Candidate) → f.interval ≡ standard_interval
    → root_needing rule need len f h w ≡ root_with rule need len f (former_candidate h) (former_candidate w)
unfolding root_needing
on_standard rule need len f h w on = ap (λ (i : Interval). root_with rule need len f (candidate_model i h) (candidate_model i w)) on

places_standard : (need len : ℕ) (f : Model) (h w : Candidate) → f.interval ≡ standard_interval → (rest : List (Bool × ℕ))
    → SameRefusal
    (scratch_place need len ∷ bad_place f ∷ bad_place (former_candidate h) ∷ bad_place (former_candidate w) ∷ rest)
    (scratch_place need len ∷ former_place f ∷ former_place (former_candidate h) ∷ former_place (former_candidate w) ∷ rest)
places_standard need len f h w on rest =
    behind_place
    (place_former (place_former (place_former (same_refusal rest) (former_candidate w) refl) (former_candidate h) refl) f on)
    (scratch_place need len)

pub root_former : (rule : RootRule) (need len : ℕ) (f : Model) (h w : Candidate) → f.interval ≡ standard_interval
    → root_needing rule need len f h w ≡ former_root rule need len f h w
unfolding root_contraction root_residual root_model displacement product_list former_root
root_former ByDiscriminant need len f h w on =
    on_standard ByDiscriminant need len f h w on ∙ (places_standard need len f h w on _).outcomes Certificate _ zero_certificate
root_former ByLeastRadius need len f h w on =
    on_standard ByLeastRadius need len f h w on ∙ (places_standard need len f h w on _).outcomes Certificate _ zero_certificate
