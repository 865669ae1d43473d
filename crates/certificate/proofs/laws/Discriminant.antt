-- The root's last condition, (S−m)² ≥ 8·b·M, without the product 8·b·M, which reaches 2^67: b is compared with the quotient of
-- (S−m)² by 8·M, of which all numbers fit 64 bits.
use Rattle.std.specs.Prelude.{◌≡◌, refl, ◌↔◌, List, [], ◌∷◌, ℕ, ◌*◌, ◌-◌, ◌^◌, ◌/◌, ◌%◌, ◌≤◌, ◌<◌, ltb, ℤ, pos, replicate, ◌<ℤ◌}
use Rattle.std.proofs.Common.{sym, ◌∙◌, arith, le-div_iff_mul-le, lt-ltb, le-ltb}
use Rattle.std.proofs.Math.Decide.{dec_le}
use Rattle.ring.specs.laws.Parts.{◌⁺, abs, sum}
use Rattle.ring.specs.laws.Difference.{<_parts}
use Rattle.integer.specs.definitions.Rounding.{upℕ}
use Rattle.chebyshev.specs.definitions.Coefficients.{weight, add_lists, subtract_lists, scale_list, coefficient_sum}
use Rattle.chebyshev.specs.definitions.Product.{product, add_at_by, add_pair_by, add_term_by, add_terms_by}
use Rattle.model.specs.definitions.Intervals.{good_ends, same_interval}
use Rattle.model.specs.definitions.Models.{parts_within_limits, scale, good, too_large, standard_model, constant_model, zero_model}
use Rattle.model.specs.definitions.Multiply.{product_list}
use Rattle.model.specs.definitions.Outcomes.{number, passing}
use Rattle.certificate.specs.definitions.Root.{root_test, root_needing, root_places, root_contraction, root_residual, root_model}
use Rattle.certificate.specs.declared.types.RootRule.TheVariants.{ByDiscriminant}
use Rattle.certificate.specs.definitions.Tests.{displacement, placed}
use Rattle.certificate.proofs.laws.Examples.{candidate}

pub discriminant_quotient : (b M m : ℕ) → 0 < M → (8 * b * M ≤ (scale - m) * (scale - m)) ↔ (b ≤ (scale - m) * (scale - m) / (8 * M))
discriminant_quotient b M m h =
    let q = le-div_iff_mul-le {k = 8 * M} {x = b} {y = (scale - m) * (scale - m)} (omega arith) in
    (λ k. q.1 (omega arith), λ k. omega (arith, q.0 k))

-- the same as tests
pub discriminant_test : (b M m : ℕ) → 0 < M → ltb ((scale - m) * (scale - m)) (8 * b * M) ≡ ltb ((scale - m) * (scale - m) / (8 * M)) b
discriminant_test b M m h = pick (dec_le (8 * b * M) ((scale - m) * (scale - m)))
  where
    pick : Dec (8 * b * M ≤ (scale - m) * (scale - m)) → ltb ((scale - m) * (scale - m)) (8 * b * M) ≡ ltb ((scale - m) * (scale - m) / (8 * M)) b
    pick (yes k) = le-ltb _ _ k ∙ sym (le-ltb _ _ ((discriminant_quotient b M m h).0 k))
    pick (no k) =
        let l : ¬ (b ≤ (scale - m) * (scale - m) / (8 * M)) = λ z. k ((discriminant_quotient b M m h).1 z) in
        lt-ltb ((scale - m) * (scale - m)) (8 * b * M) (omega arith) ∙ sym (lt-ltb ((scale - m) * (scale - m) / (8 * M)) b (omega arith))

-- Σ w_k ≤ M
sum_weight : (a : List ℤ) → (coefficient_sum a) ⁺ ≤ weight a
unfolding coefficient_sum weight
sum_weight [] = omega arith
sum_weight (c ∷ a) = omega (arith, sum_weight a, abs c, sum c (coefficient_sum a))

-- M ≥ 1
pub weight_positive : (a : List ℤ) → pos 0 <ℤ coefficient_sum a → 0 < weight a
weight_positive a h = omega (arith, sum_weight a, (<_parts (pos 0) (coefficient_sum a)).0 h)

-- ---- A test of 8·b·M in 64 bits would be wrong: f = 2^28, h = 2^11, w = 2^28, all constants, is refused with 8. There 8·b·M
-- is 2^67 − 2^41, in signed 64 bits −2^41, which is below (S−m)² = 2^40. With radius 4 it is 2^67, in 64 bits 0.

-- m, N, b, 8·b·M, the same modulo 2^64, (S−m)² and the test's number, where f has radius e
abbrev numbers : ℕ → List ℕ
numbers e =
    let f = standard_model 0 (pos (2 ^ 28) ∷ replicate 32 (pos 0)) e in
    let h = candidate (2 ^ 11) in
    let w = candidate (2 ^ 28) in
    let m = root_contraction (placed f h) (placed f w) in
    let n = root_residual f (placed f h) in
    let b = displacement (placed f w) n in
    let d = 8 * b * weight w.coefficients in
    m ∷ n ∷ b ∷ d ∷ (d % 2 ^ 64) ∷ ((scale - m) * (scale - m)) ∷ number (root_test ByDiscriminant 16 f h w) ∷ []

pub wrapped_discriminant : (numbers 0 ∷ numbers 4 ∷ [])
    ≡ (0 ∷ (2 ^ 28 - 4) ∷ (2 ^ 36 - 2 ^ 10) ∷ (2 ^ 67 - 2 ^ 41) ∷ (2 ^ 64 - 2 ^ 41) ∷ 2 ^ 40 ∷ 8 ∷ [])
    ∷ (0 ∷ 2 ^ 28 ∷ 2 ^ 36 ∷ 2 ^ 67 ∷ 0 ∷ 2 ^ 40 ∷ 8 ∷ [])
    ∷ []
unfolding root_needing root_places root_contraction root_residual root_model displacement coefficient_sum product_list passing same_interval good_ends parts_within_limits good too_large constant_model zero_model weight add_lists subtract_lists scale_list add_at_by add_pair_by add_term_by add_terms_by product upℕ
wrapped_discriminant = refl
