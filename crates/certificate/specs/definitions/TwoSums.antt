-- Document 01, "The two tests", and document 02, S-22, once more, with the list C( , ) formed by its two sums, place by place.
use Rattle.std.specs.Prelude.{List, [], ◌∷◌, ℕ, ◌+◌, ◌*◌, ◌-◌, ◌^◌, ◌≤◌, ◌<◌, ℤ, pos, ◌<ℤ◌}
use Rattle.ring.specs.definitions.Integer.{ℤ_ring}
use Rattle.integer.specs.definitions.Rounding.{upℕ}
use Rattle.chebyshev.specs.definitions.Coefficients.{weight, subtract_lists, scale_list, coefficient_sum}
use Rattle.chebyshev.specs.definitions.TwoSums.{tabulate, two_sums}
use Rattle.model.specs.definitions.Models.{scale, product_size, make_model}
use Rattle.radius.specs.definitions.LeastRadius.{RadiusSatisfies, IsLeast}
use Rattle.model.specs.declared.types.Model.{Model}
use Rattle.certificate.specs.definitions.Tests.{Certificate, make_certificate}

-- C_0, …, C_64: "C_k = Σ a_i·b_j over i+j = k, plus Σ a_i·b_j over |i−j| = k; a pair that meets both conditions counts twice."
unfoldable pub two_sums_list : List ℤ → List ℤ → List ℤ
two_sums_list a b = tabulate product_size (λ k. two_sums ℤ_ring k a b)

-- ---- the quotient test

-- "m = up((weight(2S² − C(w,g)) + 2·M·e_g)/(2S))"
unfoldable pub quotient_m : Model → Model → ℕ
quotient_m g w =
    upℕ
    (weight (subtract_lists ℤ_ring (pos (2 * scale * scale) ∷ []) (two_sums_list w.coefficients g.coefficients))
    + 2 * weight w.coefficients * g.radius)
    (2 * scale)

-- "N = up((weight(C(g,h) − 2S·f) + 2S·e_f + 2·H·e_g)/(2S))"
unfoldable pub quotient_N : Model → Model → Model → ℕ
quotient_N f g h =
    upℕ
    (weight
    (subtract_lists ℤ_ring
    (two_sums_list g.coefficients h.coefficients)
    (scale_list ℤ_ring (pos (2 * scale)) f.coefficients))
    + 2 * scale * f.radius
    + 2 * weight h.coefficients * g.radius)
    (2 * scale)

-- "b = up(M·N/S)"
unfoldable pub quotient_b : Model → Model → Model → Model → ℕ
quotient_b f g h w = upℕ (weight w.coefficients * quotient_N f g h) scale

-- "radius up(b·S/(S−m))"
unfoldable pub quotient_radius : Model → Model → Model → Model → ℕ
quotient_radius f g h w = upℕ (quotient_b f g h w * scale) (scale - quotient_m g w)

-- "The test: m < S and N ≤ 2^28.", and the result's radius is within 2^28
abbrev pub QuotientHolds : Model → Model → Model → Model → Type 0
QuotientHolds f g h w = (quotient_m g w < scale) × (quotient_N f g h ≤ 2 ^ 28) × (quotient_radius f g h w ≤ 2 ^ 28)

-- "Result h with radius up(b·S/(S−m))", and m, N and b
abbrev pub quotient_given : Model → Model → Model → Model → Certificate
quotient_given f g h w =
    make_certificate
    (make_model h.degree h.coefficients (quotient_radius f g h w) h.interval)
    (quotient_m g w)
    (quotient_N f g h)
    (quotient_b f g h w)

-- ---- the root test

-- "m = up(weight(S² − C(w,h))/S)"
unfoldable pub root_m : Model → Model → ℕ
root_m h w =
    upℕ (weight (subtract_lists ℤ_ring (pos (scale * scale) ∷ []) (two_sums_list w.coefficients h.coefficients))) scale

-- "N = up((weight(C(h,h) − 2S·f) + 2S·e_f)/(2S))"
unfoldable pub root_N : Model → Model → ℕ
root_N f h =
    upℕ
    (weight
    (subtract_lists ℤ_ring
    (two_sums_list h.coefficients h.coefficients)
    (scale_list ℤ_ring (pos (2 * scale)) f.coefficients))
    + 2 * scale * f.radius)
    (2 * scale)

-- "b = up(M·N/S)"
unfoldable pub root_b : Model → Model → Model → ℕ
root_b f h w = upℕ (weight w.coefficients * root_N f h) scale

-- "radius up(2·b·S/(S−m))"
unfoldable pub root_radius : Model → Model → Model → ℕ
root_radius f h w = upℕ (2 * root_b f h w * scale) (scale - root_m h w)

-- the sign of w, m and N have passed
abbrev pub RootNumbersHold : Model → Model → Model → Type 0
RootNumbersHold f h w = (pos 0 <ℤ coefficient_sum w.coefficients) × (root_m h w < scale) × (root_N f h ≤ 2 ^ 28)

-- "The test: Σ w_k > 0, m < S, N ≤ 2^28, (S−m)² ≥ 8·b·M."
abbrev pub RootHolds : Model → Model → Model → Type 0
RootHolds f h w =
    RootNumbersHold f h w
    × (8 * root_b f h w * weight w.coefficients ≤ (scale - root_m h w) * (scale - root_m h w))

-- "Result h with radius", and m, N and b
abbrev pub root_given : Model → Model → Model → ℕ → Certificate
root_given f h w r =
    make_certificate (make_model h.degree h.coefficients r h.interval) (root_m h w) (root_N f h) (root_b f h w)

-- ---- the tighter root test

-- 02, S-22: "2·M·r² + b·S² ≤ (S−m)·S·r"
abbrev pub TightSatisfies : Model → Model → Model → ℕ → Type 0
TightSatisfies f h w r = RadiusSatisfies (weight w.coefficients) (root_m h w) (root_b f h w) r

-- "Its radius is the least whole r from 0 to S" with that
abbrev pub TightHolds : Model → Model → Model → ℕ → Type 0
TightHolds f h w r = RootNumbersHold f h w × IsLeast (weight w.coefficients) (root_m h w) (root_b f h w) r
