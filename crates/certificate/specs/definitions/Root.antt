-- Document 01, "The two tests", in its whole numbers: the root test; and that of document 02, S-22. "Candidates are h (the
-- answer) and w (a helper); M and H are the weights of w and h." C( , ) is the whole list, nothing dropped; "inside weight( ) a
-- bare number stands at place 0".
use Rattle.std.specs.Prelude.{Bool, List, [], ◌∷◌, ◌++◌, ℕ, ◌+◌, ◌*◌, ◌-◌, ltb, pos}
use Rattle.std.specs.Int.Signed.{le_z}
use Rattle.ring.specs.definitions.Integer.{ℤ_ring}
use Rattle.integer.specs.definitions.Rounding.{upℕ}
use Rattle.chebyshev.specs.definitions.Coefficients.{weight, subtract_lists, scale_list, coefficient_sum}
use Rattle.model.specs.definitions.Models.{scale, bad_place, large_place}
use Rattle.model.specs.definitions.Outcomes.{Outcome, outcome}
use Rattle.model.specs.definitions.Multiply.{product_list}
use Rattle.radius.specs.definitions.LeastRadius.{least_radius, is_missing, radius_of}
use Rattle.model.specs.declared.types.Model.{Model}
use Rattle.model.specs.declared.types.Candidate.{Candidate}
use Rattle.certificate.specs.definitions.Tests.{scratch_size, scratch_place, placed, with_radius, displacement}
use Rattle.certificate.specs.definitions.Tests.{Certificate, make_certificate, zero_certificate, test_places}
use Rattle.certificate.specs.declared.types.RootRule.{RootRule}
use Rattle.certificate.specs.declared.types.RootRule.TheVariants.{ByDiscriminant, ByLeastRadius}

-- "m = up(weight(S² − C(w,h))/S)"
unfoldable pub root_contraction : Model → Model → ℕ
root_contraction h w = upℕ (weight (subtract_lists ℤ_ring (pos (scale * scale) ∷ []) (product_list w h))) scale

-- "N = up((weight(C(h,h) − 2S·f) + 2S·e_f)/(2S))"
unfoldable pub root_residual : Model → Model → ℕ
root_residual f h =
    upℕ
    (weight (subtract_lists ℤ_ring (product_list h h) (scale_list ℤ_ring (pos (2 * scale)) f.coefficients))
    + 2 * scale * f.radius)
    (2 * scale)

-- Root of f, for m and N, behind the place of the scratch and through N: the places that every root command shares; "root:
-- helper", 7, "Σ w_k ≤ 0"
abbrev pub root_places_for : ℕ → ℕ → Model → Model → Model → List (Bool × ℕ)
root_places_for m n f h w =
    bad_place f ∷ bad_place h ∷ bad_place w ∷ (le_z (coefficient_sum w.coefficients) (pos 0), 7) ∷ test_places m n

-- ---- behind N and b: what command 0x21 asks, in 01, and command 0x22, in 02, S-22; M is the weight of w

-- 0x21: 8, "(S−m)² < 8·b·M". 0x22: "Once the sign of w, m and N have passed, it is refused exactly if no such r exists."
-- "(Number 17: no such r, in place of 8 for this command.)"
abbrev pub rule_place : RootRule → ℕ → ℕ → ℕ → Bool × ℕ
rule_place ByDiscriminant M m b = (ltb ((scale - m) * (scale - m)) (8 * b * M), 8)
rule_place ByLeastRadius M m b = (is_missing (least_radius M m b), 17)

-- 0x21: "radius up(2·b·S/(S−m))". 0x22: "Its radius is the least whole r from 0 to S with 2·M·r² + b·S² ≤ (S−m)·S·r."
abbrev pub rule_radius : RootRule → ℕ → ℕ → ℕ → ℕ
rule_radius ByDiscriminant M m b = upℕ (2 * b * scale) (scale - m)
rule_radius ByLeastRadius M m b = radius_of (least_radius M m b)

-- "Result h with radius"
unfoldable pub root_model : RootRule → Model → ℕ → ℕ → ℕ → Model
root_model rule h M m b = with_radius h (rule_radius rule M m b)

abbrev pub root_last_places : RootRule → Model → ℕ → ℕ → ℕ → List (Bool × ℕ)
root_last_places rule h M m b = rule_place rule M m b ∷ large_place (root_model rule h M m b) ∷ []

abbrev pub root_rule_places : RootRule → ℕ → ℕ → Model → Model → List (Bool × ℕ)
root_rule_places rule m n h w = root_last_places rule h (weight w.coefficients) m (displacement w n)

-- what is given behind them
abbrev pub root_certificate_for : RootRule → ℕ → ℕ → Model → Model → Certificate
root_certificate_for rule m n h w =
    let b = displacement w n in make_certificate (root_model rule h (weight w.coefficients) m b) m n b

-- ---- the tests

-- places and certificate, for candidates, and the m and N above
abbrev pub root_places_behind : RootRule → Model → Candidate → Candidate → List (Bool × ℕ)
root_places_behind rule f h w =
    let m = root_contraction (placed f h) (placed f w) in
    let n = root_residual f (placed f h) in
    root_places_for m n f (placed f h) (placed f w) ++ root_rule_places rule m n (placed f h) (placed f w)

abbrev pub root_certificate : RootRule → Model → Candidate → Candidate → Certificate
root_certificate rule f h w =
    root_certificate_for rule (root_contraction (placed f h) (placed f w)) (root_residual f (placed f h)) (placed f h) (placed f w)

-- all places, with a scratch of len numbers, of which `need` are needed
abbrev pub root_test_places : RootRule → ℕ → ℕ → Model → Candidate → Candidate → List (Bool × ℕ)
root_test_places rule need len f h w = scratch_place need len ∷ root_places_behind rule f h w

unfoldable pub root_needing : RootRule → ℕ → ℕ → Model → Candidate → Candidate → Outcome Certificate
root_needing rule need len f h w = outcome (root_test_places rule need len f h w) (root_certificate rule f h w) zero_certificate

-- the places through N, which every root command shares
unfoldable pub root_places : ℕ → Model → Candidate → Candidate → List (Bool × ℕ)
root_places len f h w =
    scratch_place scratch_size len
    ∷ root_places_for (root_contraction (placed f h) (placed f w)) (root_residual f (placed f h)) f (placed f h) (placed f w)

-- the entry's definition. 02, S-17: "Number 1 is now given below 16". In 01 it was given below 65.
abbrev pub root_test : RootRule → ℕ → Model → Candidate → Candidate → Outcome Certificate
root_test rule len f h w = root_needing rule scratch_size len f h w
